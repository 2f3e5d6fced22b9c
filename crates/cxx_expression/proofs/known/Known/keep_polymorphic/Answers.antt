use Rattle.cxx_expression.proofs.Knowing.{polymorphic_kept}
use Rattle.cxx_expression.proofs.known.Known.keep_polymorphic.Goals as goal

pub returns : goal.returns
returns c = λ h means knows. polymorphic_kept h c.args.self.now c.put_polymorphic.new.self c.args.c c.args.flag c.in_ok-put_polymorphic.ensures.put c.in_ok-put_polymorphic.ensures.names c.in_ok-put_polymorphic.ensures.bases means knows
