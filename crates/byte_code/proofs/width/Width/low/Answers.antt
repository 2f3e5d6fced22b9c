use Rattle.byte_code.proofs.Pow.{masked}
use Rattle.byte_code.proofs.width.Width.low.Goals as goal

pub returns-clause-value : goal.returns-clause-value
returns-clause-value c = masked c.args.word c.greatest.result c.args.self.bytes c.greatest.ensures
