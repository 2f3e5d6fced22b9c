use Rattle.std.proofs.Common.{refl}
use Rattle.cxx_syntax.specs.Operands.{a_new}
use Rattle.cxx_body_parser.proofs.right.new_right.Goals as goal

pub returns-clause-reads : goal.returns-clause-reads
returns-clause-reads c = a_new (record { front = refl; sort = c.requires }) c.in_ok-word.ensures.reads c.in_ok-class.ensures.ok
