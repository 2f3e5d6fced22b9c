use Rattle.std.proofs.Common.{refl}
use Rattle.cxx_syntax.specs.Operands.{a_not}
use Rattle.cxx_body_parser.proofs.right.not_right.Goals as goal

pub returns-clause-reads : goal.returns-clause-reads
returns-clause-reads c = a_not (record { front = refl; sort = c.requires }) c.in_ok-value.ensures.reads
