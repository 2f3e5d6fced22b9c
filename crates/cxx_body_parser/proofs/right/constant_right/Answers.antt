use Rattle.cxx_syntax.specs.Operands.{constant_operand}
use Rattle.cxx_body_parser.proofs.right.constant_right.Goals as goal

pub returns-clause-reads : goal.returns-clause-reads
returns-clause-reads c = c.in_ok-value.ensures.reads _ (constant_operand c.in_ok-constant.ensures.reads)
