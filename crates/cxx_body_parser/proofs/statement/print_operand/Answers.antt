use Rattle.std.proofs.Common.{refl}
use Rattle.cxx_syntax.specs.Statements.{a_print}
use Rattle.cxx_body_parser.proofs.statement.print_operand.Goals as goal

pub returns-clause-reads : goal.returns-clause-reads
returns-clause-reads c = λ s first paren f p b. a_print (record { front = refl; sort = f }) (record { front = refl; sort = p }) c.in_ok-value.ensures.reads c.in_ok-_close.ensures.reads c.in_ok-_end.ensures.reads b
