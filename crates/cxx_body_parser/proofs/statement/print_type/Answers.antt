use Rattle.std.proofs.Common.{refl}
use Rattle.cxx_syntax.specs.Statements.{a_print_type}
use Rattle.cxx_body_parser.proofs.statement.print_type.Goals as goal

pub returns-clause-reads : goal.returns-clause-reads
returns-clause-reads c = λ s first paren f p b. a_print_type (record { front = refl; sort = f }) (record { front = refl; sort = p }) (record { front = refl; sort = c.requires }) c.in_ok-_open.ensures.reads c.in_ok-_star.ensures.reads c.in_ok-target.ensures.reads c.in_ok-_close.ensures.reads c.in_ok-_last.ensures.reads c.in_ok-_end.ensures.reads b
