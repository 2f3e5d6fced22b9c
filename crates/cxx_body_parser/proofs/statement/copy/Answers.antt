use Rattle.std.proofs.Common.{refl}
use Rattle.cxx_syntax.specs.Statements.{a_copy}
use Rattle.cxx_body_parser.proofs.statement.copy.Goals as goal

pub returns-clause-reads : goal.returns-clause-reads
returns-clause-reads c = a_copy (record { front = refl; sort = c.requires }) c.in_ok-to.ensures.reads c.in_ok-_equal.ensures.reads c.in_ok-_star.ensures.reads c.in_ok-from.ensures.reads c.in_ok-_end.ensures.reads c.statement_at.ensures
