use Rattle.std.proofs.Common.{refl}
use Rattle.cxx_syntax.specs.Statements.{a_delete}
use Rattle.cxx_body_parser.proofs.statement.delete.Goals as goal

pub returns-clause-reads : goal.returns-clause-reads
returns-clause-reads c = a_delete (record { front = refl; sort = c.requires }) c.in_ok-target.ensures.reads c.in_ok-_end.ensures.reads c.statement_at.ensures
