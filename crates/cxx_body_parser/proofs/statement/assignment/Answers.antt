use Rattle.std.proofs.Common.{refl}
use Rattle.cxx_syntax.specs.Statements.{an_assignment}
use Rattle.cxx_body_parser.proofs.statement.assignment.Goals as goal

pub returns-clause-reads : goal.returns-clause-reads
returns-clause-reads c = an_assignment (record { front = refl; name = c.requires.first }) (record { front = refl; sort = c.requires.sign }) c.in_ok-value.ensures.reads c.in_ok-_end.ensures.reads c.in_ok-target.ensures.ok c.statement_at.ensures
