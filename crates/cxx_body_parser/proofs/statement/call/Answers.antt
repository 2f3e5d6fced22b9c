use Rattle.cxx_syntax.specs.Statements.{a_call_statement}
use Rattle.cxx_body_parser.proofs.statement.call.Goals as goal

pub returns-clause-reads : goal.returns-clause-reads
returns-clause-reads c = λ text ts f p. a_call_statement f p c.in_ok-_end.ensures.reads c.statement_at.ensures
