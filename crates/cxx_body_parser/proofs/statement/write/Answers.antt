use Rattle.cxx_syntax.specs.Statements.{a_write}
use Rattle.cxx_body_parser.proofs.statement.write.Goals as goal

pub returns-clause-reads : goal.returns-clause-reads
returns-clause-reads c = λ ts f p. a_write f p c.in_ok-_equal.ensures.reads c.in_ok-value.ensures.reads c.in_ok-_end.ensures.reads c.statement_at.ensures
