use Rattle.std.proofs.Common.{refl}
use Rattle.cxx_syntax.specs.Statements.{a_declaration}
use Rattle.cxx_body_parser.proofs.statement.declared.Goals as goal

pub returns-clause-reads : goal.returns-clause-reads
returns-clause-reads c = λ ts f v. a_declaration f v c.in_ok-word.ensures.reads c.in_ok-init.ensures.reads c.in_ok-_end.ensures.reads refl c.in_ok-name.ensures.ok c.statement_at.ensures
