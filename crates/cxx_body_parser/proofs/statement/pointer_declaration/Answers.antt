use Rattle.std.proofs.Common.{refl}
use Rattle.cxx_syntax.specs.Statements.{a_class_pointer}
use Rattle.cxx_body_parser.proofs.statement.pointer_declaration.Goals as goal

pub returns-clause-reads : goal.returns-clause-reads
returns-clause-reads c = c.in_ok-statement.ensures.reads _ (record { rest = _; front = refl }) (a_class_pointer (record { front = refl; name = c.requires.first }) (record { front = refl; sort = c.requires.sign }) c.in_ok-class.ensures.ok)
