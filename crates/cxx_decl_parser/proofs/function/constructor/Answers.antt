use Rattle.std.proofs.Common.{refl}
use Rattle.cxx_syntax.specs.Parts as parts
use Rattle.cxx_decl_parser.proofs.function.constructor.Goals as goal

pub returns-clause-reads : goal.returns-clause-reads
returns-clause-reads c = λ is_public. parts.a_constructor (record { front = refl; sort = c.requires.first }) (record { front = refl; sort = c.requires.sign }) c.in_ok-_close.ensures.reads c.in_ok-inits.ensures.reads c.in_ok-tree.ensures.reads refl
