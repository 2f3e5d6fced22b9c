use Rattle.std.proofs.Common.{refl}
use Rattle.cxx_syntax.specs.Parts as parts
use Rattle.cxx_decl_parser.proofs.function.destructor.Goals as goal

pub returns-clause-reads : goal.returns-clause-reads
returns-clause-reads c = λ is_public ts v. parts.a_destructor v (record { front = refl; sort = c.requires }) c.in_ok-word.ensures.reads c.in_ok-_open.ensures.reads c.in_ok-_close.ensures.reads c.in_ok-tree.ensures.reads refl
