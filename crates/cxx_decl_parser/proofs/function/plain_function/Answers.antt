use Rattle.std.proofs.Common.{refl}
use Rattle.cxx_syntax.specs.Parts as parts
use Rattle.cxx_decl_parser.proofs.function.plain_function.Goals as goal

pub returns-clause-reads : goal.returns-clause-reads
returns-clause-reads c = λ is_public ts h. parts.a_function h.is_virtual h.first h.returns h.name h.sign c.in_ok-params.ensures.reads (record { front = refl; sort = c.in_ok-params.ensures.close }) c.in_ok-tree.ensures.reads c.in_ok-function.ensures.ok refl
