use Rattle.std.proofs.Common.{refl}
use Rattle.cxx_syntax.specs.Parts as parts
use Rattle.cxx_decl_parser.proofs.class_part.void_part.Goals as goal

pub returns-clause-reads : goal.returns-clause-reads
returns-clause-reads c = λ is_public. c.in_ok-part.ensures.reads is_public _ (record { type = _; behind = _; open_at = _; open_sign = _; is_virtual = parts.not_virtual; first = record { rest = _; front = refl }; returns = parts.a_void_return (record { front = refl; sort = c.requires }); name = c.in_ok-word.ensures.reads; sign = c.in_ok-_open.ensures.reads })
