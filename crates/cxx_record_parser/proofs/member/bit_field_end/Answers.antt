use Rattle.std.proofs.Common.{refl}
use Rattle.cxx_syntax.specs.Parts as parts
use Rattle.cxx_record_parser.proofs.member.bit_field_end.Goals as goal

pub returns-clause-reads : goal.returns-clause-reads
returns-clause-reads c = λ ts a f t n. parts.a_bit_field f t n c.in_ok-_colon.ensures.reads c.in_ok-number.ensures.reads c.in_ok-_end.ensures.reads (rw (c.in_ok-name.ensures.ok, c.held.ensures) refl) refl
