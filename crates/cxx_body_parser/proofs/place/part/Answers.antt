use Rattle.std.proofs.Common.{rules, refl}
use Rattle.cxx_syntax.specs.Operands.{a_part, an_index, no_index}
use Rattle.cxx_body_parser.proofs.place.part.Goals as goal

pub returns-in_ok-_close-clause-reads : goal.returns-in_ok-_close-clause-reads
returns-in_ok-_close-clause-reads c = λ ts n. a_part n (an_index (record { front = c.in_ok-sign.ensures.ok; sort = search rules }) c.in_ok-number.ensures.reads c.in_ok-_close.ensures.reads refl) c.in_ok-name.ensures.ok

pub returns-else-is_same-clause-reads : goal.returns-else-is_same-clause-reads
returns-else-is_same-clause-reads c = λ ts n. a_part n no_index c.in_ok-name.ensures.ok
