use Rattle.std.proofs.Common.{rules}
use Rattle.cxx_syntax.specs.Parts as parts
use Rattle.cxx_record_parser.proofs.value.count.Goals as goal

pub returns-then-is_same-clause-reads : goal.returns-then-is_same-clause-reads
returns-then-is_same-clause-reads c = parts.a_count (record { front = c.in_ok-sign.ensures.ok; sort = search rules }) c.in_ok-number.ensures.reads c.in_ok-_close.ensures.reads c.held.ensures

pub returns-clause-reads : goal.returns-clause-reads
returns-clause-reads c = parts.no_count
