use Rattle.std.proofs.Common.{rules, arith, ◌≡◌, ◌∙◌, ◌*◌, ◌+◌, ap, sym, None, length, refl}
use Rattle.std.proofs.lemmas.List.{with_items_is}
use Rattle.byte_memory.specs.Bits.{with_bits_copied}
use Rattle.byte_memory.specs.Regions.{fault_at, copy_fault}
use Rattle.byte_memory.specs.Store.{byte_span}
use Rattle.byte_memory.specs.Words.{bits_in}
use Rattle.byte_memory.proofs.BitNumbers.{copied-word}
use Rattle.byte_memory.proofs.Reached.{reached}
use Rattle.byte_memory.proofs.flat.FlatMemoryMemory.copy_bits.Goals as goal

pub read_word-source-requires-clause-within : goal.read_word-source-requires-clause-within
read_word-source-requires-clause-within c = rw c.deref-3.ensures.value (reached _ _ _ _ c.args.self.now.ends (rw c.deref.ensures.value at c.in_ok-check.ensures))

pub read_word-word-requires-clause-within : goal.read_word-word-requires-clause-within
read_word-word-requires-clause-within c = rw c.deref-4.ensures.value (reached _ _ _ _ c.args.self.now.ends (rw c.deref-2.ensures.value at c.in_ok-check-2.ensures))

pub write_word-requires-clause-within : goal.write_word-requires-clause-within
write_word-requires-clause-within c = rw c.deref_mut.ensures.value (reached _ _ _ _ c.args.self.now.ends (rw c.deref-2.ensures.value at c.in_ok-check-2.ensures))

pub returns : goal.returns
returns c =
    let regions = c.args.self.now.regions.items in
    let cells = c.args.self.now.cells.items in
    let span = c.byte_span-span.ensures in
    let from = ap (fault_at regions c.args.from) (sym span) ∙ (rw c.deref.ensures.value at c.in_ok-check.ensures) in
    let to = ap (fault_at regions c.args.to) (sym span) ∙ (rw c.deref-2.ensures.value at c.in_ok-check-2.ensures) in
    let inside : copy_fault regions c.args.from c.args.to (byte_span c.args.first c.args.bits) ≡ None = rw (from, to) refl in
    let read = rw c.deref-3.ensures.value at c.read_word-source.ensures.bits in
    let read' = rw c.deref-4.ensures.value at c.read_word-word.ensures.bits in
    let same : length c.write_word.new.cells ≡ c.args.self.now.cells.len = search rules in
    let written = rw c.deref_mut.ensures.value at c.write_word.ensures in
    let after : bits_in c.write_word.new.cells ≡ with_bits_copied (bits_in cells) (8 * c.args.from + c.args.first) (8 * c.args.to + c.args.first) c.args.bits =
    written ∙ copied-word (bits_in cells) c.args.from c.args.to c.byte_span-span.result c.args.first c.args.bits c.read_word-source.result c.read_word-word.result c.with_bits-new.result c.from_bit.result (omega arith) (omega arith) read (λ place less out. read' place less) c.from_bit.ensures c.with_bits-new.ensures in
    (inside, rw (with_items_is c.args.self.now.cells c.write_word.new.cells same, after) refl)
