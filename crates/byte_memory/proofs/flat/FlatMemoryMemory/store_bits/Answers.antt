use Rattle.std.proofs.Common.{rules, arith, ◌≡◌, ◌∙◌, ◌*◌, ◌+◌, ap, sym, None, length, refl}
use Rattle.std.proofs.lemmas.List.{with_items_is}
use Rattle.byte_memory.specs.Bits.{stored}
use Rattle.byte_memory.specs.Regions.{fault_at}
use Rattle.byte_memory.specs.Store.{byte_span}
use Rattle.byte_memory.specs.Words.{bits_in}
use Rattle.byte_memory.proofs.BitNumbers.{stored-word}
use Rattle.byte_memory.proofs.Reached.{reached}
use Rattle.byte_memory.proofs.flat.FlatMemoryMemory.store_bits.Goals as goal

pub read_word-word-requires-clause-within : goal.read_word-word-requires-clause-within
read_word-word-requires-clause-within c = rw c.deref-2.ensures.value (reached _ _ _ _ c.args.self.now.ends (rw c.deref.ensures.value at c.in_ok-check.ensures))

pub write_word-requires-clause-within : goal.write_word-requires-clause-within
write_word-requires-clause-within c = rw c.deref_mut.ensures.value (reached _ _ _ _ c.args.self.now.ends (rw c.deref.ensures.value at c.in_ok-check.ensures))

pub returns : goal.returns
returns c =
    let regions = c.args.self.now.regions.items in
    let cells = c.args.self.now.cells.items in
    let span = c.byte_span-span.ensures in
    let reach = rw c.deref.ensures.value at c.in_ok-check.ensures in
    let inside : fault_at regions c.args.at (byte_span c.args.first c.args.bits) ≡ None = ap (fault_at regions c.args.at) (sym span) ∙ reach in
    let read = rw c.deref-2.ensures.value at c.read_word-word.ensures.bits in
    let made = rw c.all_set.ensures at c.with_bits-new.ensures in
    let same : length c.write_word.new.cells ≡ c.args.self.now.cells.len = search rules in
    let written = rw c.deref_mut.ensures.value at c.write_word.ensures in
    let after : bits_in c.write_word.new.cells ≡ stored (bits_in cells) (8 * c.args.at + c.args.first) c.args.bits c.args.value =
    written ∙ stored-word (bits_in cells) c.args.at c.byte_span-span.result c.args.first c.args.bits c.args.value c.read_word-word.result c.with_bits-new.result (omega arith) (omega arith) (λ place less out. read place less) made in
    (inside, rw (with_items_is c.args.self.now.cells c.write_word.new.cells same, after) refl)
