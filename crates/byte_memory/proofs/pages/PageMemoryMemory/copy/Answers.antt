use Rattle.std.proofs.Common.{◌≡◌, ◌∙◌, ◌*◌, ap, sym, None, refl}
use Rattle.byte_memory.specs.Bits.{with_bits_copied}
use Rattle.byte_memory.specs.Regions.{copy_fault}
use Rattle.byte_memory.specs.Pages.{bits_of, reached_bits}
use Rattle.byte_memory.proofs.BitNumbers.{copied-bytes}
use Rattle.byte_memory.proofs.Reachable.{reached_bits-at, reached_bits-with_word, reached-kept, unset-written}
use Rattle.byte_memory.proofs.pages.PageMemoryMemory.copy.Goals as goal

pub write_pages-requires-clause-there : goal.write_pages-requires-clause-there
write_pages-requires-clause-there c k less =
    let reach = rw c.deref-2.ensures.value at c.in_ok-written.ensures in
    reached-kept c.args.self.now.regions.items c.args.self.now.pages.items c.args.to c.args.bytes k c.args.self.now.kept reach less

pub invariant_of-self : goal.invariant_of-self
invariant_of-self c =
    let self = c.args.self.now in
    let reach = rw c.deref-2.ensures.value at c.in_ok-written.ensures in
    record {
      ascending = self.ascending;
      sizes = self.sizes;
      total = self.total;
      bound = self.bound;
      ordered = c.write_pages.ensures.ascending;
      users = λ number. (c.write_pages.ensures.same number).1 ∙ self.users number;
      kept = λ number. (c.write_pages.ensures.same number).0 ∙ self.kept number;
      unset = unset-written self.regions.items _ _ c.args.to c.args.bytes _ self.ascending reach c.write_pages.ensures.bits self.unset;
    }

pub returns : goal.returns
returns c =
    let regions = c.args.self.now.regions.items in
    let kept = bits_of c.args.self.now.pages.items in
    let bit = reached_bits regions kept in
    let up = c.args.self.now.ascending in
    let reach = rw c.deref.ensures.value at c.in_ok-read.ensures in
    let reach' = rw c.deref-2.ensures.value at c.in_ok-written.ensures in
    let inside : copy_fault regions c.args.from c.args.to c.args.bytes ≡ None = rw (reach, reach') refl in
    let read = rw c.deref-3.ensures.value at c.read_pages-word.ensures.bits in
    let after : reached_bits regions (bits_of c.write_pages.new.pages.items) ≡ with_bits_copied bit (8 * c.args.from) (8 * c.args.to) (8 * c.args.bytes) =
    ap (reached_bits regions) c.write_pages.ensures.bits
    ∙ (reached_bits-with_word regions kept c.args.to c.args.bytes c.read_pages-word.result up reach'
    ∙ copied-bytes bit c.args.from c.args.to c.args.bytes c.read_pages-word.result
    (λ place less. read place less ∙ sym (reached_bits-at regions kept c.args.from c.args.bytes place up reach less))) in
    (inside, rw after refl)
