use Rattle.std.proofs.Common.{arith, ◌≡◌, ◌∙◌, ◌*◌, ◌+◌, ap, sym, None, refl}
use Rattle.byte_memory.specs.Bits.{with_bits_copied}
use Rattle.byte_memory.specs.Regions.{fault_at, copy_fault}
use Rattle.byte_memory.specs.Store.{byte_span}
use Rattle.byte_memory.specs.Pages.{bits_of, reached_bits}
use Rattle.byte_memory.proofs.BitNumbers.{copied-word}
use Rattle.byte_memory.proofs.Reachable.{reached_bits-at, reached_bits-with_word, reached-kept, unset-written}
use Rattle.byte_memory.proofs.pages.PageMemoryMemory.copy_bits.Goals as goal

pub write_pages-requires-clause-there : goal.write_pages-requires-clause-there
write_pages-requires-clause-there c k less =
    let reach = rw c.deref-2.ensures.value at c.in_ok-written.ensures in
    reached-kept c.args.self.now.regions.items c.args.self.now.pages.items c.args.to c.byte_span-span.result k c.args.self.now.kept reach less

pub invariant_of-self : goal.invariant_of-self
invariant_of-self c =
    let self = c.args.self.now in
    let reach = rw c.deref-2.ensures.value at c.in_ok-written.ensures in
    record {
      ascending = self.ascending;
      sizes = self.sizes;
      total = self.total;
      bound = self.bound;
      ordered = c.write_pages.ensures.ascending;
      users = λ number. (c.write_pages.ensures.same number).1 ∙ self.users number;
      kept = λ number. (c.write_pages.ensures.same number).0 ∙ self.kept number;
      unset = unset-written self.regions.items _ _ c.args.to c.byte_span-span.result _ self.ascending reach c.write_pages.ensures.bits self.unset;
    }

pub returns : goal.returns
returns c =
    let regions = c.args.self.now.regions.items in
    let kept = bits_of c.args.self.now.pages.items in
    let bit = reached_bits regions kept in
    let up = c.args.self.now.ascending in
    let span = c.byte_span-span.ensures in
    let reach = rw c.deref.ensures.value at c.in_ok-read.ensures in
    let reach' = rw c.deref-2.ensures.value at c.in_ok-written.ensures in
    let from = ap (fault_at regions c.args.from) (sym span) ∙ reach in
    let to = ap (fault_at regions c.args.to) (sym span) ∙ reach' in
    let inside : copy_fault regions c.args.from c.args.to (byte_span c.args.first c.args.bits) ≡ None = rw (from, to) refl in
    let read = rw c.deref-3.ensures.value at c.read_pages-source.ensures.bits in
    let read' = rw c.deref-4.ensures.value at c.read_rest-rest.ensures in
    let after : reached_bits regions (bits_of c.write_pages.new.pages.items) ≡ with_bits_copied bit (8 * c.args.from + c.args.first) (8 * c.args.to + c.args.first) c.args.bits =
    ap (reached_bits regions) c.write_pages.ensures.bits
    ∙ (reached_bits-with_word regions kept c.args.to c.byte_span-span.result c.with_bits-new.result up reach'
    ∙ copied-word bit c.args.from c.args.to c.byte_span-span.result c.args.first c.args.bits c.read_pages-source.result c.read_rest-rest.result c.with_bits-new.result c.from_bit.result (omega arith) (omega arith)
    (λ place less. read place less ∙ sym (reached_bits-at regions kept c.args.from c.byte_span-span.result place up reach less))
    (λ place less out. read' place less out ∙ sym (reached_bits-at regions kept c.args.to c.byte_span-span.result place up reach' less))
    c.from_bit.ensures c.with_bits-new.ensures) in
    (inside, rw after refl)
