use Rattle.std.proofs.Common.{arith, ◌≡◌, ◌∙◌, ◌*◌, ◌+◌, ap, sym, None, refl}
use Rattle.byte_memory.specs.Bits.{stored}
use Rattle.byte_memory.specs.Regions.{fault_at}
use Rattle.byte_memory.specs.Store.{byte_span}
use Rattle.byte_memory.specs.Pages.{bits_of, reached_bits}
use Rattle.byte_memory.proofs.BitNumbers.{stored-word}
use Rattle.byte_memory.proofs.Reachable.{reached_bits-at, reached_bits-with_word, reached-kept, unset-written}
use Rattle.byte_memory.proofs.pages.PageMemoryMemory.store_bits.Goals as goal

pub write_pages-requires-clause-there : goal.write_pages-requires-clause-there
write_pages-requires-clause-there c k less =
    let reach = rw c.deref.ensures.value at c.in_ok-region.ensures in
    reached-kept c.args.self.now.regions.items c.args.self.now.pages.items c.args.at c.byte_span-span.result k c.args.self.now.kept reach less

pub invariant_of-self : goal.invariant_of-self
invariant_of-self c =
    let self = c.args.self.now in
    let reach = rw c.deref.ensures.value at c.in_ok-region.ensures in
    record {
      ascending = self.ascending;
      sizes = self.sizes;
      total = self.total;
      bound = self.bound;
      ordered = c.write_pages.ensures.ascending;
      users = λ number. (c.write_pages.ensures.same number).1 ∙ self.users number;
      kept = λ number. (c.write_pages.ensures.same number).0 ∙ self.kept number;
      unset = unset-written self.regions.items _ _ c.args.at c.byte_span-span.result _ self.ascending reach c.write_pages.ensures.bits self.unset;
    }

pub returns : goal.returns
returns c =
    let regions = c.args.self.now.regions.items in
    let kept = bits_of c.args.self.now.pages.items in
    let bit = reached_bits regions kept in
    let up = c.args.self.now.ascending in
    let span = c.byte_span-span.ensures in
    let reach = rw c.deref.ensures.value at c.in_ok-region.ensures in
    let inside : fault_at regions c.args.at (byte_span c.args.first c.args.bits) ≡ None = ap (fault_at regions c.args.at) (sym span) ∙ reach in
    let read = rw c.deref-2.ensures.value at c.read_rest-rest.ensures in
    let made = rw c.all_set.ensures at c.with_bits-new.ensures in
    let after : reached_bits regions (bits_of c.write_pages.new.pages.items) ≡ stored bit (8 * c.args.at + c.args.first) c.args.bits c.args.value =
    ap (reached_bits regions) c.write_pages.ensures.bits
    ∙ (reached_bits-with_word regions kept c.args.at c.byte_span-span.result c.with_bits-new.result up reach
    ∙ stored-word bit c.args.at c.byte_span-span.result c.args.first c.args.bits c.args.value c.read_rest-rest.result c.with_bits-new.result (omega arith) (omega arith)
    (λ place less out. read place less out ∙ sym (reached_bits-at regions kept c.args.at c.byte_span-span.result place up reach less)) made) in
    (inside, rw after refl)
