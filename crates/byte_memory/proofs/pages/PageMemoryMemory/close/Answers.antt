use Rattle.std.proofs.Common.{rules, arith, ◌≡◌, ◌∙◌, ◌<◌, ◌≤◌, ◌*◌, ◌+◌, ◌-◌, ◌/◌, ap, sym, subst, refl, map, ℕ}
use Rattle.std.specs.Prelude.{count_by, nat_lt}
use Rattle.std.proofs.lemmas.Option.{slice_get_within, get_or_from_slice_get}
use Rattle.byte_memory.specs.declared.memory.Region.{Region}
use Rattle.byte_memory.specs.Bits.{is_among_places, cleared}
use Rattle.byte_memory.specs.Regions.{shut}
use Rattle.byte_memory.specs.Pages.{meets, next_start, bits_of, reached_bits}
use Rattle.byte_memory.proofs.Reached.{found_starts, sizes_shut, total_of-shut, IsAscending-shut}
use Rattle.byte_memory.proofs.Reachable.{ends_below_next, next-shut}
use Rattle.byte_memory.proofs.Closing.{Closing, close-users, close-kept, close-bits, close-unset}
use Rattle.byte_memory.proofs.pages.PageMemoryMemory.close.Goals as goal

pub shut_region-requires-clause-inside : goal.shut_region-requires-clause-inside
shut_region-requires-clause-inside c = let found = rw c.deref.ensures.value at c.in-Some.ensures in slice_get_within _ _ _ found.0

pub last_page-last-requires-clause-some : goal.last_page-last-requires-clause-some
last_page-last-requires-clause-some c =
    let found = rw c.deref.ensures.value at c.in-Some.ensures in
    let items = c.args.self.now.regions.items in
    subst (λ (q : Region). 0 < q.size) (get_or_from_slice_get items _ c.in-Some.region c.in-Some.region found.0) (c.args.self.now.sizes _ c.in-Some.region (slice_get_within items _ _ found.0))

pub last_page-last-requires-clause-small : goal.last_page-last-requires-clause-small
last_page-last-requires-clause-small c =
    let found = rw c.deref.ensures.value at c.in-Some.ensures in
    let items = c.args.self.now.regions.items in
    let start = found_starts items c.args.at c.in-Some.region found.1 in
    let ends = ends_below_next items _ c.in-Some.region c.args.self.now.ascending found.0 in
    omega (arith, start, ends, c.args.self.now.total, c.args.self.now.bound)

pub invariant_of-self : goal.invariant_of-self
invariant_of-self c =
    let self = c.args.self.now in
    let items = self.regions.items in
    let region = c.in-Some.region in
    let found = rw c.deref.ensures.value at c.in-Some.ensures in
    let start : region.start ≡ c.args.at = found_starts items c.args.at region found.1 in
    let closed : c.shut_region.new.regions.items ≡ map (shut region.start) items = c.shut_region.ensures region found.0 in
    let some : 0 < region.size = subst (λ (q : Region). 0 < q.size) (get_or_from_slice_get items _ region region found.0) (self.sizes _ region (slice_get_within items _ region found.0)) in
    let closing : Closing items self.pages.items c.release_pages.new.pages.items _ region = record {
      ascending = self.ascending;
      sizes = self.sizes;
      here = found.0;
      is_open = search rules;
      some = some;
      users = self.users;
      kept = self.kept;
      left = λ number.
          let test : is_among_places (region.start / 4096) ((region.start + region.size - 1) / 4096 + 1 - region.start / 4096) number ≡ is_among_places (c.args.at / 4096) (c.last_page-last.result + 1 - c.args.at / 4096) number = rw (start, c.last_page-last.ensures) refl in
          rw test (c.release_pages.ensures.released number);
    } in
    let closed' : c.shut_region.new.regions.items ≡ map (shut c.args.at) items = closed ∙ ap (λ s. map (shut s) items) start in
    let total = total_of-shut items c.args.at in
    let next = next-shut items c.args.at in
    record {
      ascending = rw closed' (IsAscending-shut _ _ self.ascending);
      sizes = rw closed' (sizes_shut _ _ self.sizes);
      total = rw (closed', next, total) self.total;
      bound = rw (closed', total) self.bound;
      ordered = c.release_pages.ensures.ascending;
      users = λ number. close-users closing number ∙ ap (count_by (meets number)) (sym closed);
      kept = λ number. close-kept closing number ∙ ap (λ rs. nat_lt 0 (count_by (meets number) rs)) (sym closed);
      unset = λ place past.
          let past' : 8 * next_start items ≤ place = rw (closed', next) at past in
          close-unset closing place (self.unset place past');
    }

pub returns : goal.returns
returns c =
    let self = c.args.self.now in
    let items = self.regions.items in
    let region = c.in-Some.region in
    let found = rw c.deref.ensures.value at c.in-Some.ensures in
    let start : region.start ≡ c.args.at = found_starts items c.args.at region found.1 in
    let closed : c.shut_region.new.regions.items ≡ map (shut region.start) items = c.shut_region.ensures region found.0 in
    let some : 0 < region.size = subst (λ (q : Region). 0 < q.size) (get_or_from_slice_get items _ region region found.0) (self.sizes _ region (slice_get_within items _ region found.0)) in
    let closing : Closing items self.pages.items c.release_pages.new.pages.items _ region = record {
      ascending = self.ascending;
      sizes = self.sizes;
      here = found.0;
      is_open = search rules;
      some = some;
      users = self.users;
      kept = self.kept;
      left = λ number.
          let test : is_among_places (region.start / 4096) ((region.start + region.size - 1) / 4096 + 1 - region.start / 4096) number ≡ is_among_places (c.args.at / 4096) (c.last_page-last.result + 1 - c.args.at / 4096) number = rw (start, c.last_page-last.ensures) refl in
          rw test (c.release_pages.ensures.released number);
    } in
    let bits = close-bits closing in
    let closed' : c.shut_region.new.regions.items ≡ map (shut c.args.at) items = closed ∙ ap (λ s. map (shut s) items) start in
    let bits' : reached_bits (map (shut c.args.at) items) (bits_of c.release_pages.new.pages.items) ≡ cleared (reached_bits items (bits_of self.pages.items)) (8 * c.args.at) (8 * region.size) =
    subst (λ (s : ℕ). reached_bits (map (shut s) items) (bits_of c.release_pages.new.pages.items) ≡ cleared (reached_bits items (bits_of self.pages.items)) (8 * s) (8 * region.size)) start bits in
    record { region = region; there = found.1; is_open = search rules; new_is = rw (closed', bits') refl }
