-- The object at an address, in lists that go along with the objects, and the regions of a memory.
use Rattle.std.proofs.Common.{◌≡◌, ℕ, ◌+◌, ◌<◌, ◌≤◌, ⊎_elim, Bool, true, false, Some, None, List, [], ◌∷◌, ◌++◌, length, map, refl, ap, subst, sym, ◌∙◌, arith}
use Rattle.std.specs.Prelude.{slice_get, nat_eq, nat_le, nat_lt, ◌&&◌}
use Rattle.std.specs.List.{find}
use Rattle.std.proofs.lemmas.Bool.Decides.{nat_tests}
use Rattle.std.proofs.lemmas.List.{map-append, length-map}
use Rattle.std.proofs.lemmas.Option.{slice_get_within, get_or_from_slice_get}
use Rattle.foundation.proofs.Places.{get_pushed, get_mapped}
use Rattle.cxx_hierarchy.specs.declared.records.ClassId.{ClassId}
use Rattle.cxx_hierarchy.specs.Classes.{Classes}
use Rattle.cxx_hierarchy.proofs.Listed.{get_map}
use Rattle.abi_sound.specs.declared.class_layout.ClassLayout.{ClassLayout}
use Rattle.abi_sound.specs.Places.{Places, places_of}
use Rattle.byte_memory.specs.declared.memory.Region.{Region}
use Rattle.byte_memory.specs.declared.memory.MemoryFault.TheVariants.{Closed}
use Rattle.byte_memory.specs.Regions.{IsAscendingBy, fault_at, close_fault, holds_bytes, starts, shut}
use Rattle.byte_memory.specs.Store.{Store, IsRoom, open_of}
use Rattle.byte_memory.proofs.Ascending.{HasAddress, find-last}
use Rattle.byte_memory.proofs.Reached.{holds-address, shut_same, slice_get-shut}
use Rattle.agree_parts.specs.Heaps.{Heap, empty_heap, grown}
use Rattle.agree_parts.specs.Placed.{IsObject, AreObjectsPlaced, AreObjectsLaid, LieIn, IsFree}
use Rattle.agree_parts.specs.Regions.{AreExtents, AreRegions}
use Rattle.agree_parts.proofs.Objects.{also_there}

-- the item of an object
pub record HasItem {X : Type 0} (l : Places) (start size : X → ℕ) (xs : List X) (k : ℕ) (c : ClassId) (first : ℕ) : Type 0 where
  pub item : X
  pub there : slice_get xs k ≡ Some item
  pub starts : start item ≡ first
  pub sized : size item ≡ l.size c

pub item_of : {X : Type 0} (l : Places) (g : Heap) (start size : X → ℕ) (xs : List X) (k : ℕ) (c : ClassId) (first : ℕ) → AreExtents l g start size xs → IsObject g k c first → HasItem l start size xs k c first
item_of l g start size xs k c first extents object =
    let found = get_mapped start xs k first (ap (λ ys. slice_get ys k) extents.starts ∙ object.there) in
    record { item = found.0; there = found.1; starts = found.2; sized = extents.sizes k found.0 c found.1 object.class }

-- the object of an item
pub record HasObject {X : Type 0} (l : Places) (g : Heap) (start size : X → ℕ) (k : ℕ) (x : X) : Type 0 where
  pub class : ClassId
  pub object : IsObject g k class (start x)
  pub sized : size x ≡ l.size class

pub object_of_item : {X : Type 0} (h : Classes) (l : Places) (g : Heap) (start size : X → ℕ) (xs : List X) (k : ℕ) (x : X) → AreObjectsPlaced h l g → AreExtents l g start size xs → slice_get xs k ≡ Some x → HasObject l g start size k x
object_of_item h l g start size xs k x placed extents there =
    let first : slice_get g.starts k ≡ Some (start x) = ap (λ ys. slice_get ys k) (sym extents.starts) ∙ get_map start xs k x there in
    let class = also_there g.starts g.classes k (start x) (sym placed.one_each) first in
    record { class = class.0; object = record { class = class.1; there = first }; sized = extents.sizes k x class.0 there class.1 }

pub items_ascend : {X : Type 0} (h : Classes) (l : Places) (g : Heap) (start size : X → ℕ) (xs : List X) → AreObjectsPlaced h l g → AreExtents l g start size xs → IsAscendingBy start size xs
items_ascend h l g start size xs placed extents i j x y less here there =
    let a = object_of_item h l g start size xs i x placed extents here in
    let b = object_of_item h l g start size xs j y placed extents there in
    let apart = placed.ascending i j a.class b.class (start x) (start y) less a.object b.object in
    let sized = a.sized in
    omega arith

-- a test that asks for the address finds the item of the object that has it
found_by : {X : Type 0} (h : Classes) (l : Places) (g : Heap) (start size : X → ℕ) (xs : List X) (p : X → Bool) (at k : ℕ) (c : ClassId) (first : ℕ) → AreObjectsPlaced h l g → AreExtents l g start size xs → HasAddress start size xs at p → IsObject g k c first →
    ((x : X) → start x ≡ first → size x ≡ l.size c → p x ≡ true) → find p xs ≡ slice_get xs k
found_by h l g start size xs p at k c first placed extents has object pass =
    let x = item_of l g start size xs k c first extents object in
    find-last start size xs at p k x.item (items_ascend h l g start size xs placed extents) has x.there (pass x.item x.starts x.sized) ∙ sym x.there

-- the address lies in the item
abbrev pub has_address : {X : Type 0} → (X → ℕ) → (X → ℕ) → ℕ → X → Bool
has_address start size at x = nat_le (start x) at && nat_lt at (start x + size x)

-- an address in an object finds its item
pub item_found : {X : Type 0} (h : Classes) (l : Places) (g : Heap) (start size : X → ℕ) (xs : List X) (k at : ℕ) → AreObjectsPlaced h l g → AreExtents l g start size xs → LieIn l g k at 1 → find (has_address start size at) xs ≡ slice_get xs k
item_found h l g start size xs k at placed extents inside =
    let low = inside.low in
    let high = inside.high in
    found_by h l g start size xs (has_address start size at) at k inside.class inside.start placed extents (λ j x there pass. (grind (arith, nat_tests), grind (arith, nat_tests))) inside.object
    (λ x starts sized. grind (arith, nat_tests))

-- bytes in an object find its region
pub region_found : (h : Classes) (l : Places) (g : Heap) (regions : List Region) (k at n : ℕ) → AreObjectsPlaced h l g → AreRegions l g regions → 0 < n → LieIn l g k at n → find (holds_bytes at n) regions ≡ slice_get regions k
region_found h l g regions k at n placed extents some inside =
    let low = inside.low in
    let high = inside.high in
    found_by h l g (λ (r : Region). r.start) (λ r. r.size) regions (holds_bytes at n) at k inside.class inside.start placed extents (holds-address regions at n some) inside.object
    (λ r starts sized. grind (arith, nat_tests))

-- and so does the address where the object starts
pub start_found : (h : Classes) (rows : List ClassLayout) (g : Heap) (regions : List Region) (k start : ℕ) (c : ClassId) → AreObjectsLaid h rows g → AreRegions (places_of h rows) g regions → IsObject g k c start → find (starts start) regions ≡ slice_get regions k
start_found h rows g regions k start c laid extents object =
    found_by h (places_of h rows) g (λ (r : Region). r.start) (λ r. r.size) regions (starts start) start k c start laid.placed extents has object (λ r starts sized. grind (arith, nat_tests))
  where
    has : HasAddress (λ (r : Region). r.start) (λ r. r.size) regions start (starts start)
    has j r there pass =
        let a = object_of_item h (places_of h rows) g (λ (q : Region). q.start) (λ q. q.size) regions j r laid.placed extents there in
        let some = (laid.sound.each a.class (laid.placed.known j a.class a.object.class)).positive in
        let sized = a.sized in
        (grind (arith, nat_tests), grind (arith, nat_tests))

-- the region of an object
pub object_region : (l : Places) (g : Heap) (regions : List Region) (k : ℕ) (c : ClassId) (start : ℕ) → AreRegions l g regions → IsObject g k c start → (r : Region) × (slice_get regions k ≡ Some r) × (r.start ≡ start) × (r.size ≡ l.size c)
object_region l g regions k c start extents object = let x = item_of l g (λ (r : Region). r.start) (λ r. r.size) regions k c start extents object in (x.item, x.there, x.starts, x.sized)

-- bytes in an object can be reached while its region is open
pub reached_open : (h : Classes) (l : Places) (g : Heap) (regions : List Region) (r : Region) (k at n : ℕ) → AreObjectsPlaced h l g → AreRegions l g regions → 0 < n → LieIn l g k at n → slice_get regions k ≡ Some r → r.is_open ≡ true → fault_at regions at n ≡ None
reached_open h l g regions r k at n placed extents some inside there is_open = rw (region_found h l g regions k at n placed extents some inside, there, is_open) refl

-- and are refused as closed else
pub refused_closed : (h : Classes) (l : Places) (g : Heap) (regions : List Region) (r : Region) (k at n : ℕ) → AreObjectsPlaced h l g → AreRegions l g regions → 0 < n → LieIn l g k at n → slice_get regions k ≡ Some r → r.is_open ≡ false → fault_at regions at n ≡ Some (Closed at)
refused_closed h l g regions r k at n placed extents some inside there is_closed = rw (region_found h l g regions k at n placed extents some inside, there, is_closed) refl

-- an open one can be closed at its start
pub start_closes : (h : Classes) (rows : List ClassLayout) (g : Heap) (regions : List Region) (r : Region) (k : ℕ) (c : ClassId) (start : ℕ) → AreObjectsLaid h rows g → AreRegions (places_of h rows) g regions → IsObject g k c start → slice_get regions k ≡ Some r → r.is_open ≡ true → close_fault regions start ≡ None
start_closes h rows g regions r k c start laid extents object there is_open = rw (start_found h rows g regions k start c laid extents object, there, is_open) refl

pub no_regions : (l : Places) → AreRegions l empty_heap []
no_regions l = record { starts = refl; sizes = λ k r c there class. absurd (let e : None ≡ Some r = there in cc) }

-- one more item is that of one more object
pub items_grown : {X : Type 0} (h : Classes) (l : Places) (g : Heap) (start size : X → ℕ) (xs : List X) (x : X) (c : ClassId) → AreObjectsPlaced h l g → AreExtents l g start size xs → size x ≡ l.size c → AreExtents l (grown g c (start x)) start size (xs ++ x ∷ [])
items_grown {X} h l g start size xs x c placed extents sized = record {
  starts = map-append start xs (x ∷ []) ∙ ap (λ ys. ys ++ start x ∷ []) extents.starts;
  sizes = λ k y d there class. ⊎_elim (λ old. of_old k y d old class) (λ new. of_new k y d new.0 new.1 class) (get_pushed xs x k y there);
}
  where
    as_long : length xs ≡ length g.classes
    as_long = sym (length-map xs start) ∙ (ap length extents.starts ∙ placed.one_each)

    of_old : (k : ℕ) (y : X) (d : ClassId) → slice_get xs k ≡ Some y → slice_get (g.classes ++ c ∷ []) k ≡ Some d → size y ≡ l.size d
    of_old k y d old class = ⊎_elim (λ before. extents.sizes k y d old before) (λ last. let within = slice_get_within xs k y old in let at = last.0 in let long = as_long in absurd (omega arith)) (get_pushed g.classes c k d class)

    of_new : (k : ℕ) (y : X) (d : ClassId) → k ≡ length xs → y ≡ x → slice_get (g.classes ++ c ∷ []) k ≡ Some d → size y ≡ l.size d
    of_new k y d at same class = ⊎_elim (λ before. let within = slice_get_within g.classes k d before in let long = as_long in absurd (omega arith)) (λ last. ap size same ∙ (sized ∙ ap l.size (sym last.1))) (get_pushed g.classes c k d class)

pub regions_grown : (h : Classes) (l : Places) (g : Heap) (c : ClassId) (memory : Store) (at : ℕ) → AreObjectsPlaced h l g → AreRegions l g memory.regions → AreRegions l (grown g c at) (open_of memory at (l.size c)).regions
regions_grown h l g c memory at placed extents = items_grown h l g (λ (r : Region). r.start) (λ r. r.size) memory.regions (record { start = at; size = l.size c; is_open = true }) c placed extents refl

-- a memory with room for an object is free there
pub room_free : (h : Classes) (l : Places) (g : Heap) (c : ClassId) (memory : Store) (at : ℕ) → c.0 < length h → AreRegions l g memory.regions → IsRoom memory at (l.size c) → IsFree h l g c at
room_free h l g c memory at known extents room = record {
  known = known;
  positive = room.positive;
  limit = room.limit;
  above = λ k d first object.
      let x = item_of l g (λ (r : Region). r.start) (λ r. r.size) memory.regions k d first extents object in
      let above : x.item.start + x.item.size ≤ at = subst (λ (r : Region). r.start + r.size ≤ at) (get_or_from_slice_get memory.regions k x.item x.item x.there) (room.above k x.item (slice_get_within memory.regions k x.item x.there)) in
      let starts = x.starts in
      let sized = x.sized in
      omega arith;
}

-- regions are those of the objects also after one was closed
pub regions_shut : (l : Places) (g : Heap) (regions : List Region) (at : ℕ) → AreRegions l g regions → AreRegions l g (map (shut at) regions)
regions_shut l g regions at extents = record {
  starts = same_starts regions ∙ extents.starts;
  sizes = λ k x c there class. let old = slice_get-shut regions at k x there in sym old.3 ∙ extents.sizes k old.0 c old.1 class;
}
  where
    same_starts : (rs : List Region) → map (λ (r : Region). r.start) (map (shut at) rs) ≡ map (λ (r : Region). r.start) rs
    same_starts [] = refl
    same_starts (r ∷ rs) = λ i. (shut_same r at (nat_eq r.start at) refl).0 i ∷ same_starts rs i
