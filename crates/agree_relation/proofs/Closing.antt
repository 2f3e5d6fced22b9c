-- A heap object is closed: its region is shut, and the others are as they were.
use Rattle.std.proofs.Common.{◌≡◌, ℕ, ◌+◌, ◌<◌, ◌≤◌, ⊎_elim, Bool, true, false, Option, Some, None, List, map, refl, ap, sym, subst, ◌∙◌, arith}
use Rattle.std.specs.Prelude.{not, ◌⊎◌, ◌&&◌, nat_eq, nat_le, nat_lt, if◌then◌else◌, slice_get}
use Rattle.std.proofs.lemmas.Bool.Decides.{nat_tests}
use Rattle.std.proofs.lemmas.Bool.{cases_lt}
use Rattle.std.proofs.lemmas.List.{length-map}
use Rattle.cxx_hierarchy.specs.declared.records.ClassId.{ClassId}
use Rattle.cxx_hierarchy.proofs.Listed.{get_map}
use Rattle.path_model.specs.Values.{Objects}
use Rattle.byte_memory.specs.declared.memory.Region.{Region}
use Rattle.byte_memory.specs.Bits.{cleared, is_among_places}
use Rattle.byte_memory.specs.Regions.{shut}
use Rattle.byte_memory.specs.Store.{Store, Closes, close_of}
use Rattle.byte_memory.proofs.Reached.{slice_get-shut, IsAscending-shut, total_of-shut}
use Rattle.byte_machine.specs.declared.heap.Opened.{Opened}
use Rattle.byte_machine.proofs.Leads.{same_number, other_number}
use Rattle.agree_parts.specs.Heaps.{object_start}
use Rattle.agree_parts.proofs.Objects.{object_there}
use Rattle.agree_parts.proofs.Found.{regions_shut, start_found}
use Rattle.agree_relation.specs.Worlds.{World, IsProgramWorld, world_classes, places_in}
use Rattle.agree_relation.specs.Words.{heap_of}
use Rattle.agree_relation.specs.Columns.{IsRegionOf, listed_as, ObjectsStand}
use Rattle.agree_relation.proofs.Objects.{HasRegion, object_has_region, objects_regions, objects_placed, objects_laid}
use Rattle.agree_relation.proofs.Grown.{number_cases}

-- the object k is closed now, and no other one has changed
pub record IsClosing (s : Objects) (k : ℕ) (closed : ℕ → Bool) : Type 0 where
  pub here : closed k ≡ true
  pub others : (j : ℕ) → (j ≡ k → ⊥) → closed j ≡ s.is_closed j

abbrev pub with_closed : Objects → (ℕ → Bool) → Objects
with_closed s closed = record { classes = s.classes; is_closed = closed; phases = s.phases; leaf = s.leaf }

-- bytes outside of those that were unset
pub cleared_outside : (bit : ℕ → Option Bool) (at n place : ℕ) → (place < at) ⊎ (at + n ≤ place) → cleared bit at n place ≡ bit place
cleared_outside bit at n place outside = ap (λ (b : Bool). if b then None else bit place) (no_test outside)
  where
    no_test : (place < at) ⊎ (at + n ≤ place) → is_among_places at n place ≡ false
    no_test o = ⊎_elim (λ (less : place < at). grind (arith, nat_tests)) (λ (more : at + n ≤ place). grind (arith, nat_tests)) o

-- objects start where they did
pub heap_shut : (w : World) (s : Objects) (regions : List Region) (opened : List Opened) (heap at : ℕ) → ObjectsStand w s regions opened heap → heap_of s.classes (map (shut at) regions) ≡ heap_of s.classes regions
heap_shut w s regions opened heap at o =
    let same = regions_shut (places_in w) (heap_of s.classes regions) regions at (objects_regions w s regions opened heap o) in
    λ i. record { classes = s.classes; starts = same.starts i }

-- what the machine closes at the start of an object is that object
pub closes_object : (w : World) (s : Objects) (old new : Store) (opened : List Opened) (heap k : ℕ) (c : ClassId) → IsProgramWorld w → ObjectsStand w s old.regions opened heap → slice_get s.classes k ≡ Some c → Closes old new (object_start (heap_of s.classes old.regions) k) →
    new ≡ close_of old (object_start (heap_of s.classes old.regions) k) ((places_in w).size c)
closes_object w s old new opened heap k c world o class closes =
    let g = heap_of s.classes old.regions in
    let r = object_has_region w s old.regions opened heap k c o class in
    let found = start_found (world_classes w) w.setup.rows g old.regions k (object_start g k) c (objects_laid w s old.regions opened heap world o) (objects_regions w s old.regions opened heap o) (object_there (world_classes w) (places_in w) g k c (objects_placed w s old.regions opened heap o) class) in
    let is : Some closes.region ≡ Some r.region = sym closes.there ∙ (found ∙ r.there) in
    let one : closes.region ≡ r.region = cc in
    closes.new_is ∙ ap (λ (n : ℕ). close_of old (object_start g k) n) (ap (λ (x : Region). x.size) one ∙ r.of.size)

module _ (w : World) (s : Objects) (regions : List Region) (opened : List Opened) (heap k : ℕ) (c : ClassId) (closed : ℕ → Bool) (world : IsProgramWorld w) (o : ObjectsStand w s regions opened heap) (class : slice_get s.classes k ≡ Some c) (closing : IsClosing s k closed) where
  abbrev start : ℕ
  start = object_start (heap_of s.classes regions) k

  -- two objects do not start at one place
  starts_apart : (j : ℕ) (d : ClassId) → slice_get s.classes j ≡ Some d → (j ≡ k → ⊥) → object_start (heap_of s.classes regions) j ≡ start → ⊥
  starts_apart j d there other same =
      let g = heap_of s.classes regions in
      let placed = objects_placed w s regions opened heap o in
      let a = object_there (world_classes w) (places_in w) g j d placed there in
      let b = object_there (world_classes w) (places_in w) g k c placed class in
      let first = (world.sound.each d (placed.known j d there)).positive in
      let second = (world.sound.each c (placed.known k c class)).positive in
      ⊎_elim
      (λ (less : j < k). let apart = placed.ascending j k d c _ _ less a b in omega arith)
      (λ (more : k ≤ j). ⊎_elim (λ (less : k < j). let apart = placed.ascending k j c d _ _ less b a in omega arith) (λ (least : j ≤ k). other (omega arith)) (cases_lt k j))
      (cases_lt j k)

  -- the region of each object
  region_after : (j : ℕ) (d : ClassId) (r : Region) → slice_get s.classes j ≡ Some d → slice_get (map (shut start) regions) j ≡ Some r → IsRegionOf w d (closed j) r
  region_after j d r there found =
      let old = object_has_region w s regions opened heap j d o there in
      let is : Some r ≡ Some (shut start old.region) = sym found ∙ get_map (shut start) regions j old.region old.there in
      let one : r ≡ shut start old.region = cc in
      subst (λ (x : Region). IsRegionOf w d (closed j) x) (sym one) (by_number old (number_cases j k))
    where
      by_number : (old : HasRegion w s regions j d) → (j ≡ k) ⊎ (j ≡ k → ⊥) → IsRegionOf w d (closed j) (shut start old.region)
      by_number old cases = ⊎_elim
          (λ (same : j ≡ k).
          let at_start : old.region.start ≡ start = old.start ∙ ap (object_start (heap_of s.classes regions)) same in
          let test : nat_eq old.region.start start ≡ true = ap (λ (n : ℕ). nat_eq n start) at_start ∙ same_number start in
          let now : closed j ≡ true = ap closed same ∙ closing.here in
          subst (λ (b : Bool). IsRegionOf w d (closed j) (if b then record old.region { is_open = false } else old.region)) (sym test)
          (record { known = old.of.known; size = old.of.size; is_open = sym (ap not now); positive = old.of.positive; limit = old.of.limit }))
          (λ other.
          let test : nat_eq old.region.start start ≡ false = other_number old.region.start start (λ e. starts_apart j d there other (sym old.start ∙ e)) in
          subst (λ (b : Bool). IsRegionOf w d (closed j) (if b then record old.region { is_open = false } else old.region)) (sym test)
          (subst (λ (b : Bool). IsRegionOf w d b old.region) (sym (closing.others j other)) old.of))
          cases

  -- how the machine lists it
  listed_after : (j : ℕ) (d : ClassId) (r : Region) → slice_get s.classes j ≡ Some d → slice_get (map (shut start) regions) j ≡ Some r → slice_get opened j ≡ Some (listed_as j d r)
  listed_after j d r there found =
      let old = slice_get-shut regions start j r found in
      o.listed j d old.0 there old.1 ∙ same old.0 old.2 old.3
    where
      same : (q : Region) → q.start ≡ r.start → q.size ≡ r.size → Some (listed_as j d q) ≡ Some (listed_as j d r)
      same q e f = rw (e, f) refl

  pub objects_closed : ObjectsStand w (with_closed s closed) (map (shut start) regions) opened heap
  objects_closed = record {
    count = length-map regions (shut start) ∙ o.count;
    ascending = IsAscending-shut regions start o.ascending;
    region = region_after;
    listed_count = o.listed_count;
    listed = listed_after;
    region_sum = total_of-shut regions start ∙ o.region_sum;
    heap_sum = o.heap_sum;
  }
