-- The heap objects of a state in memory: they lie apart, their regions are theirs, and the machine lists them.
use Rattle.std.proofs.Common.{◌≡◌, ℕ, Some, List, [], refl, ap, sym, ◌∙◌, arith}
use Rattle.std.specs.Prelude.{slice_get}
use Rattle.std.proofs.lemmas.List.{length-map}
use Rattle.cxx_hierarchy.specs.declared.records.ClassId.{ClassId}
use Rattle.cxx_hierarchy.proofs.Listed.{get_map}
use Rattle.cxx_subobject.specs.Subobjects.{whole_of}
use Rattle.path_plan.specs.Places.{part}
use Rattle.path_model.specs.Values.{Objects}
use Rattle.byte_memory.specs.declared.memory.Region.{Region}
use Rattle.byte_machine.specs.declared.heap.Opened.{Opened}
use Rattle.agree_parts.specs.Heaps.{Heap, or_zero, object_start}
use Rattle.agree_parts.specs.Addresses.{address}
use Rattle.agree_parts.specs.Placed.{AreObjectsPlaced, AreObjectsLaid}
use Rattle.agree_parts.specs.Regions.{AreRegions}
use Rattle.agree_parts.proofs.Objects.{also_there}
use Rattle.agree_parts.proofs.Found.{object_region}
use Rattle.agree_relation.specs.Worlds.{World, IsProgramWorld, world_classes, places_in}
use Rattle.agree_relation.specs.Words.{start_in, heap_of}
use Rattle.agree_relation.specs.Columns.{IsRegionOf, ObjectsStand}

-- the regions are those of the objects
pub objects_regions : (w : World) (s : Objects) (regions : List Region) (opened : List Opened) (heap : ℕ) → ObjectsStand w s regions opened heap → AreRegions (places_in w) (heap_of s.classes regions) regions
objects_regions w s regions opened heap o = record { starts = refl; sizes = λ k r c there class. (o.region k c r class there).size }

-- the region of an object
pub record HasRegion (w : World) (s : Objects) (regions : List Region) (k : ℕ) (c : ClassId) : Type 0 where
  pub region : Region
  pub there : slice_get regions k ≡ Some region
  pub of : IsRegionOf w c (s.is_closed k) region
  pub start : region.start ≡ object_start (heap_of s.classes regions) k

pub object_has_region : (w : World) (s : Objects) (regions : List Region) (opened : List Opened) (heap k : ℕ) (c : ClassId) → ObjectsStand w s regions opened heap → slice_get s.classes k ≡ Some c → HasRegion w s regions k c
object_has_region w s regions opened heap k c o class =
    let found = also_there s.classes regions k c o.count class in
    record { region = found.0; there = found.1; of = o.region k c found.0 class found.1; start = started found.0 found.1 }
  where
    started : (r : Region) → slice_get regions k ≡ Some r → r.start ≡ object_start (heap_of s.classes regions) k
    started r there = sym (ap or_zero (get_map start_in regions k r there))

-- the objects lie apart
pub objects_placed : (w : World) (s : Objects) (regions : List Region) (opened : List Opened) (heap : ℕ) → ObjectsStand w s regions opened heap → AreObjectsPlaced (world_classes w) (places_in w) (heap_of s.classes regions)
objects_placed w s regions opened heap o =
    let g = heap_of s.classes regions in
    let l = places_in w in
    let areas = objects_regions w s regions opened heap o in
    record {
      one_each = length-map regions start_in ∙ o.count;
      known = λ k c class. (object_has_region w s regions opened heap k c o class).of.known;
      positive = λ k c start object. let r = object_region l g regions k c start areas object in let above = (o.region k c r.0 object.class r.1).positive in let e = r.2 in omega arith;
      limit = λ k c start object. let r = object_region l g regions k c start areas object in let below = (o.region k c r.0 object.class r.1).limit in let e = r.2 in let f = r.3 in omega arith;
      ascending = λ i j c d first second less a b.
          let r = object_region l g regions i c first areas a in
          let q = object_region l g regions j d second areas b in
          let apart = o.ascending i j r.0 q.0 less r.1 q.1 in
          let e = r.2 in
          let f = r.3 in
          let e' = q.2 in
          omega arith;
    }

-- they are objects of the program's hierarchy, by its layout
pub objects_laid : (w : World) (s : Objects) (regions : List Region) (opened : List Opened) (heap : ℕ) → IsProgramWorld w → ObjectsStand w s regions opened heap → AreObjectsLaid (world_classes w) w.setup.rows (heap_of s.classes regions)
objects_laid w s regions opened heap world o = record { hierarchy = world.hierarchy; sound = world.sound; placed = objects_placed w s regions opened heap o }

-- where a heap object starts is the address of its whole
pub whole_address : (w : World) (g : Heap) (k : ℕ) (c : ClassId) → slice_get g.classes k ≡ Some c → address (world_classes w) (places_in w) g (part k [] (whole_of c)) ≡ object_start g k
whole_address w g k c class = rw class (omega arith)
