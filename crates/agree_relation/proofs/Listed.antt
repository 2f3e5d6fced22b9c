-- The machine lists the heap objects of a state, and finds the one at an address.
use Rattle.std.proofs.Common.{◌≡◌, ℕ, suc, ◌+◌, Some, List, [], ◌∷◌, length, map, refl, ap, sym, ◌∙◌, arith}
use Rattle.std.specs.Prelude.{slice_get}
use Rattle.cxx_hierarchy.specs.declared.records.ClassId.{ClassId}
use Rattle.cxx_subobject.specs.Locations.{ObjectPart}
use Rattle.path_model.specs.Values.{Objects}
use Rattle.path_model.specs.TypedStates.{IsPartMade}
use Rattle.byte_memory.specs.declared.memory.Region.{Region}
use Rattle.byte_machine.specs.declared.heap.Opened.{Opened}
use Rattle.byte_machine.specs.Heap.{object_at}
use Rattle.agree_parts.specs.Heaps.{Heap, object_start}
use Rattle.agree_parts.specs.Addresses.{address}
use Rattle.agree_parts.specs.Placed.{LieIn}
use Rattle.agree_parts.specs.Regions.{AreExtents}
use Rattle.agree_parts.proofs.Found.{item_found}
use Rattle.agree_parts.proofs.Inside.{part_inside}
use Rattle.agree_parts.proofs.Objects.{also_there}
use Rattle.agree_relation.specs.Worlds.{World, IsProgramWorld, world_classes, places_in}
use Rattle.agree_relation.specs.Words.{start_in, heap_of}
use Rattle.agree_relation.specs.Columns.{listed_as, ObjectsStand}
use Rattle.agree_relation.proofs.Objects.{objects_placed, objects_laid, object_has_region}

-- how the machine lists object k of a heap, which is of class c
abbrev pub listed_in : World → Heap → ℕ → ClassId → Opened
listed_in w g k c = record { number = k + 1; start = object_start g k; size = (places_in w).size c; class = c.0 }

pub object_listed : (w : World) (s : Objects) (regions : List Region) (opened : List Opened) (heap k : ℕ) (c : ClassId) → ObjectsStand w s regions opened heap → slice_get s.classes k ≡ Some c → slice_get opened k ≡ Some (listed_in w (heap_of s.classes regions) k c)
object_listed w s regions opened heap k c o class =
    let r = object_has_region w s regions opened heap k c o class in
    o.listed k c r.region class r.there ∙ same r.region r.start r.of.size
  where
    same : (r : Region) → r.start ≡ object_start (heap_of s.classes regions) k → r.size ≡ (places_in w).size c → Some (listed_as k c r) ≡ Some (listed_in w (heap_of s.classes regions) k c)
    same r e f = rw (e, f) refl

-- two lists of one length, whose items go along
same_maps : {X Y : Type 0} (f : X → ℕ) (g : Y → ℕ) (xs : List X) (ys : List Y) → length xs ≡ length ys → ((k : ℕ) (x : X) (y : Y) → slice_get xs k ≡ Some x → slice_get ys k ≡ Some y → f x ≡ g y) → map f xs ≡ map g ys
same_maps f g [] [] e along = refl
same_maps f g [] (y ∷ ys) e along = absurd (omega arith)
same_maps f g (x ∷ xs) [] e along = absurd (omega arith)
same_maps f g (x ∷ xs) (y ∷ ys) e along =
    let first : f x ≡ g y = along 0 x y refl refl in
    let rest : map f xs ≡ map g ys = same_maps f g xs ys (omega arith) (λ k a b here there. along (suc k) a b here there) in
    cc

-- what the machine lists goes along with the objects
pub listed_extents : (w : World) (s : Objects) (regions : List Region) (opened : List Opened) (heap : ℕ) → ObjectsStand w s regions opened heap → AreExtents (places_in w) (heap_of s.classes regions) (λ (object : Opened). object.start) (λ object. object.size) opened
listed_extents w s regions opened heap o = record {
  starts = same_maps (λ (object : Opened). object.start) start_in opened regions (o.listed_count ∙ sym o.count) (λ k x r here there.
      let c = also_there regions s.classes k r (sym o.count) there in
      let is : Some x ≡ Some (listed_as k c.0 r) = sym here ∙ o.listed k c.0 r c.1 there in
      let one : x ≡ listed_as k c.0 r = cc in
      ap (λ (object : Opened). object.start) one);
  sizes = λ k x c here class.
      let is : Some x ≡ Some (listed_in w (heap_of s.classes regions) k c) = sym here ∙ object_listed w s regions opened heap k c o class in
      let one : x ≡ listed_in w (heap_of s.classes regions) k c = cc in
      ap (λ (object : Opened). object.size) one;
}

-- the object at an address that lies in one
pub object_found : (w : World) (s : Objects) (regions : List Region) (opened : List Opened) (heap k at : ℕ) (c : ClassId) → ObjectsStand w s regions opened heap → LieIn (places_in w) (heap_of s.classes regions) k at 1 → slice_get s.classes k ≡ Some c →
    object_at opened at ≡ Some (listed_in w (heap_of s.classes regions) k c)
object_found w s regions opened heap k at c o inside class =
    item_found (world_classes w) (places_in w) (heap_of s.classes regions) (λ (object : Opened). object.start) (λ object. object.size) opened k at (objects_placed w s regions opened heap o) (listed_extents w s regions opened heap o) inside
    ∙ object_listed w s regions opened heap k c o class

-- the heap object of a part
pub part_listed : (w : World) (s : Objects) (regions : List Region) (opened : List Opened) (heap : ℕ) (p : ObjectPart) (c d : ClassId) → IsProgramWorld w → ObjectsStand w s regions opened heap → IsPartMade (world_classes w) s.classes p c → slice_get s.classes p.object ≡ Some d →
    object_at opened (address (world_classes w) (places_in w) (heap_of s.classes regions) p) ≡ Some (listed_in w (heap_of s.classes regions) p.object d)
part_listed w s regions opened heap p c d world o made class =
    let g = heap_of s.classes regions in
    object_found w s regions opened heap p.object (address (world_classes w) (places_in w) g p) d o (part_inside (world_classes w) w.setup.rows g p c (objects_laid w s regions opened heap world o) made) class
