-- The bytes of parts, leaves and virtual pointers can be reached where their object is open, and are refused as closed else.
use Rattle.std.proofs.Common.{◌≡◌, ℕ, ◌<◌, true, false, Some, None, List, ap, ◌∙◌, arith}
use Rattle.std.specs.Prelude.{not}
use Rattle.cxx_hierarchy.specs.declared.records.ClassId.{ClassId}
use Rattle.cxx_hierarchy.specs.declared.records.ValueType.{ValueType}
use Rattle.cxx_hierarchy.specs.declared.records.FieldType.TheVariants.{Value as ValueField}
use Rattle.cxx_hierarchy.specs.Classes.{width_of_member}
use Rattle.cxx_subobject.specs.Locations.{IsElement, ObjectPart}
use Rattle.path_model.specs.Values.{Leaf, Objects}
use Rattle.path_model.specs.TypedStates.{IsPartMade}
use Rattle.abi_primary.specs.Kinds.{IsDynamic}
use Rattle.abi_sound.specs.Locations.{bits_of_value}
use Rattle.byte_memory.specs.declared.memory.Region.{Region}
use Rattle.byte_memory.specs.declared.memory.MemoryFault.TheVariants.{Closed}
use Rattle.byte_memory.specs.Regions.{fault_at}
use Rattle.byte_memory.specs.Store.{byte_span}
use Rattle.byte_machine.specs.declared.heap.Opened.{Opened}
use Rattle.agree_parts.specs.Addresses.{address, leaf_address}
use Rattle.agree_parts.specs.Placed.{LieIn}
use Rattle.agree_parts.proofs.Found.{reached_open, refused_closed}
use Rattle.agree_parts.proofs.Inside.{part_inside, leaf_bytes, pointer_inside}
use Rattle.agree_parts.proofs.Sizes.{element_some}
use Rattle.agree_relation.specs.Worlds.{World, IsProgramWorld, world_classes, places_in}
use Rattle.agree_relation.specs.Words.{heap_of}
use Rattle.agree_relation.specs.Columns.{ObjectsStand}
use Rattle.agree_relation.proofs.Objects.{objects_regions, objects_placed, objects_laid, object_has_region}

-- bytes in an object

pub inside_open : (w : World) (s : Objects) (regions : List Region) (opened : List Opened) (heap k at n : ℕ) → ObjectsStand w s regions opened heap → 0 < n → LieIn (places_in w) (heap_of s.classes regions) k at n → s.is_closed k ≡ false → fault_at regions at n ≡ None
inside_open w s regions opened heap k at n o some inside open_there =
    let r = object_has_region w s regions opened heap k inside.class o inside.object.class in
    reached_open (world_classes w) (places_in w) (heap_of s.classes regions) regions r.region k at n (objects_placed w s regions opened heap o) (objects_regions w s regions opened heap o) some inside r.there (r.of.is_open ∙ ap not open_there)

pub inside_closed : (w : World) (s : Objects) (regions : List Region) (opened : List Opened) (heap k at n : ℕ) → ObjectsStand w s regions opened heap → 0 < n → LieIn (places_in w) (heap_of s.classes regions) k at n → s.is_closed k ≡ true → fault_at regions at n ≡ Some (Closed at)
inside_closed w s regions opened heap k at n o some inside shut_there =
    let r = object_has_region w s regions opened heap k inside.class o inside.object.class in
    refused_closed (world_classes w) (places_in w) (heap_of s.classes regions) regions r.region k at n (objects_placed w s regions opened heap o) (objects_regions w s regions opened heap o) some inside r.there (r.of.is_open ∙ ap not shut_there)

-- the address of a part

pub part_open : (w : World) (s : Objects) (regions : List Region) (opened : List Opened) (heap : ℕ) (p : ObjectPart) (c : ClassId) → IsProgramWorld w → ObjectsStand w s regions opened heap → IsPartMade (world_classes w) s.classes p c → s.is_closed p.object ≡ false →
    fault_at regions (address (world_classes w) (places_in w) (heap_of s.classes regions) p) 1 ≡ None
part_open w s regions opened heap p c world o made open_there =
    let g = heap_of s.classes regions in
    inside_open w s regions opened heap p.object (address (world_classes w) (places_in w) g p) 1 o (omega arith) (part_inside (world_classes w) w.setup.rows g p c (objects_laid w s regions opened heap world o) made) open_there

pub part_closed : (w : World) (s : Objects) (regions : List Region) (opened : List Opened) (heap : ℕ) (p : ObjectPart) (c : ClassId) → IsProgramWorld w → ObjectsStand w s regions opened heap → IsPartMade (world_classes w) s.classes p c → s.is_closed p.object ≡ true →
    fault_at regions (address (world_classes w) (places_in w) (heap_of s.classes regions) p) 1 ≡ Some (Closed (address (world_classes w) (places_in w) (heap_of s.classes regions) p))
part_closed w s regions opened heap p c world o made shut_there =
    let g = heap_of s.classes regions in
    inside_closed w s regions opened heap p.object (address (world_classes w) (places_in w) g p) 1 o (omega arith) (part_inside (world_classes w) w.setup.rows g p c (objects_laid w s regions opened heap world o) made) shut_there

-- the bytes that the bits of a leaf touch

bits_touch : (first n : ℕ) → 0 < n → 0 < byte_span first n
bits_touch first n some = omega arith

pub leaf_open : (w : World) (s : Objects) (regions : List Region) (opened : List Opened) (heap : ℕ) (a : Leaf) (c : ClassId) (t : ValueType ClassId) → IsProgramWorld w → ObjectsStand w s regions opened heap → IsPartMade (world_classes w) s.classes a.part c → IsElement (world_classes w) c a.member a.index (ValueField t) → s.is_closed a.part.object ≡ false →
    fault_at regions (leaf_address (world_classes w) (places_in w) (heap_of s.classes regions) a) (byte_span ((places_in w).first c a.member) (bits_of_value (width_of_member (world_classes w) c a.member) t)) ≡ None
leaf_open w s regions opened heap a c t world o made is open_there =
    let g = heap_of s.classes regions in
    let some = element_some (world_classes w) c a.member a.index t world.hierarchy is in
    inside_open w s regions opened heap a.part.object (leaf_address (world_classes w) (places_in w) g a) _ o (bits_touch _ _ some.0) (leaf_bytes (world_classes w) w.setup.rows g a c t (objects_laid w s regions opened heap world o) made is) open_there

-- the 8 bytes of a virtual pointer

pub pointer_open : (w : World) (s : Objects) (regions : List Region) (opened : List Opened) (heap : ℕ) (p : ObjectPart) (c : ClassId) → IsProgramWorld w → ObjectsStand w s regions opened heap → IsPartMade (world_classes w) s.classes p c → IsDynamic (world_classes w) c → s.is_closed p.object ≡ false →
    fault_at regions (address (world_classes w) (places_in w) (heap_of s.classes regions) p) 8 ≡ None
pointer_open w s regions opened heap p c world o made dynamic open_there =
    let g = heap_of s.classes regions in
    inside_open w s regions opened heap p.object (address (world_classes w) (places_in w) g p) 8 o (omega arith) (pointer_inside (world_classes w) w.setup.rows g p c (objects_laid w s regions opened heap world o) made dynamic) open_there
