-- What it means that memory, heap objects and notes stand for the objects of a state.
use Rattle.std.specs.Prelude.{◌≡◌, ◌<◌, ◌+◌, ◌^◌, ℕ, Bool, true, false, not, if◌then◌else◌, Option, Some, None, List, length, slice_get}
use Rattle.cxx_hierarchy.specs.declared.records.ClassId.{ClassId}
use Rattle.cxx_hierarchy.specs.declared.records.ValueType.{ValueType}
use Rattle.cxx_subobject.specs.declared.Subobject.{Subobject}
use Rattle.cxx_subobject.specs.Subobjects.{IsSubobject, class_of, whole_of}
use Rattle.cxx_subobject.specs.Locations.{Step, ObjectPart}
use Rattle.abi_slots.specs.Views.{View}
use Rattle.path_plan.specs.Places.{part}
use Rattle.path_plan.specs.Phases.{Phases, Phase, Raw, InBases, ReadyBuilding, Complete, ReadyEnding, EndingBases, Ended, is_ready}
use Rattle.path_plan.specs.Views.{view}
use Rattle.path_model.specs.Values.{Leaf, Objects, inner_part}
use Rattle.path_model.specs.TypedStates.{IsPartMade, IsLeafMade}
use Rattle.path_model.specs.Runs.{heap_total}
use Rattle.abi_primary.specs.Kinds.{IsDynamic}
use Rattle.abi_slots.specs.declared.words.Group.{Group}
use Rattle.abi_slots.specs.Seen.{PlacedTables, IsPointOf}
use Rattle.abi_vtt.specs.Vtts.{has_vtt}
use Rattle.byte_memory.specs.Store.{Store}
use Rattle.byte_memory.specs.Regions.{IsAscending, total_of}
use Rattle.byte_memory.specs.declared.memory.Region.{Region}
use Rattle.byte_code.specs.declared.op.Phase.{Phase as BytePhase}
use Rattle.byte_code.specs.declared.op.Phase.TheVariants.{InBases as ByteInBases, ReadyBuilding as ByteReadyBuilding, Complete as ByteComplete, ReadyEnding as ByteReadyEnding, EndingBases as ByteEndingBases, Ended as ByteEnded}
use Rattle.byte_code.specs.Images.{word_at}
use Rattle.byte_shadow.specs.Shadows.{Notes}
use Rattle.byte_machine.specs.declared.heap.Opened.{Opened}
use Rattle.byte_machine.specs.Running.{table_of}
use Rattle.agree_parts.specs.Heaps.{Heap}
use Rattle.agree_parts.specs.Addresses.{address, leaf_bits}
use Rattle.agree_relation.specs.Worlds.{World, world_classes, places_in}
use Rattle.agree_relation.specs.Words.{heap_of, AreBitsOf}

-- objects

-- the region of an object of class c
pub record IsRegionOf (w : World) (c : ClassId) (is_closed : Bool) (region : Region) : Type 0 where
  pub known : c.0 < length (world_classes w)
  pub size : region.size ≡ (places_in w).size c
  pub is_open : region.is_open ≡ not is_closed
  pub positive : 0 < region.start
  pub limit : region.start + region.size < 2 ^ 41

-- how the machine lists object k, which it counts from 1
abbrev pub listed_as : ℕ → ClassId → Region → Opened
listed_as k c region = record { number = k + 1; start = region.start; size = region.size; class = c.0 }

-- the n-th region is that of the n-th object, open or closed, and the machine lists the same objects
pub record ObjectsStand (w : World) (s : Objects) (regions : List Region) (opened : List Opened) (heap : ℕ) : Type 0 where
  pub count : length regions ≡ length s.classes
  pub ascending : IsAscending regions
  pub region : (k : ℕ) (c : ClassId) (r : Region) → slice_get s.classes k ≡ Some c → slice_get regions k ≡ Some r → IsRegionOf w c (s.is_closed k) r
  pub listed_count : length opened ≡ length s.classes
  pub listed : (k : ℕ) (c : ClassId) (r : Region) → slice_get s.classes k ≡ Some c → slice_get regions k ≡ Some r → slice_get opened k ≡ Some (listed_as k c r)
  pub region_sum : total_of regions ≡ heap_total (places_in w).size s.classes
  pub heap_sum : heap ≡ heap_total (places_in w).size s.classes

-- leaves

-- the bits of each leaf of an open object are its value
pub record LeavesStand (w : World) (s : Objects) (memory : Store) : Type 0 where
  pub leaf : (a : Leaf) (t : ValueType ClassId) → IsLeafMade (world_classes w) s.classes a t → s.is_closed a.part.object ≡ false →
      AreBitsOf w (heap_of s.classes memory.regions) (s.leaf a) memory.bit (leaf_bits (world_classes w) (places_in w) (heap_of s.classes memory.regions) a)

-- phases and views

-- what the shadow notes of a phase: nothing of what was not begun
abbrev pub noted_phase : Phase → Option BytePhase
noted_phase Raw = None
noted_phase InBases = Some ByteInBases
noted_phase ReadyBuilding = Some ByteReadyBuilding
noted_phase Complete = Some ByteComplete
noted_phase ReadyEnding = Some ByteReadyEnding
noted_phase EndingBases = Some ByteEndingBases
noted_phase Ended = Some ByteEnded

-- an address and a class number are those of a part
pub record AddressesPart (w : World) (g : Heap) (q : ObjectPart) (c : ClassId) (at class : ℕ) : Type 0 where
  pub made : IsPartMade (world_classes w) g.classes q c
  pub at_is : at ≡ address (world_classes w) (places_in w) g q
  pub class_is : class ≡ c.0

-- the pair of a part, as the shadow keeps it
abbrev pub shadow_pair : World → Heap → ObjectPart → ClassId → ℕ × ℕ
shadow_pair w g q c = (address (world_classes w) (places_in w) g q, c.0)

-- each part of an object that was made has its phase noted, and its complete object where it was begun; and nothing else is noted
pub record PhasesStand (w : World) (g : Heap) (s : Phases) (notes : Notes) : Type 0 where
  pub phase : (q : ObjectPart) (c : ClassId) → IsPartMade (world_classes w) g.classes q c → notes.phase (address (world_classes w) (places_in w) g q) c.0 ≡ noted_phase (s.phase q)
  pub owner : (q : ObjectPart) (c d : ClassId) → IsPartMade (world_classes w) g.classes q c → IsPartMade (world_classes w) g.classes (part q.object q.owner (whole_of d)) d → (s.phase q ≡ Raw → ⊥) →
      notes.owner (address (world_classes w) (places_in w) g q) c.0 ≡ Some (shadow_pair w g (part q.object q.owner (whole_of d)) d)
  pub only : (at class : ℕ) (x : BytePhase) → notes.phase at class ≡ Some x → (q : ObjectPart) × (c : ClassId) × AddressesPart w g q c at class

-- each complete object that has a view has it noted
pub record ViewsAreNoted (w : World) (g : Heap) (s : Phases) (notes : Notes) : Type 0 where
  pub view : (k : ℕ) (o : List Step) (d c : ClassId) (x : Subobject) → IsPartMade (world_classes w) g.classes (part k o (whole_of d)) d → view s k o d ≡ Some x → IsPartMade (world_classes w) g.classes (part k o x) c →
      notes.view (address (world_classes w) (places_in w) g (part k o (whole_of d))) d.0 ≡ Some (shadow_pair w g (part k o x) c)

-- virtual pointers

-- the view whose group serves x, of class c, in a complete object of class d: that of x there where c has a virtual base, else that of the class alone
abbrev pub group_view : World → ClassId → Subobject → ClassId → View
group_view w d x c = if has_vtt (world_classes w) c then record { complete = d; at_sub = x; class = c } else record { complete = c; at_sub = whole_of c; class = c }

-- the tables of the group of a view, where they stand in the image
pub record ArePlacedFor (w : World) (x : View) (placed : PlacedTables) : Type 0 where
  pub number : ℕ
  pub group : Group
  pub there : slice_get w.groups number ≡ Some group
  pub named : group.name ≡ record { complete = x.complete; view = x.at_sub }
  pub is : placed ≡ record { image = word_at w.image; codes = w.numbers; info = w.addresses.info; tables = group.tables; at = w.addresses.group number }

-- the virtual pointer of each dynamic subobject of the part q, of class c, in a complete object of class d, is the address point of the table that serves it in the group of q as a view
pub record HasPointers (w : World) (g : Heap) (memory : Store) (q : ObjectPart) (c d : ClassId) : Type 0 where
  pub placed : PlacedTables
  pub stand : ArePlacedFor w (group_view w d q.at c) placed
  pub pointer : (i : Subobject) (e : ClassId) → IsSubobject (world_classes w) c i → class_of i ≡ Some e → IsDynamic (world_classes w) e →
      (point : ℕ) × (table_of memory (address (world_classes w) (places_in w) g (inner_part q i)) ≡ Some point) × IsPointOf (world_classes w) (places_in w) (group_view w d q.at c) placed i point

-- so are those of each view that is ready and dynamic
pub record PointersStand (w : World) (g : Heap) (s : Objects) (memory : Store) : Type 0 where
  pub pointers : (k : ℕ) (o : List Step) (d c : ClassId) (x : Subobject) → IsPartMade (world_classes w) g.classes (part k o (whole_of d)) d → IsPartMade (world_classes w) g.classes (part k o x) c →
      s.is_closed k ≡ false → view s.phases k o d ≡ Some x → is_ready (s.phases.phase (part k o x)) ≡ true → IsDynamic (world_classes w) c → HasPointers w g memory (part k o x) c d

-- all columns of objects
pub record ColumnsStand (w : World) (s : Objects) (memory : Store) (opened : List Opened) (heap : ℕ) (notes : Notes) : Type 0 where
  pub objects : ObjectsStand w s memory.regions opened heap
  pub leaves : LeavesStand w s memory
  pub phases : PhasesStand w (heap_of s.classes memory.regions) s.phases notes
  pub views : ViewsAreNoted w (heap_of s.classes memory.regions) s.phases notes
  pub pointers : PointersStand w (heap_of s.classes memory.regions) s memory
