-- What an event leads to: the columns of the objects after it, and what it tells.
use Rattle.std.proofs.Common.{◌≡◌, ℕ, Bool, ◌+◌, ◌≤◌, ◌<◌, true, false, Option, List, [], append-nil, refl, sym}
use Rattle.cxx_hierarchy.specs.declared.records.ClassId.{ClassId}
use Rattle.cxx_subobject.specs.declared.Subobject.{Subobject}
use Rattle.cxx_subobject.specs.Locations.{ObjectPart}
use Rattle.path_plan.specs.Places.{part}
use Rattle.cxx_hierarchy.specs.declared.records.ValueType.{ValueType}
use Rattle.path_plan.specs.Phases.{Phase, Phases, is_ready}
use Rattle.path_model.specs.TypedStates.{IsLeafMade}
use Rattle.agree_parts.specs.Addresses.{leaf_bits}
use Rattle.agree_relation.proofs.Values.{bits_same}
use Rattle.path_model.specs.Values.{Objects, Leaf}
use Rattle.abi_primary.specs.Kinds.{IsDynamic}
use Rattle.code_ops.specs.Setups.{Routine}
use Rattle.byte_memory.specs.Store.{Store}
use Rattle.byte_memory.specs.declared.memory.Region.{Region}
use Rattle.byte_shadow.specs.Shadows.{Notes}
use Rattle.byte_machine.specs.declared.heap.Opened.{Opened}
use Rattle.byte_machine.specs.declared.turn.RawOut.{RawOut}
use Rattle.agree_parts.specs.Heaps.{Heap}
use Rattle.agree_parts.specs.Placed.{AreObjectsLaid}
use Rattle.agree_relation.specs.Worlds.{World, world_classes, places_in}
use Rattle.agree_relation.specs.Words.{heap_of}
use Rattle.agree_relation.specs.Columns.{ObjectsStand, LeavesStand, ColumnsStand, HasPointers}
use Rattle.agree_relation.specs.Frames.{PlaceNumbers}
use Rattle.agree_events.specs.Events.{KeepsLow, HasToldMore}
use Rattle.agree_events.proofs.Own.{whole_in}
use Rattle.agree_events.proofs.Noted.{IsOnly, Made, HasView, IsPhased, IsViewed, phases_change, views_change, views_here}
use Rattle.agree_events.proofs.Pointed.{KeepsOthers, pointers_change, pointers_here}

pub low_itself : (w : World) (r : Routine) (registers : List (Option ℕ)) → KeepsLow w r registers registers
low_itself w r registers = record { size = refl; low = λ n inside. refl }

pub tells_nothing : (w : World) (at : PlaceNumbers) (g : Heap) (outs : List RawOut) → HasToldMore w at g outs outs []
tells_nothing w at g outs = record { more = []; is = sym (append-nil outs); reads = tt }

-- where only phases change
abbrev pub with_phases : Objects → Phases → Objects
with_phases s phases = record { classes = s.classes; is_closed = s.is_closed; phases = phases; leaf = s.leaf }

abbrev pub with_bits : Store → (ℕ → Option Bool) → Store
with_bits memory bit = record memory { bit = bit }

pub objects_stay : (w : World) (s : Objects) (phases : Phases) (regions : List Region) (opened : List Opened) (heap : ℕ) → ObjectsStand w s regions opened heap → ObjectsStand w (with_phases s phases) regions opened heap
objects_stay w s phases regions opened heap o = record { count = o.count; ascending = o.ascending; region = o.region; listed_count = o.listed_count; listed = o.listed; region_sum = o.region_sum; heap_sum = o.heap_sum }

-- no bit of a leaf changes
abbrev pub KeepsLeaves : World → Heap → (ℕ → Option Bool) → (ℕ → Option Bool) → Type 0
KeepsLeaves w g bit bit' = (a : Leaf) (t : ValueType ClassId) → IsLeafMade (world_classes w) g.classes a t → (i : ℕ) → (leaf_bits (world_classes w) (places_in w) g a).start ≤ i → i < (leaf_bits (world_classes w) (places_in w) g a).start + (leaf_bits (world_classes w) (places_in w) g a).length → bit' i ≡ bit i

pub leaves_stay : (w : World) (s : Objects) (phases : Phases) (memory : Store) (bit' : ℕ → Option Bool) → KeepsLeaves w (heap_of s.classes memory.regions) memory.bit bit' → LeavesStand w s memory → LeavesStand w (with_phases s phases) (with_bits memory bit')
leaves_stay w s phases memory bit' keeps leaves = record {
  leaf = λ a t made is_open.
      let g = heap_of s.classes memory.regions in
      bits_same w g (s.leaf a) memory.bit bit' (leaf_bits (world_classes w) (places_in w) g a) (keeps a t made) (leaves.leaf a t made is_open);
}

-- after an event of p, of class c, whose complete object, of class d, then has the view y, of class e
pub record IsChange (w : World) (g : Heap) (s : Objects) (phases : Phases) (p : ObjectPart) (c d : ClassId) (v : Phase) (memory : Store) (bit' : ℕ → Option Bool) (notes notes' : Notes) : Type 0 where
  pub made : Made w g p c
  pub whole : Made w g (whole_in p d) d
  pub only : IsOnly p s.phases phases
  pub phase : phases.phase p ≡ v
  pub phased : IsPhased w g p c d v notes notes'
  pub viewed : IsViewed w g p d notes notes'
  pub others : KeepsOthers w g s p memory (with_bits memory bit')
  pub leaves : KeepsLeaves w g memory.bit bit'

pub columns_after : (w : World) (s : Objects) (memory : Store) (opened : List Opened) (heap : ℕ) (notes : Notes) → AreObjectsLaid (world_classes w) w.setup.rows (heap_of s.classes memory.regions) → (phases : Phases) (p : ObjectPart) (c d : ClassId) (v : Phase) (bit' : ℕ → Option Bool) (notes' : Notes)
    → IsChange w (heap_of s.classes memory.regions) s phases p c d v memory bit' notes notes' → (y : Subobject) (e : ClassId) → HasView w (heap_of s.classes memory.regions) phases notes' p d y e
    → (is_ready (phases.phase (part p.object p.owner y)) ≡ true → IsDynamic (world_classes w) e → s.is_closed p.object ≡ false → HasPointers w (heap_of s.classes memory.regions) (with_bits memory bit') (part p.object p.owner y) e d)
    → ColumnsStand w s memory opened heap notes → ColumnsStand w (with_phases s phases) (with_bits memory bit') opened heap notes'
columns_after w s memory opened heap notes laid phases p c d v bit' notes' change y e view_has has old = let g = heap_of s.classes memory.regions in record {
  objects = objects_stay w s phases memory.regions opened heap old.objects;
  leaves = leaves_stay w s phases memory bit' change.leaves old.leaves;
  phases = phases_change w g laid s.phases phases notes notes' p c d v change.made change.whole change.only change.phase change.phased old.phases;
  views = views_change w g laid s.phases phases notes notes' p d change.whole change.only change.viewed (views_here w g phases notes' p d y e change.whole view_has) old.views;
  pointers = pointers_change w g s (with_phases s phases) memory (with_bits memory bit') p change.only (λ k is_open. is_open) change.others
      (pointers_here w g (with_phases s phases) (with_bits memory bit') notes' p d y e change.whole view_has (λ is_open ready dynamic. has ready dynamic is_open)) old.pointers;
}
