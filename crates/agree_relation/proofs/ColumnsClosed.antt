-- After a heap object was closed all columns stand.
use Rattle.std.proofs.Common.{◌≡◌, ℕ, ◌*◌, ◌+◌, ◌<◌, ◌≤◌, ⊎_elim, inl, inr, Bool, false, Some, List, ap, sym, ◌∙◌, arith, map, subst}
use Rattle.std.specs.Prelude.{slice_get}
use Rattle.foundation.proofs.Truth.{not_both}
use Rattle.cxx_hierarchy.specs.declared.records.ClassId.{ClassId}
use Rattle.cxx_hierarchy.specs.declared.records.ValueType.{ValueType}
use Rattle.path_model.specs.Values.{Leaf, Objects, inner_part}
use Rattle.path_model.specs.TypedStates.{IsLeafMade, IsPartMade}
use Rattle.abi_sound.specs.Locations.{Span}
use Rattle.byte_memory.specs.Store.{Store, close_of}
use Rattle.byte_shadow.specs.Shadows.{Notes}
use Rattle.byte_machine.specs.declared.heap.Opened.{Opened}
use Rattle.byte_machine.specs.Running.{table_of}
use Rattle.agree_parts.specs.Heaps.{Heap, object_start}
use Rattle.agree_parts.specs.Addresses.{address, span, leaf_bits}
use Rattle.agree_parts.specs.Placed.{LieIn, BitsLieIn}
use Rattle.abi_primary.specs.Kinds.{IsDynamic}
use Rattle.agree_parts.proofs.Objects.{object_there, bits_apart, bits_of_bytes}
use Rattle.agree_parts.proofs.Inside.{leaf_inside, pointer_inside}
use Rattle.byte_memory.proofs.ByBits.{number_from-kept}
use Rattle.byte_memory.specs.Regions.{shut, fault_at}
use Rattle.agree_relation.proofs.Reached.{pointer_open}
use Rattle.agree_relation.proofs.Pointers.{table_same, pointers_kept}
use Rattle.agree_parts.proofs.Made.{inner_is_made}
use Rattle.cxx_subobject.specs.Locations.{ObjectPart}
use Rattle.path_plan.specs.Places.{part}
use Rattle.agree_relation.specs.Worlds.{World, IsProgramWorld, world_classes, places_in}
use Rattle.agree_relation.specs.Words.{heap_of, AreBitsOf}
use Rattle.agree_relation.specs.Columns.{ColumnsStand, ObjectsStand, PhasesStand, ViewsAreNoted, PointersStand}
use Rattle.agree_relation.proofs.Objects.{objects_placed, objects_laid}
use Rattle.agree_relation.proofs.Values.{bits_same}
use Rattle.agree_relation.proofs.Closing.{IsClosing, cleared_outside, with_closed, heap_shut, objects_closed}

module _ (w : World) (s : Objects) (memory : Store) (opened : List Opened) (heap : ℕ) (notes : Notes) (k : ℕ) (c : ClassId) (closed : ℕ → Bool) (world : IsProgramWorld w) (columns : ColumnsStand w s memory opened heap notes) (class : slice_get s.classes k ≡ Some c) (closing : IsClosing s k closed) where
  abbrev g : Heap
  g = heap_of s.classes memory.regions

  abbrev start : ℕ
  start = object_start (heap_of s.classes memory.regions) k

  abbrev size : ℕ
  size = (places_in w).size c

  abbrev after : Store
  after = close_of memory (object_start (heap_of s.classes memory.regions) k) ((places_in w).size c)

  -- bits in other objects are the same
  bits_inside : (j : ℕ) (y : Span) → BitsLieIn (places_in w) g j y → (j ≡ k → ⊥) → (x : ℕ) → y.start ≤ x → x < y.start + y.length → after.bit x ≡ memory.bit x
  bits_inside j y inside other x low high =
      let placed = objects_placed w s memory.regions opened heap columns.objects in
      let whole : LieIn (places_in w) g k start size = record { class = c; start = start; object = object_there (world_classes w) (places_in w) g k c placed class; low = omega arith; high = omega arith } in
      let apart = bits_apart (world_classes w) (places_in w) g j k y (span (8 * start) (8 * size)) placed inside (bits_of_bytes (places_in w) g k start size whole) other in
      cleared_outside memory.bit (8 * start) (8 * size) x (⊎_elim (λ before. inl (omega arith)) (λ behind. inr (omega arith)) apart)

  kept_inside : (j at n : ℕ) → LieIn (places_in w) g j at n → (j ≡ k → ⊥) → (x : ℕ) → 8 * at ≤ x → x < 8 * at + 8 * n → after.bit x ≡ memory.bit x
  kept_inside j at n inside other = bits_inside j (span (8 * at) (8 * n)) (bits_of_bytes (places_in w) g j at n inside) other

  -- an object that is open is another one, and was open
  other_open : (j : ℕ) → closed j ≡ false → j ≡ k → ⊥
  other_open j open_there same = not_both (ap closed same ∙ closing.here) (sym (sym open_there))

  was_open : (j : ℕ) → closed j ≡ false → s.is_closed j ≡ false
  was_open j open_there = sym (closing.others j (other_open j open_there)) ∙ open_there

  leaf_after : (a : Leaf) (t : ValueType ClassId) → IsLeafMade (world_classes w) s.classes a t → closed a.part.object ≡ false → AreBitsOf w g (s.leaf a) after.bit (leaf_bits (world_classes w) (places_in w) g a)
  leaf_after a t made open_there =
      let inside = leaf_inside (world_classes w) w.setup.rows g a t (objects_laid w s memory.regions opened heap world columns.objects) made in
      bits_same w g (s.leaf a) memory.bit after.bit (leaf_bits (world_classes w) (places_in w) g a) (bits_inside a.part.object _ inside (other_open a.part.object open_there)) (columns.leaves.leaf a t made (was_open a.part.object open_there))

  abbrev objects_now : ObjectsStand w (with_closed s closed) (map (shut (object_start (heap_of s.classes memory.regions) k)) memory.regions) opened heap
  objects_now = objects_closed w s memory.regions opened heap k c closed world columns.objects class closing

  same_heap : heap_of s.classes (map (shut start) memory.regions) ≡ g
  same_heap = heap_shut w s memory.regions opened heap start columns.objects

  table_after : (p : ObjectPart) (d : ClassId) → IsPartMade (world_classes w) s.classes p d → IsDynamic (world_classes w) d → closed p.object ≡ false → table_of after (address (world_classes w) (places_in w) g p) ≡ table_of memory (address (world_classes w) (places_in w) g p)
  table_after p d made dynamic open_there =
      let at = address (world_classes w) (places_in w) g p in
      let old = pointer_open w s memory.regions opened heap p d world columns.objects made dynamic (was_open p.object open_there) in
      let now = pointer_open w (with_closed s closed) (map (shut start) memory.regions) opened heap p d world objects_now made dynamic open_there in
      let inside = pointer_inside (world_classes w) w.setup.rows g p d (objects_laid w s memory.regions opened heap world columns.objects) made dynamic in
      table_same memory after at
      (ap (λ (h : Heap). fault_at (map (shut start) memory.regions) (address (world_classes w) (places_in w) h p) 8) (sym same_heap) ∙ (now ∙ sym old))
      (number_from-kept (8 * 8) after.bit memory.bit (8 * at) (kept_inside p.object at 8 inside (other_open p.object open_there)))

  pointers_after : PointersStand w g (with_closed s closed) after
  pointers_after = record {
    pointers = λ j o d e x whole there open_there seen ready dynamic.
        pointers_kept w g memory after (part j o x) e d
        (record { each = λ i f valid of_class dynamic_base. table_after (inner_part (part j o x) i) f (inner_is_made (world_classes w) g (part j o x) e f i there valid of_class) dynamic_base open_there })
        (columns.pointers.pointers j o d e x whole there (was_open j open_there) seen ready dynamic);
  }

  -- all columns; of the closed object no leaf and no virtual pointer is owed
  pub object_closed : ColumnsStand w (with_closed s closed) (close_of memory (object_start (heap_of s.classes memory.regions) k) ((places_in w).size c)) opened heap notes
  object_closed = record {
    objects = objects_now;
    leaves = record {
      leaf = λ a t made open_there. subst (λ (h : Heap). AreBitsOf w h (s.leaf a) after.bit (leaf_bits (world_classes w) (places_in w) h a)) (sym same_heap) (leaf_after a t made open_there);
    };
    phases = subst (λ (h : Heap). PhasesStand w h s.phases notes) (sym same_heap) columns.phases;
    views = subst (λ (h : Heap). ViewsAreNoted w h s.phases notes) (sym same_heap) columns.views;
    pointers = subst (λ (h : Heap). PointersStand w h (with_closed s closed) after) (sym same_heap) pointers_after;
  }
