-- After one more heap object was made all columns stand.
use Rattle.std.proofs.Common.{◌≡◌, ℕ, zero, suc, ◌+◌, ◌<◌, ◌^◌, ⊎_elim, Bool, true, false, Option, Some, None, List, [], ◌∷◌, ◌++◌, length, refl, ap, sym, subst, ◌∙◌, arith}
use Rattle.std.specs.Prelude.{nat_eq, if◌then◌else◌}
use Rattle.cxx_hierarchy.specs.declared.records.ClassId.{ClassId}
use Rattle.cxx_hierarchy.specs.declared.records.ValueType.{ValueType}
use Rattle.cxx_subobject.specs.Subobjects.{whole_of}
use Rattle.cxx_subobject.specs.Locations.{Step, ObjectPart}
use Rattle.path_plan.specs.Places.{part}
use Rattle.path_plan.specs.Phases.{Phases, Raw, is_ready}
use Rattle.path_plan.specs.Runs.{renewed}
use Rattle.path_plan.specs.Views.{view}
use Rattle.path_model.specs.Values.{Value, Unset, Leaf, Objects, inner_part}
use Rattle.path_model.specs.TypedStates.{IsPartMade, IsLeafMade, IsValue}
use Rattle.path_model.specs.Effects.{with_new_object as with_made}
use Rattle.byte_memory.specs.Bits.{number_from}
use Rattle.byte_memory.specs.Regions.{rounded, fault_at}
use Rattle.byte_memory.specs.Store.{Store, IsRoom, open_of}
use Rattle.byte_code.specs.declared.op.Phase.{Phase as BytePhase}
use Rattle.byte_shadow.specs.Shadows.{Notes}
use Rattle.byte_machine.specs.declared.heap.Opened.{Opened}
use Rattle.byte_machine.specs.Heap.{with_heap_object as with_listed}
use Rattle.byte_machine.specs.Running.{table_of}
use Rattle.byte_machine.proofs.Leads.{same_number, other_number}
use Rattle.agree_parts.specs.Heaps.{Heap, object_start}
use Rattle.agree_parts.specs.Addresses.{address, leaf_bits}
use Rattle.agree_parts.specs.Placed.{IsObject, AreObjectsPlaced, AreObjectsLaid}
use Rattle.agree_parts.proofs.Objects.{one_start}
use Rattle.agree_parts.proofs.Growth.{new_object}
use Rattle.agree_parts.proofs.Made.{inner_is_made}
use Rattle.agree_parts.proofs.Inside.{leaf_inside, leaf_some_bits}
use Rattle.agree_parts.proofs.Apart.{one_part}
use Rattle.agree_relation.specs.Worlds.{World, IsProgramWorld, world_classes, places_in}
use Rattle.agree_relation.specs.Words.{heap_of, AreBitsOf}
use Rattle.agree_relation.specs.Columns.{noted_phase, ObjectsStand, LeavesStand, PhasesStand, ViewsAreNoted, HasPointers, PointersStand, ColumnsStand}
use Rattle.agree_relation.proofs.Objects.{objects_placed, objects_laid}
use Rattle.agree_relation.proofs.Reached.{pointer_open}
use Rattle.agree_relation.proofs.Owners.{same_class}
use Rattle.agree_relation.proofs.Pointers.{table_same}
use Rattle.agree_relation.proofs.Grown.{number_cases, heap_grown, part_more, part_less, old_part, leaf_less, address_grown, leaf_grown, word_grown}
use Rattle.agree_relation.proofs.ObjectsMade.{new_region, closed_before, objects_made}

-- a number whose first bit is unset
unset_number : (bit : ℕ → Option Bool) (at n : ℕ) → 0 < n → bit at ≡ None → number_from bit at n ≡ None
unset_number bit at zero some e = absurd (omega arith)
unset_number bit at (suc n) some e = rw e refl

-- the phases and views of other objects than the one that is new
old_phase : (s : Phases) (n : ℕ) (q : ObjectPart) → (q.object ≡ n → ⊥) → (renewed n s).phase q ≡ s.phase q
old_phase s n q old = ap (λ (b : Bool). if b then Raw else s.phase q) (other_number q.object n old)

new_phase : (s : Phases) (n : ℕ) (q : ObjectPart) → q.object ≡ n → (renewed n s).phase q ≡ Raw
new_phase s n q new = ap (λ (b : Bool). if b then Raw else s.phase q) (ap (λ (k : ℕ). nat_eq k n) new ∙ same_number n)

old_view : (s : Phases) (n k : ℕ) (o : List Step) (d : ClassId) → (k ≡ n → ⊥) → view (renewed n s) k o d ≡ view s k o d
old_view s n k o d old = rw (other_number k n old) refl

new_view : (s : Phases) (n k : ℕ) (o : List Step) (d : ClassId) → k ≡ n → view (renewed n s) k o d ≡ None
new_view s n k o d new = let same : nat_eq k n ≡ true = ap (λ (j : ℕ). nat_eq j n) new ∙ same_number n in rw same refl

module _ (w : World) (s : Objects) (memory : Store) (opened : List Opened) (heap : ℕ) (notes : Notes) (c : ClassId) (at : ℕ) (world : IsProgramWorld w) (columns : ColumnsStand w s memory opened heap notes) (known : c.0 < length (world_classes w)) (room : IsRoom memory at ((places_in w).size c)) where
  -- the heap before and after
  abbrev before : Heap
  before = heap_of s.classes memory.regions

  abbrev after : Heap
  after = heap_of (s.classes ++ c ∷ []) (memory.regions ++ new_region at ((places_in w).size c) ∷ [])

  abbrev objects_now : ObjectsStand w (with_made s c) (memory.regions ++ new_region at ((places_in w).size c) ∷ []) (with_listed opened at ((places_in w).size c) c.0) (heap + rounded ((places_in w).size c))
  objects_now = objects_made w s memory.regions opened heap c at columns.objects memory refl known room

  abbrev placed : AreObjectsPlaced (world_classes w) (places_in w) (heap_of s.classes memory.regions)
  placed = objects_placed w s memory.regions opened heap columns.objects

  abbrev laid_now : AreObjectsLaid (world_classes w) w.setup.rows (heap_of (s.classes ++ c ∷ []) (memory.regions ++ new_region at ((places_in w).size c) ∷ []))
  laid_now = objects_laid w (with_made s c) (memory.regions ++ new_region at ((places_in w).size c) ∷ []) (with_listed opened at ((places_in w).size c) c.0) (heap + rounded ((places_in w).size c)) world objects_now

  same_address : (d : ClassId) (p : ObjectPart) → IsPartMade (world_classes w) s.classes p d → address (world_classes w) (places_in w) after p ≡ address (world_classes w) (places_in w) before p
  same_address d p made = address_grown w s.classes memory.regions c d (new_region at ((places_in w).size c)) p placed made

  -- where the new object starts
  new_start : object_start after (length s.classes) ≡ at
  new_start =
      let there : IsObject after (length s.classes) c at = subst (λ (g : Heap). IsObject g (length s.classes) c at) (sym (heap_grown s.classes memory.regions c (new_region at ((places_in w).size c)))) (new_object (world_classes w) (places_in w) before c at placed) in
      sym (one_start after (length s.classes) c at there)

  -- leaves

  new_leaf : (a : Leaf) (t : ValueType ClassId) → IsLeafMade (world_classes w) (s.classes ++ c ∷ []) a t → a.part.object ≡ length s.classes → AreBitsOf w after Unset memory.bit (leaf_bits (world_classes w) (places_in w) after a)
  new_leaf a t made new =
      let there = leaf_bits (world_classes w) (places_in w) after a in
      let inside = leaf_inside (world_classes w) w.setup.rows after a t laid_now made in
      let start : inside.start ≡ at = one_start after a.part.object inside.class inside.start inside.object ∙ (ap (object_start after) new ∙ new_start) in
      let low = inside.low in
      record {
        is = unset_number memory.bit there.start there.length (leaf_some_bits (world_classes w) w.setup.rows after a t laid_now made) (room.fresh there.start (omega arith));
        unset = λ e i less. room.fresh (there.start + i) (omega arith);
      }

  old_leaf : (a : Leaf) (t : ValueType ClassId) → IsLeafMade (world_classes w) s.classes a t → IsValue (world_classes w) s.classes (s.leaf a) t → s.is_closed a.part.object ≡ false →
      AreBitsOf w after (s.leaf a) memory.bit (leaf_bits (world_classes w) (places_in w) after a)
  old_leaf a t made typed open_there =
      let old = columns.leaves.leaf a t made open_there in
      let same = leaf_grown w s.classes memory.regions c (new_region at ((places_in w).size c)) a t placed made in
      subst (AreBitsOf w after (s.leaf a) memory.bit) (sym same)
      (record {
        is = old.is ∙ sym (word_grown w s.classes memory.regions c (new_region at ((places_in w).size c)) (2 ^ (leaf_bits (world_classes w) (places_in w) before a).length) (s.leaf a) t placed typed);
        unset = old.unset;
      })

  leaves_made : ((a : Leaf) (t : ValueType ClassId) → IsLeafMade (world_classes w) s.classes a t → IsValue (world_classes w) s.classes (s.leaf a) t) → LeavesStand w (with_made s c) (open_of memory at ((places_in w).size c))
  leaves_made typed = record {
    leaf = λ a t made open_there. ⊎_elim
        (λ (new : a.part.object ≡ length s.classes).
        subst (λ (v : Value). AreBitsOf w after v memory.bit (leaf_bits (world_classes w) (places_in w) after a))
        (sym (ap (λ (b : Bool). if b then Unset else s.leaf a) (ap (λ (k : ℕ). nat_eq k (length s.classes)) new ∙ same_number (length s.classes)))) (new_leaf a t made new))
        (λ old.
        let there = leaf_less (world_classes w) s.classes c a t made old in
        subst (λ (v : Value). AreBitsOf w after v memory.bit (leaf_bits (world_classes w) (places_in w) after a))
        (sym (ap (λ (b : Bool). if b then Unset else s.leaf a) (other_number a.part.object (length s.classes) old))) (old_leaf a t there (typed a t there) (sym (closed_before s c a.part.object old) ∙ open_there)))
        (number_cases a.part.object (length s.classes));
  }

  -- phases

  -- nothing is noted at a part of the new object
  none_noted : (q : ObjectPart) (d : ClassId) → IsPartMade (world_classes w) (s.classes ++ c ∷ []) q d → q.object ≡ length s.classes → notes.phase (address (world_classes w) (places_in w) after q) d.0 ≡ None
  none_noted q d made new = by_note (notes.phase (address (world_classes w) (places_in w) after q) d.0) refl
    where
      by_note : (noted : Option BytePhase) → notes.phase (address (world_classes w) (places_in w) after q) d.0 ≡ noted → noted ≡ None
      by_note None e = refl
      by_note (Some x) e =
          let found = columns.phases.only (address (world_classes w) (places_in w) after q) d.0 x e in
          let class : found.1 ≡ d = same_class found.1 d (sym found.2.class_is) in
          let old : IsPartMade (world_classes w) s.classes found.0 d = subst (λ (z : ClassId). IsPartMade (world_classes w) s.classes found.0 z) class found.2.made in
          let one = one_part (world_classes w) w.setup.rows after q found.0 d laid_now made (part_more (world_classes w) s.classes c d found.0 old) (found.2.at_is ∙ sym (same_address d found.0 old)) in
          absurd (old_part (world_classes w) s.classes d found.0 old (sym (ap (λ (z : ObjectPart). z.object) one) ∙ new))

  phases_made : PhasesStand w after (renewed (length s.classes) s.phases) notes
  phases_made = record {
    phase = λ q d made. ⊎_elim
        (λ (new : q.object ≡ length s.classes). none_noted q d made new ∙ sym (ap noted_phase (new_phase s.phases (length s.classes) q new)))
        (λ old.
        let there = part_less (world_classes w) s.classes c d q made old in
        ap (λ (x : ℕ). notes.phase x d.0) (same_address d q there) ∙ (columns.phases.phase q d there ∙ sym (ap noted_phase (old_phase s.phases (length s.classes) q old))))
        (number_cases q.object (length s.classes));
    owner = λ q d e made whole begun. ⊎_elim
        (λ (new : q.object ≡ length s.classes). absurd (begun (new_phase s.phases (length s.classes) q new)))
        (λ old.
        let there = part_less (world_classes w) s.classes c d q made old in
        let owner = part_less (world_classes w) s.classes c e (part q.object q.owner (whole_of e)) whole old in
        ap (λ (x : ℕ). notes.owner x d.0) (same_address d q there)
        ∙ (columns.phases.owner q d e there owner (λ raw. begun (old_phase s.phases (length s.classes) q old ∙ raw)) ∙ ap (λ (x : ℕ). Some (x, e.0)) (sym (same_address e (part q.object q.owner (whole_of e)) owner))))
        (number_cases q.object (length s.classes));
    only = λ there class x noted.
        let found = columns.phases.only there class x noted in
        (found.0, found.1, record { made = part_more (world_classes w) s.classes c found.1 found.0 found.2.made; at_is = found.2.at_is ∙ sym (same_address found.1 found.0 found.2.made); class_is = found.2.class_is });
  }

  -- views

  views_made : ViewsAreNoted w after (renewed (length s.classes) s.phases) notes
  views_made = record {
    view = λ k o d e x whole seen there. ⊎_elim
        (λ (new : k ≡ length s.classes). absurd (let f : None ≡ Some x = sym (new_view s.phases (length s.classes) k o d new) ∙ seen in cc))
        (λ old.
        let owner = part_less (world_classes w) s.classes c d (part k o (whole_of d)) whole old in
        let part_there = part_less (world_classes w) s.classes c e (part k o x) there old in
        ap (λ (n : ℕ). notes.view n d.0) (same_address d (part k o (whole_of d)) owner)
        ∙ (columns.views.view k o d e x owner (sym (old_view s.phases (length s.classes) k o d old) ∙ seen) part_there ∙ ap (λ (n : ℕ). Some (n, e.0)) (sym (same_address e (part k o x) part_there))))
        (number_cases k (length s.classes));
  }

  -- virtual pointers

  pointers_still : (q : ObjectPart) (d e : ClassId) → IsPartMade (world_classes w) s.classes q e → s.is_closed q.object ≡ false → (with_made s c).is_closed q.object ≡ false → HasPointers w before memory q e d → HasPointers w after (open_of memory at ((places_in w).size c)) q e d
  pointers_still q d e made open_there open_now a = record {
    placed = a.placed;
    stand = a.stand;
    pointer = λ i f valid class dynamic.
        let old = a.pointer i f valid class dynamic in
        let inner = inner_is_made (world_classes w) before q e f i made valid class in
        let same = same_address f (inner_part q i) inner in
        let fault = pointer_open w s memory.regions opened heap (inner_part q i) f world columns.objects inner dynamic open_there in
        let fault_now = pointer_open w (with_made s c) (memory.regions ++ new_region at ((places_in w).size c) ∷ []) (with_listed opened at ((places_in w).size c) c.0) (heap + rounded ((places_in w).size c)) (inner_part q i) f world objects_now (part_more (world_classes w) s.classes c f (inner_part q i) inner) dynamic open_now in
        let there = address (world_classes w) (places_in w) before (inner_part q i) in
        let table = table_same memory (open_of memory at ((places_in w).size c)) there (ap (λ (n : ℕ). fault_at (open_of memory at ((places_in w).size c)).regions n 8) (sym same) ∙ (fault_now ∙ sym fault)) refl in
        (old.0, ap (table_of (open_of memory at ((places_in w).size c))) same ∙ (table ∙ old.1), old.2);
  }

  pointers_made : PointersStand w after (with_made s c) (open_of memory at ((places_in w).size c))
  pointers_made = record {
    pointers = λ k o d e x whole there open_there seen ready dynamic. ⊎_elim
        (λ (new : k ≡ length s.classes). absurd (let f : None ≡ Some x = sym (new_view s.phases (length s.classes) k o d new) ∙ seen in cc))
        (λ old.
        let owner = part_less (world_classes w) s.classes c d (part k o (whole_of d)) whole old in
        let part_there = part_less (world_classes w) s.classes c e (part k o x) there old in
        let open_before = sym (closed_before s c k old) ∙ open_there in
        pointers_still (part k o x) d e part_there open_before open_there
        (columns.pointers.pointers k o d e x owner part_there open_before (sym (old_view s.phases (length s.classes) k o d old) ∙ seen) (sym (ap is_ready (old_phase s.phases (length s.classes) (part k o x) old)) ∙ ready) dynamic))
        (number_cases k (length s.classes));
  }

  -- all columns; leaves have values of their types
  pub object_made : ((a : Leaf) (t : ValueType ClassId) → IsLeafMade (world_classes w) s.classes a t → IsValue (world_classes w) s.classes (s.leaf a) t) →
      ColumnsStand w (with_made s c) (open_of memory at ((places_in w).size c)) (with_listed opened at ((places_in w).size c) c.0) (heap + rounded ((places_in w).size c)) notes
  object_made typed = record { objects = objects_now; leaves = leaves_made typed; phases = phases_made; views = views_made; pointers = pointers_made }
