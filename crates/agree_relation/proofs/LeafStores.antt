-- A leaf that takes a value: its bits are stored, and nothing else changes.
use Rattle.std.proofs.Common.{◌≡◌, ℕ, ◌*◌, ◌+◌, ◌<◌, ◌≤◌, ◌%◌, ◌^◌, ⊎_elim, inl, inr, true, Some, List, refl, ap, sym, subst, ◌∙◌, arith}
use Rattle.std.specs.Prelude.{if◌then◌else◌}
use Rattle.std.proofs.lemmas.Bool.{eq-eqb}
use Rattle.foundation.proofs.Truth.{split, not_both}
use Rattle.cxx_hierarchy.specs.declared.records.ClassId.{ClassId}
use Rattle.cxx_hierarchy.specs.declared.records.ValueType.{ValueType}
use Rattle.path_plan.proofs.Same.{part_itself}
use Rattle.path_model.specs.Values.{Value, Leaf, Objects, inner_part}
use Rattle.path_plan.specs.Places.{part}
use Rattle.path_plan.specs.Phases.{Init}
use Rattle.cxx_subobject.specs.Locations.{ObjectPart}
use Rattle.path_model.specs.Places.{leaf}
use Rattle.path_model.specs.States.{member_init}
use Rattle.path_model.specs.Steps.{class_of_part, init_value, objects_after}
use Rattle.path_model.specs.TypedStates.{IsLeafMade}
use Rattle.path_model.specs.Effects.{same_leaf, leaf_set}
use Rattle.path_model.proofs.TypedEvents.{leaf_is}
use Rattle.abi_sound.specs.Locations.{Span, AreDisjoint}
use Rattle.byte_memory.specs.Store.{Store}
use Rattle.byte_memory.proofs.ByBits.{stored-outside, number_from-stored_other}
use Rattle.byte_shadow.specs.Shadows.{Notes}
use Rattle.byte_machine.specs.declared.heap.Opened.{Opened}
use Rattle.agree_parts.specs.Addresses.{address, leaf_bits}
use Rattle.agree_parts.specs.Placed.{AreObjectsLaid}
use Rattle.agree_parts.proofs.Made.{inner_is_made}
use Rattle.agree_parts.proofs.Apart.{leaves_apart, leaf_and_pointer}
use Rattle.agree_relation.specs.Worlds.{World, IsProgramWorld, world_classes, places_in}
use Rattle.agree_relation.specs.Words.{heap_of, word_of_value, AreBitsOf}
use Rattle.agree_relation.specs.Columns.{LeavesStand, PointersStand, ColumnsStand}
use Rattle.agree_relation.proofs.Objects.{objects_laid}
use Rattle.agree_relation.proofs.StoredBits.{store_span, number_from-stored}
use Rattle.agree_relation.proofs.Values.{bits_same, set_word}
use Rattle.agree_relation.proofs.Pointers.{table_same, pointers_kept}

leaf_itself : (a : Leaf) → same_leaf a a ≡ true
leaf_itself a = rw (part_itself a.part, eq-eqb a.member a.member refl, eq-eqb a.index a.index refl) refl

module _ (w : World) (s : Objects) (memory : Store) (a : Leaf) (t : ValueType ClassId) (v : Value) (word : ℕ) (laid : AreObjectsLaid (world_classes w) w.setup.rows (heap_of s.classes memory.regions)) (made : IsLeafMade (world_classes w) s.classes a t) where
  -- where the leaf lies
  abbrev there : Span
  there = leaf_bits (world_classes w) (places_in w) (heap_of s.classes memory.regions) a

  abbrev after : Store
  after = store_span memory there word

  -- bits apart from it are the same
  kept_apart : (y : Span) → AreDisjoint there y → (place : ℕ) → y.start ≤ place → place < y.start + y.length → after.bit place ≡ memory.bit place
  kept_apart y apart place low high = stored-outside there.length memory.bit there.start word place (⊎_elim (λ before. inr (omega arith)) (λ behind. inl (omega arith)) apart)

  -- its own bits are the value
  own_bits : word_of_value w (heap_of s.classes memory.regions) there.length v ≡ Some (word % 2 ^ there.length) → AreBitsOf w (heap_of s.classes memory.regions) v after.bit there
  own_bits is = record {
    is = number_from-stored there.length memory.bit there.start word ∙ sym is;
    unset = λ e i less. absurd (set_word w (heap_of s.classes memory.regions) (2 ^ there.length) v (word % 2 ^ there.length) is e);
  }

  pub leaves_stored : word_of_value w (heap_of s.classes memory.regions) there.length v ≡ Some (word % 2 ^ there.length) → LeavesStand w s memory → LeavesStand w (leaf_set s a v) after
  leaves_stored is leaves = record {
    leaf = λ b u there_made open_there. split (same_leaf a b)
        (λ same. same_leaf a b ≡ same → AreBitsOf w (heap_of s.classes memory.regions) (if same then v else s.leaf b) after.bit (leaf_bits (world_classes w) (places_in w) (heap_of s.classes memory.regions) b))
        (λ e _. subst (λ (x : Leaf). AreBitsOf w (heap_of s.classes memory.regions) v after.bit (leaf_bits (world_classes w) (places_in w) (heap_of s.classes memory.regions) x)) (leaf_is a b e) (own_bits is))
        (λ e _.
        let other : a ≡ b → ⊥ = λ one. not_both (ap (same_leaf a) (sym one) ∙ leaf_itself a) e in
        bits_same w (heap_of s.classes memory.regions) (s.leaf b) memory.bit after.bit (leaf_bits (world_classes w) (places_in w) (heap_of s.classes memory.regions) b)
        (kept_apart _ (leaves_apart (world_classes w) w.setup.rows (heap_of s.classes memory.regions) a b t u laid made there_made other)) (leaves.leaf b u there_made open_there)) refl;
  }

  pub pointers_stored : PointersStand w (heap_of s.classes memory.regions) s memory → PointersStand w (heap_of s.classes memory.regions) (leaf_set s a v) after
  pointers_stored pointers = record {
    pointers = λ k o d c x whole seen_made open_there seen ready dynamic.
        pointers_kept w (heap_of s.classes memory.regions) memory after (part k o x) c d
        (record {
          each = λ i e valid class dynamic_base.
              let g = heap_of s.classes memory.regions in
              let at = address (world_classes w) (places_in w) g (inner_part (part k o x) i) in
              let inner = inner_is_made (world_classes w) g (part k o x) c e i seen_made valid class in
              let apart = leaf_and_pointer (world_classes w) w.setup.rows g a t (inner_part (part k o x) i) e laid made inner dynamic_base in
              table_same memory after at refl (number_from-stored_other there.length (8 * 8) memory.bit there.start (8 * at) word (⊎_elim (λ before. inr (omega arith)) (λ behind. inl (omega arith)) apart));
        })
        (pointers.pointers k o d c x whole seen_made open_there seen ready dynamic);
  }

  pub columns_stored : IsProgramWorld w → (opened : List Opened) (heap : ℕ) (notes : Notes) → ColumnsStand w s memory opened heap notes → word_of_value w (heap_of s.classes memory.regions) there.length v ≡ Some (word % 2 ^ there.length)
      → ColumnsStand w (leaf_set s a v) (store_span memory (leaf_bits (world_classes w) (places_in w) (heap_of s.classes memory.regions) a) word) opened heap notes
  columns_stored world opened heap notes columns is =
      let o = columns.objects in
      record {
        objects = record { count = o.count; ascending = o.ascending; region = o.region; listed_count = o.listed_count; listed = o.listed; region_sum = o.region_sum; heap_sum = o.heap_sum };
        leaves = leaves_stored is columns.leaves;
        phases = columns.phases;
        views = columns.views;
        pointers = pointers_stored columns.pointers;
      }

-- all columns
pub leaf_stored : (w : World) (s : Objects) (memory : Store) (opened : List Opened) (heap : ℕ) (notes : Notes) (a : Leaf) (t : ValueType ClassId) (v : Value) (word : ℕ) (x : Span) → IsProgramWorld w → ColumnsStand w s memory opened heap notes → IsLeafMade (world_classes w) s.classes a t →
    leaf_bits (world_classes w) (places_in w) (heap_of s.classes memory.regions) a ≡ x → word_of_value w (heap_of s.classes memory.regions) x.length v ≡ Some (word % 2 ^ x.length) → ColumnsStand w (leaf_set s a v) (store_span memory x word) opened heap notes
leaf_stored w s memory opened heap notes a t v word x world columns made there is =
    subst (λ (y : Span). ColumnsStand w (leaf_set s a v) (store_span memory y word) opened heap notes) there
    (columns_stored w s memory a t v word (objects_laid w s memory.regions opened heap world columns.objects) made world opened heap notes columns
    (subst (λ (y : Span). word_of_value w (heap_of s.classes memory.regions) y.length v ≡ Some (word % 2 ^ y.length)) (sym there) is))

-- an initializer does the same
pub init_stored : (w : World) (s : Objects) (memory : Store) (opened : List Opened) (heap : ℕ) (notes : Notes) (p : ObjectPart) (m : ℕ) (t : ValueType ClassId) (word : ℕ) (x : Span) → IsProgramWorld w → ColumnsStand w s memory opened heap notes → IsLeafMade (world_classes w) s.classes (leaf p m 0) t →
    leaf_bits (world_classes w) (places_in w) (heap_of s.classes memory.regions) (leaf p m 0) ≡ x → word_of_value w (heap_of s.classes memory.regions) x.length (init_value (member_init w.setup.program (class_of_part p) m)) ≡ Some (word % 2 ^ x.length) →
    ColumnsStand w (objects_after w.setup.program s (Init p m)) (store_span memory x word) opened heap notes
init_stored w s memory opened heap notes p m t word x world columns made there is = leaf_stored w s memory opened heap notes (leaf p m 0) t (init_value (member_init w.setup.program (class_of_part p) m)) word x world columns made there is
