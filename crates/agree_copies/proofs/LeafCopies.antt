-- One leaf more is copied: its bits are those of its source, and nothing else changes.
use Rattle.std.proofs.Common.{◌≡◌, ℕ, ◌*◌, ◌+◌, ◌<◌, ◌≤◌, ⊎_elim, inl, inr, true, false, List, [], ◌∷◌, ◌++◌, refl, ap, sym, subst, ◌∙◌, arith}
use Rattle.std.proofs.lemmas.Bool.{eq-eqb}
use Rattle.path_plan.proofs.Same.{part_itself}
use Rattle.foundation.proofs.Truth.{split, not_both}
use Rattle.cxx_hierarchy.specs.declared.records.ClassId.{ClassId}
use Rattle.cxx_hierarchy.specs.declared.records.ValueType.{ValueType}
use Rattle.cxx_subobject.specs.Locations.{ObjectPart}
use Rattle.path_plan.specs.Places.{part}
use Rattle.path_model.specs.Values.{Value, Leaf, Objects, inner_part}
use Rattle.path_model.specs.TypedStates.{IsPartMade, IsLeafMade}
use Rattle.path_model.specs.Effects.{same_leaf}
use Rattle.path_model.proofs.TypedEvents.{leaf_is}
use Rattle.abi_sound.specs.Locations.{Span, AreDisjoint, pointer_span}
use Rattle.byte_memory.specs.Store.{Store}
use Rattle.byte_memory.proofs.ByBits.{copied-inside, copied-outside, number_from-copied_same, number_from-copied_other}
use Rattle.byte_shadow.specs.Shadows.{Notes}
use Rattle.byte_machine.specs.declared.heap.Opened.{Opened}
use Rattle.agree_parts.specs.Heaps.{Heap}
use Rattle.agree_parts.specs.Addresses.{address, span, leaf_bits}
use Rattle.agree_parts.specs.Placed.{AreObjectsLaid}
use Rattle.agree_parts.proofs.Made.{inner_is_made}
use Rattle.agree_parts.proofs.Apart.{leaves_apart, leaf_and_pointer}
use Rattle.agree_relation.specs.Worlds.{World, IsProgramWorld, world_classes, places_in}
use Rattle.agree_relation.specs.Words.{heap_of, AreBitsOf}
use Rattle.agree_relation.specs.Columns.{LeavesStand, PointersStand, ColumnsStand}
use Rattle.agree_relation.proofs.StoredBits.{copy_span}
use Rattle.agree_relation.proofs.Values.{bits_same}
use Rattle.agree_relation.proofs.Pointers.{table_same, pointers_kept}
use Rattle.agree_copies.proofs.CopiedValues.{copied_by, AreLike, AreCopied, source_old, target_new, other_kept}

pub leaf_itself : (a : Leaf) → same_leaf a a ≡ true
leaf_itself a = rw (part_itself a.part, eq-eqb a.member a.member refl, eq-eqb a.index a.index refl) refl

-- two leaves of one type are made, one in the part that is copied to and one in the other, and can be reached
pub record IsCopy (w : World) (s : Objects) (c : ClassId) (to from : ObjectPart) (a b : Leaf) (t : ValueType ClassId) : Type 0 where
  pub like : AreLike (world_classes w) c to from a b
  pub made_a : IsLeafMade (world_classes w) s.classes a t
  pub made_b : IsLeafMade (world_classes w) s.classes b t
  pub open_a : s.is_closed a.part.object ≡ false
  pub open_b : s.is_closed b.part.object ≡ false

module _ (w : World) (s : Objects) (c : ClassId) (to from : ObjectPart) (memory : Store) (done : List (Leaf × Leaf)) (a b : Leaf) (t : ValueType ClassId) (world : IsProgramWorld w) (made_to : IsPartMade (world_classes w) s.classes to c) (made_from : IsPartMade (world_classes w) s.classes from c)
    (all : AreCopied (world_classes w) c to from done) (k : IsCopy w s c to from a b t) (laid : AreObjectsLaid (world_classes w) w.setup.rows (heap_of s.classes memory.regions))
    (x y : Span) (source_is : leaf_bits (world_classes w) (places_in w) (heap_of s.classes memory.regions) b ≡ x) (target_is : leaf_bits (world_classes w) (places_in w) (heap_of s.classes memory.regions) a ≡ y) (long : x.length ≡ y.length) where
  abbrev g : Heap
  g = heap_of s.classes memory.regions

  abbrev bits_of : Leaf → Span
  bits_of l = leaf_bits (world_classes w) (places_in w) g l

  abbrev before : Objects
  before = copied_by s done

  abbrev now : Objects
  now = copied_by s (done ++ (a, b) ∷ [])

  abbrev after : Store
  after = copy_span memory x y

  -- bits apart from it are the same
  kept_apart : (z : Span) → AreDisjoint y z → (place : ℕ) → z.start ≤ place → place < z.start + z.length → after.bit place ≡ memory.bit place
  kept_apart z apart place low high = copied-outside memory.bit x.start y.start y.length place (⊎_elim (λ before. inr (omega arith)) (λ behind. inl (omega arith)) apart)

  target_apart : (z : Span) → AreDisjoint (bits_of a) z → AreDisjoint y z
  target_apart z apart = subst (λ (u : Span). AreDisjoint u z) target_is apart

  -- its own bits are those of the other leaf, which has its old value
  own_bits : AreBitsOf w g (before.leaf b) memory.bit x → AreBitsOf w g (s.leaf b) after.bit y
  own_bits there =
      let source = source_old (world_classes w) world.hierarchy s.classes c to from made_to made_from s done all a b k.like in
      let old : AreBitsOf w g (before.leaf b) memory.bit (span x.start y.length) = subst (λ (n : ℕ). AreBitsOf w g (before.leaf b) memory.bit (span x.start n)) long there in
      subst (λ (v : Value). AreBitsOf w g v after.bit y) source
      (record {
        is = number_from-copied_same y.length memory.bit x.start y.start ∙ old.is;
        unset = λ e i less. copied-inside memory.bit x.start y.start y.length i less ∙ old.unset e i less;
      })

  leaves_copied : LeavesStand w before memory → LeavesStand w now after
  leaves_copied leaves = record {
    leaf = λ l u there_made open_there. split (same_leaf a l)
        (λ same. same_leaf a l ≡ same → AreBitsOf w g (now.leaf l) after.bit (bits_of l))
        (λ _ e.
        let value = target_new (world_classes w) world.hierarchy s.classes c to from made_to made_from s done all a b k.like l e in
        let source : AreBitsOf w g (before.leaf b) memory.bit x = subst (AreBitsOf w g (before.leaf b) memory.bit) source_is (leaves.leaf b t k.made_b k.open_b) in
        subst (λ (v : Value). AreBitsOf w g v after.bit (bits_of l)) (sym value)
        (subst (λ (z : Leaf). AreBitsOf w g (s.leaf b) after.bit (bits_of z)) (leaf_is a l e) (subst (AreBitsOf w g (s.leaf b) after.bit) (sym target_is) (own_bits source))))
        (λ _ e.
        let other : a ≡ l → ⊥ = λ one. not_both (ap (same_leaf a) (sym one) ∙ leaf_itself a) e in
        let value = other_kept (world_classes w) world.hierarchy s.classes c to from made_to made_from s done all a b k.like l e in
        subst (λ (v : Value). AreBitsOf w g v after.bit (bits_of l)) (sym value)
        (bits_same w g (before.leaf l) memory.bit after.bit (bits_of l)
        (kept_apart (bits_of l) (target_apart (bits_of l) (leaves_apart (world_classes w) w.setup.rows g a l t u laid k.made_a there_made other))) (leaves.leaf l u there_made open_there))) refl;
  }

  pointers_copied : PointersStand w g before memory → PointersStand w g now after
  pointers_copied pointers = record {
    pointers = λ k' o d e z whole seen_made open_there seen ready dynamic.
        pointers_kept w g memory after (part k' o z) e d
        (record {
          each = λ i d' valid class dynamic_base.
              let at = address (world_classes w) (places_in w) g (inner_part (part k' o z) i) in
              let inner = inner_is_made (world_classes w) g (part k' o z) e d' i seen_made valid class in
              let apart = target_apart (pointer_span at) (leaf_and_pointer (world_classes w) w.setup.rows g a t (inner_part (part k' o z) i) d' laid k.made_a inner dynamic_base) in
              table_same memory after at refl (number_from-copied_other y.length (8 * 8) memory.bit x.start y.start (8 * at) (⊎_elim (λ before. inr (omega arith)) (λ behind. inl (omega arith)) apart));
        })
        (pointers.pointers k' o d e z whole seen_made open_there seen ready dynamic);
  }

  -- all columns
  pub leaf_copied : (opened : List Opened) (heap : ℕ) (notes : Notes) → ColumnsStand w (copied_by s done) memory opened heap notes
      → ColumnsStand w (copied_by s (done ++ (a, b) ∷ [])) (copy_span memory x y) opened heap notes
  leaf_copied opened heap notes columns =
      let o = columns.objects in
      record {
        objects = record { count = o.count; ascending = o.ascending; region = o.region; listed_count = o.listed_count; listed = o.listed; region_sum = o.region_sum; heap_sum = o.heap_sum };
        leaves = leaves_copied columns.leaves;
        phases = columns.phases;
        views = columns.views;
        pointers = pointers_copied columns.pointers;
      }
