-- Where a static downcast leads: a phase of the target is noted there exactly where the part is that base of one.
use Rattle.std.proofs.Common.{◌≡◌, ℕ, ◌+◌, Bool, true, false, Option, Some, None, List, refl, ap, sym, subst, ◌∙◌, arith}
use Rattle.std.specs.Prelude.{◌&&◌}
use Rattle.std.proofs.lemmas.Bool.{eqb-true, eq-eqb}
use Rattle.foundation.proofs.Members.{Has}
use Rattle.foundation.proofs.Chosen.{find_passes}
use Rattle.cxx_hierarchy.specs.declared.records.ClassId.{ClassId}
use Rattle.cxx_subobject.specs.declared.Subobject.{Subobject}
use Rattle.cxx_subobject.specs.declared.Root.TheVariants.{Whole}
use Rattle.cxx_subobject.specs.Subobjects.{IsSubobject, class_of, join, same_subobject, is_class, is_of_class}
use Rattle.cxx_subobject.specs.Preorder.{preorder}
use Rattle.cxx_subobject.specs.Locations.{ObjectPart}
use Rattle.cxx_subobject.proofs.TreeLemmas.{subobject_same, same_itself, preorder_has, has_preorder}
use Rattle.cxx_search.specs.Searches.{preorder_of}
use Rattle.cxx_search.proofs.Finding.{finds_some}
use Rattle.path_plan.specs.Places.{part}
use Rattle.path_model.specs.Values.{Objects, inner_part}
use Rattle.path_model.specs.TypedStates.{IsPartMade}
use Rattle.path_model.specs.Uses.{class_of_owner, derived_of}
use Rattle.byte_memory.specs.declared.memory.Region.{Region}
use Rattle.byte_code.specs.declared.op.Phase.{Phase as BytePhase}
use Rattle.byte_shadow.specs.Shadows.{Notes}
use Rattle.agree_parts.specs.Heaps.{Heap}
use Rattle.agree_parts.specs.Addresses.{address}
use Rattle.agree_parts.specs.Placed.{AreObjectsLaid}
use Rattle.agree_parts.proofs.Made.{owner_there, inner_is_made, other_made}
use Rattle.agree_parts.proofs.Sums.{to_inner}
use Rattle.agree_parts.proofs.Apart.{one_part}
use Rattle.agree_relation.specs.Worlds.{World, world_classes, places_in}
use Rattle.agree_relation.specs.Words.{heap_of}
use Rattle.agree_relation.specs.Columns.{noted_phase, PhasesStand}
use Rattle.agree_relation.proofs.Owners.{same_class}

-- the part is the base i of the subobject t of the target's class, which lies so far before it
pub record IsBaseOf (w : World) (g : Heap) (target : ClassId) (i : Subobject) (p : ObjectPart) (t : Subobject) : Type 0 where
  pub made : IsPartMade (world_classes w) g.classes (part p.object p.owner t) target
  pub joined : join t i ≡ p.at
  pub behind : address (world_classes w) (places_in w) g p ≡ address (world_classes w) (places_in w) g (part p.object p.owner t) + (places_in w).place target i

module _ (w : World) (s : Objects) (regions : List Region) (target : ClassId) (i : Subobject) (p : ObjectPart) (c : ClassId) (laid : AreObjectsLaid (world_classes w) w.setup.rows (heap_of s.classes regions)) (made : IsPartMade (world_classes w) s.classes p c) (valid : IsSubobject (world_classes w) target i) (root : i.root ≡ Whole) (of_class : class_of i ≡ Some c) where
  is_base : (t : Subobject) → IsPartMade (world_classes w) s.classes (part p.object p.owner t) target → join t i ≡ p.at → IsBaseOf w (heap_of s.classes regions) target i p t
  is_base t around joined =
      let g = heap_of s.classes regions in
      let sum = to_inner (world_classes w) w.setup.rows g (part p.object p.owner t) target i around valid root in
      record { made = around; joined = joined; behind = ap (λ (x : Subobject). address (world_classes w) (places_in w) g (part p.object p.owner x)) (sym joined) ∙ sum }

  -- the test of a subobject
  passes : Subobject → Bool
  passes t = is_of_class target t && same_subobject (join t i) p.at

  both : (a b : Bool) → (a && b) ≡ true → (a ≡ true) × (b ≡ true)
  both true b e = (refl, e)
  both false b e = absurd (cc)

  class_is : (o : Option ClassId) → is_class target o ≡ true → o ≡ Some target
  class_is None e = absurd (cc)
  class_is (Some d) e = ap (λ (x : ClassId). Some x) (same_class d target (sym (eqb-true target.0 d.0 e)))

  passes_there : (d : ClassId) (t : Subobject) → class_of_owner (world_classes w) s p ≡ Some d → IsSubobject (world_classes w) d t → passes t ≡ true → IsBaseOf w (heap_of s.classes regions) target i p t
  unfolding passes
  passes_there d t owner inside pass =
      let tests = both (is_of_class target t) (same_subobject (join t i) p.at) pass in
      is_base t (other_made (world_classes w) (heap_of s.classes regions) p c d target t made owner inside (class_is (class_of t) tests.0)) (subobject_same (join t i) p.at tests.1)

  -- what the rule finds
  pub derived_is_base : (t : Subobject) → derived_of (world_classes w) s target i p ≡ Some t → IsBaseOf w (heap_of s.classes regions) target i p t
  unfolding passes
  derived_is_base t found =
      let owner = owner_there (world_classes w) (heap_of s.classes regions) p c made in
      let here = find_passes (λ t. is_of_class target t && same_subobject (join t i) p.at) (preorder_of (world_classes w) (class_of_owner (world_classes w) s p)) t found in
      let listed : Has (preorder (world_classes w) owner.0) t = subst (λ (x : Option ClassId). Has (preorder_of (world_classes w) x) t) owner.1 here.0 in
      passes_there owner.0 t owner.1 (has_preorder (world_classes w) owner.0 t listed) here.1

  -- two of them are one
  one_base : (t u : Subobject) → IsBaseOf w (heap_of s.classes regions) target i p t → IsBaseOf w (heap_of s.classes regions) target i p u → t ≡ u
  one_base t u a b =
      let e = a.behind in
      let f = b.behind in
      ap (λ (x : ObjectPart). x.at) (one_part (world_classes w) w.setup.rows (heap_of s.classes regions) (part p.object p.owner t) (part p.object p.owner u) target laid a.made b.made (omega arith))

  -- where there is one, the rule finds it
  pub base_is_derived : (t : Subobject) → IsBaseOf w (heap_of s.classes regions) target i p t → derived_of (world_classes w) s target i p ≡ Some t
  base_is_derived t a =
      let owner = owner_there (world_classes w) (heap_of s.classes regions) p c made in
      let whole = owner_there (world_classes w) (heap_of s.classes regions) (part p.object p.owner t) target a.made in
      let one : Some whole.0 ≡ Some owner.0 = sym whole.1 ∙ owner.1 in
      let same : whole.0 ≡ owner.0 = cc in
      let inside : IsSubobject (world_classes w) owner.0 t = subst (λ (x : ClassId). IsSubobject (world_classes w) x t) same whole.2 in
      let listed : Has (preorder_of (world_classes w) (class_of_owner (world_classes w) s p)) t = subst (λ (x : Option ClassId). Has (preorder_of (world_classes w) x) t) (sym owner.1) (preorder_has (world_classes w) owner.0 laid.hierarchy t inside) in
      let class : is_of_class target t ≡ true = ap (is_class target) a.made.of_class ∙ eq-eqb target.0 target.0 refl in
      let base : same_subobject (join t i) p.at ≡ true = ap (λ (x : Subobject). same_subobject x p.at) a.joined ∙ same_itself p.at in
      let pass : (is_of_class target t && same_subobject (join t i) p.at) ≡ true = rw (class, base) refl in
      let found = finds_some (λ t. is_of_class target t && same_subobject (join t i) p.at) (preorder_of (world_classes w) (class_of_owner (world_classes w) s p)) t listed pass in
      found.1 ∙ ap (λ (x : Subobject). Some x) (one_base found.0 t (derived_is_base found.0 found.1) a)

  -- a phase of the target is noted so far before the part: it is that base of what lies there
  pub noted_derived : (notes : Notes) (at : ℕ) (x : BytePhase) → PhasesStand w (heap_of s.classes regions) s.phases notes → at + (places_in w).place target i ≡ address (world_classes w) (places_in w) (heap_of s.classes regions) p → notes.phase at target.0 ≡ Some x →
      (t : Subobject) × (derived_of (world_classes w) s target i p ≡ Some t) × (at ≡ address (world_classes w) (places_in w) (heap_of s.classes regions) (part p.object p.owner t))
  noted_derived notes at x noted before phase =
      let g = heap_of s.classes regions in
      let found = noted.only at target.0 x phase in
      let q = found.0 in
      let class : target ≡ found.1 = same_class target found.1 found.2.class_is in
      let there : IsPartMade (world_classes w) s.classes q target = subst (λ (z : ClassId). IsPartMade (world_classes w) s.classes q z) (sym class) found.2.made in
      let place = found.2.at_is in
      let sum = to_inner (world_classes w) w.setup.rows g q target i there valid root in
      let inner = inner_is_made (world_classes w) g q target c i there valid of_class in
      let one : inner_part q i ≡ p = one_part (world_classes w) w.setup.rows g (inner_part q i) p c laid inner made (omega arith) in
      let object : q.object ≡ p.object = ap (λ (z : ObjectPart). z.object) one in
      let owner : q.owner ≡ p.owner = ap (λ (z : ObjectPart). z.owner) one in
      let same : q ≡ part p.object p.owner q.at = λ n. part (object n) (owner n) q.at in
      let around : IsPartMade (world_classes w) s.classes (part p.object p.owner q.at) target = subst (λ (z : ObjectPart). IsPartMade (world_classes w) s.classes z target) same there in
      (q.at, base_is_derived q.at (is_base q.at around (ap (λ (z : ObjectPart). z.at) one)), place ∙ ap (address (world_classes w) (places_in w) g) same)

  -- where the rule finds one that was begun, its phase is noted so far before the part
  pub derived_noted : (notes : Notes) (at : ℕ) (t : Subobject) → PhasesStand w (heap_of s.classes regions) s.phases notes → at + (places_in w).place target i ≡ address (world_classes w) (places_in w) (heap_of s.classes regions) p → derived_of (world_classes w) s target i p ≡ Some t →
      (at ≡ address (world_classes w) (places_in w) (heap_of s.classes regions) (part p.object p.owner t)) × (notes.phase at target.0 ≡ noted_phase (s.phases.phase (part p.object p.owner t)))
  derived_noted notes at t noted before found =
      let a = derived_is_base t found in
      let e = a.behind in
      let there : at ≡ address (world_classes w) (places_in w) (heap_of s.classes regions) (part p.object p.owner t) = omega arith in
      (there, ap (λ (n : ℕ). notes.phase n target.0) there ∙ noted.phase (part p.object p.owner t) target a.made)

  -- where the rule finds none, nothing is noted there
  pub none_noted : (notes : Notes) (at : ℕ) → PhasesStand w (heap_of s.classes regions) s.phases notes → at + (places_in w).place target i ≡ address (world_classes w) (places_in w) (heap_of s.classes regions) p → derived_of (world_classes w) s target i p ≡ None → notes.phase at target.0 ≡ None
  none_noted notes at noted before none = by_note (notes.phase at target.0) refl
    where
      by_note : (o : Option BytePhase) → notes.phase at target.0 ≡ o → o ≡ None
      by_note None e = refl
      by_note (Some x) e = absurd (let found = noted_derived notes at x noted before e in let f : None ≡ Some found.0 = sym none ∙ found.1 in cc)
