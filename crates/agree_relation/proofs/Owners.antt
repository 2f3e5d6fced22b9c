-- What the notes say of the complete object of a part.
use Rattle.std.proofs.Common.{◌≡◌, ℕ, Bool, true, false, Option, Some, List, [], ◌∷◌, refl, ap, sym, subst, ◌∙◌}
use Rattle.std.specs.Prelude.{not, ◌&&◌, nat_eq, slice_get}
use Rattle.std.specs.Option.{option_map_or}
use Rattle.std.proofs.lemmas.Bool.{eqb-true, eq-eqb}
use Rattle.foundation.proofs.Truth.{is_false}
use Rattle.cxx_hierarchy.specs.declared.records.ClassId.{ClassId}
use Rattle.cxx_subobject.specs.declared.Subobject.{Subobject}
use Rattle.cxx_subobject.specs.Subobjects.{class_of, whole_of, same_subobject}
use Rattle.cxx_subobject.specs.Locations.{Step, ObjectPart}
use Rattle.cxx_subobject.proofs.TreeLemmas.{subobject_same, same_itself}
use Rattle.path_plan.specs.Places.{part, same_part}
use Rattle.path_plan.proofs.Same.{part_same, part_itself, owner_itself}
use Rattle.path_plan.specs.Phases.{Phases, Raw}
use Rattle.path_model.specs.Values.{Objects}
use Rattle.path_model.specs.Places.{owner_class}
use Rattle.path_model.specs.TypedStates.{IsPartMade}
use Rattle.path_model.specs.Uses.{class_of_owner}
use Rattle.path_model.specs.Rules.{is_no_whole, is_in_heap_object}
use Rattle.byte_memory.specs.declared.memory.Region.{Region}
use Rattle.byte_shadow.specs.Shadows.{Notes}
use Rattle.byte_machine.specs.Checks.{same_address_and_class}
use Rattle.agree_parts.specs.Heaps.{Heap, object_start}
use Rattle.agree_parts.specs.Addresses.{address}
use Rattle.agree_parts.specs.Placed.{AreObjectsLaid}
use Rattle.agree_parts.proofs.Made.{whole_made, complete_made}
use Rattle.agree_parts.proofs.Apart.{one_part}
use Rattle.agree_relation.specs.Worlds.{World, world_classes, places_in}
use Rattle.agree_relation.specs.Words.{heap_of}
use Rattle.agree_relation.specs.Columns.{shadow_pair, PhasesStand}
use Rattle.agree_relation.proofs.Objects.{whole_address}

-- the complete object of a part that was begun is noted
pub owner_noted : (w : World) (g : Heap) (s : Phases) (notes : Notes) (p : ObjectPart) (c d : ClassId) → PhasesStand w g s notes → IsPartMade (world_classes w) g.classes p c → owner_class (world_classes w) g.classes p.object p.owner ≡ Some d → (s.phase p ≡ Raw → ⊥) →
    notes.owner (address (world_classes w) (places_in w) g p) c.0 ≡ Some (shadow_pair w g (part p.object p.owner (whole_of d)) d)
owner_noted w g s notes p c d noted made owner begun = noted.owner p c d made (complete_made (world_classes w) g p c d made owner) begun

-- pairs are compared in place of parts
pub same_class : (c d : ClassId) → c.0 ≡ d.0 → c ≡ d
same_class c d e = λ i. record { 0 = e i }

pub pair_test : (w : World) (g : Heap) (q p : ObjectPart) (d c : ClassId) → AreObjectsLaid (world_classes w) w.setup.rows g → IsPartMade (world_classes w) g.classes q d → IsPartMade (world_classes w) g.classes p c →
    same_address_and_class (shadow_pair w g q d) (address (world_classes w) (places_in w) g p) c.0 ≡ same_part q p
pair_test w g q p d c laid there here = by_test (same_part q p) refl
  where
    one_class : q ≡ p → d ≡ c
    one_class e = let f : Some d ≡ Some c = sym there.of_class ∙ (ap (λ (x : ObjectPart). class_of x.at) e ∙ here.of_class) in cc

    same_both : (a b : ℕ) → a ≡ b → (n m : ℕ) → n ≡ m → (nat_eq a b && nat_eq n m) ≡ true
    same_both a b e n m f = rw (eq-eqb a b e, eq-eqb n m f) refl

    apart : same_part q p ≡ false → (x y : Bool) → nat_eq (address (world_classes w) (places_in w) g q) (address (world_classes w) (places_in w) g p) ≡ x → nat_eq d.0 c.0 ≡ y → (x && y) ≡ false
    apart other true true e f =
        let class = same_class d c (eqb-true d.0 c.0 f) in
        let made : IsPartMade (world_classes w) g.classes q c = subst (λ (z : ClassId). IsPartMade (world_classes w) g.classes q z) class there in
        let one = one_part (world_classes w) w.setup.rows g q p c laid made here (eqb-true _ _ e) in
        absurd (let also : same_part q p ≡ true = ap (same_part q) (sym one) ∙ part_itself q in let no_one : true ≡ false = sym also ∙ other in cc)
    apart other true false e f = refl
    apart other false y e f = refl

    by_test : (b : Bool) → same_part q p ≡ b → same_address_and_class (shadow_pair w g q d) (address (world_classes w) (places_in w) g p) c.0 ≡ b
    by_test true e = let one = part_same q p e in same_both _ _ (ap (address (world_classes w) (places_in w) g) one) d.0 c.0 (ap (λ (z : ClassId). z.0) (one_class one))
    by_test false e = apart e _ _ refl refl

-- the part is the whole of its complete object

same_turned : (a b : Subobject) → same_subobject a b ≡ same_subobject b a
same_turned a b = by_test (same_subobject a b) refl
  where
    by_test : (x : Bool) → same_subobject a b ≡ x → x ≡ same_subobject b a
    by_test true e = sym (ap (same_subobject b) (subobject_same a b e) ∙ same_itself b)
    by_test false e = sym (is_false (same_subobject b a) (λ same. let f : true ≡ false = sym (ap (same_subobject a) (subobject_same b a same) ∙ same_itself a) ∙ e in cc))

pub own_owner : (k : ℕ) (o : List Step) (x y : Subobject) → same_part (part k o x) (part k o y) ≡ same_subobject x y
own_owner k o x y = rw (owner_itself k o) refl

pub whole_tested : (w : World) (s : Objects) (regions : List Region) (p : ObjectPart) (c d : ClassId) → AreObjectsLaid (world_classes w) w.setup.rows (heap_of s.classes regions) → IsPartMade (world_classes w) s.classes p c → class_of_owner (world_classes w) s p ≡ Some d →
    same_address_and_class (shadow_pair w (heap_of s.classes regions) (part p.object p.owner (whole_of d)) d) (address (world_classes w) (places_in w) (heap_of s.classes regions) p) c.0 ≡ not (is_no_whole (world_classes w) s p)
whole_tested w s regions p c d laid made owner =
    let g = heap_of s.classes regions in
    pair_test w g (part p.object p.owner (whole_of d)) p d c laid (complete_made (world_classes w) g p c d made owner) made
    ∙ (own_owner p.object p.owner (whole_of d) p.at ∙ (same_turned (whole_of d) p.at ∙ (twice_not _ ∙ ap (λ (x : Option ClassId). not (not (option_map_or (λ d. same_subobject p.at (whole_of d)) x false))) (sym owner))))
  where
    twice_not : (b : Bool) → b ≡ not (not b)
    twice_not true = refl
    twice_not false = refl

-- the complete object is the heap object itself, which is of class e

heap_object_tested : (w : World) (g : Heap) (k : ℕ) (o : List Step) (d e : ClassId) → slice_get g.classes k ≡ Some e → owner_class (world_classes w) g.classes k o ≡ Some d → same_part (part k o (whole_of d)) (part k [] (whole_of e)) ≡ is_in_heap_object o
heap_object_tested w g k [] d e class owner =
    let f : Some d ≡ Some e = sym owner ∙ class in
    let one : d ≡ e = cc in
    ap (λ (x : ClassId). same_part (part k [] (whole_of d)) (part k [] (whole_of x))) (sym one) ∙ part_itself (part k [] (whole_of d))
heap_object_tested w g k (step ∷ rest) d e class owner = is_false _ (λ same. let f = part_same (part k (step ∷ rest) (whole_of d)) (part k [] (whole_of e)) same in let g : (step ∷ rest) ≡ [] = ap (λ (x : ObjectPart). x.owner) f in cc)

pub heap_object_pair : (w : World) (g : Heap) (p : ObjectPart) (c d e : ClassId) → AreObjectsLaid (world_classes w) w.setup.rows g → IsPartMade (world_classes w) g.classes p c → owner_class (world_classes w) g.classes p.object p.owner ≡ Some d → slice_get g.classes p.object ≡ Some e →
    same_address_and_class (shadow_pair w g (part p.object p.owner (whole_of d)) d) (object_start g p.object) e.0 ≡ is_in_heap_object p.owner
heap_object_pair w g p c d e laid made owner class =
    ap (λ (at : ℕ). same_address_and_class (shadow_pair w g (part p.object p.owner (whole_of d)) d) at e.0) (sym (whole_address w g p.object e class))
    ∙ (pair_test w g (part p.object p.owner (whole_of d)) (part p.object [] (whole_of e)) d e laid (complete_made (world_classes w) g p c d made owner) (whole_made (world_classes w) g p.object e class)
    ∙ heap_object_tested w g p.object p.owner d e class owner)
