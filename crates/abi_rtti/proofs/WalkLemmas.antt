-- The classes that a walk meets are known.
use Rattle.std.proofs.Common.{ℕ, zero, suc, ◌<◌, List, [], ◌∷◌, All, filter, length, get_or, refl, arith, subst, inl, inr, ⊎_elim}
use Rattle.std.specs.List.{flat_map}
use Rattle.cxx_hierarchy.specs.declared.records.ClassId.{ClassId}
use Rattle.cxx_hierarchy.specs.Classes.{Classes, bases_of}
use Rattle.cxx_hierarchy.specs.Hierarchies.{IsHierarchy}
use Rattle.cxx_subobject.specs.Subobjects.{class_of}
use Rattle.cxx_subobject.specs.Preorder.{preorder, ListsSubobjects}
use Rattle.cxx_subobject.proofs.PathLemmas.{class_low}
use Rattle.foundation.proofs.Members.{Has, contains_from_has, from_map, from_flat_map}
use Rattle.foundation.proofs.Chosen.{has_filter, from_filter_map}
use Rattle.abi_slots.specs.Rows.{class_of_base}
use Rattle.abi_rtti.specs.TypeInfos.{classes_in, named_virtual, is_virtual_base}

has_get : {A : Type 0} (xs : List A) (k : ℕ) (d : A) → k < length xs → Has xs (get_or xs k d)
has_get [] k d lt = absurd (omega arith)
has_get (x ∷ xs) zero d lt = inl refl
has_get (x ∷ xs) (suc k) d lt = inr (has_get xs k d (omega arith))

-- each item of a list has a property
pub all_from_has : {A : Type 0} (P : A → Type 0) (xs : List A) → ((x : A) → Has xs x → P x) → All P xs
all_from_has P xs each = λ k d lt. each (get_or xs k d) (has_get xs k d lt)

pub known_classes : (h : Classes) → IsHierarchy h → (c : ClassId) → c.0 < length h → ListsSubobjects h c (preorder h c) → All (λ (d : ClassId). d.0 < length h) (classes_in h c)
known_classes h keeps c lt lists = all_from_has (λ (d : ClassId). d.0 < length h) (classes_in h c) each
  where
    each : (d : ClassId) → Has (classes_in h c) d → d.0 < length h
    each d has =
        let r = from_filter_map class_of (preorder h c) d has in
        let low = class_low h keeps c d r.0 (lists.valid r.0 (contains_from_has (preorder h c) r.0 r.1)) r.2 in
        omega arith

pub known_edges : (h : Classes) → IsHierarchy h → (classes : List ClassId) → All (λ (d : ClassId). d.0 < length h) classes → All (λ (d : ClassId). d.0 < length h) (flat_map (named_virtual h) classes)
known_edges h keeps classes known = all_from_has (λ (d : ClassId). d.0 < length h) (flat_map (named_virtual h) classes) each
  where
    in_list : (cs : List ClassId) → All (λ (d : ClassId). d.0 < length h) cs → (d : ClassId) → Has cs d → d.0 < length h
    in_list [] all d has = absurd has
    in_list (x ∷ xs) all d has = ⊎_elim (λ e. subst (λ (a : ClassId). a.0 < length h) e (all 0 x (omega arith))) (λ rest. in_list xs (λ k e lt. all (suc k) e (omega arith)) d rest) has

    each : (v : ClassId) → Has (flat_map (named_virtual h) classes) v → v.0 < length h
    each v has =
        let r = from_flat_map (named_virtual h) classes v has in
        let below : r.0.0 < length h = in_list classes known r.0 r.1 in
        let named = from_map class_of_base (filter is_virtual_base (bases_of h r.0)) v r.2 in
        let base = has_filter is_virtual_base (bases_of h r.0) named.0 named.1 in
        let smaller : named.0.class.0 < r.0.0 = keeps.bases r.0 named.0 (contains_from_has (bases_of h r.0) named.0 base.0) in
        subst (λ (a : ClassId). a.0 < length h) named.2 (omega arith)
