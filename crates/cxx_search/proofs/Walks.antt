-- What public edges lead to is found in the tree of public bases.
use Rattle.std.proofs.Common.{◌≡◌, ℕ, zero, suc, ◌+◌, ◌<◌, inl, inr, ⊎_elim, Bool, true, Option, Some, None, List, [], refl, subst, sym, ◌∙◌, arith}
use Rattle.std.specs.Prelude.{if◌then◌else◌}
use Rattle.std.specs.List.{Contains, list_any}
use Rattle.cxx_hierarchy.specs.declared.records.ClassId.{ClassId}
use Rattle.cxx_hierarchy.specs.declared.records.Base.{Base}
use Rattle.cxx_hierarchy.specs.Classes.{Classes, bases_of}
use Rattle.cxx_hierarchy.specs.Hierarchies.{IsHierarchy}
use Rattle.cxx_subobject.specs.declared.Subobject.{Subobject}
use Rattle.cxx_subobject.specs.Subobjects.{class_of, base_subobject, same_subobject}
use Rattle.cxx_subobject.specs.Inside.{IsPublicWalk, stays, steps}
use Rattle.cxx_subobject.proofs.TreeLemmas.{subobject_same, same_itself}
use Rattle.cxx_subobject.proofs.TestLemmas.{base_class}
use Rattle.foundation.proofs.Truth.{split}
use Rattle.foundation.proofs.Members.{Has, has_flat_map, from_flat_map, has_from_contains, contains_from_has}
use Rattle.foundation.proofs.Chosen.{any_has, has_any}
use Rattle.cxx_search.specs.Searches.{public_tree_of, public_tree, public_parts, is_public_in}

-- what stands behind a base stands there if the base is public
behind_public : (inside : ClassId → Subobject → List Subobject) (s : Subobject) (base : Base ClassId) (t : Subobject) → Has (public_tree_of inside s base) t → (base.is_public ≡ true) × Has (inside base.class (base_subobject s base)) t
behind_public inside s base t = split base.is_public
    (λ b. Has (if b then inside base.class (base_subobject s base) else []) t → (b ≡ true) × Has (inside base.class (base_subobject s base)) t)
    (λ e has. (refl, has))
    (λ e has. absurd has)

pub tree_walk : (h : Classes) (n : ℕ) (c : ClassId) (s t : Subobject) → class_of s ≡ Some c → Has (public_tree h n c s) t → IsPublicWalk h s t
tree_walk h zero c s t class has = absurd has
tree_walk h (suc n) c s t class has = ⊎_elim
    (λ same. subst (λ z. IsPublicWalk h s z) same (stays s))
    (λ more.
    let r = from_flat_map (public_tree_of (public_tree h n) s) (bases_of h c) t more in
    let base = r.0 in
    let behind = behind_public (public_tree h n) s base t r.2 in
    steps s t c base class (contains_from_has (bases_of h c) base r.1) behind.0 (tree_walk h n base.class (base_subobject s base) t (base_class s c base class) behind.1))
    has

pub walk_tree : (h : Classes) → IsHierarchy h → (s t : Subobject) → IsPublicWalk h s t → (n : ℕ) (c : ClassId) → class_of s ≡ Some c → c.0 < n → Has (public_tree h n c s) t
walk_tree h keeps _ _ (stays s) zero c class lt = absurd (omega arith)
walk_tree h keeps _ _ (stays s) (suc n) c class lt = inl refl
walk_tree h keeps _ _ (steps s t d base of listed is_public rest) zero c class lt = absurd (omega arith)
walk_tree h keeps _ _ (steps s t d base of listed is_public rest) (suc n) c class lt =
    let same : d ≡ c = let e : Some d ≡ Some c = sym of ∙ class in cc in
    let here : Contains (bases_of h c) base = subst (λ (z : ClassId). Contains (bases_of h z) base) same listed in
    let low = keeps.bases c base here in
    let inner = walk_tree h keeps (base_subobject s base) t rest n base.class (base_class s c base class) (omega arith) in
    let behind : Has (public_tree_of (public_tree h n) s base) t = subst (λ (b : Bool). Has (if b then public_tree h n base.class (base_subobject s base) else []) t) (sym is_public) inner in
    inr (has_flat_map (public_tree_of (public_tree h n) s) (bases_of h c) base t (has_from_contains (bases_of h c) base here) behind)

pub public_walk : (h : Classes) (x y : Subobject) → is_public_in h x y ≡ true → IsPublicWalk h x y
public_walk h x y e = by_class (class_of x) refl e
  where
    by_class : (o : Option ClassId) → class_of x ≡ o → list_any (same_subobject y) (public_parts h x o) ≡ true → IsPublicWalk h x y
    by_class None class t = let r = any_has (same_subobject y) (public_parts h x None) t in absurd r.has
    by_class (Some c) class t =
        let r = any_has (same_subobject y) (public_parts h x (Some c)) t in
        subst (λ z. IsPublicWalk h x z) (sym (subobject_same y r.item r.passes)) (tree_walk h (c.0 + 1) c x r.item class r.has)

pub walk_public : (h : Classes) → IsHierarchy h → (c : ClassId) (x y : Subobject) → class_of x ≡ Some c → IsPublicWalk h x y → is_public_in h x y ≡ true
walk_public h keeps c x y class walk =
    let listed : Has (public_parts h x (class_of x)) y = subst (λ o. Has (public_parts h x o) y) (sym class) (walk_tree h keeps x y walk (c.0 + 1) c class (omega arith)) in
    has_any (same_subobject y) (public_parts h x (class_of x)) y listed (same_itself y)
