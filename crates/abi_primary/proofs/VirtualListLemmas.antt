-- A class without virtual bases has no virtual primary base.
use Rattle.std.proofs.Common.{◌≡◌, ℕ, ◌<◌, ◌≤◌, Bool, true, false, cond, Option, Some, None, List, [], ◌∷◌, length, refl, ap, sym, ◌∙◌, arith}
use Rattle.std.specs.Prelude.{◌&&◌, ◌==◌}
use Rattle.std.specs.List.{Contains, find}
use Rattle.foundation.proofs.Places.{contains_later}
use Rattle.cxx_hierarchy.specs.declared.records.ClassId.{ClassId}
use Rattle.cxx_hierarchy.specs.Classes.{Classes}
use Rattle.cxx_hierarchy.specs.Hierarchies.{IsHierarchy}
use Rattle.cxx_hierarchy.specs.VirtualBases.{HasVirtualBase}
use Rattle.cxx_subobject.specs.declared.Subobject.{Subobject}
use Rattle.cxx_subobject.specs.Subobjects.{IsSubobject, whole, shared}
use Rattle.cxx_subobject.specs.Preorder.{preorder}
use Rattle.cxx_subobject.proofs.PathLemmas.{virtual_below}
use Rattle.cxx_subobject.proofs.TreeLemmas.{preorder_lists}
use Rattle.abi_primary.specs.declared.Primary.{Primary}
use Rattle.abi_primary.specs.PrimaryBase.{is_nearly_base, is_free_base, virtual_primary, choice}
use Rattle.abi_primary.specs.VirtualLists.{ListsVirtual, has_all, left_out}

-- nothing is found where each element fails
pub none_found : {X : Type 0} (p : X → Bool) (xs : List X) → ((x : X) → Contains xs x → p x ≡ false) → find p xs ≡ None
none_found p [] fails = refl
none_found {X} p (x ∷ xs) fails =
    let here = fails x (0, omega arith, refl) in
    let rest = none_found p xs (λ y has. fails y (contains_later x xs y has)) in
    ap (λ b. cond b (Some x) (find p xs)) here ∙ rest

and_false : (a b : Bool) → b ≡ false → (a && b) ≡ false
and_false true b e = e
and_false false b e = refl

and_first : (a b : Bool) → a ≡ false → (a && b) ≡ false
and_first a b e = ap (λ x. x && b) e

-- no subobject is a nearly empty virtual base
none_nearly : (h : Classes) (nearly : List Bool) (c : ClassId) → ((v : ClassId) → HasVirtualBase h c v → ⊥) → (s : Subobject) → IsSubobject h c s → is_nearly_base nearly s ≡ false
none_nearly h nearly c none_virtual _ (whole path leads) = and_false (length (c ∷ path) == 1) false refl
none_nearly h nearly c none_virtual _ (shared v path has leads) = absurd (none_virtual v has)

pub listed_primary : (h : Classes) (nearly : List Bool) (earlier : List Primary) (c : ClassId) (list : List Subobject) → IsHierarchy h → ListsVirtual h c list → virtual_primary nearly earlier list ≡ virtual_primary nearly earlier (preorder h c)
listed_primary h nearly earlier c list keeps (has_all e) = ap (virtual_primary nearly earlier) e
listed_primary h nearly earlier c list keeps (left_out none_virtual e) = ap (virtual_primary nearly earlier) e ∙ sym nothing
  where
    fails : (s : Subobject) → Contains (preorder h c) s → is_nearly_base nearly s ≡ false
    fails s has = none_nearly h nearly c none_virtual s ((preorder_lists h c keeps).valid s has)

    nothing : virtual_primary nearly earlier (preorder h c) ≡ virtual_primary nearly earlier []
    nothing =
        ap (λ (o : Option Subobject). choice o (find (is_nearly_base nearly) (preorder h c))) (none_found (is_free_base nearly earlier (preorder h c)) (preorder h c) (λ s has. and_first (is_nearly_base nearly s) _ (fails s has)))
        ∙ ap (choice None) (none_found (is_nearly_base nearly) (preorder h c) fails)

-- the classes before c are none of its virtual bases
pub record AreNoBases (h : Classes) (c : ClassId) (n : ℕ) : Type 0 where
  pub each : (v : ClassId) → v.0 < n → HasVirtualBase h c v → ⊥

pub no_virtual : (h : Classes) (c : ClassId) (n : ℕ) → IsHierarchy h → AreNoBases h c n → c.0 ≤ n → (v : ClassId) → HasVirtualBase h c v → ⊥
no_virtual h c n keeps none_virtual le v has = let lt = virtual_below h keeps c v has in none_virtual.each v (omega arith) has
