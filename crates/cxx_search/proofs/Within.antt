-- What lies in a subobject is found among its parts.
use Rattle.std.proofs.Common.{◌≡◌, true, Option, Some, None, refl, subst, sym}
use Rattle.std.specs.Prelude.{map}
use Rattle.cxx_hierarchy.specs.declared.records.ClassId.{ClassId}
use Rattle.cxx_hierarchy.specs.Classes.{Classes}
use Rattle.cxx_hierarchy.specs.Hierarchies.{IsHierarchy}
use Rattle.cxx_subobject.specs.declared.Subobject.{Subobject}
use Rattle.cxx_subobject.specs.Subobjects.{IsSubobject, class_of, join, same_subobject}
use Rattle.cxx_subobject.specs.Inside.{IsInside}
use Rattle.cxx_subobject.specs.Preorder.{preorder}
use Rattle.cxx_subobject.proofs.TreeLemmas.{preorder_has, has_preorder, preorder_once, subobject_same, same_itself}
use Rattle.cxx_subobject.proofs.InsideLemmas.{join_injective}
use Rattle.foundation.proofs.Members.{Has, EachOnce, has_map, from_map}
use Rattle.foundation.proofs.Chosen.{any_has, has_any}
use Rattle.cxx_search.specs.Searches.{preorder_of, subobjects_under, is_within}
use Rattle.cxx_search.proofs.Once.{once_map}

-- the parts of x are the subobjects that lie in it
pub parts_inside : (h : Classes) (x y : Subobject) → Has (subobjects_under h x) y → IsInside h x y
parts_inside h x y has =
    let r = from_map (join x) (preorder_of h (class_of x)) y has in
    by_class (class_of x) refl r.0 r.1 (sym r.2)
  where
    by_class : (o : Option ClassId) → class_of x ≡ o → (part : Subobject) → Has (preorder_of h o) part → y ≡ join x part → IsInside h x y
    by_class None class part listed is = absurd listed
    by_class (Some c) class part listed is = record { class = c; of_class = class; part = part; valid = has_preorder h c part listed; joined = is }

pub inside_parts : (h : Classes) → IsHierarchy h → (x y : Subobject) → IsInside h x y → Has (subobjects_under h x) y
inside_parts h keeps x y k =
    let listed : Has (preorder_of h (class_of x)) k.part = subst (λ o. Has (preorder_of h o) k.part) (sym k.of_class) (preorder_has h k.class keeps k.part k.valid) in
    subst (λ z. Has (subobjects_under h x) z) (sym k.joined) (has_map (join x) (preorder_of h (class_of x)) k.part listed)

-- no part stands twice
pub parts_once : (h : Classes) → IsHierarchy h → (c : ClassId) (x : Subobject) → IsSubobject h c x → EachOnce (subobjects_under h x)
parts_once h keeps c x there = by_class (class_of x) refl
  where
    by_class : (o : Option ClassId) → class_of x ≡ o → EachOnce (map (join x) (preorder_of h o))
    by_class None class = tt
    by_class (Some d) class = once_map (join x) (preorder h d)
        (λ s t a b e. join_injective h keeps c d x s t there class (has_preorder h d s a) (has_preorder h d t b) e)
        (preorder_once h d)

pub within_inside : (h : Classes) (x y : Subobject) → is_within h x y ≡ true → IsInside h x y
within_inside h x y e =
    let r = any_has (same_subobject y) (subobjects_under h x) e in
    parts_inside h x y (subst (λ z. Has (subobjects_under h x) z) (sym (subobject_same y r.item r.passes)) r.has)

pub inside_within : (h : Classes) → IsHierarchy h → (x y : Subobject) → IsInside h x y → is_within h x y ≡ true
inside_within h keeps x y k = has_any (same_subobject y) (subobjects_under h x) y (inside_parts h keeps x y k) (same_itself y)
