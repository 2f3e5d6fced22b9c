-- The leaves of two parts as pairs, subobject by subobject.
use Rattle.std.proofs.Common.{◌≡◌, ℕ, suc, ◌+◌, List, [], ◌∷◌, ◌++◌, length, inl, inr, refl, ap, sym, ◌∙◌, arith}
use Rattle.std.specs.Prelude.{zip}
use Rattle.std.specs.List.{flat_map}
use Rattle.foundation.proofs.Members.{Has}
use Rattle.cxx_hierarchy.specs.declared.records.ClassId.{ClassId}
use Rattle.cxx_hierarchy.specs.Classes.{Classes}
use Rattle.cxx_subobject.specs.declared.Subobject.{Subobject}
use Rattle.cxx_subobject.specs.Subobjects.{class_of}
use Rattle.cxx_subobject.specs.Preorder.{preorder}
use Rattle.cxx_subobject.specs.Locations.{ObjectPart}
use Rattle.path_model.specs.Values.{Leaf, inner_part}
use Rattle.path_model.specs.Places.{own_leaves, leaves_within, leaves_of}
use Rattle.agree_copies.proofs.Threes.{AllThree}

pub three_length : {A B C : Type 0} (R : A → B → C → Type 0) (xs : List A) (ys : List B) (zs : List C) → AllThree R xs ys zs → length ys ≡ length zs
three_length R [] [] [] a = refl
three_length R (x ∷ xs) (y ∷ ys) (z ∷ zs) a = ap suc (three_length R xs ys zs a.1)
three_length R [] [] (z ∷ zs) a = absurd a
three_length R [] (y ∷ ys) zs a = absurd a
three_length R (x ∷ xs) [] zs a = absurd a
three_length R (x ∷ xs) (y ∷ ys) [] a = absurd a

zip_fronts : {A B : Type 0} (xs xs' : List A) (ys ys' : List B) → length xs ≡ length ys → zip (xs ++ xs') (ys ++ ys') ≡ zip xs ys ++ zip xs' ys'
zip_fronts [] xs' [] ys' e = refl
zip_fronts [] xs' (y ∷ ys) ys' e = absurd (omega arith)
zip_fronts (x ∷ xs) xs' [] ys' e = absurd (omega arith)
zip_fronts {A} {B} (x ∷ xs) xs' (y ∷ ys) ys' e = let l : length xs ≡ length ys = omega arith in ap (λ (t : List (A × B)). (x, y) ∷ t) (zip_fronts xs xs' ys ys' l)

zip_mapped : {X A B : Type 0} (f : X → List A) (g : X → List B) (xs : List X) → ((x : X) → Has xs x → length (f x) ≡ length (g x)) → zip (flat_map f xs) (flat_map g xs) ≡ flat_map (λ x. zip (f x) (g x)) xs
zip_mapped f g [] same = refl
zip_mapped {X} {A} {B} f g (x ∷ xs) same = zip_fronts (f x) (flat_map f xs) (g x) (flat_map g xs) (same x (inl refl)) ∙ ap (λ (t : List (A × B)). zip (f x) (g x) ++ t) (zip_mapped f g xs (λ y has. same y (inr has)))

-- the leaves of the members that a subobject's class declares
abbrev pub own_of : Classes → ClassId → ObjectPart → Subobject → List Leaf
own_of h c p i = own_leaves h (leaves_within h c.0) (class_of i) (inner_part p i)

pub leaves_paired : (h : Classes) (c : ClassId) (to from : ObjectPart) → ((i : Subobject) → Has (preorder h c) i → length (own_of h c to i) ≡ length (own_of h c from i))
    → flat_map (λ i. zip (own_of h c to i) (own_of h c from i)) (preorder h c) ≡ zip (leaves_of h c to) (leaves_of h c from)
leaves_paired h c to from same =
    let next : suc c.0 ≡ c.0 + 1 = omega arith in
    sym (zip_mapped (own_of h c to) (own_of h c from) (preorder h c) same) ∙ ap (λ (n : ℕ). zip (leaves_within h n c to) (leaves_within h n c from)) next
