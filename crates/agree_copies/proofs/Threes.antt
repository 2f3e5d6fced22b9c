-- Three lists that go along with each other.
use Rattle.std.proofs.Common.{List, [], ◌∷◌, ◌++◌, map, inl, inr, refl}
use Rattle.std.specs.List.{flat_map}
use Rattle.foundation.proofs.Members.{Has}

-- the relation holds of the items of three lists in turn
abbrev pub AllThree : {A B C : Type 0} → (A → B → C → Type 0) → List A → List B → List C → Type 0
AllThree R [] [] [] = Unit {0}
AllThree R (x ∷ xs) (y ∷ ys) (z ∷ zs) = R x y z × AllThree R xs ys zs
AllThree R xs ys zs = ⊥

pub three_append : {A B C : Type 0} (R : A → B → C → Type 0) (xs xs' : List A) (ys ys' : List B) (zs zs' : List C) → AllThree R xs ys zs → AllThree R xs' ys' zs' → AllThree R (xs ++ xs') (ys ++ ys') (zs ++ zs')
three_append R [] xs' [] ys' [] zs' a b = b
three_append R (x ∷ xs) xs' (y ∷ ys) ys' (z ∷ zs) zs' a b = (a.0, three_append R xs xs' ys ys' zs zs' a.1 b)
three_append R [] xs' [] ys' (z ∷ zs) zs' a b = absurd a
three_append R [] xs' (y ∷ ys) ys' zs zs' a b = absurd a
three_append R (x ∷ xs) xs' [] ys' zs zs' a b = absurd a
three_append R (x ∷ xs) xs' (y ∷ ys) ys' [] zs' a b = absurd a

pub three_flat_map : {X A B C : Type 0} (R : A → B → C → Type 0) (f : X → List A) (g : X → List B) (k : X → List C) (xs : List X) → ((x : X) → Has xs x → AllThree R (f x) (g x) (k x)) → AllThree R (flat_map f xs) (flat_map g xs) (flat_map k xs)
three_flat_map R f g k [] a = tt
three_flat_map R f g k (x ∷ xs) a = three_append R (f x) (flat_map f xs) (g x) (flat_map g xs) (k x) (flat_map k xs) (a x (inl refl)) (three_flat_map R f g k xs (λ y has. a y (inr has)))

pub three_map : {X A B C : Type 0} (R : A → B → C → Type 0) (f : X → A) (g : X → B) (k : X → C) (xs : List X) → ((x : X) → Has xs x → R (f x) (g x) (k x)) → AllThree R (map f xs) (map g xs) (map k xs)
three_map R f g k [] a = tt
three_map R f g k (x ∷ xs) a = (a x (inl refl), three_map R f g k xs (λ y has. a y (inr has)))
