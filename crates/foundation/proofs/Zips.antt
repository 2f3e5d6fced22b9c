-- Two lists that go along with each other, item by item.
use Rattle.std.proofs.Common.{◌≡◌, List, [], ◌∷◌, ◌++◌, ⊎_elim, inl, inr, refl, subst}
use Rattle.std.specs.List.{AllZip, flat_map}
use Rattle.foundation.proofs.Members.{Has}

-- behind one another
pub zip_append : {A B : Type 0} (R : A → B → Type 0) (xs more : List A) (ys rest : List B) → AllZip R xs ys → AllZip R more rest → AllZip R (xs ++ more) (ys ++ rest)
zip_append R [] more [] rest a b = b
zip_append R [] more (y ∷ ys) rest a b = absurd a
zip_append R (x ∷ xs) more [] rest a b = absurd a
zip_append R (x ∷ xs) more (y ∷ ys) rest a b = (a.0, zip_append R xs more ys rest a.1 b)

-- and along one list
pub zip_flat_map : {X A B : Type 0} (R : A → B → Type 0) (f : X → List A) (g : X → List B) (xs : List X) → ((x : X) → Has xs x → AllZip R (f x) (g x)) → AllZip R (flat_map f xs) (flat_map g xs)
zip_flat_map R f g [] each = tt
zip_flat_map R f g (x ∷ xs) each = zip_append R (f x) (flat_map f xs) (g x) (flat_map g xs) (each x (inl refl)) (zip_flat_map R f g xs (λ y has. each y (inr has)))

-- what goes along with an item
pub zip_has : {A B : Type 0} (R : A → B → Type 0) (xs : List A) (ys : List B) (x : A) → AllZip R xs ys → Has xs x → (y : B) × R x y
zip_has R [] ys x z has = absurd has
zip_has R (a ∷ xs) [] x z has = absurd z
zip_has {A} {B} R (a ∷ xs) (y ∷ ys) x z has = ⊎_elim (λ same. (y, subst (λ (b : A). R b y) same z.0)) (λ more. zip_has R xs ys x z.1 more) has
