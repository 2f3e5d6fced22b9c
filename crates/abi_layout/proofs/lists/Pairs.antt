-- What holds of each two elements of a list, the one before the other.
use Rattle.std.proofs.Common.{◌≡◌, ℕ, zero, suc, ◌<◌, ⊎_elim, inl, inr, Some, None, List, [], ◌∷◌, ◌++◌, map, refl, subst, arith}
use Rattle.std.specs.List.{slice_get}
use Rattle.foundation.proofs.Members.{index_of, has_at}
use Rattle.abi_layout.proofs.rules.Stages.{Has, has_cases}
pub use Rattle.foundation.proofs.Members.{from_map as has_mapped}

abbrev pub Pairs : {X : Type 0} → (X → X → Type 0) → List X → Type 0
Pairs R [] = Unit {0}
Pairs {X} R (x ∷ xs) = ((y : X) → Has xs y → R x y) × Pairs R xs

pub pairs_get : {X : Type 0} (R : X → X → Type 0) (xs : List X) (i j : ℕ) (x y : X) → Pairs R xs → i < j → slice_get xs i ≡ Some x → slice_get xs j ≡ Some y → R x y
pairs_get R [] i j x y all lt e f = let g : None ≡ Some x = e in cc
pairs_get R (z ∷ xs) i zero x y all lt e f = absurd (omega arith)
pairs_get R (z ∷ xs) zero (suc j) x y all lt e f = let same : z ≡ x = cc in subst (λ w. R w y) same (all.0 y (has_at xs j y f))
pairs_get R (z ∷ xs) (suc i) (suc j) x y all lt e f = pairs_get R xs i j x y all.1 (omega arith) e f

-- of two elements that differ, whichever is the first
pub pairs_any : {X : Type 0} (R : X → X → Type 0) (xs : List X) (x y : X) → ((a b : X) → R a b → R b a) → Pairs R xs → Has xs x → Has xs y → (x ≡ y → ⊥) → R x y
pairs_any R [] x y back all hx hy differ = absurd hx
pairs_any R (z ∷ xs) x y back all hx hy differ = ⊎_elim
    (λ e. ⊎_elim (λ f. absurd (differ (let same : x ≡ y = cc in same))) (λ k. subst (λ w. R w y) e (all.0 y k)) hy)
    (λ h. ⊎_elim (λ f. subst (λ w. R x w) f (back z x (all.0 x h))) (λ k. pairs_any R xs x y back all.1 h k differ) hy)
    hx

-- in a list of some of the elements, none twice
pub pairs_among : {X : Type 0} (R : X → X → Type 0) (xs ys : List X) → ((a b : X) → R a b → R b a) → Pairs R xs → ((y : X) → Has ys y → Has xs y) → Pairs (λ x y. x ≡ y → ⊥) ys → Pairs R ys
pairs_among R xs [] back all among differ = tt
pairs_among R xs (y ∷ ys) back all among differ = (λ z has. pairs_any R xs y z back all (among y (inl refl)) (among z (inr has)) (differ.0 z has), pairs_among R xs ys back all (λ z has. among z (inr has)) differ.1)

pub pairs_append : {X : Type 0} (R : X → X → Type 0) (xs ys : List X) → Pairs R xs → Pairs R ys → ((x y : X) → Has xs x → Has ys y → R x y) → Pairs R (xs ++ ys)
pairs_append R [] ys a b cross = b
pairs_append R (x ∷ xs) ys a b cross = (λ y has. ⊎_elim (λ h. a.0 y h) (λ k. cross x y (inl refl) k) (has_cases xs ys y has), pairs_append R xs ys a.1 b (λ z y h k. cross z y (inr h) k))

pub pairs_weaker : {X : Type 0} (R S : X → X → Type 0) (xs : List X) → ((x y : X) → Has xs x → Has xs y → R x y → S x y) → Pairs R xs → Pairs S xs
pairs_weaker R S [] weaker all = tt
pairs_weaker R S (x ∷ xs) weaker all = (λ y has. weaker x y (inl refl) (inr has) (all.0 y has), pairs_weaker R S xs (λ z y h k r. weaker z y (inr h) (inr k) r) all.1)

pub pairs_map : {X Y : Type 0} (R : Y → Y → Type 0) (f : X → Y) (xs : List X) → Pairs (λ x y. R (f x) (f y)) xs → Pairs R (map f xs)
pairs_map R f [] all = tt
pairs_map R f (x ∷ xs) all = (λ y has. let r = has_mapped f xs y has in subst (λ z. R (f x) z) r.2 (all.0 r.0 r.1), pairs_map R f xs all.1)

-- elements of one list that are told apart by their numbers
pub pairs_by_number : {X : Type 0} (R : X → X → Type 0) (xs : List X) → ((i j : ℕ) (x y : X) → i < j → slice_get xs i ≡ Some x → slice_get xs j ≡ Some y → R x y) → Pairs R xs
pairs_by_number R [] each = tt
pairs_by_number R (x ∷ xs) each = (λ y has. let r = index_of xs y has in each zero (suc r.0) x y (omega arith) refl r.1, pairs_by_number R xs (λ i j y z lt e f. each (suc i) (suc j) y z (omega arith) e f))
