-- A list with one item set, and one made longer by equal items.
use Rattle.std.proofs.Common.{◌≡◌, ℕ, zero, suc, ◌+◌, ◌<◌, ◌≤◌, Some, List, [], ◌∷◌, ◌++◌, length, refl, ap, arith}
use Rattle.std.specs.Prelude.{Option, None, slice_get, slice_index_or, slice_set, replicate}
use Rattle.std.proofs.lemmas.List.{set_past}

pub past_end : {X : Type 0} (xs : List X) (i : ℕ) (x : X) → length xs ≤ i → slice_set xs i x ≡ xs
past_end xs i x le = set_past xs i x le

pub set_same : {X : Type 0} (xs : List X) (i : ℕ) (v : X) → i < length xs → slice_get (slice_set xs i v) i ≡ Some v
set_same [] i v lt = absurd (omega arith)
set_same (x ∷ xs) zero v lt = refl
set_same (x ∷ xs) (suc i) v lt = set_same xs i v (omega arith)

pub set_other : {X : Type 0} (xs : List X) (i j : ℕ) (v : X) → (i ≡ j → ⊥) → slice_get (slice_set xs i v) j ≡ slice_get xs j
set_other [] i j v differ = refl
set_other (x ∷ xs) zero zero v differ = absurd (differ refl)
set_other (x ∷ xs) zero (suc j) v differ = refl
set_other (x ∷ xs) (suc i) zero v differ = refl
set_other (x ∷ xs) (suc i) (suc j) v differ = set_other xs i j v (λ e. differ (ap (λ n. suc n) e))

-- an item, and the blank one past the end
pub blank_past : {X Y : Type 0} (f : Option X → Y) (xs : List X) (i : ℕ) (blank : X) → f None ≡ f (Some blank) → f (slice_get xs i) ≡ f (Some (slice_index_or xs i blank))
blank_past f [] i blank e = e
blank_past f (x ∷ xs) zero blank e = refl
blank_past f (x ∷ xs) (suc i) blank e = blank_past f xs i blank e

pub get_equal : {X : Type 0} (n i : ℕ) (x : X) → i < n → slice_get (replicate n x) i ≡ Some x
get_equal zero i x lt = absurd (omega arith)
get_equal (suc n) zero x lt = refl
get_equal (suc n) (suc i) x lt = get_equal n i x (omega arith)

-- behind the end stand the equal ones
pub get_longer : {X : Type 0} (xs : List X) (n i : ℕ) (x : X) → length xs ≤ i → i < length xs + n → slice_get (xs ++ replicate n x) i ≡ Some x
get_longer [] n i x le lt = get_equal n i x (omega arith)
get_longer (y ∷ xs) n zero x le lt = absurd (omega arith)
get_longer (y ∷ xs) n (suc i) x le lt = get_longer xs n i x (omega arith) (omega arith)
