-- A list with one item more.
use Rattle.std.proofs.Common.{◌≡◌, ℕ, zero, suc, ◌<◌, ◌⊎◌, inl, inr, ⊎_elim, Some, List, [], ◌∷◌, ◌++◌, length, refl, arith}
use Rattle.std.specs.List.{slice_get}
pub use Rattle.foundation.proofs.Places.{length_pushed as longer, get_last as last_one}

pub same_before : {X : Type 0} (xs : List X) (x : X) (i : ℕ) → i < length xs → slice_get xs i ≡ slice_get (xs ++ x ∷ []) i
same_before [] x i lt = absurd (omega arith)
same_before (y ∷ xs) x zero lt = refl
same_before (y ∷ xs) x (suc i) lt = same_before xs x i (omega arith)

pub old_or_last : {X : Type 0} (xs : List X) (x : X) (i : ℕ) (y : X) → slice_get (xs ++ x ∷ []) i ≡ Some y → (slice_get xs i ≡ Some y) ⊎ ((i ≡ length xs) × (x ≡ y))
old_or_last [] x zero y e = inr (refl, cc)
old_or_last [] x (suc i) y e = cc
old_or_last (z ∷ xs) x zero y e = inl e
old_or_last (z ∷ xs) x (suc i) y e = ⊎_elim (λ l. inl l) (λ p. let q = p.0 in inr (omega arith, p.1)) (old_or_last xs x i y e)
