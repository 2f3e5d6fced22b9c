-- Locals that are pushed one by one behind the given values.
use Rattle.std.proofs.Common.{◌≡◌, ℕ, zero, suc, ◌+◌, List, [], ◌∷◌, ◌++◌, refl, ap, ◌∙◌, append_assoc, arith}
use Rattle.std.specs.Prelude.{replicate}

pub one_longer : {X : Type 0} (xs : List X) (n : ℕ) (x : X) → (xs ++ replicate n x) ++ x ∷ [] ≡ xs ++ replicate (n + 1) x
one_longer xs n x = append_assoc xs (replicate n x) (x ∷ []) ∙ ap (λ t. xs ++ t) (equal_ones n x)
  where
    equal_ones : {X : Type 0} (n : ℕ) (x : X) → replicate n x ++ x ∷ [] ≡ replicate (n + 1) x
    equal_ones zero x = refl
    equal_ones (suc n) x = ap (λ t. x ∷ t) (equal_ones n x) ∙ ap (λ k. replicate k x) (let e : suc (n + 1) ≡ suc n + 1 = omega arith in e)
