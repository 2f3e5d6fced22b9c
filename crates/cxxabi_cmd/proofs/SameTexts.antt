-- Two texts are one, or they are not.
use Rattle.std.proofs.Common.{◌≡◌, ℕ, ◌⊎◌, ⊎_elim, inl, inr, List, [], ◌∷◌, refl, arith}
use Rattle.std.proofs.lemmas.Bool.{cases_order}

-- two numbers are one, or they are not
same_number : (a b : ℕ) → (a ≡ b) ⊎ (a ≡ b → ⊥)
same_number a b = ⊎_elim (λ same. inl same) (λ differ. inr (λ same. ⊎_elim (λ lower. omega arith) (λ higher. omega arith) differ)) (cases_order a b)

pub same_text : (a b : List ℕ) → (a ≡ b) ⊎ (a ≡ b → ⊥)
same_text [] [] = inl refl
same_text [] (y ∷ ys) = inr (λ same. cc)
same_text (x ∷ xs) [] = inr (λ same. cc)
same_text (x ∷ xs) (y ∷ ys) =
    ⊎_elim
    (λ head. ⊎_elim (λ tail. inl (cc)) (λ other. inr (λ same. other (cc))) (same_text xs ys))
    (λ other. inr (λ same. other (cc)))
    (same_number x y)
