-- Items of lists that grow at their end.
use Rattle.std.proofs.Common.{◌≡◌, ℕ, zero, suc, ◌+◌, ◌<◌, ⊎_elim, List, [], ◌∷◌, ◌++◌, Some, length, get_or, refl, ap, subst, ◌∙◌, arith}
use Rattle.std.specs.List.{slice_get}
use Rattle.std.proofs.lemmas.Bool.{cases_lt}
use Rattle.std.proofs.lemmas.Option.{slice_get-get_or}

-- reading with a default
pub or_front : {X : Type 0} (xs ys : List X) (i : ℕ) (d : X) → i < length xs → get_or (xs ++ ys) i d ≡ get_or xs i d
or_front [] ys i d lt = absurd (omega arith)
or_front (y ∷ xs) ys zero d lt = refl
or_front (y ∷ xs) ys (suc i) d lt = or_front xs ys i d (omega arith)

pub or_last : {X : Type 0} (xs : List X) (x d : X) → get_or (xs ++ x ∷ []) (length xs) d ≡ x
or_last [] x d = refl
or_last (y ∷ xs) x d = or_last xs x d

pub or_past : {X : Type 0} (xs : List X) (i : ℕ) (d : X) → (i < length xs → ⊥) → get_or xs i d ≡ d
or_past [] i d out = refl
or_past (y ∷ xs) zero d out = absurd (out (omega arith))
or_past (y ∷ xs) (suc i) d out = or_past xs i d (λ lt. out (omega arith))

pub get_at : {X : Type 0} (xs ys : List X) (i : ℕ) (d : X) → xs ≡ ys → i < length xs → slice_get ys i ≡ Some (get_or xs i d)
get_at {X} xs ys i d e lt = subst (λ (zs : List X). slice_get zs i ≡ Some (get_or xs i d)) e (slice_get-get_or xs i d lt)

-- the items before a place, and the one there
pub next_item : {X : Type 0} (P : X → Type 0) (xs : List X) (i : ℕ) (d : X) → i < length xs → ((k : ℕ) (x : X) → k < i → slice_get xs k ≡ Some x → P x) → P (get_or xs i d) → (k : ℕ) (x : X) → k < i + 1 → slice_get xs k ≡ Some x → P x
next_item {X} P xs i d within so here k x lt e = ⊎_elim (λ small. so k x small e)
    (λ past.
    let same : k ≡ i = omega arith in
    let moved : slice_get xs k ≡ Some (get_or xs i d) = ap (slice_get xs) same ∙ slice_get-get_or xs i d within in
    let one : get_or xs i d ≡ x = cc in subst (λ (z : X). P z) one here)
    (cases_lt k i)
