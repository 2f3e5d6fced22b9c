-- What holds of each element of a list, by a walk over it.
use Rattle.std.proofs.Common.{◌≡◌, ℕ, ◌+◌, ◌<◌, ◌≤◌, ⊎_elim, Some, List, length, get_or, refl, subst, sym, arith}
use Rattle.std.specs.List.{slice_get, Contains}
use Rattle.std.proofs.lemmas.Bool.{cases_order}
use Rattle.std.proofs.lemmas.Option.{slice_get_read}

-- P holds of each element before the i-th
pub record EachBefore {X : Type 0} (P : X → Type 0) (xs : List X) (i : ℕ) : Type 0 where
  pub each : (k : ℕ) (x : X) → k < i → slice_get xs k ≡ Some x → P x

pub none_before : {X : Type 0} (P : X → Type 0) (xs : List X) → EachBefore P xs 0
none_before P xs = record { each = λ k x lt e. absurd (omega arith) }

pub one_more : {X : Type 0} (P : X → Type 0) (xs : List X) (i : ℕ) (x : X) → i < length xs → x ≡ get_or xs i x → EachBefore P xs i → P x → EachBefore P xs (i + 1)
one_more P xs i x lt is before here = record {
  each = λ k y less e. ⊎_elim
      (λ same. let f : slice_get xs i ≡ Some y = subst (λ j. slice_get xs j ≡ Some y) same e in
      let g : slice_get xs i ≡ Some x = slice_get_read xs (length xs) i x refl lt is in
      let h : x ≡ y = cc in subst P h here)
      (λ o. ⊎_elim (λ l. before.each k y l e) (λ g. absurd (omega arith)) o)
      (cases_order k i);
}

pub all_of : {X : Type 0} (P : X → Type 0) (xs : List X) (i : ℕ) → length xs ≤ i → EachBefore P xs i → (x : X) → Contains xs x → P x
all_of P xs i le before x (k, lt, e) = before.each k x (omega arith) (slice_get_read xs (length xs) k x refl lt (sym e))
