-- Elements of lists, by their places.
use Rattle.std.proofs.Common.{◌≡◌, ℕ, ◌+◌, ◌<◌, ◌≤◌, ◌⊎◌, inl, inr, ⊎_elim, refl, Bool, true, false, nat_lt, Some, None, List, length, get_or, sym, ap, subst, ◌∙◌, arith}
use Rattle.std.specs.Prelude.{Contains, slice_get, position}
use Rattle.std.specs.List.{position_or_len}
use Rattle.std.proofs.lemmas.Bool.{cases_order, cases_lt}
use Rattle.std.proofs.lemmas.Bool.Decides.{nat_tests}
use Rattle.std.proofs.lemmas.Option.{slice_get-get_or, slice_get_within, get_or_from_slice_get}
use Rattle.std.proofs.lemmas.List.Sums.{fails_before_first}

pub at_place : {X : Type 0} (xs : List X) (x : X) → (has : Contains xs x) → slice_get xs has.0 ≡ Some x
at_place xs x (k, within, e) = slice_get-get_or xs k x within ∙ ap Some e

-- a place before the next one is a place before, or this one
pub before_or_here : {X : Type 0} (xs : List X) (i k : ℕ) (x y : X) → k < i + 1 → slice_get xs i ≡ Some x → slice_get xs k ≡ Some y → (k < i) ⊎ (y ≡ x)
before_or_here xs i k x y lt here there = ⊎_elim
    (λ same. let e : slice_get xs i ≡ Some y = subst (λ (j : ℕ). slice_get xs j ≡ Some y) same there in
    let f : y ≡ x = cc in inr f)
    (λ o. ⊎_elim (λ l. inl l) (λ g. absurd (omega arith)) o)
    (cases_order k i)

-- where no place passes a test no element does
pub none_passes : {X : Type 0} (p : X → Bool) (xs : List X) (m : ℕ) (x : X) → position p xs ≡ None → slice_get xs m ≡ Some x → p x ≡ true → ⊥
none_passes p xs m x none at passes = by (cases_lt (position_or_len p xs) (length xs))
  where
    by : (position_or_len p xs < length xs) ⊎ (length xs ≤ position_or_len p xs) → ⊥
    by (inl h) =
        let t : nat_lt (position_or_len p xs) (length xs) ≡ true = grind (arith, nat_tests) in
        let e : position p xs ≡ Some (position_or_len p xs) = rw t refl in
        let clash : None ≡ Some (position_or_len p xs) = sym none ∙ e in
        absurd (cc)
    by (inr h) =
        let within : m < length xs = slice_get_within xs m x at in
        let fails : p (get_or xs m x) ≡ false = fails_before_first p xs m x (omega arith) in
        let clash : true ≡ false = sym passes ∙ ap p (sym (get_or_from_slice_get xs m x x at)) ∙ fails in
        absurd (cc)

pub not_both : {b : Bool} → b ≡ true → b ≡ false → ⊥
not_both t f = let e : true ≡ false = sym t ∙ f in cc
