use Rattle.std.proofs.Common.{◌≡◌, ℕ, ◌+◌, ◌<◌, ◌≤◌, ◌⊎◌, ◌≢◌, inl, inr, ⊎_elim, Some, None, List, [], ◌∷◌, ◌++◌, length, subst, Bool, true, false, arith, get_or}
use Rattle.std.specs.List.{slice_get, find}
use Rattle.std.proofs.Math.Nat.{le_refl}
use Rattle.std.specs.Prelude.{All, nat_le}
use Rattle.std.specs.List.Sorted.{IsNonDecreasingBy, IsPartitionPoint}
use Rattle.std.proofs.lemmas.Bool.Decides.{nat_tests}
use Rattle.std.proofs.lemmas.Bool.{cases_lt}
use Rattle.std.proofs.lemmas.Option.{slice_get-get_or, slice_get_within, get_or_from_slice_get}
use Rattle.byte_memory.specs.Regions.{IsAscendingBy, CountsStarts}
use Rattle.byte_memory.proofs.Lists.{slice_get-push_cases, is_false, find-none, find-first}

-- an item that passes the test has the address
abbrev pub HasAddress : {X : Type 0} → (X → ℕ) → (X → ℕ) → List X → ℕ → (X → Bool) → Type 0
HasAddress {X} start size xs at p = (k : ℕ) (x : X) → slice_get xs k ≡ Some x → p x ≡ true → (start x ≤ at) × (at < start x + size x)

-- fail item starts at most there, so none is found
pub find-empty : {X : Type 0} (start size : X → ℕ) (xs : List X) (at : ℕ) (p : X → Bool) → HasAddress start size xs at p → CountsStarts start xs at 0 → find p xs ≡ None
find-empty start size xs at p has count =
    find-none p xs (λ k x here. is_false (p x) (λ pass. let low = (has k x here pass).0 in let high = count.above k x (omega arith) here in omega arith))

-- the last item that starts at most there is the one that is found
pub find-last : {X : Type 0} (start size : X → ℕ) (xs : List X) (at : ℕ) (p : X → Bool) (i : ℕ) (x : X) → IsAscendingBy start size xs → HasAddress start size xs at p → slice_get xs i ≡ Some x → p x ≡ true → find p xs ≡ Some x
find-last start size xs at p i x up has here pass =
    find-first p xs i x here pass (λ k y before there. is_false (p y) (λ also.
    let apart = up k i y x before there here in
    let low = (has i x here pass).0 in
    let high = (has k y there also).1 in
    omega arith))

-- where the last item that starts at most there fails, none is found
pub find-fails : {X : Type 0} (start size : X → ℕ) (xs : List X) (at : ℕ) (p : X → Bool) (i : ℕ) (x : X) → IsAscendingBy start size xs → HasAddress start size xs at p → CountsStarts start xs at (i + 1) → slice_get xs i ≡ Some x → p x ≡ false → find p xs ≡ None
find-fails {X} start size xs at p i x up has count here fail =
    find-none p xs (λ k y there. is_false (p y) (λ pass. ⊎_elim (λ before. earlier k y there pass before) (λ after. later k y there pass after) (cases_lt k i)))
  where
    earlier : (k : ℕ) (y : X) → slice_get xs k ≡ Some y → p y ≡ true → k < i → ⊥
    earlier k y there pass before =
        let apart : start y + size y ≤ start x = up k i y x before there here in
        let low : start x ≤ at = count.below i x (omega arith) here in
        let high : at < start y + size y = (has k y there pass).1 in
        omega arith

    same : (k : ℕ) (y : X) → slice_get xs k ≡ Some y → p y ≡ true → k ≡ i → ⊥
    same k y there pass e =
        let there' : slice_get xs i ≡ Some y = rw e at there in
        let one : x ≡ y = cc in
        let test : p x ≡ true = rw one pass in
        cc

    later : (k : ℕ) (y : X) → slice_get xs k ≡ Some y → p y ≡ true → i ≤ k → ⊥
    later k y there pass after =
        let low : start y ≤ at = (has k y there pass).0 in
        ⊎_elim (λ (more : i < k). let high : at < start y = count.above k y (omega arith) there in absurd (omega arith)) (λ (less : k ≤ i). same k y there pass (omega arith)) (cases_lt i k)

-- items that ascend are in the order of their starts, which a binary search asks for
pub IsAscendingBy-ordered : {X : Type 0} (start size : X → ℕ) (xs : List X) → IsAscendingBy start size xs → IsNonDecreasingBy start xs
IsAscendingBy-ordered start size xs up i j d le inside =
    ⊎_elim (λ (less : i < j). let apart = up i j (get_or xs i d) (get_or xs j d) less (slice_get-get_or xs i d (omega arith)) (slice_get-get_or xs j d inside) in omega arith)
    (λ (more : j ≤ i). let e : i ≡ j = omega arith in rw e (le_refl (start (get_or xs j d))))
    (cases_lt i j)

-- items still ascend after one above them all was pushed
pub IsAscendingBy-push : {X : Type 0} (start size : X → ℕ) (xs : List X) (new : X) → IsAscendingBy start size xs → All (λ x. start x + size x ≤ start new) xs → IsAscendingBy start size (xs ++ new ∷ [])
IsAscendingBy-push {X} start size xs new up below i j x y less here there =
    ⊎_elim (λ first. ⊎_elim (λ second. absurd (omega (arith, first.0, second.0))) (λ second. let inside = slice_get_within xs j y second in absurd (omega (arith, first.0))) (slice_get-push_cases xs new j y there))
    (λ first. ⊎_elim
    (λ second. rw (← second.1) (subst (λ (z : X). start z + size z ≤ start new) (get_or_from_slice_get xs i x x first) (below i x (slice_get_within xs i x first))))
    (λ second. up i j x y less first second)
    (slice_get-push_cases xs new j y there))
    (slice_get-push_cases xs new i x here)

-- two of the items lie apart
pub IsAscendingBy-apart : {X : Type 0} (start size : X → ℕ) (xs : List X) (i j : ℕ) (x y : X) → IsAscendingBy start size xs → slice_get xs i ≡ Some x → slice_get xs j ≡ Some y → i ≢ j → (start x + size x ≤ start y) ⊎ (start y + size y ≤ start x)
IsAscendingBy-apart start size xs i j x y up here there other =
    ⊎_elim (λ less. inl (up i j x y less here there))
    (λ more. ⊎_elim (λ less. inr (up j i y x less there here)) (λ least. absurd (other (omega arith))) (cases_lt j i))
    (cases_lt i j)

-- what a binary search by the starts answers
pub partition-count : {X : Type 0} (start : X → ℕ) (xs : List X) (at count : ℕ) → IsPartitionPoint (λ x. nat_le (start x) at ≡ true) (λ x. nat_le (start x) at ≡ false) xs count → count ≤ length xs → CountsStarts start xs at count
partition-count {X} start xs at count point inside = record {
  below = λ k x less here.
      let test : nat_le (start x) at ≡ true = subst (λ (y : X). nat_le (start y) at ≡ true) (get_or_from_slice_get xs k x x here) (point.0 k x (omega arith) less) in
      grind (arith, nat_tests);
  above = λ k x more here.
      let test : nat_le (start x) at ≡ false = subst (λ (y : X). nat_le (start y) at ≡ false) (get_or_from_slice_get xs k x x here) (point.1 k x more (slice_get_within xs k x here)) in
      grind (arith, nat_tests);
}
