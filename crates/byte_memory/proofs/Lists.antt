use Rattle.std.proofs.Common.{◌≡◌, ℕ, zero, suc, ◌+◌, ◌<◌, ◌⊎◌, ◌∙◌, sym, set, cond, inl, inr, ⊎_elim, Some, None, List, [], ◌∷◌, ◌++◌, length, refl, ap, Bool, true, false, arith}
use Rattle.std.specs.List.{slice_get, find}
use Rattle.std.proofs.lemmas.List.Sums.{sum_by-cons}
use Rattle.std.specs.Prelude.{nat_eq, nat_lt, if◌then◌else◌, count_by, remove}
use Rattle.std.proofs.lemmas.Bool.Decides.{nat_tests}

-- what is found after a push is the new one, or stood before it
pub slice_get-push_cases : {X : Type 0} (xs : List X) (y : X) (k : ℕ) (z : X) → slice_get (xs ++ y ∷ []) k ≡ Some z → ((k ≡ length xs) × (y ≡ z)) ⊎ (slice_get xs k ≡ Some z)
slice_get-push_cases [] y zero z h = inl (refl, cc)
slice_get-push_cases [] y (suc k) z h = cc
slice_get-push_cases (x ∷ xs) y zero z h = inr h
slice_get-push_cases (x ∷ xs) y (suc k) z h = ⊎_elim (λ l. inl (ap suc l.0, l.1)) (λ r. inr r) (slice_get-push_cases xs y k z h)

-- a test that can't succeed fails
pub is_false : (b : Bool) → (b ≡ true → ⊥) → b ≡ false
is_false true h = absurd (h refl)
is_false false h = refl

-- nothing is found where each item fails
pub find-none : {X : Type 0} (p : X → Bool) (xs : List X) → ((k : ℕ) (x : X) → slice_get xs k ≡ Some x → p x ≡ false) → find p xs ≡ None
find-none p [] h = refl
find-none p (x ∷ xs) h =
    let here : p x ≡ false = h 0 x refl in
    rw here (find-none p xs (λ k y there. h (suc k) y there))

-- an item that passes is found where each earlier one fails
pub find-first : {X : Type 0} (p : X → Bool) (xs : List X) (i : ℕ) (x : X) → slice_get xs i ≡ Some x → p x ≡ true → ((k : ℕ) (y : X) → k < i → slice_get xs k ≡ Some y → p y ≡ false) → find p xs ≡ Some x
find-first p [] i x here pass before = cc
find-first p (y ∷ ys) zero x here pass before = let same : y ≡ x = cc in rw (same, pass) refl
find-first p (y ∷ ys) (suc i) x here pass before =
    let fail : p y ≡ false = before 0 y (omega arith) refl in
    rw fail (find-first p ys i x here pass (λ k z less there. before (suc k) z (omega arith) there))

-- an item of a list of which one was replaced
pub slice_get-set : {X : Type 0} (xs : List X) (at k : ℕ) (y : X) (z : Bool) → nat_eq k at ≡ z → at < length xs → slice_get (set xs at y) k ≡ (if z then Some y else slice_get xs k)
slice_get-set [] at k y z e inside = absurd (omega arith)
slice_get-set (x ∷ xs) zero zero y true e inside = refl
slice_get-set (x ∷ xs) zero zero y false e inside = let t : nat_eq 0 0 ≡ true = refl in cc
slice_get-set (x ∷ xs) zero (suc k) y true e inside = absurd (grind (arith, nat_tests))
slice_get-set (x ∷ xs) zero (suc k) y false e inside = refl
slice_get-set (x ∷ xs) (suc at) zero y true e inside = absurd (grind (arith, nat_tests))
slice_get-set (x ∷ xs) (suc at) zero y false e inside = refl
slice_get-set (x ∷ xs) (suc at) (suc k) y z e inside = slice_get-set xs at k y z (grind (arith, nat_tests)) (omega arith)

-- an item of a list from which one was removed
pub slice_get-remove : {X : Type 0} (xs : List X) (at k : ℕ) → slice_get (remove xs at) k ≡ slice_get xs (if nat_lt k at then k else suc k)
slice_get-remove [] zero k = refl
slice_get-remove [] (suc at) k = refl
slice_get-remove (x ∷ xs) zero k = let t : nat_lt k 0 ≡ false = grind (arith, nat_tests) in rw t refl
slice_get-remove (x ∷ xs) (suc at) zero = let t : nat_lt 0 (suc at) ≡ true = grind (arith, nat_tests) in rw t refl
slice_get-remove {X} (x ∷ xs) (suc at) (suc k) = slice_get-remove xs at k ∙ by_test (nat_lt k at) refl
  where
    by_test : (z : Bool) → nat_lt k at ≡ z → slice_get xs (if z then k else suc k) ≡ slice_get (x ∷ xs) (if nat_lt (suc k) (suc at) then suc k else suc (suc k))
    by_test true t = let t' : nat_lt (suc k) (suc at) ≡ true = grind (arith, nat_tests) in rw t' refl
    by_test false t = let t' : nat_lt (suc k) (suc at) ≡ false = grind (arith, nat_tests) in rw t' refl

-- one where an item passes
abbrev pub counted : {X : Type 0} → (X → Bool) → X → ℕ
counted p x = cond (p x) 1 0

pub count_by-cons : {X : Type 0} (p : X → Bool) (x : X) (xs : List X) → count_by p (x ∷ xs) ≡ counted p x + count_by p xs
count_by-cons p x xs = sum_by-cons (λ y. cond (p y) 1 0) x xs

pub counted_one : {X : Type 0} (p : X → Bool) (x : X) → p x ≡ true → counted p x ≡ 1
counted_one p x t = rw t refl

pub counted_none : {X : Type 0} (p : X → Bool) (x : X) → p x ≡ false → counted p x ≡ 0
counted_none p x t = rw t refl

-- an item that passes is counted
pub count_by-some : {X : Type 0} (p : X → Bool) (xs : List X) (k : ℕ) (x : X) → slice_get xs k ≡ Some x → p x ≡ true → 0 < count_by p xs
count_by-some p [] k x here pass = cc
count_by-some p (y ∷ xs) zero x here pass =
    let same : y ≡ x = cc in
    let one : counted p y ≡ 1 = counted_one p y (ap p same ∙ pass) in
    omega (arith, one, count_by-cons p y xs)
count_by-some p (y ∷ xs) (suc k) x here pass = omega (arith, count_by-some p xs k x here pass, count_by-cons p y xs)

-- where items are counted, one passes
pub count_by-found : {X : Type 0} (p : X → Bool) (xs : List X) → 0 < count_by p xs → (k : ℕ) × (x : X) × (slice_get xs k ≡ Some x) × (p x ≡ true)
count_by-found p [] some = absurd (omega (arith, some))
count_by-found {X} p (y ∷ xs) some = by_test (p y) refl (count_by-found p xs)
  where
    by_test : (z : Bool) → p y ≡ z → (0 < count_by p xs → (k : ℕ) × (x : X) × (slice_get xs k ≡ Some x) × (p x ≡ true)) → (k : ℕ) × (x : X) × (slice_get (y ∷ xs) k ≡ Some x) × (p x ≡ true)
    by_test true t rest = (0, y, refl, t)
    by_test false t rest =
        let none : counted p y ≡ 0 = counted_none p y t in
        let found = rest (omega (arith, none, some, count_by-cons p y xs)) in
        (suc found.0, found.1, found.2, found.3)

-- a count after one item was replaced
pub count_by-set : {X : Type 0} (p : X → Bool) (xs : List X) (k : ℕ) (x y : X) → slice_get xs k ≡ Some x → count_by p (set xs k y) + counted p x ≡ count_by p xs + counted p y
count_by-set p [] k x y here = cc
count_by-set p (z ∷ xs) zero x y here =
    let e : z ≡ x = cc in
    let same : counted p z ≡ counted p x = ap (counted p) e in
    omega (arith, same, count_by-cons p z xs, count_by-cons p y xs)
count_by-set p (z ∷ xs) (suc k) x y here =
    omega (arith, count_by-set p xs k x y here, count_by-cons p z xs, count_by-cons p z (set xs k y))

-- two items that pass are counted
pub count_by-two : {X : Type 0} (p : X → Bool) (xs : List X) (i j : ℕ) (x y : X) → i < j → slice_get xs i ≡ Some x → slice_get xs j ≡ Some y → p x ≡ true → p y ≡ true → 1 < count_by p xs
count_by-two p [] i j x y less here there pass pass' = cc
count_by-two p (z ∷ xs) i zero x y less here there pass pass' = absurd (omega (arith, less))
count_by-two p (z ∷ xs) zero (suc j) x y less here there pass pass' =
    let same : z ≡ x = cc in
    let one : counted p z ≡ 1 = counted_one p z (ap p same ∙ pass) in
    omega (arith, one, count_by-some p xs j y there pass', count_by-cons p z xs)
count_by-two p (z ∷ xs) (suc i) (suc j) x y less here there pass pass' = omega (arith, count_by-two p xs i j x y (omega (arith, less)) here there pass pass', count_by-cons p z xs)

-- what is found stands in the list, and passes
pub find-index : {X : Type 0} (p : X → Bool) (xs : List X) (x : X) → find p xs ≡ Some x → (k : ℕ) × (slice_get xs k ≡ Some x) × (p x ≡ true)
find-index p [] x e = cc
find-index {X} p (y ∷ xs) x e = by_test (p y) refl (find-index p xs x) e
  where
    by_test : (z : Bool) → p y ≡ z → (find p xs ≡ Some x → (k : ℕ) × (slice_get xs k ≡ Some x) × (p x ≡ true)) → cond z (Some y) (find p xs) ≡ Some x → (k : ℕ) × (slice_get (y ∷ xs) k ≡ Some x) × (p x ≡ true)
    by_test true t rest e = let same : y ≡ x = cc in (0, e, ap p (sym same) ∙ t)
    by_test false t rest e = let found = rest e in (suc found.0, found.1, found.2)
