-- There are no more pages than numbers that may have one.
use Rattle.std.proofs.Common.{◌≡◌, ℕ, zero, suc, ◌+◌, ◌<◌, ◌≤◌, ◌⊎◌, inl, inr, ⊎_elim, false, List, [], ◌∷◌, refl, ap, sym, ◌∙◌, arith}
use Rattle.std.specs.Prelude.{nat_eq, slice_index_or}
use Rattle.std.proofs.lemmas.Bool.{eqb-true, eq-eqb, cases_lt}
use Rattle.foundation.proofs.Truth.{is_false}
use Rattle.path_columns.specs.Paged.{ArePages}
use Rattle.path_columns.specs.invariants.Placed.{some_of, placed}
use Rattle.path_columns.proofs.Paging.{IsOpened, here, elsewhere}

one_at_most : (n : ℕ) → some_of n ≤ 1
one_at_most zero = omega arith
one_at_most (suc n) = omega arith

pub placed_few : (f : ℕ → ℕ) (n : ℕ) → placed f n ≤ n
unfolding placed
placed_few f zero = omega arith
placed_few f (suc n) = let a = placed_few f n in let b = one_at_most (f n) in omega arith

pub placed_none : (f : ℕ → ℕ) (n : ℕ) → ((p : ℕ) → f p ≡ 0) → placed f n ≡ 0
unfolding placed
placed_none f zero none = refl
placed_none f (suc n) none = let a = placed_none f n none in let b : some_of (f n) ≡ some_of 0 = ap some_of (none n) in omega arith

pub nothing_at : (xs : List ℕ) → xs ≡ [] → (p : ℕ) → slice_index_or xs p 0 ≡ 0
nothing_at [] e zero = refl
nothing_at [] e (suc p) = refl
nothing_at (x ∷ xs) e p = absurd (cc)

-- numbers below n that have the same places
placed_like : (f g : ℕ → ℕ) (n : ℕ) → ((p : ℕ) → p < n → g p ≡ f p) → placed g n ≡ placed f n
unfolding placed
placed_like f g zero same = refl
placed_like f g (suc n) same =
    let a = placed_like f g n (λ p lt. same p (omega arith)) in
    let b : some_of (g n) ≡ some_of (f n) = ap some_of (same n (omega arith)) in omega arith

pub placed_same : (f g : ℕ → ℕ) (n : ℕ) → ((p : ℕ) → g p ≡ f p) → placed g n ≡ placed f n
placed_same f g n same = placed_like f g n (λ p lt. same p)

other : (p page : ℕ) → (p ≡ page → ⊥) → nat_eq p page ≡ false
other p page h = is_false (nat_eq p page) (λ t. h (eqb-true p page t))

-- one number more, which is that of the page, or is not
one_more : (f g : ℕ → ℕ) (page count n : ℕ) → IsOpened f g page count → (page < n → placed g n ≡ placed f n + 1) → (page < n) ⊎ (page ≡ n) → placed g n + some_of (g n) ≡ placed f n + some_of (f n) + 1
one_more f g page count n opened before (inl below) =
    let rest = before below in
    let same : some_of (g n) ≡ some_of (f n) = ap some_of (elsewhere f g page count opened n (other n page (λ t. omega arith))) in omega arith
one_more f g page count n opened before (inr e) =
    let at : n ≡ page = sym e in
    let low : placed g n ≡ placed f n = placed_like f g n (λ p below. elsewhere f g page count opened p (other p page (λ t. omega arith))) in
    let new : some_of (g n) ≡ 1 = ap some_of (here f g page count opened n (eq-eqb n page at)) in
    let old : some_of (f n) ≡ 0 = ap some_of (ap f at ∙ opened.closed) in omega arith

-- a page that is opened is one more
pub placed_opened : (f g : ℕ → ℕ) (page count n : ℕ) → IsOpened f g page count → page < n → placed g n ≡ placed f n + 1
unfolding placed
placed_opened f g page count zero opened lt = absurd (omega arith)
placed_opened f g page count (suc n) opened lt =
    one_more f g page count n opened (λ below. placed_opened f g page count n opened below) (⊎_elim (λ a. inl a) (λ a. inr (omega arith)) (cases_lt page n))

-- a page stands at no place past the numbers that may have one
pub place_small : {X : Type 0} (place : ℕ → ℕ) (slots : List X) (blank : X) (width count n p k : ℕ) → ArePages place slots blank width count → count ≡ placed place n → place p ≡ k → k ≤ n
place_small place slots blank width count n p zero are counted is = omega arith
place_small place slots blank width count n p (suc k) are counted is = let a = are.few p k is in let b = placed_few place n in omega (arith, counted)
