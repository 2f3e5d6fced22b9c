-- The list of the items of the numbers from 0 on.
use Rattle.std.proofs.Common.{◌≡◌, ℕ, zero, suc, ◌+◌, ◌≤◌, ◌∷◌, ◌++◌, length, refl, ap, sym, ◌∙◌, arith}
use Rattle.std.specs.Prelude.{slice_index_or, slice_set, nat_eq, if◌then◌else◌, replicate}
use Rattle.std.proofs.lemmas.Bool.{eqb-true, eq-eqb}
use Rattle.foundation.proofs.Truth.{split, is_false, not_both}
use Rattle.path_columns.specs.Paged.{listed}

pub listed_length : {X : Type 0} (item : ℕ → X) (n : ℕ) → length (listed item n) ≡ n
listed_length item zero = refl
listed_length item (suc n) = ap (λ k. suc k) (listed_length (λ i. item (suc i)) n)

-- lists of the same items
pub listed_same : {X : Type 0} (f g : ℕ → X) (n : ℕ) → ((i : ℕ) → f i ≡ g i) → listed f n ≡ listed g n
listed_same f g zero same = refl
listed_same f g (suc n) same = ap (λ x. x ∷ listed (λ i. f (suc i)) n) (same 0) ∙ ap (λ t. g 0 ∷ t) (listed_same (λ i. f (suc i)) (λ i. g (suc i)) n (λ i. same (suc i)))

-- an item, where those past the end are blank
pub listed_item : {X : Type 0} (item : ℕ → X) (blank : X) (n i : ℕ) → ((k : ℕ) → n ≤ k → item k ≡ blank) → slice_index_or (listed item n) i blank ≡ item i
listed_item item blank zero i past = sym (past i (omega arith))
listed_item item blank (suc n) zero past = refl
listed_item item blank (suc n) (suc i) past = listed_item (λ k. item (suc k)) blank n i (λ k le. past (suc k) (omega arith))

-- one item is another one
pub listed_set : {X : Type 0} (f g : ℕ → X) (n i : ℕ) (v : X) → ((k : ℕ) → g k ≡ (if nat_eq k i then v else f k)) → listed g n ≡ slice_set (listed f n) i v
listed_set f g zero i v is = refl
listed_set f g (suc n) zero v is =
    ap (λ x. x ∷ listed (λ k. g (suc k)) n) (is 0 ∙ ap (λ b. if b then v else f 0) (eq-eqb 0 0 refl))
    ∙ ap (λ t. v ∷ t) (listed_same (λ k. g (suc k)) (λ k. f (suc k)) n (λ k. is (suc k) ∙ ap (λ b. if b then v else f (suc k)) (is_false (nat_eq (suc k) 0) (λ e. let a = eqb-true (suc k) 0 e in omega arith))))
listed_set f g (suc n) (suc i) v is =
    ap (λ x. x ∷ listed (λ k. g (suc k)) n) (is 0 ∙ ap (λ b. if b then v else f 0) (is_false (nat_eq 0 (suc i)) (λ e. let a = eqb-true 0 (suc i) e in omega arith)))
    ∙ ap (λ t. f 0 ∷ t) (listed_set (λ k. f (suc k)) (λ k. g (suc k)) n i v (λ k. is (suc k) ∙ ap (λ b. if b then v else f (suc k)) (same_test k)))
  where
    same_test : (k : ℕ) → nat_eq (suc k) (suc i) ≡ nat_eq k i
    same_test k = split (nat_eq k i) (λ b. nat_eq (suc k) (suc i) ≡ b)
        (λ e. eq-eqb (suc k) (suc i) (ap (λ m. suc m) (eqb-true k i e)))
        (λ e. is_false (nat_eq (suc k) (suc i)) (λ f. let a = eqb-true (suc k) (suc i) f in not_both (eq-eqb k i (omega arith)) e))

-- blank items behind the others
pub listed_longer : {X : Type 0} (item : ℕ → X) (blank : X) (n count : ℕ) → ((k : ℕ) → n ≤ k → item k ≡ blank) → listed item (n + count) ≡ listed item n ++ replicate count blank
listed_longer item blank zero zero past = refl
listed_longer item blank zero (suc count) past = ap (listed item) (let e : 0 + suc count ≡ suc (0 + count) = omega arith in e)
    ∙ (ap (λ x. x ∷ listed (λ k. item (suc k)) (0 + count)) (past 0 (omega arith)) ∙ ap (λ t. blank ∷ t) (listed_longer (λ k. item (suc k)) blank 0 count (λ k le. past (suc k) (omega arith))))
listed_longer item blank (suc n) count past = ap (listed item) (let e : suc n + count ≡ suc (n + count) = omega arith in e)
    ∙ ap (λ t. item 0 ∷ t) (listed_longer (λ k. item (suc k)) blank n count (λ k le. past (suc k) (omega arith)))
