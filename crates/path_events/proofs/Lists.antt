-- Fronts and rests of lists.
use Rattle.std.proofs.Common.{◌≡◌, ℕ, zero, suc, ◌+◌, ◌<◌, ◌≤◌, Some, List, [], ◌∷◌, ◌++◌, length, refl, ap, subst, sym, ◌∙◌, arith, take}
use Rattle.std.specs.Prelude.{slice_get, min, ◌-◌}
use Rattle.std.proofs.Math.ListN.{drop}
use Rattle.std.proofs.Math.Nat.{min-le_right}
use Rattle.std.proofs.lemmas.List.{take_all}
use Rattle.path_plan.specs.Plans.{count_from, upto, backwards}
use Rattle.path_plan.proofs.Members.{count_last}

pub drop_at : {X : Type 0} (xs : List X) (i : ℕ) (x : X) → slice_get xs i ≡ Some x → drop i xs ≡ x ∷ drop (i + 1) xs
drop_at [] i x e = absurd (cc)
drop_at (y ∷ xs) zero x e = let f : y ≡ x = cc in ap (λ z. z ∷ xs) f
drop_at (y ∷ xs) (suc i) x e = drop_at xs i x e ∙ ap (λ n. x ∷ drop n (y ∷ xs)) (let f : suc (i + 1) ≡ suc i + 1 = omega arith in f)

pub take_back : {X : Type 0} (xs : List X) (i : ℕ) (x : X) → slice_get xs i ≡ Some x → backwards (take (i + 1) xs) ≡ x ∷ backwards (take i xs)
take_back [] i x e = absurd (cc)
take_back (y ∷ xs) zero x e = let f : y ≡ x = cc in ap (λ z. z ∷ []) f
take_back (y ∷ xs) (suc i) x e = ap (λ n. backwards (take n (y ∷ xs))) (let f : suc i + 1 ≡ suc (i + 1) = omega arith in f) ∙ ap (λ t. t ++ y ∷ []) (take_back xs i x e)

-- the place that is tried is the one before i, or the end before it
pub taken_left : {X : Type 0} (xs : List X) (i left : ℕ) → (length xs ≤ i → left ≡ length xs) → (i ≤ length xs → left ≡ i) → take left xs ≡ take i xs
taken_left [] i left over under = let e = over (omega arith) in ap (λ n. take n []) e ∙ sym (take_all i [] (omega arith))
taken_left (x ∷ xs) zero left over under = ap (λ n. take n (x ∷ xs)) (under (omega arith))
taken_left (x ∷ xs) (suc i) zero over under = absurd (some i (length xs) over under)
  where
    some : (i n : ℕ) → (suc n ≤ suc i → 0 ≡ suc n) → (suc i ≤ suc n → 0 ≡ suc i) → ⊥
    some i n over under = grind arith
taken_left (x ∷ xs) (suc i) (suc left) over under = ap (λ t. x ∷ t) (taken_left xs i left (λ le. let e = over (omega arith) in omega arith) (λ le. let e = under (omega arith) in omega arith))

count_length : (a n : ℕ) → length (count_from a n) ≡ n
count_length a zero = refl
count_length a (suc n) = ap suc (count_length (suc a) n)

pub upto_length : (n : ℕ) → length (upto n) ≡ n
upto_length n = count_length 0 n

count_at : (a n i : ℕ) → i < n → slice_get (count_from a n) i ≡ Some (a + i)
count_at a zero i lt = absurd (omega arith)
count_at a (suc n) zero lt = ap Some (let e : a ≡ a + 0 = omega arith in e)
count_at a (suc n) (suc i) lt = count_at (suc a) n i (omega arith) ∙ ap Some (let e : suc a + i ≡ a + suc i = omega arith in e)

pub upto_at : (n i : ℕ) → i < n → slice_get (upto n) i ≡ Some i
upto_at n i lt = count_at 0 n i lt ∙ ap Some (let e : 0 + i ≡ i = omega arith in e)

backwards_pushed : {X : Type 0} (xs : List X) (x : X) → backwards (xs ++ x ∷ []) ≡ x ∷ backwards xs
backwards_pushed [] x = refl
backwards_pushed (y ∷ xs) x = ap (λ t. t ++ y ∷ []) (backwards_pushed xs x)

pub upto_back : (n : ℕ) → backwards (upto (n + 1)) ≡ n ∷ backwards (upto n)
upto_back n =
    ap (λ m. backwards (upto m)) (let e : n + 1 ≡ suc n = omega arith in e)
    ∙ (ap backwards (count_last 0 n) ∙ (backwards_pushed (upto n) (0 + n) ∙ ap (λ m. m ∷ backwards (upto n)) (let e : 0 + n ≡ n = omega arith in e)))

-- the smaller of a number and a length
pub min_over : (i n left : ℕ) → left ≡ min i n → n ≤ i → left ≡ n
min_over i n left is le = omega arith

pub min_under : (i n left : ℕ) → left ≡ min i n → i ≤ n → left ≡ i
min_under i n left is le = omega arith

-- the front that is left ends at the place before
pub front_left : {X : Type 0} (xs ys : List X) (i left : ℕ) → ys ≡ xs → left ≡ min i (length ys) → (left ≡ 0 → ⊥) → take i xs ≡ take (left - 1 + 1) xs
front_left xs ys i left same is some =
    let positive : 0 < left = grind arith in
    let m : left ≡ min i (length xs) = is ∙ ap (λ (l : List _). min i (length l)) same in
    sym (ap (λ n. take n xs) (let e : left - 1 + 1 ≡ left = omega arith in e) ∙ taken_left xs i left (min_over i (length xs) left m) (min_under i (length xs) left m))

pub none_front : {X : Type 0} (xs ys : List X) (i left : ℕ) → ys ≡ xs → left ≡ min i (length ys) → left ≡ 0 → take i xs ≡ []
none_front xs ys i left same is le =
    let m : left ≡ min i (length xs) = is ∙ ap (λ (l : List _). min i (length l)) same in
    sym (taken_left xs i left (min_over i (length xs) left m) (min_under i (length xs) left m)) ∙ ap (λ n. take n xs) le

-- the elements that are left
pub elements_front : (n e i left : ℕ) → left ≡ min i e → e ≡ n → (left ≡ 0 → ⊥) → take i (upto n) ≡ take (left - 1 + 1) (upto n)
elements_front n e i left is same some = front_left (upto n) (upto n) i left refl (is ∙ ap (min i) (same ∙ sym (upto_length n))) some

pub elements_none : (n e i left : ℕ) → left ≡ min i e → e ≡ n → left ≡ 0 → take i (upto n) ≡ []
elements_none n e i left is same none = none_front (upto n) (upto n) i left refl (is ∙ ap (min i) (same ∙ sym (upto_length n))) none

pub element_within : (n e i left : ℕ) → left ≡ min i e → e ≡ n → (left ≡ 0 → ⊥) → left - 1 < n
element_within n e i left is same some = let a : left ≤ e = subst (λ m. m ≤ e) (sym is) (min-le_right i e) in grind arith
