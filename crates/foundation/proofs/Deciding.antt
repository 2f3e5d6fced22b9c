-- What can be decided: it holds, or it does not.
use Rattle.std.proofs.Common.{◌≡◌, ℕ, zero, suc, ◌<◌, ◌⊎◌, inl, inr, ⊎_elim, Bool, true, false, List, [], ◌∷◌, refl, ap, subst, sym, ◌∙◌, arith}
use Rattle.std.proofs.lemmas.Bool.{cases_lt}
use Rattle.foundation.proofs.Members.{Has}

-- it holds, or it does not
abbrev pub Decided : Type 0 → Type 0
Decided P = P ⊎ (P → ⊥)

pub decide_flag : (b : Bool) → Decided (b ≡ true)
decide_flag true = inl refl
decide_flag false = inr (λ e. cc)

pub decide_number : (m n : ℕ) → Decided (m ≡ n)
decide_number zero zero = inl refl
decide_number zero (suc n) = inr (λ e. omega arith)
decide_number (suc m) zero = inr (λ e. omega arith)
decide_number (suc m) (suc n) = ⊎_elim (λ e. inl (ap suc e)) (λ f. inr (λ e. f (omega arith))) (decide_number m n)

pub decide_list : {X : Type 0} → ((x y : X) → Decided (x ≡ y)) → (xs ys : List X) → Decided (xs ≡ ys)
decide_list decide [] [] = inl refl
decide_list decide [] (y ∷ ys) = inr (λ e. cc)
decide_list decide (x ∷ xs) [] = inr (λ e. cc)
decide_list {X} decide (x ∷ xs) (y ∷ ys) = ⊎_elim
    (λ e. ⊎_elim (λ f. inl (ap (λ (z : X). z ∷ xs) e ∙ ap (λ (zs : List X). y ∷ zs) f)) (λ apart. inr (λ both. apart (let f : xs ≡ ys = cc in f))) (decide_list decide xs ys))
    (λ apart. inr (λ both. apart (let f : x ≡ y = cc in f)))
    (decide x y)

-- an item of a list that is as P says
pub record HasSome {X : Type 0} (P : X → Type 0) (xs : List X) : Type 0 where
  pub item : X
  pub listed : Has xs item
  pub is : P item

-- there is one, or none is
pub decide_any : {X : Type 0} (P : X → Type 0) (xs : List X) → ((x : X) → Has xs x → Decided (P x)) → HasSome P xs ⊎ ((x : X) → Has xs x → P x → ⊥)
decide_any P [] decide = inr (λ x has is. has)
decide_any {X} P (y ∷ ys) decide = ⊎_elim
    (λ is. inl (record { item = y; listed = inl refl; is = is }))
    (λ not. ⊎_elim
    (λ k. inl (record { item = k.item; listed = inr k.listed; is = k.is }))
    (λ none. inr (λ x has is. ⊎_elim (λ e. not (subst (λ (z : X). P z) (sym e) is)) (λ rest. none x rest is) has))
    (decide_any P ys (λ x has. decide x (inr has))))
    (decide y (inl refl))

-- a number below a bound that is as P says
pub record HasBelow (P : ℕ → Type 0) (bound : ℕ) : Type 0 where
  pub number : ℕ
  pub below : number < bound
  pub is : P number

pub decide_below : (P : ℕ → Type 0) (bound : ℕ) → ((i : ℕ) → i < bound → Decided (P i)) → HasBelow P bound ⊎ ((i : ℕ) → i < bound → P i → ⊥)
decide_below P zero decide = inr (λ i lt is. omega arith)
decide_below P (suc n) decide = ⊎_elim
    (λ is. inl (record { number = n; below = omega arith; is = is }))
    (λ not. ⊎_elim
    (λ k. let lt = k.below in inl (record { number = k.number; below = omega arith; is = k.is }))
    (λ none. inr (λ i lt is. ⊎_elim (λ small. none i small is) (λ ge. let e : i ≡ n = omega arith in not (subst (λ (x : ℕ). P x) e is)) (cases_lt i n)))
    (decide_below P n (λ i lt. decide i (omega arith))))
    (decide n (omega arith))

pub decide_has_below : (P : ℕ → Type 0) (bound : ℕ) → ((i : ℕ) → i < bound → Decided (P i)) → Decided (HasBelow P bound)
decide_has_below P bound decide = ⊎_elim (λ k. inl k) (λ none. inr (λ k. none k.number k.below k.is)) (decide_below P bound decide)

-- the first of them
pub record IsFirstBelow (P : ℕ → Type 0) (bound : ℕ) : Type 0 where
  pub number : ℕ
  pub below : number < bound
  pub is : P number
  pub before : (i : ℕ) → i < number → P i → ⊥

pub first_below : (P : ℕ → Type 0) (bound : ℕ) → ((i : ℕ) → i < bound → Decided (P i)) → IsFirstBelow P bound ⊎ ((i : ℕ) → i < bound → P i → ⊥)
first_below P zero decide = inr (λ i lt is. omega arith)
first_below P (suc n) decide = ⊎_elim
    (λ k. let lt = k.below in inl (record { number = k.number; below = omega arith; is = k.is; before = k.before }))
    (λ none. ⊎_elim
    (λ is. inl (record { number = n; below = omega arith; is = is; before = none }))
    (λ not. inr (λ i lt is. ⊎_elim (λ small. none i small is) (λ ge. let e : i ≡ n = omega arith in not (subst (λ (x : ℕ). P x) e is)) (cases_lt i n)))
    (decide n (omega arith)))
    (first_below P n (λ i lt. decide i (omega arith)))

pub decide_as : {P Q : Type 0} → Decided P → (P → Q) → (Q → P) → Decided Q
decide_as k to from = ⊎_elim (λ is. inl (to is)) (λ not. inr (λ is. not (from is))) k

pub decide_both : {P Q : Type 0} → Decided P → Decided Q → Decided (P × Q)
decide_both a b = ⊎_elim (λ p. ⊎_elim (λ q. inl (p, q)) (λ not. inr (λ k. not k.1)) b) (λ not. inr (λ k. not k.0)) a
