-- Lists in which no two items have one image under a function.
use Rattle.std.proofs.Common.{◌≡◌, ℕ, zero, suc, ◌+◌, ◌≤◌, inl, inr, ⊎_elim, Some, List, [], ◌∷◌, ◌++◌, map, length, refl, ap, sym, subst, ◌∙◌, arith, length-append}
use Rattle.std.specs.Prelude.{Bool, cond, filter, slice_get, sum_by}
use Rattle.std.proofs.lemmas.List.Sums.{sum_by-append, sum_by-cons}
use Rattle.foundation.proofs.Truth.{split}
use Rattle.foundation.proofs.Members.{Has, EachOnce, has_left, has_right, has_cases, has_map, from_map, index_of}
use Rattle.foundation.proofs.Chosen.{has_filter}

-- by places
pub each_once : {X Y : Type 0} (f : X → Y) (xs : List X) → ((i j : ℕ) (x y : X) → slice_get xs i ≡ Some x → slice_get xs j ≡ Some y → f x ≡ f y → i ≡ j) → EachOnce (map f xs)
each_once f [] apart = tt
each_once f (x ∷ xs) apart = (
  λ h.
      let m = from_map f xs (f x) h in
      let at = index_of xs m.0 m.1 in
      let e : zero ≡ suc at.0 = apart zero (suc at.0) x m.0 refl at.1 (sym m.2) in omega arith,
  each_once f xs (λ i j y z a b e. let s : suc i ≡ suc j = apart (suc i) (suc j) y z a b e in omega arith),
)

record Splits {X : Type 0} (xs : List X) (x : X) : Type 0 where
  front : List X
  back : List X
  is : xs ≡ front ++ x ∷ back

split_at : {X : Type 0} (xs : List X) (x : X) → Has xs x → Splits xs x
split_at [] x h = absurd h
split_at (y ∷ xs) x h = ⊎_elim
    (λ e. record { front = []; back = xs; is = ap (λ z. z ∷ xs) e })
    (λ k. let s = split_at xs x k in record { front = y ∷ s.front; back = s.back; is = ap (λ zs. y ∷ zs) s.is })
    h

-- the items behind the first one are among what is left
left_over : {X : Type 0} (xs ys : List X) (x : X) (s : Splits ys x) → (Has xs x → ⊥) → ((y : X) → Has (x ∷ xs) y → Has ys y) → (y : X) → Has xs y → Has (s.front ++ s.back) y
left_over xs ys x s fresh all y h = ⊎_elim
    (λ a. has_left s.front s.back y a)
    (λ b. ⊎_elim (λ e. absurd (fresh (subst (λ z. Has xs z) (sym e) h))) (λ k. has_right s.front s.back y k) b)
    (has_cases s.front (x ∷ s.back) y (subst (λ zs. Has zs y) s.is (all y (inr h))))

-- a list without repeats is no longer than one that has all its items
pub once_short : {X : Type 0} (xs ys : List X) → EachOnce xs → ((x : X) → Has xs x → Has ys x) → length xs ≤ length ys
once_short [] ys once all = omega arith
once_short (x ∷ xs) ys once all =
    let s = split_at ys x (all x (inl refl)) in
    let rest = once_short xs (s.front ++ s.back) once.1 (left_over xs ys x s once.0 all) in
    let a : length ys ≡ length s.front + suc (length s.back) = ap length s.is ∙ length-append s.front (x ∷ s.back) in
    let b = length-append s.front s.back in
    omega arith

-- and what its items have together is no more than what those of the other have
pub once_sum : {X : Type 0} (f : X → ℕ) (xs ys : List X) → EachOnce xs → ((x : X) → Has xs x → Has ys x) → sum_by f xs ≤ sum_by f ys
once_sum f [] ys once all = omega arith
once_sum f (x ∷ xs) ys once all =
    let s = split_at ys x (all x (inl refl)) in
    let rest = once_sum f xs (s.front ++ s.back) once.1 (left_over xs ys x s once.0 all) in
    let a : sum_by f ys ≡ sum_by f s.front + (f x + sum_by f s.back) = ap (sum_by f) s.is ∙ (sum_by-append f s.front (x ∷ s.back) ∙ ap (λ n. sum_by f s.front + n) (sum_by-cons f x s.back)) in
    let b = sum_by-append f s.front s.back in
    let c = sum_by-cons f x xs in
    omega arith

-- so are those that pass a test
pub once_chosen : {X Y : Type 0} (f : X → Y) (p : X → Bool) (xs : List X) → EachOnce (map f xs) → EachOnce (map f (filter p xs))
once_chosen f p [] once = tt
once_chosen f p (x ∷ xs) once = split (p x) (λ b. EachOnce (map f (cond b (x ∷ filter p xs) (filter p xs))))
    (λ t. (λ h. let m = from_map f (filter p xs) (f x) h in once.0 (subst (λ y. Has (map f xs) y) m.2 (has_map f xs m.0 (has_filter p xs m.0 m.1).0)), once_chosen f p xs once.1))
    (λ e. once_chosen f p xs once.1)
