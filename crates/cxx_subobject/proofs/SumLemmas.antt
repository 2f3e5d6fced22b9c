-- Sums over lists that have the same elements, each once.
use Rattle.std.proofs.Common.{◌≡◌, ℕ, ◌+◌, ◌⊎◌, inl, inr, ⊎_elim, List, [], ◌∷◌, length, refl, ap, subst, sym, ◌∙◌, arith}
use Rattle.std.specs.List.{sum_by, flat_map}
use Rattle.std.proofs.lemmas.List.Sums.{sum_by-cons, sum_by-append}
use Rattle.foundation.proofs.Members.{Has, EachOnce}

pub sum_same : {X : Type 0} (f g : X → ℕ) (xs : List X) → ((x : X) → Has xs x → f x ≡ g x) → sum_by f xs ≡ sum_by g xs
sum_same f g [] same = refl
sum_same f g (x ∷ xs) same =
    sum_by-cons f x xs ∙ ap (λ n. n + sum_by f xs) (same x (inl refl)) ∙ ap (λ n. g x + n) (sum_same f g xs (λ y h. same y (inr h))) ∙ sym (sum_by-cons g x xs)

pub sum_flat : {X Y : Type 0} (f : Y → ℕ) (g : X → List Y) (xs : List X) → sum_by f (flat_map g xs) ≡ sum_by (λ x. sum_by f (g x)) xs
sum_flat f g [] = refl
sum_flat f g (x ∷ xs) = sum_by-append f (g x) (flat_map g xs) ∙ ap (λ n. sum_by f (g x) + n) (sum_flat f g xs) ∙ sym (sum_by-cons (λ y. sum_by f (g y)) x xs)

pub sum_ones : {X : Type 0} (xs : List X) → sum_by (λ (x : X). 1) xs ≡ length xs
sum_ones [] = refl
sum_ones {X} (x ∷ xs) = sum_by-cons (λ (y : X). 1) x xs ∙ (let r : sum_by (λ (y : X). 1) xs ≡ length xs = sum_ones xs in omega arith)

-- a list without one of its elements
record IsWithout {X : Type 0} (xs : List X) (x : X) : Type 0 where
  rest : List X
  sum : (f : X → ℕ) → sum_by f xs ≡ f x + sum_by f rest
  has : (t : X) → Has xs t → (x ≡ t) ⊎ Has rest t
  from : (t : X) → Has rest t → Has xs t
  gone : Has rest x → ⊥
  once : EachOnce rest

without : {X : Type 0} (xs : List X) (x : X) → EachOnce xs → Has xs x → IsWithout xs x
without [] x once h = absurd h
without {X} (y ∷ xs) x once h = ⊎_elim
    (λ e. record {
      rest = xs;
      sum = λ f. sum_by-cons f y xs ∙ ap (λ (z : X). f z + sum_by f xs) e;
      has = λ t k. ⊎_elim (λ same. inl (sym e ∙ same)) (λ r. inr r) k;
      from = λ t k. inr k;
      gone = λ k. once.0 (subst (λ (z : X). Has xs z) (sym e) k);
      once = once.1;
    })
    (λ r.
    let w = without xs x once.1 r in
    record {
      rest = y ∷ w.rest;
      sum = λ f. let a = sum_by-cons f y xs in let b = w.sum f in let c = sum_by-cons f y w.rest in omega arith;
      has = λ t k. ⊎_elim (λ same. inr (inl same)) (λ q. ⊎_elim (λ same. inl same) (λ z. inr (inr z)) (w.has t q)) k;
      from = λ t k. ⊎_elim (λ same. inl same) (λ q. inr (w.from t q)) k;
      gone = λ k. ⊎_elim (λ same. once.0 (subst (λ (z : X). Has xs z) (sym same) r)) (λ q. w.gone q) k;
      once = (λ k. once.0 (w.from y k), w.once);
    })
    h

pub same_sum : {X : Type 0} (f : X → ℕ) (xs ys : List X) → EachOnce xs → EachOnce ys → ((x : X) → Has xs x → Has ys x) → ((x : X) → Has ys x → Has xs x) → sum_by f xs ≡ sum_by f ys
same_sum f [] [] a b to back = refl
same_sum f [] (y ∷ ys) a b to back = absurd (back y (inl refl))
same_sum {X} f (x ∷ xs) ys a b to back =
    let w = without ys x b (to x (inl refl)) in
    let r = same_sum f xs w.rest a.1 w.once
    (λ t h. ⊎_elim (λ e. absurd (a.0 (subst (λ (z : X). Has xs z) (sym e) h))) (λ q. q) (w.has t (to t (inr h))))
    (λ t h. ⊎_elim (λ e. absurd (w.gone (subst (λ (z : X). Has w.rest z) (sym e) h))) (λ q. q) (back t (w.from t h))) in
    sum_by-cons f x xs ∙ ap (λ n. f x + n) r ∙ sym (w.sum f)
