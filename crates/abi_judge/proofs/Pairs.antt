-- Each two items of a list: by places, by what stands behind, through a partial function, and in another order.
use Rattle.std.proofs.Common.{◌≡◌, ℕ, zero, suc, ◌<◌, ◌⊎◌, inl, inr, ⊎_elim, Option, Some, None, List, [], ◌∷◌, map, length, get_or, refl, ap, subst, sym, ◌∙◌, arith}
use Rattle.std.specs.List.{slice_get, filter_map, cons_option, swap}
use Rattle.std.specs.List.Sorted.{IsPermutation}
use Rattle.std.proofs.lemmas.List.Sorted.{IsPermutation-keeps}
use Rattle.std.proofs.lemmas.List.Edits.{length-swap, swapped_from_swap}
use Rattle.foundation.proofs.Members.{Has, EachOnce, has_at, index_of, has_map}
use Rattle.foundation.proofs.Places.{get_read}
use Rattle.foundation.proofs.Chosen.{has_filter_map, from_filter_map}
use Rattle.abi_judge.specs.invariants.Apart.{EachTwo}

-- each item is in this relation to what stands behind it
abbrev pub Pairs : {X : Type 0} → (X → X → Type 0) → List X → Type 0
Pairs R [] = Unit {0}
Pairs {X} R (x ∷ xs) = ((y : X) → Has xs y → R x y) × Pairs R xs

pub two_from_pairs : {X : Type 0} (R : X → X → Type 0) → ((x y : X) → R x y → R y x) → (xs : List X) → Pairs R xs → EachTwo R xs
two_from_pairs {X} R turned xs pairs = record { each = by_place xs pairs }
  where
    by_place : (xs : List X) → Pairs R xs → (i j : ℕ) (x y : X) → (i ≡ j → ⊥) → slice_get xs i ≡ Some x → slice_get xs j ≡ Some y → R x y
    by_place [] pairs i j x y differ e f = let k : None ≡ Some x = e in cc
    by_place (z ∷ zs) pairs zero zero x y differ e f = absurd (differ refl)
    by_place (z ∷ zs) pairs zero (suc j) x y differ e f = let same : z ≡ x = cc in subst (λ (w : X). R w y) same (pairs.0 y (has_at zs j y f))
    by_place (z ∷ zs) pairs (suc i) zero x y differ e f = let same : z ≡ y = cc in turned y x (subst (λ (w : X). R w x) same (pairs.0 x (has_at zs i x e)))
    by_place (z ∷ zs) pairs (suc i) (suc j) x y differ e f = by_place zs pairs.1 i j x y (λ k. differ (ap suc k)) e f

pub pairs_from_two : {X : Type 0} (R : X → X → Type 0) (xs : List X) → EachTwo R xs → Pairs R xs
pairs_from_two R [] two = tt
pairs_from_two {X} R (x ∷ xs) two = (
  λ y has. let at = index_of xs y has in two.each zero (suc at.0) x y (λ e. let k : zero ≡ suc at.0 = e in absurd (omega arith)) refl at.1,
  pairs_from_two R xs (record { each = λ i j y z differ e f. two.each (suc i) (suc j) y z (λ k. differ (let m : suc i ≡ suc j = k in omega arith)) e f }),
)

-- what a partial function gives of two items that a key tells apart
pub pairs_mapped : {X K Y : Type 0} (R : Y → Y → Type 0) (key : X → K) (f : X → Option Y) (xs : List X) → EachOnce (map key xs)
    → ((x y : X) (a b : Y) → Has xs x → Has xs y → (key x ≡ key y → ⊥) → f x ≡ Some a → f y ≡ Some b → R a b) → Pairs R (filter_map f xs)
pairs_mapped R key f [] once each = tt
pairs_mapped {X} {K} {Y} R key f (x ∷ xs) once each = by_first (f x) refl (pairs_mapped R key f xs once.1 (λ y z a b h k. each y z a b (inr h) (inr k)))
  where
    by_first : (o : Option Y) → f x ≡ o → Pairs R (filter_map f xs) → Pairs R (cons_option o (filter_map f xs))
    by_first None e rest = rest
    by_first (Some a) e rest = (
      λ b has.
          let r = from_filter_map f xs b has in
          each x r.0 a b (inl refl) (inr r.1) (λ same. once.0 (subst (λ (k : K). Has (map key xs) k) (sym same) (has_map key xs r.0 r.1))) e r.2,
      rest,
    )

pub mapped_pairs : {X K Y : Type 0} (R : Y → Y → Type 0) → ((a b : Y) → R a b → R b a) → (key : X → K) (f : X → Option Y) (xs : List X) → Pairs R (filter_map f xs)
    → (x y : X) (a b : Y) → Has xs x → Has xs y → (key x ≡ key y → ⊥) → f x ≡ Some a → f y ≡ Some b → R a b
mapped_pairs R turned key f [] pairs x y a b h k differ e g = absurd h
mapped_pairs {X} {K} {Y} R turned key f (z ∷ zs) pairs x y a b h k differ e g =
    ⊎_elim
    (λ at_x. ⊎_elim
    (λ at_y. absurd (differ (ap key (sym at_x ∙ at_y))))
    (λ later. (first (f z) refl pairs).0 a (ap f at_x ∙ e) b (has_filter_map f zs y b later g))
    k)
    (λ later_x. ⊎_elim
    (λ at_y. turned b a ((first (f z) refl pairs).0 b (ap f at_y ∙ g) a (has_filter_map f zs x a later_x e)))
    (λ later_y. mapped_pairs R turned key f zs (first (f z) refl pairs).1 x y a b later_x later_y differ e g)
    k)
    h
  where
    first : (o : Option Y) → f z ≡ o → Pairs R (cons_option o (filter_map f zs)) → ((c : Y) → f z ≡ Some c → (d : Y) → Has (filter_map f zs) d → R c d) × Pairs R (filter_map f zs)
    first None e pairs = (λ c k. let n : None ≡ Some c = sym e ∙ k in cc, pairs)
    first (Some c) e pairs = (λ d k. let n : Some c ≡ Some d = sym e ∙ k in let same : c ≡ d = cc in λ u has. subst (λ (w : Y). R w u) same (pairs.0 u has), pairs.1)

-- where an item stood before two of them were exchanged
record IsMoved {X : Type 0} (xs : List X) (i j p : ℕ) (x : X) : Type 0 where
  place : ℕ
  there : slice_get xs place ≡ Some x
  how : ((p ≡ i) × (place ≡ j)) ⊎ (((p ≡ i → ⊥) × (p ≡ j) × (place ≡ i)) ⊎ ((p ≡ i → ⊥) × (p ≡ j → ⊥) × (place ≡ p)))

nat_cases : (a b : ℕ) → (a ≡ b) ⊎ (a ≡ b → ⊥)
nat_cases zero zero = inl refl
nat_cases zero (suc b) = inr (λ e. let k : zero ≡ suc b = e in absurd (omega arith))
nat_cases (suc a) zero = inr (λ e. let k : suc a ≡ zero = e in absurd (omega arith))
nat_cases (suc a) (suc b) = ⊎_elim (λ e. inl (ap suc e)) (λ n. inr (λ e. let k : suc a ≡ suc b = e in n (omega arith))) (nat_cases a b)

pub read_at : {X : Type 0} (xs : List X) (i : ℕ) (x d : X) → slice_get xs i ≡ Some x → (i < length xs) × (x ≡ get_or xs i d)
read_at [] i x d e = let k : None ≡ Some x = e in cc
read_at (y ∷ xs) zero x d e = let same : y ≡ x = cc in (omega arith, sym same)
read_at (y ∷ xs) (suc i) x d e = let r = read_at xs i x d e in let lt = r.0 in (omega (arith, lt), r.1)

was_at : {X : Type 0} (xs : List X) (i j p : ℕ) (x : X) → i < length xs → j < length xs → slice_get (swap xs i j) p ≡ Some x → IsMoved xs i j p x
was_at {X} xs i j p x li lj e =
    let r = read_at (swap xs i j) p x x e in
    let lp : p < length xs = subst (λ n. p < n) (length-swap xs i j) r.0 in
    let sw = swapped_from_swap xs (swap xs i j) i j x li lj refl in
    ⊎_elim
    (λ at_i. record { place = j; there = get_read xs j x lj (r.1 ∙ (ap (λ k. get_or (swap xs i j) k x) at_i ∙ sw.0)); how = inl (at_i, refl) })
    (λ not_i. ⊎_elim
    (λ at_j. record { place = i; there = get_read xs i x li (r.1 ∙ (ap (λ k. get_or (swap xs i j) k x) at_j ∙ sw.1)); how = inr (inl (not_i, at_j, refl)) })
    (λ not_j. record { place = p; there = get_read xs p x lp (r.1 ∙ sw.2 p not_i not_j); how = inr (inr (not_i, not_j, refl)) })
    (nat_cases p j))
    (nat_cases p i)

-- one place before is one place behind
one_place : {X : Type 0} (xs : List X) (i j p q : ℕ) (x y : X) (a : IsMoved xs i j p x) (b : IsMoved xs i j q y) → a.place ≡ b.place → p ≡ q
one_place xs i j p q x y a b same = by_cases a.place b.place same a.how b.how
  where
    by_cases : (m n : ℕ) → m ≡ n → ((p ≡ i) × (m ≡ j)) ⊎ (((p ≡ i → ⊥) × (p ≡ j) × (m ≡ i)) ⊎ ((p ≡ i → ⊥) × (p ≡ j → ⊥) × (m ≡ p)))
        → ((q ≡ i) × (n ≡ j)) ⊎ (((q ≡ i → ⊥) × (q ≡ j) × (n ≡ i)) ⊎ ((q ≡ i → ⊥) × (q ≡ j → ⊥) × (n ≡ q))) → p ≡ q
    by_cases m n e (inl u) (inl w) = u.0 ∙ sym w.0
    by_cases m n e (inl u) (inr (inl w)) = absurd (w.0 (w.1 ∙ (sym u.1 ∙ (e ∙ w.2))))
    by_cases m n e (inl u) (inr (inr w)) = absurd (w.1 (sym w.2 ∙ (sym e ∙ u.1)))
    by_cases m n e (inr (inl u)) (inl w) = absurd (u.0 (u.1 ∙ (sym w.1 ∙ (sym e ∙ u.2))))
    by_cases m n e (inr (inl u)) (inr (inl w)) = u.1 ∙ sym w.1
    by_cases m n e (inr (inl u)) (inr (inr w)) = absurd (w.0 (sym w.2 ∙ (sym e ∙ u.2)))
    by_cases m n e (inr (inr u)) (inl w) = absurd (u.1 (sym u.2 ∙ (e ∙ w.1)))
    by_cases m n e (inr (inr u)) (inr (inl w)) = absurd (u.0 (sym u.2 ∙ (e ∙ w.2)))
    by_cases m n e (inr (inr u)) (inr (inr w)) = sym u.2 ∙ (e ∙ w.2)

two_swapped : {X : Type 0} (R : X → X → Type 0) (xs : List X) (i j : ℕ) → i < length xs → j < length xs → EachTwo R xs → EachTwo R (swap xs i j)
two_swapped R xs i j li lj two = record {
  each = λ p q x y differ e f.
      let a = was_at xs i j p x li lj e in
      let b = was_at xs i j q y li lj f in
      two.each a.place b.place x y (λ same. differ (one_place xs i j p q x y a b same)) a.there b.there;
}

-- in another order they are the same items
pub two_permuted : {X : Type 0} (R : X → X → Type 0) (xs ys : List X) → IsPermutation xs ys → EachTwo R xs → EachTwo R ys
two_permuted R xs ys moved two = IsPermutation-keeps xs (λ l. EachTwo R l) two (λ l i j li lj more. two_swapped R l i j li lj more) ys moved

-- of two items of a list that a key tells apart it is known whether the key is one
pub decide_listed : {X K : Type 0} (key : X → K) (xs : List X) (x y : X) → EachOnce (map key xs) → Has xs x → Has xs y → (key x ≡ key y) ⊎ (key x ≡ key y → ⊥)
decide_listed key [] x y once h k = absurd h
decide_listed {X} {K} key (z ∷ zs) x y once h k = ⊎_elim
    (λ at_x. ⊎_elim
    (λ at_y. inl (ap key (sym at_x ∙ at_y)))
    (λ later. inr (λ same. once.0 (subst (λ (u : K). Has (map key zs) u) (sym (ap key at_x ∙ same)) (has_map key zs y later))))
    k)
    (λ later_x. ⊎_elim
    (λ at_y. inr (λ same. once.0 (subst (λ (u : K). Has (map key zs) u) (same ∙ ap key (sym at_y)) (has_map key zs x later_x))))
    (λ later_y. decide_listed key zs x y once.1 later_x later_y)
    k)
    h
