-- Lists in which no item stands twice: numbers, what a function gives, and what is chosen under two numberings.
use Rattle.std.proofs.Common.{◌≡◌, ℕ, zero, suc, ◌+◌, ◌<◌, ◌≤◌, ◌⊎◌, inl, inr, ⊎_elim, Bool, true, cond, Option, Some, None, List, [], ◌∷◌, length, map, refl, subst, sym, ◌∙◌, arith}
use Rattle.std.specs.List.{filter, filter_map, cons_option, range_with_len}
use Rattle.foundation.proofs.Truth.{split}
use Rattle.foundation.proofs.Members.{Has, EachOnce, has_map, from_map}
use Rattle.foundation.proofs.Chosen.{filter_has, from_filter_map, filter_first}

pub has_range : (a n i : ℕ) → Has (range_with_len a n) i → (a ≤ i) × (i < a + n)
has_range a zero i has = absurd has
has_range a (suc n) i has = ⊎_elim
    (λ same. (omega arith, omega arith))
    (λ rest. let r = has_range (a + 1) n i rest in let low = r.0 in let high = r.1 in (omega arith, omega arith))
    has

pub range_once : (a n : ℕ) → EachOnce (range_with_len a n)
range_once a zero = tt
range_once a (suc n) = (λ has. let r = has_range (a + 1) n a has in let low = r.0 in omega arith, range_once (a + 1) n)

pub once_map : {X Y : Type 0} (f : X → Y) (xs : List X) → ((x y : X) → Has xs x → Has xs y → f x ≡ f y → x ≡ y) → EachOnce xs → EachOnce (map f xs)
once_map f [] one once = tt
once_map f (x ∷ xs) one once = (
  λ has. let r = from_map f xs (f x) has in once.0 (subst (λ z. Has xs z) (one r.0 x (inr r.1) (inl refl) r.2) r.1),
  once_map f xs (λ y z a b. one y z (inr a) (inr b)) once.1,
)

pub has_some_length : {X : Type 0} (xs : List X) (x : X) → Has xs x → 1 ≤ length xs
has_some_length [] x has = absurd has
has_some_length (y ∷ xs) x has = omega arith

-- what passes a test behind the first item passes it among all
filter_behind : {X : Type 0} (p : X → Bool) (x : X) (xs : List X) (P : List X → Type 0) → ((ys : List X) → P (x ∷ ys) → P ys) → P (filter p (x ∷ xs)) → P (filter p xs)
filter_behind {X} p x xs P less = split (p x) (λ b. P (cond b (x ∷ filter p xs) (filter p xs)) → P (filter p xs)) (λ e all. less (filter p xs) all) (λ e all. all)

-- items under the numbers below n in turn, and one more at most, under n
module _ {X : Type 0} (p q : X → Bool) (number : X → ℕ) (f : X → Option ℕ) (n : ℕ)
    (cases : (x : X) (i : ℕ) → f x ≡ Some i → ((p x ≡ true) × (number x ≡ i)) ⊎ ((q x ≡ true) × (n ≡ i))) where
  -- the premises of a list
  pub record IsNumbered (xs : List X) : Type 0 where
    pub once : EachOnce (map number (filter p xs))
    pub below : (i : ℕ) → Has (map number (filter p xs)) i → i < n
    pub few : length (filter q xs) ≤ 1

  number_of_item : (xs : List X) (x : X) → Has xs x → p x ≡ true → Has (map number (filter p xs)) (number x)
  number_of_item xs x has e = has_map number (filter p xs) x (filter_has p xs x has e)

  behind : (x : X) (xs : List X) → IsNumbered (x ∷ xs) → IsNumbered xs
  behind x xs is = record {
    once = filter_behind p x xs (λ ys. EachOnce (map number ys)) (λ ys k. k.1) is.once;
    below = filter_behind p x xs (λ ys. (i : ℕ) → Has (map number ys) i → i < n) (λ ys k i has. k i (inr has)) is.below;
    few = filter_behind q x xs (λ ys. length ys ≤ 1) (λ ys k. omega arith) is.few;
  }

  two_apart : (x : X) (xs : List X) (i : ℕ) → IsNumbered (x ∷ xs) → f x ≡ Some i → (y : X) → Has xs y → f y ≡ Some i → ⊥
  two_apart x xs i is e y has k = ⊎_elim
      (λ a. ⊎_elim
      (λ b.
      let once : EachOnce (number x ∷ map number (filter p xs)) = subst (λ ys. EachOnce (map number ys)) (filter_first p x xs a.0) is.once in
      once.0 (subst (λ z. Has (map number (filter p xs)) z) (b.1 ∙ sym a.1) (number_of_item xs y has b.0)))
      (λ b. let low = is.below (number x) (number_of_item (x ∷ xs) x (inl refl) a.0) in let one = a.1 in let other = b.1 in omega arith)
      (cases y i k))
      (λ a. ⊎_elim
      (λ b. let low = is.below (number y) (number_of_item (x ∷ xs) y (inr has) b.0) in let one = a.1 in let other = b.1 in omega arith)
      (λ b.
      let few : length (x ∷ filter q xs) ≤ 1 = subst (λ (ys : List X). length ys ≤ 1) (filter_first q x xs a.0) is.few in
      let some = has_some_length (filter q xs) y (filter_has q xs y has b.0) in
      omega arith)
      (cases y i k))
      (cases x i e)

  pub once_numbered : (xs : List X) → IsNumbered xs → EachOnce (filter_map f xs)
  once_numbered [] is = tt
  once_numbered (x ∷ xs) is = by_option (f x) refl (once_numbered xs (behind x xs is))
    where
      by_option : (o : Option ℕ) → f x ≡ o → EachOnce (filter_map f xs) → EachOnce (cons_option o (filter_map f xs))
      by_option None e rest = rest
      by_option (Some i) e rest = (λ has. let r = from_filter_map f xs i has in two_apart x xs i is e r.0 r.1 r.2, rest)
