-- Items in the order of their first bits are the items of each bit in turn.
use Rattle.std.proofs.Common.{◌≡◌, ◌∙◌, ℕ, zero, suc, ◌+◌, ◌*◌, ◌<◌, ◌≤◌, inl, inr, Bool, true, false, not, ◌&&◌, nat_eq, List, [], ◌∷◌, ◌++◌, get_or, refl, ap, subst, sym, arith}
use Rattle.std.specs.Prelude.{filter, Contains}
use Rattle.std.specs.List.{flat_map, range_with_len}
use Rattle.std.specs.List.Sorted.{IsNonDecreasingBy, IsPermutation, IsStableByKey, ties}
use Rattle.std.specs.Ordering.{is_lt, nat_cmp}
use Rattle.std.proofs.lemmas.List.Sorted.{IsNonDecreasingBy-drop, IsPermutation-sym, Contains-permutation}
use Rattle.std.proofs.lemmas.Bool.{eqb-true, eq-eqb}
use Rattle.foundation.proofs.Truth.{split, is_false, not_both}
use Rattle.foundation.proofs.Members.{Has, contains_from_has, flat_map_same}
use Rattle.foundation.proofs.Chosen.{filter_same}
use Rattle.text_told.specs.declared.items.Item.{Item}
use Rattle.text_told.specs.Dumps.{begins_at, bit_of, by_place}

-- the items that lie at each of n places from one on
abbrev from_place : ℕ → ℕ → List Item → List Item
from_place a n items = flat_map (λ at. filter (begins_at at) items) (range_with_len a n)

here : (at : ℕ) (item : Item) (items : List Item) → nat_eq (bit_of item) at ≡ true → filter (begins_at at) (item ∷ items) ≡ item ∷ filter (begins_at at) items
here at item items e = rw e refl

elsewhere : (at : ℕ) (item : Item) (items : List Item) → nat_eq (bit_of item) at ≡ false → filter (begins_at at) (item ∷ items) ≡ filter (begins_at at) items
elsewhere at item items e = rw e refl

equal : (m n : ℕ) → nat_eq m n ≡ true → m ≡ n
equal m n e = eqb-true m n e

differs : (m n : ℕ) → (m ≡ n → ⊥) → nat_eq m n ≡ false
differs m n other = is_false (nat_eq m n) (λ e. other (equal m n e))

same_number : (n : ℕ) → nat_eq n n ≡ true
same_number n = eq-eqb n n refl

above_of : (a p : ℕ) → a ≤ p → (p ≡ a → ⊥) → a < p
above_of a p le other = omega (arith, other)

-- no item lies before the first place
none_before : (at : ℕ) (items : List Item) → ((z : Item) → Has items z → at < bit_of z) → filter (begins_at at) items ≡ []
none_before at [] later = refl
none_before at (item ∷ items) later =
    let lt : at < bit_of item = later item (inl refl) in
    elsewhere at item items (differs (bit_of item) at (λ e. absurd (omega arith))) ∙ none_before at items (λ z has. later z (inr has))

nowhere : (a n : ℕ) → from_place a n [] ≡ []
nowhere a zero = refl
nowhere a (suc n) = nowhere (a + 1) n

-- an item before the places is none of them
skip : (a n : ℕ) (item : Item) (items : List Item) → bit_of item < a → from_place a n (item ∷ items) ≡ from_place a n items
skip a zero item items lt = refl
skip a (suc n) item items lt =
    ap (λ (xs : List Item). xs ++ from_place (a + 1) n (item ∷ items)) (elsewhere a item items (differs (bit_of item) a (λ e. absurd (omega arith))))
    ∙ ap (λ (xs : List Item). filter (begins_at a) items ++ xs) (skip (a + 1) n item items (omega arith))

-- the item of the lowest place comes first
comes_first : (a n : ℕ) (item : Item) (items : List Item) → a ≤ bit_of item → bit_of item < a + n → ((z : Item) → Has items z → bit_of item ≤ bit_of z) → from_place a n (item ∷ items) ≡ item ∷ from_place a n items
comes_first a zero item items low high later = absurd (omega arith)
comes_first a (suc n) item items low high later =
    split (nat_eq (bit_of item) a) (λ (b : Bool). nat_eq (bit_of item) a ≡ b → from_place a (suc n) (item ∷ items) ≡ item ∷ from_place a (suc n) items) at_once (further (λ lt. comes_first (a + 1) n item items lt (omega arith) later)) refl
  where
    at_once : nat_eq (bit_of item) a ≡ true → nat_eq (bit_of item) a ≡ true → from_place a (suc n) (item ∷ items) ≡ item ∷ from_place a (suc n) items
    at_once e f =
        let same : bit_of item ≡ a = equal (bit_of item) a e in
        ap (λ (xs : List Item). xs ++ from_place (a + 1) n (item ∷ items)) (here a item items e)
        ∙ ap (λ (xs : List Item). item ∷ (filter (begins_at a) items ++ xs)) (skip (a + 1) n item items (omega arith))

    further : (a + 1 ≤ bit_of item → from_place (a + 1) n (item ∷ items) ≡ item ∷ from_place (a + 1) n items) → nat_eq (bit_of item) a ≡ false → nat_eq (bit_of item) a ≡ false → from_place a (suc n) (item ∷ items) ≡ item ∷ from_place a (suc n) items
    further ih e f =
        let other : (bit_of item ≡ a → ⊥) = λ s. not_both (ap (λ k. nat_eq k a) s ∙ same_number a) e in
        let above : a < bit_of item = above_of a (bit_of item) low other in
        let none : filter (begins_at a) items ≡ [] = none_before a items (λ z has. let le : bit_of item ≤ bit_of z = later z has in omega arith) in
        ap (λ (xs : List Item). xs ++ from_place (a + 1) n (item ∷ items)) (elsewhere a item items e ∙ none)
        ∙ (ih (omega arith)
        ∙ ap (λ (xs : List Item). item ∷ (xs ++ from_place (a + 1) n items)) (sym none))

-- each item lies no later than those behind it
abbrev Rises : List Item → Type 0
Rises [] = Unit {0}
Rises (item ∷ items) = ((z : Item) → Has items z → bit_of item ≤ bit_of z) × Rises items

rises : (items : List Item) → IsNonDecreasingBy (λ (item : Item). bit_of item) items → Rises items
rises [] up = tt
rises (item ∷ items) up = (
  (λ z has. let at = contains_from_has items z has in
      let le : bit_of item ≤ bit_of (get_or items at.0 z) = up 0 (suc at.0) z (omega arith) (let lt = at.1 in omega arith) in
      subst (λ (i : Item). bit_of item ≤ bit_of i) at.2 le),
  rises items (IsNonDecreasingBy-drop bit_of 1 (item ∷ items) up),
)

all_places : (n : ℕ) (items : List Item) → Rises items → ((z : Item) → Has items z → bit_of z < n) → from_place 0 n items ≡ items
all_places n [] up below = nowhere 0 n
all_places n (item ∷ items) up below =
    comes_first 0 n item items (omega arith) (let lt : bit_of item < n = below item (inl refl) in omega arith) up.0
    ∙ ap (λ (xs : List Item). item ∷ xs) (all_places n items up.1 (λ z has. below z (inr has)))

-- items tie where they lie at one place
tie_is : (m n : ℕ) → (not (is_lt (nat_cmp m n)) && not (is_lt (nat_cmp n m))) ≡ nat_eq n m
tie_is m n = grind arith

-- a stable sort by first bits gives the items of each bit in turn
pub sorted_is : (size : ℕ) (old new : List Item) → IsPermutation old new → IsNonDecreasingBy bit_of new → IsStableByKey bit_of nat_cmp old new → ((item : Item) → Contains old item → bit_of item < 8 * size) → new ≡ by_place size old
sorted_is size old new moved up stable below =
    let same : (at : ℕ) → filter (begins_at at) new ≡ filter (begins_at at) old =
    λ at. let x : Item = record { place = 0; first = at; size = 0; text = [] } in
    let here : bit_of x ≡ at = omega arith in
    let tie : (z : Item) → ties (λ (a b : Item). is_lt (nat_cmp (bit_of a) (bit_of b))) x z ≡ begins_at at z = λ z. tie_is (bit_of x) (bit_of z) ∙ ap (nat_eq (bit_of z)) here in
    filter_same (begins_at at) (ties (λ (a b : Item). is_lt (nat_cmp (bit_of a) (bit_of b))) x) new (λ z has. sym (tie z))
    ∙ (stable x ∙ filter_same (ties (λ (a b : Item). is_lt (nat_cmp (bit_of a) (bit_of b))) x) (begins_at at) old (λ z has. tie z)) in
    sym (all_places (8 * size) new (rises new up) (λ z has. below z (Contains-permutation new old z (IsPermutation-sym old new moved) (contains_from_has new z has))))
    ∙ flat_map_same (λ at. filter (begins_at at) new) (λ at. filter (begins_at at) old) (range_with_len 0 (8 * size)) (λ at has. same at)
