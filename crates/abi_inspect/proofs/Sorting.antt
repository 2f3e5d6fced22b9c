-- Slots in the order of their first bits are the slots of each bit in turn.
use Rattle.std.proofs.Common.{◌≡◌, ◌∙◌, ℕ, zero, suc, ◌+◌, ◌*◌, ◌<◌, ◌≤◌, inl, inr, Bool, true, false, not, ◌&&◌, nat_eq, List, [], ◌∷◌, ◌++◌, get_or, refl, ap, subst, sym, arith}
use Rattle.std.specs.Prelude.{filter, Contains}
use Rattle.std.specs.List.{flat_map, range_with_len}
use Rattle.std.specs.List.Sorted.{IsNonDecreasingBy, IsPermutation, IsStableByKey, ties}
use Rattle.std.specs.Ordering.{is_lt, nat_cmp}
use Rattle.std.proofs.lemmas.List.Sorted.{IsNonDecreasingBy-drop, IsPermutation-sym, Contains-permutation}
use Rattle.std.proofs.lemmas.Bool.{eqb-true, eq-eqb}
use Rattle.foundation.proofs.Truth.{split, is_false, not_both}
use Rattle.foundation.proofs.Members.{Has, contains_from_has, flat_map_same}
use Rattle.foundation.proofs.Chosen.{filter_same}
use Rattle.abi_inspect.specs.declared.slots.Slot.{Slot}
use Rattle.abi_inspect.specs.declared.slots.Row.TheVariants.{Fixed}
use Rattle.abi_inspect.specs.Rows.{slot_starts_at, slot_bit, slots_by_place}

-- the slots that lie at each of n places from one on
abbrev from_place : ℕ → ℕ → List Slot → List Slot
from_place a n slots = flat_map (λ at. filter (slot_starts_at at) slots) (range_with_len a n)

here : (at : ℕ) (slot : Slot) (slots : List Slot) → nat_eq (slot_bit slot) at ≡ true → filter (slot_starts_at at) (slot ∷ slots) ≡ slot ∷ filter (slot_starts_at at) slots
here at slot slots e = rw e refl

elsewhere : (at : ℕ) (slot : Slot) (slots : List Slot) → nat_eq (slot_bit slot) at ≡ false → filter (slot_starts_at at) (slot ∷ slots) ≡ filter (slot_starts_at at) slots
elsewhere at slot slots e = rw e refl

equal : (m n : ℕ) → nat_eq m n ≡ true → m ≡ n
equal m n e = eqb-true m n e

differs : (m n : ℕ) → (m ≡ n → ⊥) → nat_eq m n ≡ false
differs m n other = is_false (nat_eq m n) (λ e. other (equal m n e))

same_number : (n : ℕ) → nat_eq n n ≡ true
same_number n = eq-eqb n n refl

above_of : (a p : ℕ) → a ≤ p → (p ≡ a → ⊥) → a < p
above_of a p le other = omega (arith, other)

-- no slot lies before the first place
none_before : (at : ℕ) (slots : List Slot) → ((z : Slot) → Has slots z → at < slot_bit z) → filter (slot_starts_at at) slots ≡ []
none_before at [] later = refl
none_before at (slot ∷ slots) later =
    let lt : at < slot_bit slot = later slot (inl refl) in
    elsewhere at slot slots (differs (slot_bit slot) at (λ e. absurd (omega arith))) ∙ none_before at slots (λ z has. later z (inr has))

nowhere : (a n : ℕ) → from_place a n [] ≡ []
nowhere a zero = refl
nowhere a (suc n) = nowhere (a + 1) n

-- an slot before the places is none of them
skip : (a n : ℕ) (slot : Slot) (slots : List Slot) → slot_bit slot < a → from_place a n (slot ∷ slots) ≡ from_place a n slots
skip a zero slot slots lt = refl
skip a (suc n) slot slots lt =
    ap (λ (xs : List Slot). xs ++ from_place (a + 1) n (slot ∷ slots)) (elsewhere a slot slots (differs (slot_bit slot) a (λ e. absurd (omega arith))))
    ∙ ap (λ (xs : List Slot). filter (slot_starts_at a) slots ++ xs) (skip (a + 1) n slot slots (omega arith))

-- the slot of the lowest place comes first
comes_first : (a n : ℕ) (slot : Slot) (slots : List Slot) → a ≤ slot_bit slot → slot_bit slot < a + n → ((z : Slot) → Has slots z → slot_bit slot ≤ slot_bit z) → from_place a n (slot ∷ slots) ≡ slot ∷ from_place a n slots
comes_first a zero slot slots low high later = absurd (omega arith)
comes_first a (suc n) slot slots low high later =
    split (nat_eq (slot_bit slot) a) (λ (b : Bool). nat_eq (slot_bit slot) a ≡ b → from_place a (suc n) (slot ∷ slots) ≡ slot ∷ from_place a (suc n) slots) at_once (further (λ lt. comes_first (a + 1) n slot slots lt (omega arith) later)) refl
  where
    at_once : nat_eq (slot_bit slot) a ≡ true → nat_eq (slot_bit slot) a ≡ true → from_place a (suc n) (slot ∷ slots) ≡ slot ∷ from_place a (suc n) slots
    at_once e f =
        let same : slot_bit slot ≡ a = equal (slot_bit slot) a e in
        ap (λ (xs : List Slot). xs ++ from_place (a + 1) n (slot ∷ slots)) (here a slot slots e)
        ∙ ap (λ (xs : List Slot). slot ∷ (filter (slot_starts_at a) slots ++ xs)) (skip (a + 1) n slot slots (omega arith))

    further : (a + 1 ≤ slot_bit slot → from_place (a + 1) n (slot ∷ slots) ≡ slot ∷ from_place (a + 1) n slots) → nat_eq (slot_bit slot) a ≡ false → nat_eq (slot_bit slot) a ≡ false → from_place a (suc n) (slot ∷ slots) ≡ slot ∷ from_place a (suc n) slots
    further ih e f =
        let other : (slot_bit slot ≡ a → ⊥) = λ s. not_both (ap (λ k. nat_eq k a) s ∙ same_number a) e in
        let above : a < slot_bit slot = above_of a (slot_bit slot) low other in
        let none : filter (slot_starts_at a) slots ≡ [] = none_before a slots (λ z has. let le : slot_bit slot ≤ slot_bit z = later z has in omega arith) in
        ap (λ (xs : List Slot). xs ++ from_place (a + 1) n (slot ∷ slots)) (elsewhere a slot slots e ∙ none)
        ∙ (ih (omega arith)
        ∙ ap (λ (xs : List Slot). slot ∷ (xs ++ from_place (a + 1) n slots)) (sym none))

-- each slot lies no later than those behind it
abbrev Rises : List Slot → Type 0
Rises [] = Unit {0}
Rises (slot ∷ slots) = ((z : Slot) → Has slots z → slot_bit slot ≤ slot_bit z) × Rises slots

rises : (slots : List Slot) → IsNonDecreasingBy (λ (slot : Slot). slot_bit slot) slots → Rises slots
rises [] up = tt
rises (slot ∷ slots) up = (
  (λ z has. let at = contains_from_has slots z has in
      let le : slot_bit slot ≤ slot_bit (get_or slots at.0 z) = up 0 (suc at.0) z (omega arith) (let lt = at.1 in omega arith) in
      subst (λ (i : Slot). slot_bit slot ≤ slot_bit i) at.2 le),
  rises slots (IsNonDecreasingBy-drop slot_bit 1 (slot ∷ slots) up),
)

all_places : (n : ℕ) (slots : List Slot) → Rises slots → ((z : Slot) → Has slots z → slot_bit z < n) → from_place 0 n slots ≡ slots
all_places n [] up below = nowhere 0 n
all_places n (slot ∷ slots) up below =
    comes_first 0 n slot slots (omega arith) (let lt : slot_bit slot < n = below slot (inl refl) in omega arith) up.0
    ∙ ap (λ (xs : List Slot). slot ∷ xs) (all_places n slots up.1 (λ z has. below z (inr has)))

-- slots tie where they lie at one place
tie_is : (m n : ℕ) → (not (is_lt (nat_cmp m n)) && not (is_lt (nat_cmp n m))) ≡ nat_eq n m
tie_is m n = grind arith

-- a stable sort by first bits gives the slots of each bit in turn
pub sorted_is : (size : ℕ) (old new : List Slot) → IsPermutation old new → IsNonDecreasingBy slot_bit new → IsStableByKey slot_bit nat_cmp old new → ((slot : Slot) → Contains old slot → slot_bit slot < 8 * size) → new ≡ slots_by_place size old
sorted_is size old new moved up stable below =
    let same : (at : ℕ) → filter (slot_starts_at at) new ≡ filter (slot_starts_at at) old =
    λ at. let x : Slot = record { place = 0; first = at; size = 0; row = Fixed [] } in
    let here : slot_bit x ≡ at = omega arith in
    let tie : (z : Slot) → ties (λ (a b : Slot). is_lt (nat_cmp (slot_bit a) (slot_bit b))) x z ≡ slot_starts_at at z = λ z. tie_is (slot_bit x) (slot_bit z) ∙ ap (nat_eq (slot_bit z)) here in
    filter_same (slot_starts_at at) (ties (λ (a b : Slot). is_lt (nat_cmp (slot_bit a) (slot_bit b))) x) new (λ z has. sym (tie z))
    ∙ (stable x ∙ filter_same (ties (λ (a b : Slot). is_lt (nat_cmp (slot_bit a) (slot_bit b))) x) (slot_starts_at at) old (λ z has. tie z)) in
    sym (all_places (8 * size) new (rises new up) (λ z has. below z (Contains-permutation new old z (IsPermutation-sym old new moved) (contains_from_has new z has))))
    ∙ flat_map_same (λ at. filter (slot_starts_at at) new) (λ at. filter (slot_starts_at at) old) (range_with_len 0 (8 * size)) (λ at has. same at)
