-- Numbers in bits, and what loads, stores and copies by words are in the bits of a memory.
use Rattle.std.proofs.Common.{◌≡◌, ℕ, zero, suc, ◌+◌, ◌-◌, ◌*◌, ◌<◌, ◌≤◌, Option, Some, refl, ap, sym, ◌∙◌, arith, Bool, true, false}
use Rattle.std.specs.Prelude.{nat_eq, if◌then◌else◌}
use Rattle.std.proofs.lemmas.Bool.Decides.{nat_tests}
use Rattle.std.proofs.lemmas.Nat.Bits.{bit_at_ones}
use Rattle.byte_memory.specs.declared.cells.Word.{Word}
use Rattle.byte_memory.specs.Bits.{has_bit, number_from, stored, with_bits_copied, is_among_places}
use Rattle.byte_memory.specs.Words.{masked, word_bit, with_word}

-- a number depends on its bits alone
pub number_from-same : (n : ℕ) (bit bit' : ℕ → Option Bool) (at at' : ℕ) → ((k : ℕ) → k < n → bit (at + k) ≡ bit' (at' + k)) → number_from bit at n ≡ number_from bit' at' n
number_from-same zero bit bit' at at' same = refl
number_from-same (suc n) bit bit' at at' same =
    let here : at + 0 ≡ at = omega arith in
    let here' : at' + 0 ≡ at' = omega arith in
    let first : bit at ≡ bit' at' = ap bit (sym here) ∙ (same 0 (omega arith) ∙ ap bit' here') in
    let others : number_from bit (at + 1) n ≡ number_from bit' (at' + 1) n = number_from-same n bit bit' (at + 1) (at' + 1) (λ k less.
    let there : (at + 1) + k ≡ at + (k + 1) = omega arith in
    let there' : at' + (k + 1) ≡ (at' + 1) + k = omega arith in
    ap bit there ∙ (same (k + 1) (omega arith) ∙ ap bit' there')) in
    rw (first, others) refl

-- the number in some bits of a word is the one in memory, where the word stands
pub number_from-word : (bit : ℕ → Option Bool) (at span first bits : ℕ) (word : Word) → first + bits ≤ 8 * span → ((place : ℕ) → place < 8 * span → word_bit word place ≡ bit (8 * at + place)) →
    number_from (word_bit word) first bits ≡ number_from bit (8 * at + first) bits
number_from-word bit at span first bits word fits read = number_from-same bits (word_bit word) bit first (8 * at + first) (λ k less.
    let there : 8 * at + (first + k) ≡ (8 * at + first) + k = omega arith in
    read (first + k) (omega arith) ∙ ap bit there)

-- the bits after a word with some new bits was written where it stood
pub with_word-bits : (bit : ℕ → Option Bool) (at span first bits : ℕ) (word new from : Word) → first + bits ≤ 8 * span → 8 * span ≤ 64 →
    ((place : ℕ) → place < 8 * span → is_among_places first bits place ≡ false → word_bit word place ≡ bit (8 * at + place)) →
    ((place : ℕ) → place < 64 → word_bit new place ≡ (if is_among_places first bits place then word_bit from (place - first) else word_bit word place)) →
    (place : ℕ) → with_word bit at span new place ≡ (if is_among_places (8 * at + first) bits place then word_bit from (place - (8 * at + first)) else bit place)
with_word-bits bit at span first bits word new from fits short read made place = by_test (is_among_places (8 * at) (8 * span) place) refl (is_among_places (8 * at + first) bits place) refl
  where
    by_test : (z : Bool) → is_among_places (8 * at) (8 * span) place ≡ z → (z' : Bool) → is_among_places (8 * at + first) bits place ≡ z' → with_word bit at span new place ≡ (if is_among_places (8 * at + first) bits place then word_bit from (place - (8 * at + first)) else bit place)
    by_test true t true t' =
        let inside : is_among_places first bits (place - 8 * at) ≡ true = grind (arith, nat_tests) in
        let less : place - 8 * at < 64 = grind (arith, nat_tests) in
        let there : (place - 8 * at) - first ≡ place - (8 * at + first) = omega arith in
        let is : word_bit new (place - 8 * at) ≡ (if is_among_places first bits (place - 8 * at) then word_bit from ((place - 8 * at) - first) else word_bit word (place - 8 * at)) = made (place - 8 * at) less in
        let chosen : word_bit new (place - 8 * at) ≡ word_bit from ((place - 8 * at) - first) = rw inside at is in
        rw (t, t') (chosen ∙ ap (word_bit from) there)
    by_test true t false t' =
        let outside : is_among_places first bits (place - 8 * at) ≡ false = grind (arith, nat_tests) in
        let less : place - 8 * at < 64 = grind (arith, nat_tests) in
        let less' : place - 8 * at < 8 * span = grind (arith, nat_tests) in
        let there : 8 * at + (place - 8 * at) ≡ place = grind (arith, nat_tests) in
        let is : word_bit new (place - 8 * at) ≡ (if is_among_places first bits (place - 8 * at) then word_bit from ((place - 8 * at) - first) else word_bit word (place - 8 * at)) = made (place - 8 * at) less in
        let chosen : word_bit new (place - 8 * at) ≡ word_bit word (place - 8 * at) = rw outside at is in
        rw (t, t') (chosen ∙ (read (place - 8 * at) less' outside ∙ ap bit there))
    by_test false t true t' = absurd (grind (arith, nat_tests))
    by_test false t false t' = rw (t, t') refl

-- a store by a word
pub stored-word : (bit : ℕ → Option Bool) (at span first bits value : ℕ) (word new : Word) → first + bits ≤ 8 * span → 8 * span ≤ 64 →
    ((place : ℕ) → place < 8 * span → is_among_places first bits place ≡ false → word_bit word place ≡ bit (8 * at + place)) →
    ((place : ℕ) → place < 64 → word_bit new place ≡ (if is_among_places first bits place then masked value 18446744073709551615 (place - first) else word_bit word place)) →
    with_word bit at span new ≡ stored bit (8 * at + first) bits value
stored-word bit at span first bits value word new fits short read made = λ j place. pointwise place j
  where
    by_test : (place : ℕ) (z : Bool) → is_among_places (8 * at + first) bits place ≡ z → (if z then masked value 18446744073709551615 (place - (8 * at + first)) else bit place) ≡ (if z then Some (has_bit value (place - (8 * at + first))) else bit place)
    by_test place true t =
        let less : place - (8 * at + first) < 64 = grind (arith, nat_tests) in
        let all : has_bit 18446744073709551615 (place - (8 * at + first)) ≡ true = ap (λ x. nat_eq x 1) (bit_at_ones 64 (place - (8 * at + first)) less) in
        rw all refl
    by_test place false t = refl

    pointwise : (place : ℕ) → with_word bit at span new place ≡ stored bit (8 * at + first) bits value place
    pointwise place =
        with_word-bits bit at span first bits word new (record { value = value; set = 18446744073709551615 }) fits short read made place
        ∙ by_test place (is_among_places (8 * at + first) bits place) refl

-- a copy by a word
pub copied-word : (bit : ℕ → Option Bool) (from to span first bits : ℕ) (source word new shifted : Word) → first + bits ≤ 8 * span → 8 * span ≤ 64 →
    ((place : ℕ) → place < 8 * span → word_bit source place ≡ bit (8 * from + place)) →
    ((place : ℕ) → place < 8 * span → is_among_places first bits place ≡ false → word_bit word place ≡ bit (8 * to + place)) →
    ((place : ℕ) → word_bit shifted place ≡ word_bit source (first + place)) →
    ((place : ℕ) → place < 64 → word_bit new place ≡ (if is_among_places first bits place then word_bit shifted (place - first) else word_bit word place)) →
    with_word bit to span new ≡ with_bits_copied bit (8 * from + first) (8 * to + first) bits
copied-word bit from to span first bits source word new shifted fits short read read' shift made = λ j place. pointwise place j
  where
    by_test : (place : ℕ) (z : Bool) → is_among_places (8 * to + first) bits place ≡ z → (if z then word_bit shifted (place - (8 * to + first)) else bit place) ≡ (if z then bit ((8 * from + first) + (place - (8 * to + first))) else bit place)
    by_test place true t =
        let less : first + (place - (8 * to + first)) < 8 * span = grind (arith, nat_tests) in
        let there : 8 * from + (first + (place - (8 * to + first))) ≡ (8 * from + first) + (place - (8 * to + first)) = omega arith in
        shift (place - (8 * to + first)) ∙ (read (first + (place - (8 * to + first))) less ∙ ap bit there)
    by_test place false t = refl

    pointwise : (place : ℕ) → with_word bit to span new place ≡ with_bits_copied bit (8 * from + first) (8 * to + first) bits place
    pointwise place = with_word-bits bit to span first bits word new shifted fits short read' made place ∙ by_test place (is_among_places (8 * to + first) bits place) refl

-- a copy of whole bytes by a word
pub copied-bytes : (bit : ℕ → Option Bool) (from to n : ℕ) (word : Word) → ((place : ℕ) → place < 8 * n → word_bit word place ≡ bit (8 * from + place)) →
    with_word bit to n word ≡ with_bits_copied bit (8 * from) (8 * to) (8 * n)
copied-bytes bit from to n word read = λ j place. pointwise place j
  where
    by_test : (place : ℕ) (z : Bool) → is_among_places (8 * to) (8 * n) place ≡ z → (if z then word_bit word (place - 8 * to) else bit place) ≡ (if z then bit (8 * from + (place - 8 * to)) else bit place)
    by_test place true t = let less : place - 8 * to < 8 * n = grind (arith, nat_tests) in read (place - 8 * to) less
    by_test place false t = refl

    pointwise : (place : ℕ) → with_word bit to n word place ≡ with_bits_copied bit (8 * from) (8 * to) (8 * n) place
    pointwise place = by_test place (is_among_places (8 * to) (8 * n) place) refl
