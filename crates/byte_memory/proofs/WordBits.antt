-- The bits of the words of a page, and of the word that stands in one or two of them.
use Rattle.std.proofs.Common.{◌≡◌, ◌≢◌, ℕ, zero, suc, ◌+◌, ◌-◌, ◌*◌, ◌/◌, ◌%◌, ◌<◌, ◌≤◌, Option, Some, None, List, [], ◌∷◌, ◌++◌, length, set, replicate, refl, ap, ◌∙◌, arith, Bool, true, false}
use Rattle.std.specs.Prelude.{nat_eq, if◌then◌else◌}
use Rattle.std.specs.List.{slice_get}
use Rattle.std.proofs.lemmas.Bool.Decides.{nat_tests}
use Rattle.std.proofs.lemmas.Option.{slice_get_past}
use Rattle.std.proofs.lemmas.Nat.Bits.{bit_at-zero}
use Rattle.byte_memory.specs.declared.cells.Word.{Word}
use Rattle.byte_memory.specs.Bits.{has_bit, is_among_places}
use Rattle.byte_memory.specs.Words.{masked, word_bit, found_bit, words_bits, with_word, with_part}
use Rattle.byte_memory.proofs.Lists.{slice_get-set}

-- an empty word has no set bit
pub masked_none : (value place : ℕ) → masked value 0 place ≡ None
masked_none value place = let none : has_bit 0 place ≡ false = ap (λ x. nat_eq x 1) (bit_at-zero place) in rw none refl

-- the bits of a word that stands there
pub words_bits-there : (words : List Word) (number place : ℕ) (word : Word) → slice_get words number ≡ Some word → place < 64 → word_bit word place ≡ words_bits words (64 * number + place)
words_bits-there words number place word here less =
    let index : (64 * number + place) / 64 ≡ number = omega arith in
    let within : (64 * number + place) % 64 ≡ place = omega arith in
    rw (index, within, here) refl

-- no word, no bit
pub words_bits-past : (words : List Word) (number place : ℕ) → length words ≤ number → place < 64 → masked 0 0 place ≡ words_bits words (64 * number + place)
words_bits-past words number place past less =
    let index : (64 * number + place) / 64 ≡ number = omega arith in
    let none = slice_get_past words number past in
    masked_none 0 place ∙ rw (index, none) refl

-- unset words add no bit
pub words_bits-unset_after : (words : List Word) (n : ℕ) → words_bits (words ++ replicate n (record { value = 0; set = 0 })) ≡ words_bits words
words_bits-unset_after words n = λ k place. pointwise words (place / 64) (place % 64) k
  where
    unset : (n i k : ℕ) → found_bit (slice_get (replicate {A = Word} n (record { value = 0; set = 0 })) i) k ≡ None
    unset zero i k = refl
    unset (suc n) zero k = masked_none 0 k
    unset (suc n) (suc i) k = unset n i k

    pointwise : (words : List Word) (i k : ℕ) → found_bit (slice_get (words ++ replicate n (record { value = 0; set = 0 })) i) k ≡ found_bit (slice_get words i) k
    pointwise [] i k = unset n i k
    pointwise (w ∷ words) zero k = refl
    pointwise (w ∷ words) (suc i) k = pointwise words i k

-- the bits after a word was changed
words_bits-set : (words : List Word) (number : ℕ) (word : Word) (place : ℕ) → number < length words →
    words_bits (set words number word) place ≡ (if is_among_places (64 * number) 64 place then word_bit word (place - 64 * number) else words_bits words place)
words_bits-set words number word place inside = ap (λ w. found_bit w (place % 64)) (slice_get-set words number (place / 64) word (nat_eq (place / 64) number) refl inside) ∙ by_test (nat_eq (place / 64) number) refl
  where
    by_test : (z : Bool) → nat_eq (place / 64) number ≡ z → found_bit (if z then Some word else slice_get words (place / 64)) (place % 64) ≡ (if is_among_places (64 * number) 64 place then word_bit word (place - 64 * number) else words_bits words place)
    by_test true e =
        let index : place / 64 ≡ number = grind (arith, nat_tests) in
        let test : is_among_places (64 * number) 64 place ≡ true = grind (arith, nat_tests) in
        let within : place % 64 ≡ place - 64 * number = omega arith in
        rw (test, within) refl
    by_test false e =
        let index : place / 64 ≢ number = λ same. grind (arith, nat_tests) in
        let test : is_among_places (64 * number) 64 place ≡ false = grind (arith, nat_tests) in
        rw test refl

-- the bits after some of a word became the lowest of another
pub words_bits-put : (words : List Word) (number first n : ℕ) (old new from : Word) → number < length words → slice_get words number ≡ Some old → first + n ≤ 64 →
    ((place : ℕ) → place < 64 → word_bit new place ≡ (if is_among_places first n place then word_bit from (place - first) else word_bit old place)) →
    words_bits (set words number new) ≡ with_part (words_bits words) (64 * number + first) n from
words_bits-put words number first n old new from inside here fits made = λ j place. pointwise place j
  where
    by_test : (place : ℕ) (z z' : Bool) → is_among_places (64 * number) 64 place ≡ z → is_among_places first n (place - 64 * number) ≡ z' →
        (if z then word_bit new (place - 64 * number) else words_bits words place) ≡ with_part (words_bits words) (64 * number + first) n from place
    by_test place true true t t' =
        let less : place - 64 * number < 64 = grind (arith, nat_tests) in
        let test : is_among_places (64 * number + first) n place ≡ true = grind (arith, nat_tests) in
        let there : (place - 64 * number) - first ≡ place - (64 * number + first) = omega arith in
        let is : word_bit new (place - 64 * number) ≡ (if is_among_places first n (place - 64 * number) then word_bit from ((place - 64 * number) - first) else word_bit old (place - 64 * number)) = made (place - 64 * number) less in
        let chosen : word_bit new (place - 64 * number) ≡ word_bit from ((place - 64 * number) - first) = rw t' at is in
        rw test (chosen ∙ ap (word_bit from) there)
    by_test place true false t t' =
        let less : place - 64 * number < 64 = grind (arith, nat_tests) in
        let test : is_among_places (64 * number + first) n place ≡ false = grind (arith, nat_tests) in
        let there : 64 * number + (place - 64 * number) ≡ place = grind (arith, nat_tests) in
        let is : word_bit new (place - 64 * number) ≡ (if is_among_places first n (place - 64 * number) then word_bit from ((place - 64 * number) - first) else word_bit old (place - 64 * number)) = made (place - 64 * number) less in
        let chosen : word_bit new (place - 64 * number) ≡ word_bit old (place - 64 * number) = rw t' at is in
        rw test (chosen ∙ (words_bits-there words number (place - 64 * number) old here less ∙ ap (words_bits words) there))
    by_test place false z' t t' = let test : is_among_places (64 * number + first) n place ≡ false = grind (arith, nat_tests) in rw test refl

    pointwise : (place : ℕ) → words_bits (set words number new) place ≡ with_part (words_bits words) (64 * number + first) n from place
    pointwise place = words_bits-set words number new place inside ∙ by_test place (is_among_places (64 * number) 64 place) (is_among_places first n (place - 64 * number)) refl refl

-- the bytes of a word that stand in one word of a page
pub one_part : (bit : ℕ → Option Bool) (at n : ℕ) (word : Word) → with_part bit (64 * (at / 8) + 8 * (at % 8)) (8 * n) word ≡ with_word bit at n word
one_part bit at n word = let start : 64 * (at / 8) + 8 * (at % 8) ≡ 8 * at = omega arith in ap (λ k. with_part bit k (8 * n) word) start

-- the bytes of a word that stand in two words of a page
pub two_parts : (bit : ℕ → Option Bool) (at here n : ℕ) (word rest : Word) → here ≤ n → here + at % 8 ≡ 8 →
    ((place : ℕ) → word_bit rest place ≡ word_bit word (8 * here + place)) →
    with_part (with_part bit (64 * (at / 8) + 8 * (at % 8)) (8 * here) word) (64 * (at / 8 + 1) + 0) (8 * (n - here)) rest ≡ with_word bit at n word
two_parts bit at here n word rest le up shifted = λ j place. pointwise place j
  where
    by_test : (place : ℕ) (z z' : Bool) → is_among_places (64 * (at / 8 + 1) + 0) (8 * (n - here)) place ≡ z → is_among_places (64 * (at / 8) + 8 * (at % 8)) (8 * here) place ≡ z' →
        (if z then word_bit rest (place - (64 * (at / 8 + 1) + 0)) else (if z' then word_bit word (place - (64 * (at / 8) + 8 * (at % 8))) else bit place)) ≡ with_word bit at n word place
    by_test place true z' t t' =
        let test : is_among_places (8 * at) (8 * n) place ≡ true = grind (arith, nat_tests) in
        let there : 8 * here + (place - (64 * (at / 8 + 1) + 0)) ≡ place - 8 * at = grind (arith, nat_tests) in
        rw test (shifted (place - (64 * (at / 8 + 1) + 0)) ∙ ap (word_bit word) there)
    by_test place false true t t' =
        let test : is_among_places (8 * at) (8 * n) place ≡ true = grind (arith, nat_tests) in
        let there : place - (64 * (at / 8) + 8 * (at % 8)) ≡ place - 8 * at = omega arith in
        rw test (ap (word_bit word) there)
    by_test place false false t t' = let test : is_among_places (8 * at) (8 * n) place ≡ false = grind (arith, nat_tests) in rw test refl

    pointwise : (place : ℕ) → with_part (with_part bit (64 * (at / 8) + 8 * (at % 8)) (8 * here) word) (64 * (at / 8 + 1) + 0) (8 * (n - here)) rest place ≡ with_word bit at n word place
    pointwise place = by_test place (is_among_places (64 * (at / 8 + 1) + 0) (8 * (n - here)) place) (is_among_places (64 * (at / 8) + 8 * (at % 8)) (8 * here) place) refl refl

-- the word that stands in one word of a page
pub read-one : (bit : ℕ → Option Bool) (at n : ℕ) (there low : Word) → at % 8 + n ≤ 8 →
    ((place : ℕ) → place < 64 → word_bit there place ≡ bit (64 * (at / 8) + place)) →
    ((place : ℕ) → word_bit low place ≡ word_bit there (8 * (at % 8) + place)) →
    (place : ℕ) → place < 8 * n → word_bit low place ≡ bit (8 * at + place)
read-one bit at n there low fits read shifted place less =
    let start : 64 * (at / 8) + (8 * (at % 8) + place) ≡ 8 * at + place = omega arith in
    shifted place ∙ (read (8 * (at % 8) + place) (omega arith) ∙ ap bit start)

-- a place behind the part of the first word
second-part : (r place : ℕ) → is_among_places (64 - 8 * r) (8 * r) place ≡ true → 64 - 8 * r ≤ place
second-part r place t = grind (arith, nat_tests)

-- a place in the part of the first word
first-part : (r place : ℕ) → r < 8 → place < 64 → is_among_places (64 - 8 * r) (8 * r) place ≡ false → 8 * r + place < 64
first-part r place short less t = grind (arith, nat_tests)

-- the word that stands in two words of a page
pub read-two : (bit : ℕ → Option Bool) (at n : ℕ) (there low high word : Word) → n ≤ 8 → 8 < at % 8 + n →
    ((place : ℕ) → place < 64 → word_bit there place ≡ bit (64 * (at / 8) + place)) →
    ((place : ℕ) → word_bit low place ≡ word_bit there (8 * (at % 8) + place)) →
    ((place : ℕ) → place < 64 → word_bit high place ≡ bit (64 * (at / 8 + 1) + place)) →
    ((place : ℕ) → place < 64 → word_bit word place ≡ (if is_among_places (64 - 8 * (at % 8)) (8 * (at % 8)) place then word_bit high (place - (64 - 8 * (at % 8))) else word_bit low place)) →
    (place : ℕ) → place < 8 * n → word_bit word place ≡ bit (8 * at + place)
read-two bit at n there low high word short more read shifted read' made place less = made place (omega arith) ∙ by_test (is_among_places (64 - 8 * (at % 8)) (8 * (at % 8)) place) refl
  where
    by_test : (z : Bool) → is_among_places (64 - 8 * (at % 8)) (8 * (at % 8)) place ≡ z → (if z then word_bit high (place - (64 - 8 * (at % 8))) else word_bit low place) ≡ bit (8 * at + place)
    by_test true t =
        let small : place - (64 - 8 * (at % 8)) < 64 = omega arith in
        let past : 64 - 8 * (at % 8) ≤ place = second-part (at % 8) place t in
        let start : 64 * (at / 8 + 1) + (place - (64 - 8 * (at % 8))) ≡ 8 * at + place = omega (arith, past) in
        read' (place - (64 - 8 * (at % 8))) small ∙ ap bit start
    by_test false t =
        let small : 8 * (at % 8) + place < 64 = first-part (at % 8) place (omega arith) (omega arith) t in
        let start : 64 * (at / 8) + (8 * (at % 8) + place) ≡ 8 * at + place = omega arith in
        shifted place ∙ (read (8 * (at % 8) + place) small ∙ ap bit start)
