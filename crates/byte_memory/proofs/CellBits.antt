-- The bits of cells, and of the word that stands in them.
use Rattle.std.proofs.Common.{◌≡◌, ◌≢◌, ℕ, zero, suc, ◌+◌, ◌-◌, ◌*◌, ◌/◌, ◌%◌, ◌<◌, ◌≤◌, Option, Some, None, List, [], ◌∷◌, ◌++◌, length, set, replicate, refl, ap, ◌∙◌, arith, Bool, true, false}
use Rattle.std.specs.Prelude.{nat_eq, if◌then◌else◌}
use Rattle.std.specs.List.{slice_get}
use Rattle.std.proofs.lemmas.Bool.Decides.{nat_tests}
use Rattle.std.proofs.lemmas.Option.{slice_get_past}
use Rattle.std.proofs.lemmas.Nat.Bits.{bit_at-zero}
use Rattle.byte_memory.specs.declared.cells.Cell.{Cell}
use Rattle.byte_memory.specs.declared.cells.Word.{Word}
use Rattle.byte_memory.specs.Bits.{has_bit, cleared, is_among_places}
use Rattle.byte_memory.specs.Words.{masked, cell_bit, bits_in, with_word}
use Rattle.byte_memory.proofs.Lists.{slice_get-set}

-- the bits after a cell was changed
pub bits_in-set : (cells : List Cell) (at : ℕ) (cell : Cell) (place : ℕ) → at < length cells →
    bits_in (set cells at cell) place ≡ (if is_among_places (8 * at) 8 place then masked cell.value cell.set (place - 8 * at) else bits_in cells place)
bits_in-set cells at cell place inside = ap (λ c. cell_bit c (place % 8)) (slice_get-set cells at (place / 8) cell (nat_eq (place / 8) at) refl inside) ∙ by_test (nat_eq (place / 8) at) refl
  where
    by_test : (z : Bool) → nat_eq (place / 8) at ≡ z → cell_bit (if z then Some cell else slice_get cells (place / 8)) (place % 8) ≡ (if is_among_places (8 * at) 8 place then masked cell.value cell.set (place - 8 * at) else bits_in cells place)
    by_test true e =
        let number : place / 8 ≡ at = grind (arith, nat_tests) in
        let test : is_among_places (8 * at) 8 place ≡ true = grind (arith, nat_tests) in
        let within : place % 8 ≡ place - 8 * at = omega arith in
        rw (test, within) refl
    by_test false e =
        let number : place / 8 ≢ at = λ same. grind (arith, nat_tests) in
        let test : is_among_places (8 * at) 8 place ≡ false = grind (arith, nat_tests) in
        rw test refl

-- no cell written
pub write-none : (bits : ℕ → Option Bool) (at : ℕ) (word : Word) (n : ℕ) → n ≡ 0 → bits ≡ with_word bits at n word
write-none bits at word n e = λ k place. pointwise place k
  where
    pointwise : (place : ℕ) → bits place ≡ with_word bits at n word place
    pointwise place = let test : is_among_places (8 * at) (8 * n) place ≡ false = grind (arith, nat_tests) in rw test refl

-- one more cell unset
pub cleared-more : (cells : List Cell) (bits : ℕ → Option Bool) (at i : ℕ) → at + i < length cells → bits_in cells ≡ cleared bits (8 * at) (8 * i) →
    bits_in (set cells (at + i) (record { value = 0; set = 0 })) ≡ cleared bits (8 * at) (8 * (i + 1))
cleared-more cells bits at i inside e = λ k place. pointwise place k
  where
    by_test : (place : ℕ) (z z' : Bool) → is_among_places (8 * (at + i)) 8 place ≡ z → is_among_places (8 * at) (8 * i) place ≡ z' →
        (if z then masked 0 0 (place - 8 * (at + i)) else (if z' then None else bits place)) ≡ cleared bits (8 * at) (8 * (i + 1)) place
    by_test place true z' t t' =
        let test : is_among_places (8 * at) (8 * (i + 1)) place ≡ true = grind (arith, nat_tests) in
        let none : has_bit 0 (place - 8 * (at + i)) ≡ false = ap (λ x. nat_eq x 1) (bit_at-zero (place - 8 * (at + i))) in
        rw (test, none) refl
    by_test place false true t t' = let test : is_among_places (8 * at) (8 * (i + 1)) place ≡ true = grind (arith, nat_tests) in rw test refl
    by_test place false false t t' = let test : is_among_places (8 * at) (8 * (i + 1)) place ≡ false = grind (arith, nat_tests) in rw test refl

    pointwise : (place : ℕ) → bits_in (set cells (at + i) (record { value = 0; set = 0 })) place ≡ cleared bits (8 * at) (8 * (i + 1)) place
    pointwise place = bits_in-set cells (at + i) (record { value = 0; set = 0 }) place inside ∙ (ap (λ f. if is_among_places (8 * (at + i)) 8 place then masked 0 0 (place - 8 * (at + i)) else f place) e ∙ by_test place (is_among_places (8 * (at + i)) 8 place) (is_among_places (8 * at) (8 * i) place) refl refl)

-- no cell unset
pub cleared-none : (bits : ℕ → Option Bool) (at : ℕ) → bits ≡ cleared bits (8 * at) (8 * 0)
cleared-none bits at = λ k place. pointwise place k
  where
    pointwise : (place : ℕ) → bits place ≡ cleared bits (8 * at) (8 * 0) place
    pointwise place = let test : is_among_places (8 * at) (8 * 0) place ≡ false = grind (arith, nat_tests) in rw test refl

-- unset cells add no bit
pub bits_in-unset_after : (cells : List Cell) (n : ℕ) → bits_in (cells ++ replicate n (record { value = 0; set = 0 })) ≡ bits_in cells
bits_in-unset_after cells n = λ k place. pointwise cells (place / 8) (place % 8) k
  where
    unset : (n i k : ℕ) → cell_bit (slice_get (replicate {A = Cell} n (record { value = 0; set = 0 })) i) k ≡ None
    unset zero i k = refl
    unset (suc n) zero k = let none : has_bit 0 k ≡ false = ap (λ x. nat_eq x 1) (bit_at-zero k) in rw none refl
    unset (suc n) (suc i) k = unset n i k

    pointwise : (cells : List Cell) (i k : ℕ) → cell_bit (slice_get (cells ++ replicate n (record { value = 0; set = 0 })) i) k ≡ cell_bit (slice_get cells i) k
    pointwise [] i k = unset n i k
    pointwise (c ∷ cells) zero k = refl
    pointwise (c ∷ cells) (suc i) k = pointwise cells i k

-- no bit stands past the cells
pub bits_in_past : (cells : List Cell) (place : ℕ) → 8 * length cells ≤ place → bits_in cells place ≡ None
bits_in_past cells place past =
    let there : length cells ≤ place / 8 = omega arith in
    let none = slice_get_past cells (place / 8) there in
    rw none refl
