-- Words by their bytes, as `LittleEndian` reads and writes them.
use Rattle.std.proofs.Common.{◌≡◌, ℕ, zero, suc, ◌+◌, ◌-◌, ◌*◌, ◌/◌, ◌%◌, ◌<◌, ◌≤◌, ◌^◌, ◌⊎◌, ⊎_elim, List, length, set, replicate, refl, ap, sym, subst, ◌∙◌, arith, Bool, true, false, Option, Some, None}
use Rattle.std.specs.Prelude.{slice_index, nat_eq, if◌then◌else◌}
use Rattle.std.specs.List.{slice_get}
use Rattle.std.specs.Int.{byte_at, bytes_low_first}
use Rattle.std.proofs.lemmas.Bool.Decides.{nat_tests}
use Rattle.std.proofs.lemmas.Bool.{cases_lt}
use Rattle.std.proofs.Math.Nat.{pow-succ', div-one}
use Rattle.std.proofs.lemmas.List.{get_or-set_other, get_or-set_same, length-set}
use Rattle.std.proofs.lemmas.Nat.Bits.{bit_at-zero}
use Rattle.byteorder.specs.Endian.{little_from}
use Rattle.byte_memory.specs.declared.cells.Cell.{Cell}
use Rattle.byte_memory.specs.declared.cells.Word.{Word}
use Rattle.byte_memory.specs.Bits.{has_bit, is_among_places}
use Rattle.byte_memory.specs.Words.{masked, word_bit, cell_bit, bits_in, with_word}
use Rattle.byte_memory.proofs.BitLists.{has_bit-low, has_bit-high, has_bit-mod, has_bit-shifted}
use Rattle.byte_memory.proofs.PageBits.{bytes_power}
use Rattle.byte_memory.proofs.CellBits.{bits_in-set}

-- a place of the first byte, or of those after it
byte_before : (low high : ℕ) (bytes : List ℕ) (i place : ℕ) → low ≡ slice_index bytes i → low < 256 →
    (8 ≤ place → has_bit high (place - 8) ≡ has_bit (slice_index bytes (suc i + (place - 8) / 8)) ((place - 8) % 8)) →
    has_bit (low + 256 * high) place ≡ has_bit (slice_index bytes (i + place / 8)) (place % 8)
byte_before low high bytes i place is small rest = ⊎_elim first others (cases_lt place 8)
  where
    first : place < 8 → has_bit (low + 256 * high) place ≡ has_bit (slice_index bytes (i + place / 8)) (place % 8)
    first less =
        let number : i + place / 8 ≡ i = omega arith in
        let same : place % 8 ≡ place = omega arith in
        has_bit-low low high place less ∙ rw (number, same, is) refl

    others : 8 ≤ place → has_bit (low + 256 * high) place ≡ has_bit (slice_index bytes (i + place / 8)) (place % 8)
    others more =
        let number : suc i + (place - 8) / 8 ≡ i + place / 8 = omega arith in
        let same : (place - 8) % 8 ≡ place % 8 = omega arith in
        has_bit-high low high place small more ∙ (rest more ∙ rw (number, same) refl)

-- the bits of the number that some bytes are
pub has_bit-bytes : (m i : ℕ) (bytes : List ℕ) (place : ℕ) → ((k : ℕ) → slice_index bytes k < 256) → place < 8 * m →
    has_bit (little_from i m bytes) place ≡ has_bit (slice_index bytes (i + place / 8)) (place % 8)
has_bit-bytes zero i bytes place small inside = absurd (omega arith)
has_bit-bytes (suc m) i bytes place small inside =
    byte_before (slice_index bytes i) (little_from (suc i) m bytes) bytes i place refl (small i) (λ more. has_bit-bytes m (suc i) bytes (place - 8) small (omega arith))

pow_some : (k : ℕ) → 0 < 256 ^ k
pow_some zero = omega arith
pow_some (suc k) = let h = pow_some k in rw pow-succ' (omega arith)

-- a byte before others, which are 0 from the n-th on
byte_below : (low high i n : ℕ) → low < 256 → (n ≤ i → low ≡ 0) → high < 256 ^ (n - suc i) → low + 256 * high < 256 ^ (n - i)
byte_below low high i n small none rest = ⊎_elim inside past (cases_lt i n)
  where
    inside : i < n → low + 256 * high < 256 ^ (n - i)
    inside less =
        let one : n - i ≡ suc (n - suc i) = omega arith in
        rw one (rw pow-succ' (omega arith))

    past : n ≤ i → low + 256 * high < 256 ^ (n - i)
    past more =
        let none_left : n - i ≡ 0 = omega arith in
        let none_after : n - suc i ≡ 0 = omega arith in
        let zeros = none more in
        let few : high < 256 ^ 0 = subst (λ k. high < 256 ^ k) none_after rest in
        rw none_left (omega arith)

-- bytes that are 0 from the n-th on are a number of n bytes
pub bytes-below : (m i n : ℕ) (bytes : List ℕ) → ((k : ℕ) → slice_index bytes k < 256) → ((k : ℕ) → n ≤ k → slice_index bytes k ≡ 0) → little_from i m bytes < 256 ^ (n - i)
bytes-below zero i n bytes small none = pow_some (n - i)
bytes-below (suc m) i n bytes small none = byte_below (slice_index bytes i) (little_from (suc i) m bytes) i n (small i) (none i) (bytes-below m (suc i) n bytes small none)

-- the two bytes of a cell, 0 where there is none
abbrev pub value_of : Option Cell → ℕ
value_of None = 0
value_of (Some cell) = cell.value

abbrev pub mask_of : Option Cell → ℕ
mask_of None = 0
mask_of (Some cell) = cell.set

-- the first i of some bytes are those of cells, and the others are 0
pub record AreFirst (part : Option Cell → ℕ) (cells : List Cell) (at i : ℕ) (bytes : List ℕ) : Type 0 where
  first : (k : ℕ) → k < i → slice_index bytes k ≡ part (slice_get cells (at + k))
  others : (k : ℕ) → i ≤ k → slice_index bytes k ≡ 0
  eight : length bytes ≡ 8
  small : (k : ℕ) → slice_index bytes k < 256

-- one byte more of a cell
pub first-more : (part : Option Cell → ℕ) (cells : List Cell) (at i : ℕ) (bytes : List ℕ) (cell : Cell) → AreFirst part cells at i bytes → i < 8 → part (Some cell) < 256 →
    slice_get cells (at + i) ≡ Some cell → AreFirst part cells at (i + 1) (set bytes i (part (Some cell)))
first-more part cells at i bytes cell before inside fits here = record {
  first = λ k below. ⊎_elim
      (λ less. get_or-set_other bytes i k (part (Some cell)) 0 (omega arith) ∙ before.first k less)
      (λ more.
      let e : i ≡ k = omega arith in
      rw (← e) (get_or-set_same bytes i (part (Some cell)) 0 (rw before.eight inside) ∙ ap part (sym here)))
      (cases_lt k i);
  others = λ k above. get_or-set_other bytes i k (part (Some cell)) 0 (omega arith) ∙ before.others k (omega arith);
  eight = length-set bytes i (part (Some cell)) ∙ before.eight;
  small = λ k. by_place k (nat_eq k i) refl;
}
  where
    by_place : (k : ℕ) (test : Bool) → nat_eq k i ≡ test → slice_index (set bytes i (part (Some cell))) k < 256
    by_place k true e =
        let same : i ≡ k = grind (arith, nat_tests) in
        let there : slice_index (set bytes i (part (Some cell))) i ≡ part (Some cell) = get_or-set_same bytes i (part (Some cell)) 0 (rw before.eight inside) in
        rw (← same) (rw there fits)
    by_place k false e =
        let there : slice_index (set bytes i (part (Some cell))) k ≡ slice_index bytes k = get_or-set_other bytes i k (part (Some cell)) 0 (λ same. grind (arith, nat_tests)) in
        rw there (before.small k)

-- no byte yet
pub first-none : (part : Option Cell → ℕ) (cells : List Cell) (at : ℕ) (bytes : List ℕ) → bytes ≡ replicate 8 0 → AreFirst part cells at 0 bytes
first-none part cells at bytes e = record {
  first = λ k below. absurd (omega arith);
  others = λ k above. ap (λ xs. slice_index xs k) e ∙ zeros 8 k;
  eight = ap length e;
  small = λ k. rw e (rw (zeros 8 k) (omega arith));
}
  where
    zeros : (n k : ℕ) → slice_index (replicate n 0) k ≡ 0
    zeros zero k = refl
    zeros (suc n) zero = refl
    zeros (suc n) (suc k) = zeros n k

zero_add : (k : ℕ) → 0 + k ≡ k
zero_add k = omega arith

-- the bits of the word whose bytes are those of n cells
pub read-bits : (cells : List Cell) (at n : ℕ) (values masks : List ℕ) (word : Word) (place : ℕ) → n ≤ 8 → AreFirst value_of cells at n values → AreFirst mask_of cells at n masks →
    word.value ≡ little_from 0 8 values → word.set ≡ little_from 0 8 masks → place < 8 * n → word_bit word place ≡ bits_in cells (8 * at + place)
read-bits cells at n values masks word place short v m is_value is_mask inside =
    let value : has_bit (little_from 0 8 values) place ≡ has_bit (slice_index values (place / 8)) (place % 8) = has_bit-bytes 8 0 values place v.small (omega arith) ∙ ap (λ k. has_bit (slice_index values k) (place % 8)) (zero_add (place / 8)) in
    let mask : has_bit (little_from 0 8 masks) place ≡ has_bit (slice_index masks (place / 8)) (place % 8) = has_bit-bytes 8 0 masks place m.small (omega arith) ∙ ap (λ k. has_bit (slice_index masks k) (place % 8)) (zero_add (place / 8)) in
    let number : (8 * at + place) / 8 ≡ at + place / 8 = omega arith in
    let rest : (8 * at + place) % 8 ≡ place % 8 = omega arith in
    let there : place / 8 < n = omega arith in
    rw (is_value, is_mask, value, mask, number, rest, v.first (place / 8) there, m.first (place / 8) there) (of_cell (slice_get cells (at + place / 8)) (place % 8))
  where
    of_cell : (cell : Option Cell) (k : ℕ) → masked (value_of cell) (mask_of cell) k ≡ cell_bit cell k
    of_cell None k = let e : has_bit 0 k ≡ false = ap (λ x. nat_eq x 1) (bit_at-zero k) in rw e refl
    of_cell (Some cell) k = refl

-- the word whose bytes are those of n cells has n bytes
pub read-below : (part : Option Cell → ℕ) (cells : List Cell) (at n : ℕ) (bytes : List ℕ) (number : ℕ) → AreFirst part cells at n bytes → number ≡ little_from 0 8 bytes → number < 256 ^ n
read-below part cells at n bytes number first is = let e : n - 0 ≡ n = omega arith in rw is (subst (λ k. little_from 0 8 bytes < 256 ^ k) e (bytes-below 8 0 n bytes first.small first.others))

-- a byte of the bytes of a number
byte_of_bytes : (n j i x : ℕ) → i < n → slice_index (bytes_low_first j n x) i ≡ byte_at (j + i) x
byte_of_bytes zero j i x inside = absurd (omega arith)
byte_of_bytes (suc n) j zero x inside = let e : j + 0 ≡ j = omega arith in ap (λ k. byte_at k x) (sym e)
byte_of_bytes (suc n) j (suc i) x inside =
    let e : suc j + i ≡ j + suc i = omega arith in
    byte_of_bytes n (suc j) i x (omega arith) ∙ ap (λ k. byte_at k x) e

pub written_byte : (bytes : List ℕ) (i x : ℕ) → bytes ≡ bytes_low_first 0 8 x → i < 8 → slice_index bytes i ≡ byte_at i x
written_byte bytes i x are inside = ap (λ xs. slice_index xs i) are ∙ (byte_of_bytes 8 0 i x inside ∙ ap (λ k. byte_at k x) (zero_add i))

-- a byte of a number, by its bits
byte_is : (i x : ℕ) → byte_at i x ≡ x / 2 ^ (8 * i) % 256
byte_is zero x = ap (λ y. y % 256) (sym (div-one x))
byte_is (suc i) x = ap (λ p. x / p % 256) (bytes_power (suc i))

-- a bit of that byte
bit_of_byte : (i x k : ℕ) → k < 8 → has_bit (byte_at i x) k ≡ has_bit x (8 * i + k)
bit_of_byte i x k small = ap (λ b. has_bit b k) (byte_is i x) ∙ (has_bit-mod (x / 2 ^ (8 * i)) k small ∙ has_bit-shifted x (8 * i) k)

-- one byte more of a word was written
pub written-more : (cells : List Cell) (old : ℕ → Option Bool) (at i value mask : ℕ) (word : Word) → at + i < length cells → bits_in cells ≡ with_word old at i word →
    value ≡ byte_at i word.value → mask ≡ byte_at i word.set → bits_in (set cells (at + i) (record { value = value; set = mask })) ≡ with_word old at (i + 1) word
written-more cells old at i value mask word inside before is_value is_mask = λ k place. pointwise place k
  where
    after : ℕ → Option Bool
    after = bits_in (set cells (at + i) (record { value = value; set = mask }))

    kept : (place : ℕ) → is_among_places (8 * (at + i)) 8 place ≡ false → after place ≡ with_word old at i word place
    kept place out = bits_in-set cells (at + i) (record { value = value; set = mask }) place inside ∙ rw out (ap (λ f. f place) before)

    below : (place : ℕ) → place < 8 * (at + i) → after place ≡ with_word old at (i + 1) word place
    below place less = kept place (grind (arith, nat_tests)) ∙ ap (λ test. if test then word_bit word (place - 8 * at) else old place) (same (cases_lt place (8 * at)))
      where
        same : (place < 8 * at) ⊎ (8 * at ≤ place) → is_among_places (8 * at) (8 * i) place ≡ is_among_places (8 * at) (8 * (i + 1)) place
        same = ⊎_elim
            (λ low. let one : is_among_places (8 * at) (8 * i) place ≡ false = grind (arith, nat_tests) in let two : is_among_places (8 * at) (8 * (i + 1)) place ≡ false = grind (arith, nat_tests) in one ∙ sym two)
            (λ high. let one : is_among_places (8 * at) (8 * i) place ≡ true = grind (arith, nat_tests) in let two : is_among_places (8 * at) (8 * (i + 1)) place ≡ true = grind (arith, nat_tests) in one ∙ sym two)

    here : (place : ℕ) → 8 * (at + i) ≤ place → place < 8 * (at + i) + 8 → after place ≡ with_word old at (i + 1) word place
    here place more less =
        let test : is_among_places (8 * (at + i)) 8 place ≡ true = grind (arith, nat_tests) in
        let test' : is_among_places (8 * at) (8 * (i + 1)) place ≡ true = grind (arith, nat_tests) in
        let there : 8 * i + (place - 8 * (at + i)) ≡ place - 8 * at = omega arith in
        let v : has_bit value (place - 8 * (at + i)) ≡ has_bit word.value (place - 8 * at) = ap (λ b. has_bit b (place - 8 * (at + i))) is_value ∙ (bit_of_byte i word.value (place - 8 * (at + i)) (omega arith) ∙ ap (has_bit word.value) there) in
        let m : has_bit mask (place - 8 * (at + i)) ≡ has_bit word.set (place - 8 * at) = ap (λ b. has_bit b (place - 8 * (at + i))) is_mask ∙ (bit_of_byte i word.set (place - 8 * (at + i)) (omega arith) ∙ ap (has_bit word.set) there) in
        bits_in-set cells (at + i) (record { value = value; set = mask }) place inside ∙ rw (test, test', v, m) refl

    above : (place : ℕ) → 8 * (at + i) + 8 ≤ place → after place ≡ with_word old at (i + 1) word place
    above place more =
        let test : is_among_places (8 * at) (8 * i) place ≡ false = grind (arith, nat_tests) in
        let test' : is_among_places (8 * at) (8 * (i + 1)) place ≡ false = grind (arith, nat_tests) in
        kept place (grind (arith, nat_tests)) ∙ rw (test, test') refl

    pointwise : (place : ℕ) → after place ≡ with_word old at (i + 1) word place
    pointwise place = ⊎_elim (below place) (λ more. ⊎_elim (here place more) (above place) (cases_lt place (8 * (at + i) + 8))) (cases_lt place (8 * (at + i)))
