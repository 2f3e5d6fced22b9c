-- The numbers that a leaf can hold, by its bits.
use Rattle.std.proofs.Common.{◌≡◌, ◌∙◌, ℕ, suc, ◌+◌, ◌*◌, ◌/◌, ◌%◌, ◌^◌, ◌<◌, ◌≤◌, arith, Bool, true, false, Option, Some, None, refl, ap}
use Rattle.std.specs.Prelude.{ℤ, pos, negsuc, ◌+ℤ◌, ◌≤ℤ◌, ◌<ℤ◌, nat_lt}
use Rattle.std.proofs.lemmas.Int.{ints}
use Rattle.std.proofs.lemmas.Bool.{ltb-true, ltb-false}
use Rattle.std.proofs.Math.Nat.{mod-eq_of_lt, mod-lt}
use Rattle.foundation.proofs.Truth.{split}
use Rattle.cxx_hierarchy.specs.declared.records.Scalar.{Scalar}
use Rattle.cxx_hierarchy.specs.declared.records.Scalar.TheVariants.{Bool as TheBool, Char, SChar, UChar, Short, UShort, Int, UInt, Long, ULong, LongLong, ULongLong}
use Rattle.cxx_hierarchy.specs.Scalars.{IsInRange, IsInWidth, below_zero, is_signed, most_bits, size_of}
use Rattle.byte_code.specs.Numbers.{number_of_bits, signed_in, word_of}
use Rattle.byte_code.proofs.Pow.{bit_pos, bits_word}
use Rattle.byte_code.proofs.Words.{word_of-low_bits}
use Rattle.text_bytes.proofs.BitReads.{bits_read}
use Rattle.abi_inspect.specs.Values.{IsNumberOfLeaf}
use Rattle.abi_inspect.specs.invariants.Digits.{IsBelowWord}
use Rattle.abi_inspect.specs.invariants.Readable.{number_bits}

-- all bits of a type hold the numbers of the type
pub range_width : (t : Scalar) (z : ℤ) → IsInRange t z → IsInWidth t (most_bits t) z
range_width TheBool z r = record { least = r.least; greatest = r.greatest }
range_width Char z r = record { least = r.least; greatest = r.greatest }
range_width SChar z r = record { least = r.least; greatest = r.greatest }
range_width UChar z r = record { least = r.least; greatest = r.greatest }
range_width Short z r = record { least = r.least; greatest = r.greatest }
range_width UShort z r = record { least = r.least; greatest = r.greatest }
range_width Int z r = record { least = r.least; greatest = r.greatest }
range_width UInt z r = record { least = r.least; greatest = r.greatest }
range_width Long z r = record { least = r.least; greatest = r.greatest }
range_width ULong z r = record { least = r.least; greatest = r.greatest }
range_width LongLong z r = record { least = r.least; greatest = r.greatest }
range_width ULongLong z r = record { least = r.least; greatest = r.greatest }

width_range : (t : Scalar) (z : ℤ) → IsInWidth t (most_bits t) z → IsInRange t z
width_range TheBool z r = record { least = r.least; greatest = r.greatest }
width_range Char z r = record { least = r.least; greatest = r.greatest }
width_range SChar z r = record { least = r.least; greatest = r.greatest }
width_range UChar z r = record { least = r.least; greatest = r.greatest }
width_range Short z r = record { least = r.least; greatest = r.greatest }
width_range UShort z r = record { least = r.least; greatest = r.greatest }
width_range Int z r = record { least = r.least; greatest = r.greatest }
width_range UInt z r = record { least = r.least; greatest = r.greatest }
width_range Long z r = record { least = r.least; greatest = r.greatest }
width_range ULong z r = record { least = r.least; greatest = r.greatest }
width_range LongLong z r = record { least = r.least; greatest = r.greatest }
width_range ULongLong z r = record { least = r.least; greatest = r.greatest }

pub from_width : (width : Option ℕ) (t : Scalar) (z : ℤ) → IsInWidth t (number_bits width t) z → IsNumberOfLeaf width t z
from_width None t z held = width_range t z held
from_width (Some n) t z held = held

pub most_narrow : (t : Scalar) → most_bits t ≤ 64
most_narrow TheBool = omega arith
most_narrow Char = omega arith
most_narrow SChar = omega arith
most_narrow UChar = omega arith
most_narrow Short = omega arith
most_narrow UShort = omega arith
most_narrow Int = omega arith
most_narrow UInt = omega arith
most_narrow Long = omega arith
most_narrow ULong = omega arith
most_narrow LongLong = omega arith
most_narrow ULongLong = omega arith

-- what so many bits stand for is a number that they can hold
inside : (range low : ℕ) (signed : Bool) → low < range → (pos 0 ≤ℤ (signed_in range signed low +ℤ pos (below_zero signed range))) × ((signed_in range signed low +ℤ pos (below_zero signed range)) <ℤ pos range)
inside range low false lt = (omega (arith, ints), omega (arith, ints))
inside range low true lt = split (nat_lt (2 * low) range) (λ (b : Bool). nat_lt (2 * low) range ≡ b → (pos 0 ≤ℤ (signed_in range true low +ℤ pos (range / 2))) × ((signed_in range true low +ℤ pos (range / 2)) <ℤ pos range)) small large refl
  where
    small : nat_lt (2 * low) range ≡ true → nat_lt (2 * low) range ≡ true → (pos 0 ≤ℤ (signed_in range true low +ℤ pos (range / 2))) × ((signed_in range true low +ℤ pos (range / 2)) <ℤ pos range)
    small e f =
        let less : 2 * low < range = ltb-true (2 * low) range e in
        rw e (omega (arith, ints), omega (arith, ints))

    large : nat_lt (2 * low) range ≡ false → nat_lt (2 * low) range ≡ false → (pos 0 ≤ℤ (signed_in range true low +ℤ pos (range / 2))) × ((signed_in range true low +ℤ pos (range / 2)) <ℤ pos range)
    large e f =
        let more : range ≤ 2 * low = ltb-false (2 * low) range e in
        rw e (omega (arith, ints), omega (arith, ints))

pub bits_inside : (t : Scalar) (n word : ℕ) → IsInWidth t n (number_of_bits (record { bits = n; signed = is_signed t }) word)
bits_inside t n word =
    let both = inside (2 ^ n) (word % 2 ^ n) (is_signed t) (mod-lt word (bit_pos n)) in
    record { least = both.0; greatest = both.1 }

-- a number is what its bits stand for
pub bits_of_word : (t : Scalar) (n : ℕ) (z : ℤ) → n ≤ 64 → IsInWidth t n z → number_of_bits (record { bits = n; signed = is_signed t }) (word_of z) ≡ z
bits_of_word t n z few held = ap (signed_in (2 ^ n) (is_signed t)) (word_of-low_bits n z few) ∙ bits_read t n z few held

-- the bytes of a type have its bits
keeps_bits : (t : Scalar) (w : ℕ) → w % 256 ^ size_of t % 2 ^ most_bits t ≡ w % 2 ^ most_bits t
keeps_bits TheBool w = omega arith
keeps_bits Char w = mod-eq_of_lt (mod-lt w (omega arith))
keeps_bits SChar w = mod-eq_of_lt (mod-lt w (omega arith))
keeps_bits UChar w = mod-eq_of_lt (mod-lt w (omega arith))
keeps_bits Short w = mod-eq_of_lt (mod-lt w (omega arith))
keeps_bits UShort w = mod-eq_of_lt (mod-lt w (omega arith))
keeps_bits Int w = mod-eq_of_lt (mod-lt w (omega arith))
keeps_bits UInt w = mod-eq_of_lt (mod-lt w (omega arith))
keeps_bits Long w = mod-eq_of_lt (mod-lt w (omega arith))
keeps_bits ULong w = mod-eq_of_lt (mod-lt w (omega arith))
keeps_bits LongLong w = mod-eq_of_lt (mod-lt w (omega arith))
keeps_bits ULongLong w = mod-eq_of_lt (mod-lt w (omega arith))

pub bytes_of_word : (t : Scalar) (z : ℤ) (word : ℕ) → word ≡ word_of z % 256 ^ size_of t → IsInRange t z → number_of_bits (record { bits = most_bits t; signed = is_signed t }) word ≡ z
bytes_of_word t z word is held =
    ap (λ w. signed_in (2 ^ most_bits t) (is_signed t) (w % 2 ^ most_bits t)) is
    ∙ (ap (signed_in (2 ^ most_bits t) (is_signed t)) (keeps_bits t (word_of z)) ∙ bits_of_word t (most_bits t) z (most_narrow t) (range_width t z held))

-- a number that 64 bits or fewer can hold is not far from 0
pub below_word : (t : Scalar) (n : ℕ) (z : ℤ) → n ≤ 64 → IsInWidth t n z → IsBelowWord z
below_word t n z few held = by_sign (is_signed t) z held.least held.greatest
  where
    by_sign : (signed : Bool) (y : ℤ) → pos 0 ≤ℤ (y +ℤ pos (below_zero signed (2 ^ n))) → (y +ℤ pos (below_zero signed (2 ^ n))) <ℤ pos (2 ^ n) → IsBelowWord y
    by_sign true (pos a) low high = let most = bits_word n few in let h : a + 2 ^ n / 2 < 2 ^ n = omega (arith, ints) in omega (arith, most, h)
    by_sign true (negsuc a) low high = let most = bits_word n few in let h : suc a ≤ 2 ^ n / 2 = omega (arith, ints) in omega (arith, most, h)
    by_sign false (pos a) low high = let most = bits_word n few in let h : a < 2 ^ n = omega (arith, ints) in omega (arith, most, h)
    by_sign false (negsuc a) low high = absurd (omega (arith, ints))
