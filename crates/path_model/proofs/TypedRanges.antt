-- What is stored as a number of a type is one: it is in the range of the type.
use Rattle.std.proofs.Common.{ℕ, suc, ◌-◌, ◌%◌, ◌/◌, ◌^◌, ◌<◌, ◌≤◌, Bool, true, false, arith, pos, ◌-ℤ◌, ◌+ℤ◌, ◌≤ℤ◌, ◌<ℤ◌}
use Rattle.std.specs.Prelude.{ℤ, negsuc, zero, if◌then◌else◌}
use Rattle.std.specs.Int.{int_rem_euclid}
use Rattle.std.proofs.lemmas.Int.{ints}
use Rattle.std.proofs.Math.Nat.{mod-lt, pow-le-pow_right}
use Rattle.std.proofs.lemmas.Nat.{pow_pos}
use Rattle.cxx_hierarchy.specs.declared.records.Scalar.{Scalar}
use Rattle.cxx_hierarchy.specs.declared.records.Scalar.TheVariants.{Bool as TheBool, Char, SChar, UChar, Short, UShort, Int, UInt, Long, ULong, LongLong, ULongLong}
use Rattle.cxx_hierarchy.specs.Scalars.{is_signed, count_of, below_zero, IsInRange, wrapped_to, wrapped, truth_of, stored_as, most_bits, kept_in, IsInWidth}

pub count_positive : (t : Scalar) → 0 < count_of t
count_positive TheBool = omega arith
count_positive Char = omega arith
count_positive SChar = omega arith
count_positive UChar = omega arith
count_positive Short = omega arith
count_positive UShort = omega arith
count_positive Int = omega arith
count_positive UInt = omega arith
count_positive Long = omega arith
count_positive ULong = omega arith
count_positive LongLong = omega arith
count_positive ULongLong = omega arith

pub euclid_range : (y : ℤ) (n : ℕ) → 0 < n → (pos 0 ≤ℤ int_rem_euclid y (pos n)) × (int_rem_euclid y (pos n) <ℤ pos n)
euclid_range (pos a) n h = let l : a % n < n = mod-lt a h in (omega (arith, ints), omega (arith, ints))
euclid_range (negsuc a) n h = let l : n - 1 - a % n < n = omega arith in (omega (arith, ints), omega (arith, ints))

in_range : (y : ℤ) (below count : ℕ) → (pos 0 ≤ℤ y) × (y <ℤ pos count) → (pos 0 ≤ℤ ((y -ℤ pos below) +ℤ pos below)) × (((y -ℤ pos below) +ℤ pos below) <ℤ pos count)
in_range y below count h = (omega (arith, ints, h.0), omega (arith, ints, h.1))

pub wrapped_in_range : (t : Scalar) (z : ℤ) → IsInRange t (wrapped t z)
wrapped_in_range t z =
    let below = below_zero (is_signed t) (count_of t) in
    let h = in_range (int_rem_euclid (z +ℤ pos below) (pos (count_of t))) below (count_of t) (euclid_range (z +ℤ pos below) (count_of t) (count_positive t)) in
    record { least = h.0; greatest = h.1 }

pub zero_in_range : (t : Scalar) → IsInRange t (pos 0)
zero_in_range TheBool = record { least = omega (arith, ints); greatest = omega (arith, ints) }
zero_in_range Char = record { least = omega (arith, ints); greatest = omega (arith, ints) }
zero_in_range SChar = record { least = omega (arith, ints); greatest = omega (arith, ints) }
zero_in_range UChar = record { least = omega (arith, ints); greatest = omega (arith, ints) }
zero_in_range Short = record { least = omega (arith, ints); greatest = omega (arith, ints) }
zero_in_range UShort = record { least = omega (arith, ints); greatest = omega (arith, ints) }
zero_in_range Int = record { least = omega (arith, ints); greatest = omega (arith, ints) }
zero_in_range UInt = record { least = omega (arith, ints); greatest = omega (arith, ints) }
zero_in_range Long = record { least = omega (arith, ints); greatest = omega (arith, ints) }
zero_in_range ULong = record { least = omega (arith, ints); greatest = omega (arith, ints) }
zero_in_range LongLong = record { least = omega (arith, ints); greatest = omega (arith, ints) }
zero_in_range ULongLong = record { least = omega (arith, ints); greatest = omega (arith, ints) }

pub bit_in_range : (b : Bool) → IsInRange TheBool (if b then pos 1 else pos 0)
bit_in_range true = record { least = omega (arith, ints); greatest = omega (arith, ints) }
bit_in_range false = record { least = omega (arith, ints); greatest = omega (arith, ints) }

truth_in_range : (z : ℤ) → IsInRange TheBool (truth_of z)
truth_in_range (pos zero) = record { least = omega (arith, ints); greatest = omega (arith, ints) }
truth_in_range (pos (suc n)) = record { least = omega (arith, ints); greatest = omega (arith, ints) }
truth_in_range (negsuc n) = record { least = omega (arith, ints); greatest = omega (arith, ints) }

pub stored_in_range : (t : Scalar) (z : ℤ) → IsInRange t (stored_as t z)
stored_in_range TheBool z = truth_in_range z
stored_in_range Char z = wrapped_in_range Char z
stored_in_range SChar z = wrapped_in_range SChar z
stored_in_range UChar z = wrapped_in_range UChar z
stored_in_range Short z = wrapped_in_range Short z
stored_in_range UShort z = wrapped_in_range UShort z
stored_in_range Int z = wrapped_in_range Int z
stored_in_range UInt z = wrapped_in_range UInt z
stored_in_range Long z = wrapped_in_range Long z
stored_in_range ULong z = wrapped_in_range ULong z
stored_in_range LongLong z = wrapped_in_range LongLong z
stored_in_range ULongLong z = wrapped_in_range ULongLong z

-- bit-fields

-- what is kept in n bits is a number that n bits can hold
pub kept_in_width : (t : Scalar) (n : ℕ) (z : ℤ) → IsInWidth t n (kept_in t n z)
kept_in_width t n z =
    let below = below_zero (is_signed t) (2 ^ n) in
    let y = stored_as t z in
    let h = in_range (int_rem_euclid (y +ℤ pos below) (pos (2 ^ n))) below (2 ^ n) (euclid_range (y +ℤ pos below) (2 ^ n) (pow_pos n)) in
    record { least = h.0; greatest = h.1 }

-- n bits of a type are no more than the type has
bits_below : (t : Scalar) (n : ℕ) → n ≤ most_bits t → 2 ^ n ≤ count_of t
bits_below TheBool n l = pow-le-pow_right (omega arith) l
bits_below Char n l = pow-le-pow_right (omega arith) l
bits_below SChar n l = pow-le-pow_right (omega arith) l
bits_below UChar n l = pow-le-pow_right (omega arith) l
bits_below Short n l = pow-le-pow_right (omega arith) l
bits_below UShort n l = pow-le-pow_right (omega arith) l
bits_below Int n l = pow-le-pow_right (omega arith) l
bits_below UInt n l = pow-le-pow_right (omega arith) l
bits_below Long n l = pow-le-pow_right (omega arith) l
bits_below ULong n l = pow-le-pow_right (omega arith) l
bits_below LongLong n l = pow-le-pow_right (omega arith) l
bits_below ULongLong n l = pow-le-pow_right (omega arith) l

-- of fewer numbers, signed or not, each is one of more
pub wider : (signed : Bool) (few many : ℕ) (z : ℤ) → few ≤ many → (pos 0 ≤ℤ (z +ℤ pos (below_zero signed few))) × ((z +ℤ pos (below_zero signed few)) <ℤ pos few)
    → (pos 0 ≤ℤ (z +ℤ pos (below_zero signed many))) × ((z +ℤ pos (below_zero signed many)) <ℤ pos many)
wider true few many z l h =
    let a : few / 2 ≤ many / 2 = omega arith in
    let b : few - few / 2 ≤ many - many / 2 = omega arith in
    (omega (arith, ints, h.0), omega (arith, ints, h.1))
wider false few many z l h = (omega (arith, ints, h.0), omega (arith, ints, h.1))

-- a number that n bits of the type can hold is one of the type
pub width_in_range : (t : Scalar) (n : ℕ) (z : ℤ) → n ≤ most_bits t → IsInWidth t n z → IsInRange t z
width_in_range t n z l a =
    let h = wider (is_signed t) (2 ^ n) (count_of t) z (bits_below t n l) (a.least, a.greatest) in
    record { least = h.0; greatest = h.1 }
