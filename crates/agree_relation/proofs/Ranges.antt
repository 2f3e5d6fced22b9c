-- The ranges of the number types, and the bytes of their numbers.
use Rattle.std.proofs.Common.{◌≡◌, ◌<◌, ◌≤◌, ◌*◌, ◌/◌, ◌+◌, ◌^◌, ℕ, zero, suc, Bool, true, false, refl, sym, subst, arith}
use Rattle.std.specs.Prelude.{ℤ, pos, negsuc, ◌+ℤ◌, ◌≤ℤ◌, ◌<ℤ◌}
use Rattle.std.proofs.lemmas.Int.{ints}
use Rattle.std.proofs.Math.Nat.{pow-suc}
use Rattle.cxx_hierarchy.specs.declared.records.ClassId.{ClassId}
use Rattle.cxx_hierarchy.specs.declared.records.Scalar.{Scalar}
use Rattle.cxx_hierarchy.specs.declared.records.Scalar.TheVariants.{Bool as TheBool, Char, SChar, UChar, Short, UShort, Int, UInt, Long, ULong, LongLong, ULongLong}
use Rattle.cxx_hierarchy.specs.declared.records.ValueType.{ValueType}
use Rattle.cxx_hierarchy.specs.declared.records.ValueType.TheVariants.{Number, Pointer}
use Rattle.cxx_hierarchy.specs.Scalars.{IsInRange, IsInWidth, is_signed, below_zero, size_of}
use Rattle.byte_code.specs.Numbers.{FitsRange, IsInBits, IsInBytes, FitsInWidth as FitsWidth}
use Rattle.abi_sound.specs.Places.{size_of_value}
use Rattle.code_ops.specs.Setups.{width_of, value_width, bit_width, register_width}

-- the bytes of a type are those of its width
pub scalar_bytes : (t : Scalar) → (width_of t).bytes ≡ size_of t
scalar_bytes TheBool = refl
scalar_bytes Char = refl
scalar_bytes SChar = refl
scalar_bytes UChar = refl
scalar_bytes Short = refl
scalar_bytes UShort = refl
scalar_bytes Int = refl
scalar_bytes UInt = refl
scalar_bytes Long = refl
scalar_bytes ULong = refl
scalar_bytes LongLong = refl
scalar_bytes ULongLong = refl

pub value_bytes : (t : ValueType ClassId) → (value_width t).bytes ≡ size_of_value t
value_bytes (Number t) = scalar_bytes t
value_bytes (Pointer c) = refl

signed_fits : (n half : ℕ) (z : ℤ) → 256 ^ n ≡ 2 * half → pos 0 ≤ℤ (z +ℤ pos half) → (z +ℤ pos half) <ℤ pos (2 * half) → IsInBytes n true z
signed_fits n half (pos a) e low high = let h : a + half < 2 * half = omega (arith, ints) in omega arith
signed_fits n half (negsuc a) e low high = let h : suc a ≤ half = omega (arith, ints) in omega arith

unsigned_fits : (n count : ℕ) (z : ℤ) → count ≤ 256 ^ n → pos 0 ≤ℤ (z +ℤ pos 0) → (z +ℤ pos 0) <ℤ pos count → IsInBytes n false z
unsigned_fits n count (pos a) e low high = let h : a < count = omega (arith, ints) in omega arith
unsigned_fits n count (negsuc a) e low high = omega (arith, ints)

-- a number of a type stands in the bytes of the type
pub fits_width : (t : Scalar) (z : ℤ) → IsInRange t z → FitsWidth (width_of t) z
fits_width TheBool z r = unsigned_fits 1 2 z (omega arith) r.least r.greatest
fits_width Char z r = signed_fits 1 128 z refl r.least r.greatest
fits_width SChar z r = signed_fits 1 128 z refl r.least r.greatest
fits_width UChar z r = unsigned_fits 1 256 z (omega arith) r.least r.greatest
fits_width Short z r = signed_fits 2 32768 z refl r.least r.greatest
fits_width UShort z r = unsigned_fits 2 65536 z (omega arith) r.least r.greatest
fits_width Int z r = signed_fits 4 2147483648 z refl r.least r.greatest
fits_width UInt z r = unsigned_fits 4 4294967296 z (omega arith) r.least r.greatest
fits_width Long z r = signed_fits 8 9223372036854775808 z refl r.least r.greatest
fits_width ULong z r = unsigned_fits 8 18446744073709551616 z (omega arith) r.least r.greatest
fits_width LongLong z r = signed_fits 8 9223372036854775808 z refl r.least r.greatest
fits_width ULongLong z r = unsigned_fits 8 18446744073709551616 z (omega arith) r.least r.greatest

widened : (n : ℕ) (signed : Bool) (z : ℤ) → 256 ^ n ≤ 256 ^ 8 → IsInBytes n signed z → IsInBytes 8 signed z
widened n false (pos a) more h = omega (arith, h, more)
widened n false (negsuc a) more h = absurd h
widened n true (pos a) more h = omega (arith, h, more)
widened n true (negsuc a) more h = omega (arith, h, more)

width_fits : (t : Scalar) → 256 ^ (width_of t).bytes ≤ 256 ^ 8
width_fits TheBool = omega arith
width_fits Char = omega arith
width_fits SChar = omega arith
width_fits UChar = omega arith
width_fits Short = omega arith
width_fits UShort = omega arith
width_fits Int = omega arith
width_fits UInt = omega arith
width_fits Long = omega arith
width_fits ULong = omega arith
width_fits LongLong = omega arith
width_fits ULongLong = omega arith

-- a number of a type stands in a register
pub fits_register : (t : Scalar) (z : ℤ) → IsInRange t z → FitsWidth (register_width t) z
fits_register t z r = widened (width_of t).bytes (width_of t).signed z (width_fits t) (fits_width t z r)

-- bits

pub sign_is : (t : Scalar) → (width_of t).signed ≡ is_signed t
sign_is TheBool = refl
sign_is Char = refl
sign_is SChar = refl
sign_is UChar = refl
sign_is Short = refl
sign_is UShort = refl
sign_is Int = refl
sign_is UInt = refl
sign_is Long = refl
sign_is ULong = refl
sign_is LongLong = refl
sign_is ULongLong = refl

pub half_of : (n : ℕ) → 1 ≤ n → 2 ^ n ≡ 2 * (2 ^ n / 2)
half_of zero some = absurd (omega arith)
half_of (suc n) some = let power : 2 ^ suc n ≡ 2 ^ n * 2 = pow-suc 2 n in omega arith

signed_within : (count half : ℕ) (z : ℤ) → count ≡ 2 * half → pos 0 ≤ℤ (z +ℤ pos half) → (z +ℤ pos half) <ℤ pos count → FitsRange count true z
signed_within count half (pos a) e low high = let h : a + half < count = omega (arith, ints) in omega arith
signed_within count half (negsuc a) e low high = let h : suc a ≤ half = omega (arith, ints) in omega arith

unsigned_within : (count : ℕ) (z : ℤ) → pos 0 ≤ℤ (z +ℤ pos 0) → (z +ℤ pos 0) <ℤ pos count → FitsRange count false z
unsigned_within count (pos a) low high = let h : a < count = omega (arith, ints) in omega arith
unsigned_within count (negsuc a) low high = omega (arith, ints)

-- a number that n bits of a type can hold stands in them
pub fits_bits : (t : Scalar) (n : ℕ) (z : ℤ) → 1 ≤ n → IsInWidth t n z → IsInBits (bit_width t n) z
fits_bits t n z some held = subst (λ (s : Bool). FitsRange (2 ^ n) s z) (sym (sign_is t)) (by_sign (is_signed t) held.least held.greatest)
  where
    by_sign : (s : Bool) → pos 0 ≤ℤ (z +ℤ pos (below_zero s (2 ^ n))) → (z +ℤ pos (below_zero s (2 ^ n))) <ℤ pos (2 ^ n) → FitsRange (2 ^ n) s z
    by_sign true low high = signed_within (2 ^ n) (2 ^ n / 2) z (half_of n some) low high
    by_sign false low high = unsigned_within (2 ^ n) z low high
