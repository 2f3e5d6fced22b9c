-- The number types on LP64 (System V x86-64; ISO C++03 3.9.1).
use Rattle.std.specs.Prelude.{ℕ, zero, suc, ◌/◌, ◌*◌, ◌^◌, ℤ, pos, negsuc, ◌+ℤ◌, ◌-ℤ◌, ◌≤ℤ◌, ◌<ℤ◌, Bool, true, false, nat_lt, nat_le, if◌then◌else◌}
use Rattle.std.specs.Int.{int_rem_euclid}
use Rattle.cxx_hierarchy.specs.declared.records.Scalar.{Scalar}
use Rattle.cxx_hierarchy.specs.declared.records.Scalar.TheVariants.{Bool as TheBool, Char, SChar, UChar, Short, UShort, Int, UInt, Long, ULong, LongLong, ULongLong}

-- how many bytes a number of the type takes, which is its alignment too
abbrev pub size_of : Scalar → ℕ
size_of TheBool = 1
size_of Char = 1
size_of SChar = 1
size_of UChar = 1
size_of Short = 2
size_of UShort = 2
size_of Int = 4
size_of UInt = 4
size_of Long = 8
size_of ULong = 8
size_of LongLong = 8
size_of ULongLong = 8

-- whether the type has numbers below 0; `char` has
abbrev pub is_signed : Scalar → Bool
is_signed TheBool = false
is_signed Char = true
is_signed SChar = true
is_signed UChar = false
is_signed Short = true
is_signed UShort = false
is_signed Int = true
is_signed UInt = false
is_signed Long = true
is_signed ULong = false
is_signed LongLong = true
is_signed ULongLong = false

-- how many numbers the type has
abbrev pub count_of : Scalar → ℕ
count_of TheBool = 2
count_of Char = 256
count_of SChar = 256
count_of UChar = 256
count_of Short = 256 ^ 2
count_of UShort = 256 ^ 2
count_of Int = 256 ^ 4
count_of UInt = 256 ^ 4
count_of Long = 256 ^ 8
count_of ULong = 256 ^ 8
count_of LongLong = 256 ^ 8
count_of ULongLong = 256 ^ 8

-- the least number of a type with this many, signed or not, is this many below 0
abbrev pub below_zero : Bool → ℕ → ℕ
below_zero true count = count / 2
below_zero false count = 0

-- z is a number of the type
pub record IsInRange (t : Scalar) (z : ℤ) : Type 0 where
  pub least : pos 0 ≤ℤ (z +ℤ pos (below_zero (is_signed t) (count_of t)))
  pub greatest : (z +ℤ pos (below_zero (is_signed t) (count_of t))) <ℤ pos (count_of t)

-- of so many numbers, signed or not, the one that differs from z by a multiple of how many they are
abbrev pub wrapped_to : Bool → ℕ → ℤ → ℤ
wrapped_to signed count z = int_rem_euclid (z +ℤ pos (below_zero signed count)) (pos count) -ℤ pos (below_zero signed count)

-- the number of the type that differs from z by a multiple of how many it has
abbrev pub wrapped : Scalar → ℤ → ℤ
wrapped t z = wrapped_to (is_signed t) (count_of t) z

-- what a `bool` keeps of a number (ISO C++03 4.12)
abbrev pub truth_of : ℤ → ℤ
truth_of (pos zero) = pos 0
truth_of (pos (suc n)) = pos 1
truth_of (negsuc n) = pos 1

-- what a variable of the type keeps of a number: the low bits, as two's complement reads them (ISO C++03 4.7)
abbrev pub stored_as : Scalar → ℤ → ℤ
stored_as TheBool z = truth_of z
stored_as Char z = wrapped Char z
stored_as SChar z = wrapped SChar z
stored_as UChar z = wrapped UChar z
stored_as Short z = wrapped Short z
stored_as UShort z = wrapped UShort z
stored_as Int z = wrapped Int z
stored_as UInt z = wrapped UInt z
stored_as Long z = wrapped Long z
stored_as ULong z = wrapped ULong z
stored_as LongLong z = wrapped LongLong z
stored_as ULongLong z = wrapped ULongLong z

-- how many bits a bit-field of the type has at most (ISO C++03 9.6)
abbrev pub most_bits : Scalar → ℕ
most_bits TheBool = 1
most_bits t = 8 * size_of t

-- what a bit-field of the type keeps of a number in n bits: the number is converted to the type, and of that the low bits are
-- kept, as two's complement reads them (ISO C++03 9.6)
abbrev pub kept_in : Scalar → ℕ → ℤ → ℤ
kept_in t n z = wrapped_to (is_signed t) (2 ^ n) (stored_as t z)

-- z is a number that n bits of the type can hold
pub record IsInWidth (t : Scalar) (n : ℕ) (z : ℤ) : Type 0 where
  pub least : pos 0 ≤ℤ (z +ℤ pos (below_zero (is_signed t) (2 ^ n)))
  pub greatest : (z +ℤ pos (below_zero (is_signed t) (2 ^ n))) <ℤ pos (2 ^ n)

-- what a number of the type becomes before it is calculated with: an `int` holds all that is smaller (ISO C++03 4.5)
abbrev pub promoted : Scalar → Scalar
promoted TheBool = Int
promoted Char = Int
promoted SChar = Int
promoted UChar = Int
promoted Short = Int
promoted UShort = Int
promoted Int = Int
promoted UInt = UInt
promoted Long = Long
promoted ULong = ULong
promoted LongLong = LongLong
promoted ULongLong = ULongLong

-- the rank of the type: a signed and an unsigned type of one size have one, and that of `long long` is above `long`
abbrev pub rank_of : Scalar → ℕ
rank_of TheBool = 0
rank_of Char = 1
rank_of SChar = 1
rank_of UChar = 1
rank_of Short = 2
rank_of UShort = 2
rank_of Int = 3
rank_of UInt = 3
rank_of Long = 4
rank_of ULong = 4
rank_of LongLong = 5
rank_of ULongLong = 5

-- the unsigned type of the rank of a signed one
abbrev pub unsigned_of : Scalar → Scalar
unsigned_of TheBool = TheBool
unsigned_of Char = UChar
unsigned_of SChar = UChar
unsigned_of UChar = UChar
unsigned_of Short = UShort
unsigned_of UShort = UShort
unsigned_of Int = UInt
unsigned_of UInt = UInt
unsigned_of Long = ULong
unsigned_of ULong = ULong
unsigned_of LongLong = ULongLong
unsigned_of ULongLong = ULongLong

-- of two types of one signedness that of the larger rank
abbrev pub larger_rank : Scalar → Scalar → Scalar
larger_rank s t = if nat_lt (rank_of s) (rank_of t) then t else s

-- of a signed type s and an unsigned one u: u where its rank is not lower, else s where it is wider, else the
-- unsigned type of the rank of s
abbrev pub mixed_type : Scalar → Scalar → Scalar
mixed_type s u = if nat_le (rank_of s) (rank_of u) then u else (if nat_lt (size_of u) (size_of s) then s else unsigned_of s)

abbrev pub common_by_sign : Bool → Bool → Scalar → Scalar → Scalar
common_by_sign true true s t = larger_rank s t
common_by_sign true false s t = mixed_type s t
common_by_sign false true s t = mixed_type t s
common_by_sign false false s t = larger_rank s t

-- the type in which two promoted numbers are calculated with
abbrev pub common_promoted : Scalar → Scalar → Scalar
common_promoted s t = common_by_sign (is_signed s) (is_signed t) s t

-- the usual arithmetic conversions (ISO C++03 5 p9)
abbrev pub common_type : Scalar → Scalar → Scalar
common_type s t = common_promoted (promoted s) (promoted t)
