use Rattle.std.specs.Prelude.{ℕ, suc, ◌-◌, ◌*◌, ◌%◌, ◌<◌, ◌≤◌, ◌^◌, Bool, true, false, nat_lt, if◌then◌else◌, ℤ, pos, negsuc, ◌-ℤ◌}
use Rattle.byte_code.specs.declared.width.Width.{Width}
use Rattle.byte_code.specs.declared.width.BitWidth.{BitWidth}

-- the number that a number below a range stands for, read as two's complement or as an unsigned number
abbrev pub signed_in : ℕ → Bool → ℕ → ℤ
signed_in range false low = pos low
signed_in range true low = if nat_lt (2 * low) range then pos low else pos low -ℤ pos range

-- a number modulo a range
abbrev pub low_in : ℕ → ℤ → ℕ
low_in range (pos a) = a % range
low_in range (negsuc a) = range - 1 - a % range

-- the number is one that a number below the range stands for
abbrev pub FitsRange : ℕ → Bool → ℤ → Type 0
FitsRange range false (pos a) = a < range
FitsRange range false (negsuc a) = ⊥
FitsRange range true (pos a) = 2 * a < range
FitsRange range true (negsuc a) = 2 * suc a ≤ range

-- bytes

-- the number that n bytes stand for, read as two's complement or as an unsigned number
abbrev pub signed_of : ℕ → Bool → ℕ → ℤ
signed_of n signed low = signed_in (256 ^ n) signed low

-- the n low bytes of a number: the number modulo 256 ^ n
abbrev pub low_of : ℕ → ℤ → ℕ
low_of n number = low_in (256 ^ n) number

-- the word that stands for a number in a register: the number modulo 2 ^ 64
abbrev pub word_of : ℤ → ℕ
word_of number = low_of 8 number

-- the number that the low bytes of a word stand for
abbrev pub number_of_word : Width → ℕ → ℤ
number_of_word width word = signed_of width.bytes width.signed (word % 256 ^ width.bytes)

-- the word of the number that the bytes stand for
abbrev pub extended : Width → ℕ → ℕ
extended width low = word_of (signed_of width.bytes width.signed low)

-- the number can stand in n bytes
abbrev pub IsInBytes : ℕ → Bool → ℤ → Type 0
IsInBytes n signed number = FitsRange (256 ^ n) signed number

-- the number can stand in the bytes of a width
abbrev pub FitsInWidth : Width → ℤ → Type 0
FitsInWidth width number = IsInBytes width.bytes width.signed number

-- bits

-- the number that so many bits stand for, read as the width says
abbrev pub signed_bits : BitWidth → ℕ → ℤ
signed_bits width low = signed_in (2 ^ width.bits) width.signed low

-- the number that the low bits of a word stand for
abbrev pub number_of_bits : BitWidth → ℕ → ℤ
number_of_bits width word = signed_bits width (word % 2 ^ width.bits)

-- the low bits of a number: the number modulo 2 ^ n
abbrev pub low_bits : ℕ → ℤ → ℕ
low_bits n number = low_in (2 ^ n) number

-- the word of the number that the bits stand for
abbrev pub extended_bits : BitWidth → ℕ → ℕ
extended_bits width low = word_of (signed_bits width low)

-- the number can stand in the bits of a width
abbrev pub IsInBits : BitWidth → ℤ → Type 0
IsInBits width number = FitsRange (2 ^ width.bits) width.signed number
