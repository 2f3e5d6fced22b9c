-- Numbers that are read back from their digits.
use Rattle.std.specs.Prelude.{ℕ, suc, ◌+◌, ◌-◌, ◌*◌, ◌^◌, ◌%◌, ◌<◌, nat_le, ◌&&◌, if◌then◌else◌, List, [], ◌∷◌, ℤ, pos, negsuc}

-- its distance from 0 is a word
abbrev pub IsBelowWord : ℤ → Type 0
IsBelowWord (pos a) = a < 2 ^ 64
IsBelowWord (negsuc a) = suc a < 2 ^ 64

-- the number of a hexadecimal digit, and 0 for any other byte
abbrev pub hex_value : ℕ → ℕ
hex_value b = if nat_le 48 b && nat_le b 57 then b - 48 else (if nat_le 97 b && nat_le b 102 then b - 97 + 10 else 0)

-- the word whose bytes, the low one first, have these digits
abbrev pub hex_word : List ℕ → ℕ
hex_word [] = 0
hex_word (high ∷ []) = 0
hex_word (high ∷ low ∷ rest) = ((hex_word rest * 256) % 2 ^ 64 + (16 * hex_value high + hex_value low)) % 2 ^ 64
