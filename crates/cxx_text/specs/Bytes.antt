-- The classes of bytes.
use Rattle.std.specs.Prelude.{ℕ, Bool, false, ◌||◌, ◌&&◌, ◌==◌, nat_le, List, [], ◌∷◌, codes}
use Rattle.std.specs.List.{list_any}

-- space, tab, LF, VT, FF and CR
abbrev pub is_space : ℕ → Bool
is_space b = b == 32 || (nat_le 9 b && nat_le b 13)

-- a letter or `_`
abbrev pub is_letter : ℕ → Bool
is_letter b = (nat_le 65 b && nat_le b 90) || (nat_le 97 b && nat_le b 122) || b == 95

abbrev pub is_digit : ℕ → Bool
is_digit b = nat_le 48 b && nat_le b 57

abbrev pub is_word_byte : ℕ → Bool
is_word_byte b = is_letter b || is_digit b

-- the byte LF
abbrev pub is_line_end : ℕ → Bool
is_line_end b = b == 10

abbrev pub one_byte_signs : List ℕ
one_byte_signs = codes "{}()[];:,*&=!.<>+-~"

abbrev pub is_one_byte_sign : ℕ → Bool
is_one_byte_sign a = list_any (λ s. s == a) one_byte_signs

-- `::`, `==`, `!=`, `->` and `<=`
abbrev pub is_two_byte_sign : ℕ → ℕ → Bool
is_two_byte_sign a b =
    (a == 58 && b == 58) || (a == 61 && b == 61) || (a == 33 && b == 61) || (a == 45 && b == 62) || (a == 60 && b == 61)

-- the text begins with a byte that passes
abbrev pub begins : (ℕ → Bool) → List ℕ → Bool
begins passes [] = false
begins passes (b ∷ bs) = passes b
