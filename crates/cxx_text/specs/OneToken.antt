-- What one token is, on its own (ISO C++03 2.10, 2.12, 2.13.1).
use Rattle.std.specs.Prelude.{◌≡◌, ℕ, ◌+◌, ◌*◌, ◌-◌, ◌^◌, ◌<◌, ◌≤◌, Bool, true, false, ◌&&◌, not, ◌==◌, List, [], ◌∷◌, length}
use Rattle.std.specs.List.{list_all}
use Rattle.cxx_text.specs.declared.token.Kind.{Kind}
use Rattle.cxx_text.specs.declared.token.Kind.TheVariants.{Word, Number, Sign}
use Rattle.cxx_text.specs.Bytes.{is_letter, is_digit, is_word_byte, is_one_byte_sign, is_two_byte_sign}

-- the value of digits that follow others of the value v
abbrev pub decimal_from : ℕ → List ℕ → ℕ
decimal_from v [] = v
decimal_from v (d ∷ ds) = decimal_from (v * 10 + (d - 48)) ds

-- the value of digits
abbrev pub decimal : List ℕ → ℕ
decimal ds = decimal_from 0 ds

-- `0`, or a digit from 1 to 9 followed by digits
abbrev pub is_numeral : List ℕ → Bool
is_numeral [] = false
is_numeral (d ∷ []) = is_digit d
is_numeral (d ∷ e ∷ ds) = not (d == 48) && list_all is_digit (d ∷ e ∷ ds)

-- the bytes of a word
abbrev pub most_word_bytes : ℕ
most_word_bytes = 255

-- these bytes are a token of this kind and value: a word of at most so many bytes, a number below 2 ^ 63, or a sign
pub data IsToken : List ℕ → Kind → ℕ → Type 0 where
  word : (b : ℕ) (bs : List ℕ) → is_letter b ≡ true → list_all is_word_byte bs ≡ true → length (b ∷ bs) ≤ most_word_bytes →
      IsToken (b ∷ bs) Word 0
  number : (ds : List ℕ) → is_numeral ds ≡ true → decimal ds < 2 ^ 63 → IsToken ds Number (decimal ds)
  one_byte_sign : (a : ℕ) → is_one_byte_sign a ≡ true → IsToken (a ∷ []) Sign 0
  two_byte_sign : (a b : ℕ) → is_two_byte_sign a b ≡ true → IsToken (a ∷ b ∷ []) Sign 0
