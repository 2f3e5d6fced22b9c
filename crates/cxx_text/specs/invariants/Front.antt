-- What the functions of this crate compute of the front of a text.
use Rattle.std.specs.Prelude.{ℕ, ◌+◌, ◌^◌, ◌&&◌, not, ◌==◌, nat_lt, if◌then◌else◌, List, [], ◌∷◌, Option, Some, None, option_map}
use Rattle.std.specs.List.{prefix_len}
use Rattle.cxx_text.specs.Bytes.{is_space, is_line_end, is_one_byte_sign, is_two_byte_sign}
use Rattle.cxx_text.specs.OneToken.{is_numeral, decimal}

-- the bytes up to and with the first `*/`
abbrev pub close_len : List ℕ → Option ℕ
close_len [] = None
close_len (a ∷ []) = None
close_len (a ∷ b ∷ bs) = if a == 42 && b == 47 then Some 2 else option_map (λ n. 1 + n) (close_len (b ∷ bs))

-- the bytes of the white space or comment at the front
abbrev pub blank_len : List ℕ → Option ℕ
blank_len [] = None
blank_len (a ∷ []) = if is_space a then Some 1 else None
blank_len (a ∷ b ∷ bs) =
    if a == 47 && b == 47 then Some (2 + prefix_len (λ c. not (is_line_end c)) bs)
    else (if a == 47 && b == 42 then option_map (λ n. 2 + n) (close_len bs)
    else (if is_space a then Some 1 else None))

-- the bytes of the longest sign at the front, or 0
abbrev pub sign_len : List ℕ → ℕ
sign_len [] = 0
sign_len (a ∷ []) = if is_one_byte_sign a then 1 else 0
sign_len (a ∷ b ∷ bs) = if is_two_byte_sign a b then 2 else (if is_one_byte_sign a then 1 else 0)

-- a value below 2 ^ 63
abbrev pub value_below : ℕ → Option ℕ
value_below v = if nat_lt v (2 ^ 63) then Some v else None

-- the value of a number
abbrev pub number_value : List ℕ → Option ℕ
number_value ds = if is_numeral ds then value_below (decimal ds) else None
