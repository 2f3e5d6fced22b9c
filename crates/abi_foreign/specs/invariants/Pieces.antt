-- Pieces that a text begins with.
use Rattle.std.specs.Prelude.{◌≡◌, ℕ, ◌+◌, ◌-◌, ◌*◌, ◌<◌, ◌≤◌, false, Option, Some, None, List, [], ◌∷◌, ◌++◌}
use Rattle.std.specs.Char.{is_ascii_digit}
use Rattle.std.specs.Fmt.{decimal}
use Rattle.abi_foreign.specs.Lines.{most_number}

-- the text does not begin with the piece
abbrev pub IsNotBehind : List ℕ → List ℕ → Type 0
IsNotBehind text piece = (rest : List ℕ) → text ≡ piece ++ rest → ⊥

-- the text does not begin with a digit
abbrev pub IsNoDigit : List ℕ → Type 0
IsNoDigit [] = Unit {0}
IsNoDigit (c ∷ text) = is_ascii_digit c ≡ false

-- the text begins with a byte that is no digit
abbrev pub IsApart : List ℕ → Type 0
IsApart [] = ⊥
IsApart (c ∷ text) = is_ascii_digit c ≡ false

-- the number that digits say, behind those of a number
abbrev pub read_on : ℕ → List ℕ → ℕ
read_on n [] = n
read_on n (c ∷ digits) = read_on (10 * n + (c - 48)) digits

-- the number that digits say, where it is small enough
abbrev pub DigitsSay : List ℕ → Option ℕ → Type 0
DigitsSay digits None = most_number < read_on 0 digits
DigitsSay digits (Some n) = (n ≡ read_on 0 digits) × (n ≤ most_number)

-- the text begins with a number, and the rest follows it
pub record BeginsWithNumber (text : List ℕ) (n : ℕ) (rest : List ℕ) : Type 0 where
  pub is : text ≡ decimal n ++ rest
  pub small : n ≤ most_number
  pub ends : IsNoDigit rest

abbrev pub HasNoNumber : List ℕ → Type 0
HasNoNumber text = (n : ℕ) (rest : List ℕ) → BeginsWithNumber text n rest → ⊥

-- the text begins with a number and the piece, in one way, and the rest follows
pub record IsNumberBefore (text piece : List ℕ) (n : ℕ) (rest : List ℕ) : Type 0 where
  pub is : text ≡ decimal n ++ (piece ++ rest)
  pub small : n ≤ most_number
  pub only : (m : ℕ) (other : List ℕ) → m ≤ most_number → text ≡ decimal m ++ (piece ++ other) → (m ≡ n) × (other ≡ rest)

abbrev pub HasNoneBefore : List ℕ → List ℕ → Type 0
HasNoneBefore text piece = (m : ℕ) (other : List ℕ) → m ≤ most_number → text ≡ decimal m ++ (piece ++ other) → ⊥
