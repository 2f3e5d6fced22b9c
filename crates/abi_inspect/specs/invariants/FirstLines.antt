-- The first line of a text, cut at its first spaces.
use Rattle.std.specs.Prelude.{◌≡◌, ℕ, true, List, ◌++◌, codes, Contains}
use Rattle.cxx_text.specs.OneToken.{IsToken, is_numeral}
use Rattle.cxx_text.specs.declared.token.Kind.TheVariants.{Word}

-- the text begins with these parts and what is between them; no part goes on over the space or the line feed behind it
pub record IsFirstLine (number name size rest text : List ℕ) : Type 0 where
  pub is : text ≡ codes "dump #" ++ number ++ codes " " ++ name ++ codes " " ++ size ++ codes "\n" ++ rest
  pub number_ends : Contains number 32 → ⊥
  pub name_ends : Contains name 32 → ⊥
  pub number_in_line : Contains number 10 → ⊥
  pub name_in_line : Contains name 10 → ⊥
  pub size_in_line : Contains size 10 → ⊥

-- decimal numbers, and a word between them
pub record AreFormed (number name size : List ℕ) : Type 0 where
  pub counts : is_numeral number ≡ true
  pub word : IsToken name Word 0
  pub measures : is_numeral size ≡ true
