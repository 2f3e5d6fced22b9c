-- The longest token at the front of a text (ISO C++03 2.4).
use Rattle.std.specs.Prelude.{◌≡◌, ℕ, ◌≤◌, false, List, ◌++◌, length}
use Rattle.cxx_text.specs.declared.token.Kind.{Kind}
use Rattle.cxx_text.specs.declared.token.Kind.TheVariants.{Number}
use Rattle.cxx_text.specs.Bytes.{is_word_byte, begins}
use Rattle.cxx_text.specs.OneToken.{IsToken}

-- a piece may stand before this rest: it is a token, and a number is not directly followed by a letter, digit or `_`
pub record Stands (piece rest : List ℕ) (kind : Kind) (value : ℕ) : Type 0 where
  pub token : IsToken piece kind value
  pub apart : kind ≡ Number → begins is_word_byte rest ≡ false

-- the text is this piece and the rest, the piece may stand there, and no longer one may
pub record IsLongest (text piece rest : List ℕ) (kind : Kind) (value : ℕ) : Type 0 where
  pub whole : text ≡ piece ++ rest
  pub stands : Stands piece rest kind value
  pub longest : (p r : List ℕ) (k : Kind) (v : ℕ) → text ≡ p ++ r → Stands p r k v → length p ≤ length piece

-- no token stands at the front of the text
abbrev pub NoToken : List ℕ → Type 0
NoToken text = (p r : List ℕ) (k : Kind) (v : ℕ) → text ≡ p ++ r → Stands p r k v → ⊥
