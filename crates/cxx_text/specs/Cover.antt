-- How white space, comments and tokens cover a text.
use Rattle.std.specs.Prelude.{◌≡◌, ℕ, ◌+◌, List, [], ◌∷◌, ◌++◌, Option, Some, None, length, count_by}
use Rattle.cxx_text.specs.declared.token.Kind.{Kind}
use Rattle.cxx_text.specs.declared.token.Kind.TheVariants.{End}
use Rattle.cxx_text.specs.declared.token.Token.{Token}
use Rattle.cxx_text.specs.Bytes.{is_line_end}
use Rattle.cxx_text.specs.Longest.{IsLongest, NoToken}
use Rattle.cxx_text.specs.Blank.{Blank, NoBlank}

-- the line after these bytes, counted from 1
abbrev pub line_after : List ℕ → ℕ
line_after before = 1 + count_by is_line_end before

-- the token of a piece that stands after these bytes
abbrev pub token_after : List ℕ → List ℕ → Kind → ℕ → Token
token_after before piece kind value = record {
  kind = kind;
  start = length before;
  end = length before + length piece;
  line = line_after before;
  value = value;
}

-- after the bytes `before`, the rest of the text has these tokens, up to its end or to a bad place
pub data Covers : List ℕ → List ℕ → List Token → Option ℕ → Type 0 where
  end : (before text : List ℕ) → text ≡ [] → Covers before text (token_after before [] End 0 ∷ []) None
  blank : (before text piece rest : List ℕ) (ts : List Token) (bad : Option ℕ) →
      text ≡ piece ++ rest → Blank piece rest →
      Covers (before ++ piece) rest ts bad → Covers before text ts bad
  token : (before text piece rest : List ℕ) (kind : Kind) (value : ℕ) (ts : List Token) (bad : Option ℕ) →
      NoBlank text → IsLongest text piece rest kind value →
      Covers (before ++ piece) rest ts bad → Covers before text (token_after before piece kind value ∷ ts) bad
  stops : (before text : List ℕ) (b : ℕ) (bs : List ℕ) → text ≡ b ∷ bs →
      NoBlank text → NoToken text → Covers before text [] (Some (length before))

-- the tokens of a text, and the first place where no token stands
abbrev pub AreTokens : List ℕ → List Token → Option ℕ → Type 0
AreTokens text ts bad = Covers [] text ts bad
