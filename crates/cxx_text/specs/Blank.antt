-- White space and comments (ISO C++03 2.7).
use Rattle.std.specs.Prelude.{◌≡◌, ℕ, ◌≤◌, true, not, List, [], ◌∷◌, ◌++◌, length}
use Rattle.std.specs.List.{list_all}
use Rattle.cxx_text.specs.Bytes.{is_space, is_line_end}

-- the body of a comment runs to the first `*/`, and this text follows that
abbrev pub ClosesFirst : List ℕ → List ℕ → Type 0
ClosesFirst body rest = (b r : List ℕ) → body ++ 42 ∷ 47 ∷ rest ≡ b ++ 42 ∷ 47 ∷ r → length body ≤ length b

-- the line ends here: with the text, or with LF
abbrev pub LineEnds : List ℕ → Type 0
LineEnds [] = Unit {0}
LineEnds (b ∷ bs) = is_line_end b ≡ true

-- a piece before this rest that is one byte of white space, a `//` comment or a `/*` comment
pub data Blank : List ℕ → List ℕ → Type 0 where
  space : (b : ℕ) (rest : List ℕ) → is_space b ≡ true → Blank (b ∷ []) rest
  line_comment : (body rest : List ℕ) → list_all (λ b. not (is_line_end b)) body ≡ true → LineEnds rest →
      Blank (47 ∷ 47 ∷ body) rest
  block_comment : (body rest : List ℕ) → ClosesFirst body rest → Blank (47 ∷ 42 ∷ body ++ 42 ∷ 47 ∷ []) rest

-- neither white space nor a comment stands at the front of the text
abbrev pub NoBlank : List ℕ → Type 0
NoBlank text = (p r : List ℕ) → text ≡ p ++ r → Blank p r → ⊥
