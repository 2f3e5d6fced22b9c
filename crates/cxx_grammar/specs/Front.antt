-- The token at the front of a list.
use Rattle.std.specs.Prelude.{◌≡◌, true, List, ◌∷◌}
use Rattle.cxx_grammar.specs.declared.sort.Sort.{Sort}
use Rattle.cxx_grammar.specs.declared.sort.Lexeme.{Lexeme}
use Rattle.cxx_grammar.specs.Sorts.{is_name, is_number}

-- the front token, of this sort
pub record Is (s : Sort) (l : Lexeme) (ts rest : List Lexeme) : Type 0 where
  pub front : ts ≡ l ∷ rest
  pub sort : l.sort ≡ s

-- the front token, a name
pub record IsName (l : Lexeme) (ts rest : List Lexeme) : Type 0 where
  pub front : ts ≡ l ∷ rest
  pub name : is_name l.sort ≡ true

-- the front token, a number
pub record IsNumber (l : Lexeme) (ts rest : List Lexeme) : Type 0 where
  pub front : ts ≡ l ∷ rest
  pub number : is_number l.sort ≡ true
