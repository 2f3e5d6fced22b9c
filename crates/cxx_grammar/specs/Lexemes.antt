-- What each token of a text is to the grammar.
use Rattle.std.specs.Prelude.{ℕ, ◌-◌, ◌==◌, ◌&&◌, Bool, true, false, if◌then◌else◌, List, [], ◌∷◌, Option, take, drop, unwrap_or}
use Rattle.cxx_grammar.specs.declared.sort.Sort.{Sort}
use Rattle.cxx_grammar.specs.declared.sort.Sort.TheVariants.{Struct, Class, Else, Name, OwnName, Number, Zero, OpenBrace, OpenBlock, CloseParen, End, Bad}
use Rattle.cxx_text.specs.declared.token.Kind.{Kind}
use Rattle.cxx_text.specs.declared.token.Kind.TheVariants as kind
use Rattle.cxx_text.specs.declared.token.Token.{Token}
use Rattle.cxx_grammar.specs.declared.sort.Lexeme.{Lexeme}
use Rattle.cxx_grammar.specs.Sorts.{is_name}
use Rattle.cxx_grammar.specs.Words.{same_bytes, look_up, words, signs}

-- what the tokens before a token decide of it: the name that stood last directly after struct or class, and the
-- sort of the token directly before
pub record Context : Type 0 where
  pub own : List ℕ
  pub last : Sort

-- before a source, and before a block alone
abbrev pub source_start : Context
source_start = record { own = []; last = End }

abbrev pub block_start : Context
block_start = record { own = []; last = CloseParen }

-- the bytes from a place up to another
abbrev pub bytes_between : List ℕ → ℕ → ℕ → List ℕ
bytes_between text start end = take (end - start) (drop start text)

-- the bytes of a lexeme
abbrev pub bytes_of : List ℕ → Lexeme → List ℕ
bytes_of text l = bytes_between text l.at l.end

-- a name, where it is the name of the class
abbrev pub own_or : Sort → Bool → Sort
own_or Name true = OwnName
own_or s _ = s

-- each block of the grammar stands directly after `)` or `else`, and the brace of a class never does
abbrev pub opens_block : Sort → Bool
opens_block CloseParen = true
opens_block Else = true
opens_block _ = false

abbrev pub brace_or : Sort → Bool → Sort
brace_or OpenBrace true = OpenBlock
brace_or s _ = s

abbrev pub sort_in : List ℕ → Context → Token → Sort
sort_in text c t = of_kind t.kind where
  bytes : List ℕ
  bytes = bytes_between text t.start t.end

  of_kind : Kind → Sort
  of_kind kind.Word = own_or (look_up bytes words Name) (same_bytes bytes c.own)
  of_kind kind.Number = if t.value == 0 then Zero else Number
  of_kind kind.Sign = brace_or (look_up bytes signs Bad) (opens_block c.last)
  of_kind kind.End = End

-- a token with its sort
abbrev pub lexeme_in : List ℕ → Context → Token → Lexeme
lexeme_in text c t = record { sort = sort_in text c t; at = t.start; end = t.end; line = t.line; value = t.value }

abbrev pub begins_class : Sort → Bool
begins_class Struct = true
begins_class Class = true
begins_class _ = false

abbrev pub own_after : List ℕ → Context → Lexeme → List ℕ
own_after text c l = if begins_class c.last && is_name l.sort then bytes_of text l else c.own

abbrev pub context_after : List ℕ → Context → Lexeme → Context
context_after text c l = record { own = own_after text c l; last = l.sort }

-- the end of a list: the first place where no token stands, if there is one
abbrev pub closing : Option ℕ → Lexeme
closing bad = record { sort = Bad; at = unwrap_or bad 0; end = unwrap_or bad 0; line = 0; value = 0 }

-- the tokens with their sorts, and the end of the list
abbrev pub lexemes : List ℕ → Context → List Token → Option ℕ → List Lexeme
lexemes text c [] bad = closing bad ∷ []
lexemes text c (t ∷ ts) bad = lexeme_in text c t ∷ lexemes text (context_after text c (lexeme_in text c t)) ts bad
