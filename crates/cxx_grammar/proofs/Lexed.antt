-- The list of lexemes of a text.
use Rattle.std.proofs.Common.{◌≡◌, ℕ, ◌+◌, List, [], ◌∷◌, Option, inl, inr, refl, length, arith}
use Rattle.cxx_text.specs.declared.token.Token.{Token}
use Rattle.cxx_grammar.specs.declared.sort.Sort.TheVariants.{Bad}
use Rattle.cxx_grammar.specs.Grammar.{In}
use Rattle.cxx_grammar.specs.Event.{sorts}
use Rattle.cxx_grammar.specs.Lexemes.{Context, lexemes, lexeme_in, context_after}

-- it ends where no token stands
pub ends : (text : List ℕ) (c : Context) (ts : List Token) (bad : Option ℕ) → In Bad (sorts (lexemes text c ts bad))
ends text c [] bad = inl refl
ends text c (t ∷ ts) bad = inr (ends text (context_after text c (lexeme_in text c t)) ts bad)

-- one more than the tokens
pub length-lexemes : (text : List ℕ) (c : Context) (ts : List Token) (bad : Option ℕ) → length (lexemes text c ts bad) ≡ length ts + 1
length-lexemes text c [] bad = omega arith
length-lexemes text c (t ∷ ts) bad = let h = length-lexemes text (context_after text c (lexeme_in text c t)) ts bad in omega (arith, h)
