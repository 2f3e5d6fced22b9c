-- The first token at which reading stops, and why.
use Rattle.std.specs.Prelude.{◌≡◌, ℕ, ◌+◌, ◌-◌, Bool, true, false, nat_lt, if◌then◌else◌, List, [], ◌∷◌, ◌++◌, Option, Some, None}
use Rattle.cxx_grammar.specs.declared.sort.Sort.{Sort}
use Rattle.cxx_grammar.specs.declared.sort.Sort.TheVariants.{Main, LeftOut, OpenBlock, CloseBrace, Bad}
use Rattle.cxx_grammar.specs.declared.sort.Lexeme.{Lexeme}
use Rattle.cxx_hierarchy.specs.declared.stop.Stop.{Stop}
use Rattle.cxx_hierarchy.specs.declared.stop.Stop.TheVariants as stop
use Rattle.cxx_hierarchy.specs.declared.stop.Rule.{Rule}
use Rattle.cxx_hierarchy.specs.declared.stop.Rule.TheVariants as rule
use Rattle.cxx_hierarchy.specs.declared.stop.LimitNo.TheVariants as limit
use Rattle.cxx_grammar.specs.Grammar.{Symbol, Derives, Begins}

abbrev pub sorts : List Lexeme → List Sort
sorts [] = []
sorts (l ∷ ts) = l.sort ∷ sorts ts

-- what a token is refused for that continues no reading: E1 where no token stands, E21 for a left-out word, else E2
abbrev pub refusal : Lexeme → Stop
refusal l = stop.Refused (rule_at l.sort) l.at where
  rule_at : Sort → Rule
  rule_at Bad = rule.Lex
  rule_at LeftOut = rule.LeftOut
  rule_at _ = rule.Syntax

-- how many blocks are open, and whether there was a main
pub record State : Type 0 where
  pub blocks : ℕ
  pub main : Bool

-- no block is open, and no main was read
abbrev pub at_start : State
at_start = record { blocks = 0; main = false }

-- the blocks that may be open at once
abbrev pub max_open_blocks : ℕ
max_open_blocks = 64

-- the state after a token; none where it opens a 65th block or is a second main
abbrev pub admit : Sort → State → Option State
admit OpenBlock s = if nat_lt s.blocks max_open_blocks then Some (record { blocks = s.blocks + 1; main = s.main }) else None
admit CloseBrace s = Some (record { blocks = s.blocks - 1; main = s.main })
admit Main s = if s.main then None else Some (record { blocks = s.blocks; main = true })
admit _ s = Some s

abbrev pub and_then : Option State → (State → Option State) → Option State
and_then None next = None
and_then (Some s) next = next s

-- the state after some tokens, of which none opens a 65th block or is a second main
abbrev pub passes : State → List Sort → Option State
passes s [] = Some s
passes s (t ∷ ts) = and_then (admit t s) (λ v. passes v ts)

-- what is said at a token that is not admitted: E7 at a second main, and else the limit of open blocks
abbrev pub excess : Lexeme → Stop
excess l = of_sort l.sort where
  of_sort : Sort → Stop
  of_sort Main = stop.Refused rule.DuplicateMember l.at
  of_sort _ = stop.Limit limit.L3

-- the first event, where a list is to begin with what a form derives
pub data Event (form : List Symbol) (s : State) (ts : List Lexeme) (e : Stop) : Type 0 where
  -- the tokens before this one begin a list that the form derives and are not yet one, and with it they begin none
  at_token : (pre post : List Lexeme) (l : Lexeme) (s' : State) → ts ≡ pre ++ l ∷ post → passes s (sorts pre) ≡ Some s' →
      Begins form (sorts pre) → (Derives form (sorts pre) → ⊥) → (Begins form (sorts (pre ++ l ∷ [])) → ⊥) → e ≡ refusal l → Event form s ts e
  -- the tokens with this one begin such a list, and it is the first that is not admitted
  at_excess : (pre post : List Lexeme) (l : Lexeme) (s' : State) → ts ≡ pre ++ l ∷ post → passes s (sorts pre) ≡ Some s' →
      Begins form (sorts (pre ++ l ∷ [])) → admit l.sort s' ≡ None → e ≡ excess l → Event form s ts e

-- the form derives the tokens before a rest, and each of them is admitted
pub record DerivesPrefix (form : List Symbol) (s : State) (ts rest : List Lexeme) : Type 0 where
  pub prefix : List Lexeme
  pub after : State
  pub split : ts ≡ prefix ++ rest
  pub derives : Derives form (sorts prefix)
  pub admitted : passes s (sorts prefix) ≡ Some after
