-- The parts of statements that readers of their own read.
use Rattle.std.specs.Prelude.{◌≡◌, ℕ, List, ◌∷◌}
use Rattle.cxx_grammar.specs.declared.sort.Lexeme.{Lexeme}
use Rattle.cxx_grammar.specs.declared.sort.Sort.TheVariants.{Print, OpenParen, CloseParen}
use Rattle.cxx_grammar.specs.Front.{Is}
use Rattle.cxx_syntax.specs.declared.tree.Operand.{Operand}
use Rattle.cxx_syntax.specs.declared.tree.Statement.{Statement}
use Rattle.cxx_syntax.specs.declared.tree.StatementKind.{StatementKind}
use Rattle.cxx_syntax.specs.Operands.{OperandReads}
use Rattle.cxx_syntax.specs.Statements.{BeginsAt, StatementReads}

-- behind "print" "(" the tokens make a statement of the kind
abbrev pub PrintReads : List ℕ → StatementKind → List Lexeme → List Lexeme → Type 0
PrintReads text kind ts rest = (s : Statement) (first paren : Lexeme) → first.sort ≡ Print → paren.sort ≡ OpenParen → BeginsAt s first kind → StatementReads text s (first ∷ paren ∷ ts) rest

-- "(" operand ")"
pub record ConditionReads (text : List ℕ) (v : Operand) (ts rest : List Lexeme) : Type 0 where
  pub first : Lexeme
  pub last : Lexeme
  pub after : List Lexeme
  pub before : List Lexeme
  pub open_paren : Is OpenParen first ts after
  pub test : OperandReads text v after before
  pub close_paren : Is CloseParen last before rest
