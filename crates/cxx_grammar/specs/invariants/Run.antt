-- Reading by the table, which the contracts of readers speak of.
use Rattle.std.specs.Prelude.{◌≡◌, List, [], ◌∷◌, ◌++◌, Option, Some, None, Result, Ok, Err}
use Rattle.cxx_grammar.specs.declared.sort.Sort.{Sort}
use Rattle.cxx_grammar.specs.declared.sort.Lexeme.{Lexeme}
use Rattle.cxx_hierarchy.specs.declared.stop.Stop.{Stop}
use Rattle.cxx_hierarchy.specs.declared.stop.Stop.TheVariants as stop
use Rattle.cxx_hierarchy.specs.declared.stop.Rule.TheVariants as rule
use Rattle.cxx_grammar.specs.Table.{Task, Only, after}
use Rattle.cxx_grammar.specs.Event.{State, admit, refusal, excess}

pub data Outcome : Type 0 where
  -- all tasks were done, and these lexemes are left
  Done : List Lexeme → Outcome
  Stopped : Stop → Outcome

-- the state after a token that a task takes
abbrev pub admits : Task → Sort → State → Option State
admits (Only s) t st = Some st
admits _ t st = admit t st

-- goes on with the tasks after a token, or stops at it
abbrev pub go_on : Lexeme → Option (List Task) → Option State → List Task → (State → List Task → Outcome) → Outcome
go_on l None s k next = Stopped (refusal l)
go_on l (Some ss) None k next = Stopped (excess l)
go_on l (Some ss) (Some s) k next = next s (ss ++ k)

-- does the tasks on the front of the lexemes
abbrev pub run : List Lexeme → State → List Task → Outcome
run [] s [] = Done []
run [] s (m ∷ k) = Stopped (stop.Refused rule.Syntax 0)
run (l ∷ ts) s [] = Done (l ∷ ts)
run (l ∷ ts) s (m ∷ k) = go_on l (after m l.sort) (admits m l.sort s) k (run ts)

-- Whatever comes behind them, the first tasks lead to the second.
abbrev pub TasksLead : State → List Task → List Lexeme → State → List Task → List Lexeme → Type 0
TasksLead s ms ts s' ms' ts' = (k : List Task) → run ts s (ms ++ k) ≡ run ts' s' (ms' ++ k)

-- Whatever comes behind them, these tasks stop so, unless it was for want of memory.
abbrev pub Stops : State → List Task → List Lexeme → Stop → Type 0
Stops s ms ts e = (e ≡ stop.NoMemory → ⊥) → (k : List Task) → run ts s (ms ++ k) ≡ Stopped e

-- what a reader did
abbrev pub Follows : {X : Type 0} → (X → List Lexeme) → State → List Task → List Lexeme → State → List Task → Result X Stop → Type 0
Follows rest_of s ms ts s' ms' (Ok x) = TasksLead s ms ts s' ms' (rest_of x)
Follows rest_of s ms ts s' ms' (Err e) = Stops s ms ts e

-- what a reader did after which different tasks may be left
abbrev pub FollowsBy : {X : Type 0} → (X → List Lexeme) → State → List Task → List Lexeme → (X → List Task) → Result X Stop → Type 0
FollowsBy rest_of s ms ts left (Ok x) = TasksLead s ms ts s (left x) (rest_of x)
FollowsBy rest_of s ms ts left (Err e) = Stops s ms ts e
