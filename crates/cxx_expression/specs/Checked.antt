-- A piece of a statement: what it is, or the fault that refuses it, and its faults.
use Rattle.std.specs.Prelude.{◌≡◌, ℕ, Result, Ok, Err, List, [], ◌∷◌, ◌++◌}
use Rattle.foundation.specs.declared.memory.NoMemory.{NoMemory}
use Rattle.cxx_hierarchy.specs.declared.stop.Rule.{Rule}
use Rattle.cxx_expression.specs.declared.faults.Fault.{Fault}

-- faults before => those with the piece's own behind them. A piece may have a fault and be typed.
pub record Checked (X : Type 0) : Type 0 where
  pub typed : Result X Fault
  pub faults : List Fault → List Fault

-- it is typed, and has no fault
abbrev pub pure : {X : Type 0} → X → Checked X
pure x = record { typed = Ok x; faults = λ before. before }

-- a fault behind those before
abbrev pub noted : Rule → ℕ → List Fault → List Fault
noted rule at before = before ++ (record { rule = rule; at = at }) ∷ []

-- it is refused by this fault, and what rests on it is not asked
abbrev pub fail : {X : Type 0} → Rule → ℕ → Checked X
fail rule at = record { typed = Err (record { rule = rule; at = at }); faults = noted rule at }

-- it has this fault and is typed, and what rests on it is asked
abbrev pub warn : {X : Type 0} → Rule → ℕ → X → Checked X
warn rule at x = record { typed = Ok x; faults = noted rule at }

-- what the next piece is typed to, or the fault that refuses the first
abbrev pub then_typed : {X Y : Type 0} → Result X Fault → (X → Checked Y) → Result Y Fault
then_typed (Err f) next = Err f
then_typed (Ok x) next = (next x).typed

-- the faults of the next piece, where there is one
abbrev pub then_faults : {X Y : Type 0} → Result X Fault → (X → Checked Y) → List Fault → List Fault
then_faults (Err f) next before = before
then_faults (Ok x) next before = (next x).faults before

-- the second rests on the first
infixl 10 ◌>>=◌
abbrev pub ◌>>=◌ : {X Y : Type 0} → Checked X → (X → Checked Y) → Checked Y
p >>= next = record { typed = then_typed p.typed next; faults = λ before. then_faults p.typed next (p.faults before) }

-- the pair, or the fault that refuses the second
abbrev pub with_second : {X Y : Type 0} → X → Result Y Fault → Result (X × Y) Fault
with_second x (Err f) = Err f
with_second x (Ok y) = Ok (x, y)

-- the pair, or the first fault that refuses one of both
abbrev pub pair_of : {X Y : Type 0} → Result X Fault → Result Y Fault → Result (X × Y) Fault
pair_of (Err f) y = Err f
pair_of (Ok x) y = with_second x y

-- neither rests on the other
abbrev pub both : {X Y : Type 0} → Checked X → Checked Y → Checked (X × Y)
both p q = record { typed = pair_of p.typed q.typed; faults = λ before. q.faults (p.faults before) }

-- the first with the second, which may be refused, or the fault that refuses the first
abbrev pub with_outcome : {X Y : Type 0} → Result X Fault → Result Y Fault → Result (X × Result Y Fault) Fault
with_outcome (Err f) o = Err f
with_outcome (Ok x) o = Ok (x, o)

-- the second looks at the first and is asked in any case; what rests on the first alone is asked also where the second is refused
abbrev pub beside : {X Y : Type 0} → Checked X → (Result X Fault → Checked Y) → Checked (X × Result Y Fault)
beside p next = record { typed = with_outcome p.typed (next p.typed).typed; faults = λ before. (next p.typed).faults (p.faults before) }

-- what was typed before, or refused by that fault: it has none of its own
abbrev pub kept : {X : Type 0} → Result X Fault → Checked X
kept o = record { typed = o; faults = λ before. before }

-- what becomes of something that is typed
abbrev pub where_typed : {X Y : Type 0} → (X → Y) → Result X Fault → Result Y Fault
where_typed made (Err f) = Err f
where_typed made (Ok x) = Ok (made x)

-- what code answers, with the faults before and after the call
abbrev pub Answers : {X : Type 0} → Result (Result X Fault) NoMemory → List Fault → List Fault → Checked X → Type 0
Answers (Ok o) old new p = (p.typed ≡ o) × (p.faults old ≡ new)
Answers (Err e) old new p = Unit {0}
