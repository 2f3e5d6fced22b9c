-- The statements of a body in their order: typed, or the first stop.
use Rattle.std.specs.Prelude.{ℕ, ◌+◌, nat_le, if◌then◌else◌, Option, Some, None, Result, Ok, Err, List, [], ◌∷◌, ◌++◌}
use Rattle.cxx_hierarchy.specs.declared.records.ValueType.{ValueType}
use Rattle.cxx_hierarchy.specs.declared.stop.Stop.{Stop}
use Rattle.cxx_hierarchy.specs.declared.stop.Stop.TheVariants.{Limit}
use Rattle.cxx_hierarchy.specs.declared.stop.LimitNo.TheVariants.{L3}
use Rattle.cxx_hierarchy.specs.NameTables.{Text}
use Rattle.cxx_hierarchy.specs.Classes.{Classes}
use Rattle.cxx_syntax.specs.declared.tree.Spot.{Spot}
use Rattle.cxx_syntax.specs.declared.tree.Operand.{Operand}
use Rattle.cxx_syntax.specs.declared.tree.Right.{Right}
use Rattle.cxx_syntax.specs.declared.tree.BodyTree.{BodyTree, BodyTree-F, fold-BodyTree}
use Rattle.cxx_syntax.specs.declared.tree.Statement.{Statement, Statement-F, fold-Statement}
use Rattle.cxx_syntax.specs.declared.tree.StatementKind.{StatementKind, StatementKind-F, fold-StatementKind}
use Rattle.cxx_syntax.specs.declared.tree.StatementKind.TheOpen as layer
use Rattle.cxx_program.specs.declared.operand.TypedOperand.{TypedOperand}
use Rattle.cxx_program.specs.declared.statement.TypedKind.{TypedKind}
use Rattle.cxx_program.specs.declared.statement.TypedKind.TheVariants as typed
use Rattle.cxx_program.specs.declared.statement.TypedStatement.{TypedStatement}
use Rattle.cxx_expression.specs.declared.faults.Fault.{Fault}
use Rattle.cxx_expression.specs.declared.scene.Scene.{Scene}
use Rattle.cxx_expression.specs.declared.scene.Setting.{Setting}
use Rattle.cxx_expression.specs.declared.typed.Number.{Number}
use Rattle.cxx_expression.specs.Checked.{Checked}
use Rattle.cxx_expression.specs.Faults.{least, settled}
use Rattle.cxx_expression.specs.Scenes.{opened, closed}
use Rattle.cxx_expression.specs.Values.{number_operand}
use Rattle.cxx_resolve.specs.declared.draft.Draft.{Draft}
use Rattle.cxx_resolve.specs.Stops.{◌>>>◌}
use Rattle.cxx_resolve.specs.Settled.{settle}
use Rattle.cxx_resolve.specs.Statements.{declare_of, assign_of, write_of, copy_of, call_statement, delete_of, returned_kind, print_of, print_type_of, print_view_of, dump_of, plain_of}

-- What a kind of statement does: how many statements it is, and the draft behind it, by its place, its line, its number, the
-- number of the statement behind it, and the draft before it.
pub record KindMeaning : Type 0 where
  pub size : ℕ
  pub walk : Classes → Setting → ℕ → ℕ → ℕ → ℕ → Draft → Result Draft Stop

-- The same of a statement or of a block, by its number and the number of the statement behind it.
pub record Meaning : Type 0 where
  pub size : ℕ
  pub walk : Classes → Setting → ℕ → ℕ → Draft → Result Draft Stop

abbrev pub Layer : Type 0
Layer = StatementKind-F KindMeaning Meaning Meaning

-- one statement more
abbrev pub pushed : TypedKind → ℕ → ℕ → Draft → Draft
pushed kind line next d = record { scene = d.scene; statements = d.statements ++ (record { kind = kind; line = line; next = next }) ∷ [] }

-- a statement that is put behind those so far, where nothing refuses it
abbrev pub finished : Option Fault → Result TypedKind Fault → ℕ → ℕ → Draft → Result Draft Stop
finished worst typed line next d = settled worst typed >>> λ kind. Ok (pushed kind line next d)

abbrev pub ended_statement : Checked TypedKind → ℕ → ℕ → Draft → Result Draft Stop
ended_statement p line next d = finished (least (p.faults [])) p.typed line next d

-- a statement that declares nothing and has no block in it
abbrev pub plain : (Classes → Setting → Scene → ℕ → Checked TypedKind) → KindMeaning
plain typed_by = record { size = 1; walk = λ h e at line n next d. ended_statement (typed_by h e d.scene at) line next d }

abbrev pub in_scene : Scene → Draft → Draft
in_scene s d = record { scene = s; statements = d.statements }

abbrev pub finished_scene : Option Fault → Result (TypedKind × Scene) Fault → ℕ → ℕ → Draft → Result Draft Stop
finished_scene worst typed line next d = settled worst typed >>> λ r. Ok (pushed r.0 line next (in_scene r.1 d))

abbrev pub ended_scene : Checked (TypedKind × Scene) → ℕ → ℕ → Draft → Result Draft Stop
ended_scene p line next d = finished_scene (least (p.faults [])) p.typed line next d

-- the most local declarations of a body
abbrev pub most_locals : ℕ
most_locals = 256

-- L3 at the declaration behind the last that a body may have, before anything that refuses it
unfoldable pub declare_walk : Classes → Setting → ℕ → ValueType Text → ℕ → Spot → Option Right → ℕ → ℕ → Draft → Result Draft Stop
declare_walk h e at ty ty_at x init line next d =
    if nat_le most_locals d.scene.declared then Err (Limit L3) else ended_scene (declare_of h e d.scene at ty ty_at x init) line next d

abbrev pub declaration : ValueType Text → ℕ → Spot → Option Right → KindMeaning
declaration ty ty_at x init = record { size = 1; walk = λ h e at line n next d. declare_walk h e at ty ty_at x init line next d }

-- a condition is a number
abbrev pub condition_of : Setting → Scene → ℕ → Operand → Result Number Stop
condition_of e s at x = settle (number_operand e s at x)

-- a condition, and the numbers to which it leads
unfoldable pub head : (TypedOperand → TypedKind) → Setting → ℕ → Operand → ℕ → ℕ → Draft → Result Draft Stop
head leads e at x line next d = condition_of e d.scene at x >>> λ v. Ok (pushed (leads v.operand) line next d)

abbrev pub if_head : ℕ → ℕ → Setting → ℕ → Operand → ℕ → ℕ → Draft → Result Draft Stop
if_head other behind = head (λ v. typed.If v other behind)

abbrev pub while_head : ℕ → Setting → ℕ → Operand → ℕ → ℕ → Draft → Result Draft Stop
while_head behind = head (λ v. typed.While v behind)

-- a block in a scope of its own (ISO C++03 3.3.2)
unfoldable pub scoped : Meaning → Classes → Setting → ℕ → ℕ → Draft → Result Draft Stop
scoped block h e n next d = block.walk h e n next (in_scene (opened d.scene) d) >>> λ new. Ok (in_scene (closed d.scene new.scene) new)

abbrev pub branch : Operand → Meaning → Option Meaning → KindMeaning
branch x block None = record {
  size = 1 + block.size;
  walk = λ h e at line n next d. if_head (n + 1 + block.size) (n + 1 + block.size) e at x line next d >>> scoped block h e (n + 1) next;
}
branch x block (Some other) = record {
  size = 1 + block.size + other.size;
  walk = λ h e at line n next d. if_head (n + 1 + block.size) (n + 1 + block.size + other.size) e at x line next d
      >>> scoped block h e (n + 1) next >>> scoped other h e (n + 1 + block.size) next;
}

-- the block's last statement leads back to the condition
abbrev pub loop : Operand → Meaning → KindMeaning
loop x block = record {
  size = 1 + block.size;
  walk = λ h e at line n next d. while_head (n + 1 + block.size) e at x line next d >>> scoped block h e (n + 1) n;
}

-- a line a kind
abbrev pub kind_step : Layer → KindMeaning
kind_step (layer.Declare ty ty_at x init) = declaration ty ty_at x init
kind_step (layer.Assign x r) = plain (λ h e s at. assign_of h e s at x r)
kind_step (layer.Write place x) = plain (λ h e s at. write_of h e s at place x)
kind_step (layer.Copy to source) = plain (λ h e s at. copy_of e s at to source)
kind_step (layer.Call text) = plain (λ h e s at. call_statement h e s at text)
kind_step (layer.Delete x) = plain (λ h e s at. delete_of e s at x)
kind_step (layer.If x block other) = branch x block other
kind_step (layer.While x block) = loop x block
kind_step (layer.Return x) = plain (λ h e s at. returned_kind h e s at x)
kind_step (layer.Print x) = plain (λ h e s at. print_of e s at x)
kind_step (layer.PrintType x) = plain (λ h e s at. print_type_of h e s at x)
kind_step (layer.PrintView x) = plain (λ h e s at. print_view_of h e s at x)
kind_step (layer.Dump x) = plain (λ h e s at. dump_of e s at x)

abbrev pub statement_step : Statement-F KindMeaning Meaning Meaning → Meaning
statement_step s = record { size = s.kind.size; walk = λ h e n next d. s.kind.walk h e s.at s.line n next d }

abbrev pub sizes : List Meaning → ℕ
sizes [] = 0
sizes (m ∷ ms) = m.size + sizes ms

-- the last statement of a block goes on where the block does
abbrev pub next_of : List Meaning → ℕ → ℕ → ℕ
next_of [] behind follow = follow
next_of (m ∷ ms) behind follow = behind

unfoldable pub walk_all : List Meaning → Classes → Setting → ℕ → ℕ → Draft → Result Draft Stop
walk_all [] h e n follow d = Ok d
walk_all (m ∷ ms) h e n follow d = m.walk h e n (next_of ms (n + m.size) follow) d >>> walk_all ms h e (n + m.size) follow

abbrev pub block_step : BodyTree-F KindMeaning Meaning Meaning → Meaning
block_step b = record { size = sizes b.statements.items; walk = walk_all b.statements.items }

abbrev pub kind_meaning : StatementKind → KindMeaning
kind_meaning = fold-StatementKind KindMeaning Meaning Meaning kind_step block_step statement_step

abbrev pub statement_meaning : Statement → Meaning
statement_meaning = fold-Statement KindMeaning Meaning Meaning kind_step block_step statement_step

-- what a block does
abbrev pub block_meaning : BodyTree → Meaning
block_meaning = fold-BodyTree KindMeaning Meaning Meaning kind_step block_step statement_step

abbrev pub plain_walk : Classes → Setting → ℕ → StatementKind → ℕ → ℕ → Draft → Result Draft Stop
plain_walk h e at k line next d = ended_statement (plain_of h e d.scene at k) line next d
