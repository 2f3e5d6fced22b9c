-- When code is that of a program: each place has its block, and each function its number.
use Rattle.std.specs.Prelude.{◌≡◌, ◌≤◌, ◌+◌, ◌*◌, ℕ, Bool, true, false, nat_eq, not, if◌then◌else◌, Option, Some, None, List, [], ◌∷◌, ◌++◌, length, slice_get}
use Rattle.cxx_hierarchy.specs.declared.records.ClassId.{ClassId}
use Rattle.cxx_overrider.specs.declared.FunctionId.{FunctionId}
use Rattle.cxx_program.specs.declared.statement.Converted.{Converted}
use Rattle.cxx_program.specs.declared.statement.TypedRight.{TypedRight}
use Rattle.cxx_program.specs.declared.statement.TypedRight.TheVariants.{Call as CallRight}
use Rattle.cxx_program.specs.declared.statement.TypedKind.{TypedKind}
use Rattle.cxx_program.specs.declared.statement.TypedKind.TheVariants.{Declare, Assign, Call}
use Rattle.cxx_program.specs.declared.statement.TypedStatement.{TypedStatement}
use Rattle.cxx_program.specs.declared.program.TypedBody.{TypedBody}
use Rattle.path_plan.specs.declared.form.Form.{Form}
use Rattle.abi_slots.specs.declared.code_numbers.BlockKind.{BlockKind}
use Rattle.abi_slots.specs.declared.code_numbers.CodeRow.{CodeRow}
use Rattle.abi_slots.specs.CodeRows.{code_of, AreDistinctRows}
use Rattle.byte_code.specs.declared.code.Block.{Block}
use Rattle.byte_code.specs.declared.code.Code.{Code}
use Rattle.code_ops.specs.Routines.{IsRoutine, function_of_routine, routine_kind}
use Rattle.code_ops.specs.Setups.{Setup, Routine, MainCode, PlanCode, body_of_routine, locals_in}
use Rattle.code_ops.specs.declared.routines.Course.{Course}
use Rattle.code_blocks.specs.Items.{Kind, AtBegin, AtReady, AtInit, AtBody, AtDone, AtEnding, AtBases, AtEnd, Item, Does, Shares, Inherits, Holds}
use Rattle.code_blocks.specs.Blocks.{Place, AtStatement, AtEvent, items, routine_start, statement_ops, closing_ops, event_block}
use Rattle.path_model.specs.States.{is_body}

abbrev pub statement_block : Setup → (Place → ℕ) → Routine → TypedBody → ℕ → Option TypedStatement → Option Block
statement_block x at r body n None = if nat_eq n (length body.statements) then Some (record { ops = closing_ops x at r; line = body.close_line }) else None
statement_block x at r body n (Some statement) = Some (record { ops = statement_ops x at r body n statement; line = statement.line })

abbrev pub body_block : Setup → (Place → ℕ) → Routine → ℕ → Option TypedBody → Option Block
body_block x at r n None = None
body_block x at r n (Some body) = statement_block x at r body n (slice_get body.statements n)

-- the body of a plan has blocks of its own, and so has the end of a constructor's
abbrev pub has_own_block : Bool → Kind → Bool
has_own_block has_body AtBegin = true
has_own_block has_body AtReady = true
has_own_block has_body (AtInit m) = true
has_own_block has_body AtBody = false
has_own_block has_body AtDone = not has_body
has_own_block has_body AtEnding = true
has_own_block has_body AtBases = true
has_own_block has_body AtEnd = true

abbrev pub own_block : Setup → (Place → ℕ) → Course → Form → ClassId → List Item → Option Block
own_block x at course form c [] = None
own_block x at course form c (Does k ∷ left) = if has_own_block (is_body (body_of_routine x (PlanCode course form c))) k then Some (record { ops = event_block x at course form c k left; line = 0 }) else None
own_block x at course form c (Shares v ∷ left) = None
own_block x at course form c (Inherits b ∷ left) = None
own_block x at course form c (Holds way m d n ∷ left) = None

-- the block of a place, if it has one; `at` gives the number of each
abbrev pub block_of : Setup → (Place → ℕ) → Place → Option Block
block_of x at (AtStatement r n) = body_block x at r n (body_of_routine x r)
block_of x at (AtEvent course form c left) = own_block x at course form c left

-- what is left of a plan is an end of it
pub record IsEnd (x : Setup) (course : Course) (form : Form) (c : ClassId) (left : List Item) : Type 0 where
  pub before : List Item
  pub is : before ++ left ≡ items x course form c

-- the place is one of a routine of the program
abbrev pub IsCodePlace : Setup → Place → Type 0
IsCodePlace x (AtStatement r n) = IsRoutine x r
IsCodePlace x (AtEvent course form c left) = IsRoutine x (PlanCode course form c) × IsEnd x course form c left

-- registers

abbrev pub right_arguments : TypedRight → ℕ
right_arguments (CallRight call) = length call.arguments
right_arguments other = 0

abbrev pub converted_arguments : Option Converted → ℕ
converted_arguments None = 0
converted_arguments (Some v) = right_arguments v.right

abbrev pub argument_count : TypedKind → ℕ
argument_count (Declare n v) = converted_arguments v
argument_count (Assign variable v) = right_arguments v.right
argument_count (Call call) = length call.arguments
argument_count other = 0

-- how many registers are free for the ops of a block: seven, and two for each argument
abbrev pub registers_for : Option TypedBody → ℕ → ℕ
registers_for body arguments = locals_in body + 2 + (7 + 2 * arguments)

-- a frame has registers for each routine, and for each of its statements
pub record HasRegisters (x : Setup) (registers : ℕ) : Type 0 where
  pub routine : (r : Routine) → IsRoutine x r → registers_for (body_of_routine x r) 0 ≤ registers
  pub statement : (r : Routine) (body : TypedBody) (n : ℕ) (s : TypedStatement) → IsRoutine x r → body_of_routine x r ≡ Some body → slice_get body.statements n ≡ Some s → registers_for (Some body) (argument_count s.kind) ≤ registers

-- where `main` begins, or 0 without it
abbrev pub main_start : (Place → ℕ) → Option TypedBody → ℕ
main_start at None = 0
main_start at (Some body) = at (AtStatement MainCode 0)

-- the code has the block of each place at its number, and the numbers of the functions are those of the places at which they begin; no two functions begin at one block
pub record IsLowered (x : Setup) (code : Code) (numbers : List CodeRow) : Type 0 where
  pub at : Place → ℕ
  pub each : (p : Place) (b : Block) → IsCodePlace x p → block_of x at p ≡ Some b → slice_get code.blocks (at p) ≡ Some b
  pub start : code.start ≡ main_start at x.program.main
  pub globals : code.globals ≡ length x.program.globals
  pub registers : HasRegisters x code.registers
  pub numbered : (r : Routine) (f : FunctionId) → IsRoutine x r → function_of_routine x r ≡ Some f → code_of numbers f (routine_kind r) ≡ Some (at (routine_start x r))
  pub known : (f : FunctionId) (kind : BlockKind) (n : ℕ) → code_of numbers f kind ≡ Some n → (r : Routine) × IsRoutine x r × (function_of_routine x r ≡ Some f) × (routine_kind r ≡ kind)
  pub rows : AreDistinctRows numbers
  pub apart : (r q : Routine) → IsRoutine x r → IsRoutine x q → at (routine_start x r) ≡ at (routine_start x q) → r ≡ q
