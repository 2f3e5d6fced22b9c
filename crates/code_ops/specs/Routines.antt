-- The routines of a program, the functions whose code they are, and where their code begins.
use Rattle.std.specs.Prelude.{◌≡◌, ℕ, ◌+◌, ◌<◌, true, Option, Some, None, List, length}
use Rattle.path_model.specs.States.{is_body}
use Rattle.cxx_hierarchy.specs.declared.records.ClassId.{ClassId}
use Rattle.cxx_hierarchy.specs.Classes.{Classes, functions_of}
use Rattle.cxx_overrider.specs.declared.FunctionId.{FunctionId}
use Rattle.cxx_search.specs.Searches.{destructor_of}
use Rattle.path_plan.specs.declared.form.Form.{Form}
use Rattle.path_plan.specs.declared.form.Form.TheVariants.{InFull, AsBase}
use Rattle.abi_slots.specs.declared.code_numbers.BlockKind.{BlockKind}
use Rattle.abi_slots.specs.declared.code_numbers.BlockKind.TheVariants.{Plain, BuildComplete, BuildBase, EndComplete, EndBase, EndDeleting}
use Rattle.abi_slots.specs.declared.code_numbers.CodeRow.{CodeRow}
use Rattle.abi_slots.specs.CodeRows.{code_of}
use Rattle.code_ops.specs.declared.routines.Course.{Course}
use Rattle.code_ops.specs.declared.routines.Course.TheVariants.{Constructs, Destroys, Deletes}
use Rattle.code_ops.specs.Setups.{Setup, Routine, MainCode, FunctionCode, PlanCode, body_of_routine}

-- a base is deleted by no plan of its own
abbrev pub IsCourse : Course → Form → Type 0
IsCourse Constructs form = Unit {0}
IsCourse Destroys form = Unit {0}
IsCourse Deletes form = form ≡ InFull

-- the routine is one of the program
abbrev pub IsRoutine : Setup → Routine → Type 0
IsRoutine x MainCode = is_body (body_of_routine x MainCode) ≡ true
IsRoutine x (FunctionCode f) = is_body (body_of_routine x (FunctionCode f)) ≡ true
IsRoutine x (PlanCode course form c) = (c.0 < length x.h) × IsCourse course form

-- numbers of functions: a constructor has the index after its class's destructor

abbrev pub constructor_of : Classes → ClassId → FunctionId
constructor_of h c = record { class = c; index = length (functions_of h c) + 1 }

abbrev pub plan_function : Classes → Course → ClassId → FunctionId
plan_function h Constructs c = constructor_of h c
plan_function h Destroys c = destructor_of h c
plan_function h Deletes c = destructor_of h c

abbrev pub function_of_routine : Setup → Routine → Option FunctionId
function_of_routine x MainCode = None
function_of_routine x (FunctionCode f) = Some f
function_of_routine x (PlanCode course form c) = Some (plan_function x.h course c)

abbrev pub plan_kind : Course → Form → BlockKind
plan_kind Constructs InFull = BuildComplete
plan_kind Constructs AsBase = BuildBase
plan_kind Destroys InFull = EndComplete
plan_kind Destroys AsBase = EndBase
plan_kind Deletes form = EndDeleting

abbrev pub routine_kind : Routine → BlockKind
routine_kind MainCode = Plain
routine_kind (FunctionCode f) = Plain
routine_kind (PlanCode course form c) = plan_kind course form

-- the block at which a function's code begins, by the numbers of all code; what has no number begins at the first block
abbrev pub number_or_first : Option ℕ → ℕ
number_or_first None = 0
number_or_first (Some n) = n

abbrev pub start_of_function : List CodeRow → BlockKind → Option FunctionId → ℕ
start_of_function numbers kind None = 0
start_of_function numbers kind (Some f) = number_or_first (code_of numbers f kind)

-- the block at which a routine begins: `main` begins at the first one
abbrev pub start_by : Setup → List CodeRow → Routine → ℕ
start_by x numbers r = start_of_function numbers (routine_kind r) (function_of_routine x r)
