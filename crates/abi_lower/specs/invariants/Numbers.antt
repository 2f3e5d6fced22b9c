-- Where the code of each place stands: the routines of a program one after the other, each with its plan's own events first and then its body.
use Rattle.std.specs.Prelude.{ℕ, ◌+◌, ◌-◌, Bool, false, Option, Some, None, List, [], ◌∷◌, ◌++◌, length, map}
use Rattle.std.specs.List.{flat_map, sum_by, count_by}
use Rattle.cxx_hierarchy.specs.declared.records.ClassId.{ClassId}
use Rattle.cxx_overrider.specs.declared.FunctionId.{FunctionId}
use Rattle.cxx_program.specs.declared.program.Owner.{Owner}
use Rattle.cxx_program.specs.declared.program.Owner.TheVariants.{Main, Function, Constructor, Destructor}
use Rattle.cxx_program.specs.declared.program.TypedBody.{TypedBody}
use Rattle.cxx_program.specs.declared.program.TypedProgram.{TypedProgram}
use Rattle.path_plan.specs.declared.form.Form.TheVariants.{InFull, AsBase}
use Rattle.path_plan.specs.Plans.{upto}
use Rattle.abi_slots.specs.declared.code_numbers.BlockKind.{BlockKind}
use Rattle.abi_slots.specs.declared.code_numbers.CodeRow.{CodeRow}
use Rattle.code_ops.specs.declared.routines.Course.TheVariants.{Constructs, Destroys, Deletes}
use Rattle.code_ops.specs.Setups.{Setup, Routine, MainCode, FunctionCode, PlanCode, body_of_routine}
use Rattle.code_ops.specs.Routines.{function_of_routine, routine_kind, start_by}
use Rattle.code_blocks.specs.Items.{Item, Does, Shares, Inherits, Holds}
use Rattle.code_blocks.specs.Blocks.{Place, AtStatement, AtEvent, items}
use Rattle.code_blocks.specs.Lowered.{has_own_block}
use Rattle.abi_lower.specs.Bounds.{body_blocks}
use Rattle.path_model.specs.States.{is_body}

-- the routines of a program, in the order of their code

abbrev pub main_routines : Option TypedBody → List Routine
main_routines None = []
main_routines (Some body) = MainCode ∷ []

-- a body of a function is a routine of its own; those of constructors and destructors are run by plans
abbrev pub owned_routines : Owner → List Routine
owned_routines Main = []
owned_routines (Function f) = FunctionCode f ∷ []
owned_routines (Constructor c) = []
owned_routines (Destructor c) = []

-- `main` and the functions
abbrev pub plain_routines : TypedProgram → List Routine
plain_routines program = main_routines program.main ++ flat_map (λ (body : TypedBody). owned_routines body.owner) program.bodies

-- the plans of a class, by which it is constructed and destroyed
abbrev pub built_routines : ClassId → List Routine
built_routines c = PlanCode Constructs InFull c ∷ PlanCode Constructs AsBase c ∷ []

abbrev pub ended_routines : ClassId → List Routine
ended_routines c = PlanCode Destroys InFull c ∷ PlanCode Destroys AsBase c ∷ PlanCode Deletes InFull c ∷ []

abbrev pub plan_routines : ClassId → List Routine
plan_routines c = built_routines c ++ ended_routines c

abbrev pub class_ids : ℕ → List ClassId
class_ids n = map (λ i. record { 0 = i }) (upto n)

unfoldable pub routines : Setup → List Routine
routines x = main_routines x.program.main ++ (flat_map (λ (body : TypedBody). owned_routines body.owner) x.program.bodies ++ flat_map plan_routines (class_ids (length x.h)))

-- how many blocks they have

abbrev pub is_own_item : Bool → Item → Bool
is_own_item has (Does k) = has_own_block has k
is_own_item has (Shares v) = false
is_own_item has (Inherits b) = false
is_own_item has (Holds way m d n) = false

-- how many of these items have blocks of their own
unfoldable pub own_count : Bool → List Item → ℕ
own_count has left = count_by (is_own_item has) left

unfoldable pub own_events : Setup → Routine → ℕ
own_events x MainCode = 0
own_events x (FunctionCode f) = 0
own_events x (PlanCode course form c) = own_count (is_body (body_of_routine x (PlanCode course form c))) (items x course form c)

unfoldable pub blocks_in : Setup → Routine → ℕ
blocks_in x r = own_events x r + body_blocks (body_of_routine x r)

unfoldable pub block_count : Setup → ℕ
block_count x = sum_by (blocks_in x) (routines x)

-- where they begin

abbrev pub routine_row : BlockKind → ℕ → Option FunctionId → List CodeRow
routine_row kind n None = []
routine_row kind n (Some f) = record { function = f; kind = kind; code = n } ∷ []

-- the numbers of these routines, the first of which begins at block n
abbrev pub code_rows_from : Setup → ℕ → List Routine → List CodeRow
code_rows_from x n [] = []
code_rows_from x n (r ∷ list) = routine_row (routine_kind r) n (function_of_routine x r) ++ code_rows_from x (n + blocks_in x r) list

unfoldable pub code_rows : Setup → List CodeRow
code_rows x = code_rows_from x 0 (routines x)

-- the number of the block of a place: behind the routine's first block stand its plan's own events up to it, or all of them and the statements before it
unfoldable pub block_number : Setup → Place → ℕ
block_number x (AtStatement r n) = start_by x (code_rows x) r + own_events x r + n
block_number x (AtEvent course form c left) = start_by x (code_rows x) (PlanCode course form c) + (own_events x (PlanCode course form c) - own_count (is_body (body_of_routine x (PlanCode course form c))) left)
