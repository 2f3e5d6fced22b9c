-- The blocks of a program in their order, routine by routine.
use Rattle.std.specs.Prelude.{ℕ, ◌+◌, Option, Some, None, List, [], ◌∷◌, ◌++◌, option_to_list}
use Rattle.std.specs.List.{flat_map}
use Rattle.cxx_hierarchy.specs.declared.records.ClassId.{ClassId}
use Rattle.cxx_program.specs.declared.statement.TypedStatement.{TypedStatement}
use Rattle.cxx_program.specs.declared.program.TypedBody.{TypedBody}
use Rattle.path_plan.specs.declared.form.Form.{Form}
use Rattle.byte_code.specs.declared.code.Block.{Block}
use Rattle.byte_code.specs.declared.op.Op.{Op}
use Rattle.code_ops.specs.declared.routines.Course.{Course}
use Rattle.code_ops.specs.Setups.{Setup, Routine, MainCode, FunctionCode, PlanCode, body_of_routine, spare_register}
use Rattle.code_ops.specs.Arguments.{block_in}
use Rattle.code_ops.specs.Uses.{check_ops}
use Rattle.code_statements.specs.Statements.{kind_front, kind_used, kind_ops}
use Rattle.code_statements.specs.invariants.Fits.{routine_of}
use Rattle.code_blocks.specs.Items.{Item}
use Rattle.code_blocks.specs.Blocks.{Place, items, statement_ops, closing_ops}
use Rattle.code_blocks.specs.Lowered.{own_block}
use Rattle.code_plans.specs.declared.plan_sites.ClassPlan.{ClassPlan}
use Rattle.abi_lower.specs.invariants.Numbers.{plan_routines, routines, block_number}

-- the blocks of the own events of what is left of a plan
abbrev pub event_blocks : Setup → (Place → ℕ) → Course → Form → ClassId → List Item → List Block
event_blocks x at course form c [] = []
event_blocks x at course form c (i ∷ left) = option_to_list (own_block x at course form c (i ∷ left)) ++ event_blocks x at course form c left

unfoldable pub plan_blocks : Setup → (Place → ℕ) → Routine → List Block
plan_blocks x at MainCode = []
plan_blocks x at (FunctionCode f) = []
plan_blocks x at (PlanCode course form c) = event_blocks x at course form c (items x course form c)

abbrev pub end_block : Setup → (Place → ℕ) → Routine → TypedBody → Block
end_block x at r body = record { ops = closing_ops x at r; line = body.close_line }

-- the blocks of these statements of a body, the first of which has the number n, and of its end
abbrev pub statement_blocks : Setup → (Place → ℕ) → Routine → TypedBody → ℕ → List TypedStatement → List Block
statement_blocks x at r body n [] = end_block x at r body ∷ []
statement_blocks x at r body n (s ∷ list) = record { ops = statement_ops x at r body n s; line = s.line } ∷ statement_blocks x at r body (n + 1) list

-- the block of the first of these items of a plan, if it has one
abbrev pub item_blocks : Setup → ClassPlan → List Item → List Block
item_blocks x plan items = option_to_list (own_block x (block_number x) plan.course plan.form plan.class items)

-- the blocks of all statements of a body, and of its end
abbrev pub run_of_body : Setup → Routine → TypedBody → List Block
run_of_body x r body = statement_blocks x (block_number x) r body 0 body.statements

-- the block of the end of a body
abbrev pub last_block : Setup → Routine → TypedBody → Block
last_block x r body = end_block x (block_number x) r body

abbrev pub blocks_of_body : Setup → (Place → ℕ) → Routine → Option TypedBody → List Block
blocks_of_body x at r None = []
blocks_of_body x at r (Some body) = statement_blocks x at r body 0 body.statements

unfoldable pub routine_blocks : Setup → Routine → List Block
routine_blocks x r = plan_blocks x (block_number x) r ++ blocks_of_body x (block_number x) r (body_of_routine x r)

-- those of the plans of a class
abbrev pub class_blocks : Setup → ClassId → List Block
class_blocks x c = flat_map (routine_blocks x) (plan_routines c)

unfoldable pub all_blocks : Setup → List Block
all_blocks x = flat_map (routine_blocks x) (routines x)

-- the ops of a statement, where routines begin at the blocks that `at` gives, and the body at block `base`
abbrev pub made_ops : Setup → (Routine → ℕ) → TypedBody → (base n : ℕ) → TypedStatement → List Op
made_ops x at body base n s =
    kind_front (block_in x body) (spare_register (Some body)) s.kind
    ++ (check_ops (kind_used (block_in x body) s.kind)
    ++ kind_ops (block_in x body) at (routine_of body.owner) (λ m. base + m) n s.next s.kind)
