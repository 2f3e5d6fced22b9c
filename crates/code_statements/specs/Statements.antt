-- The block of a statement: what is read before the tests, what is tested, and what is done.
use Rattle.std.specs.Prelude.{ℕ, ℤ, pos, negsuc, ◌+◌, Bool, true, false, Option, Some, None, List, [], ◌∷◌, ◌++◌}
use Rattle.cxx_hierarchy.specs.declared.records.ClassId.{ClassId}
use Rattle.cxx_hierarchy.specs.declared.records.Scalar.TheVariants.{Int}
use Rattle.cxx_hierarchy.specs.declared.records.ValueType.{ValueType}
use Rattle.cxx_hierarchy.specs.declared.records.ValueType.TheVariants.{Number as NumberType, Pointer as PointerType}
use Rattle.cxx_overrider.specs.Functions.{return_of, pointee}
use Rattle.cxx_overrider.specs.Virtuals.{is_virtual}
use Rattle.cxx_search.specs.Searches.{destructor_of}
use Rattle.cxx_program.specs.declared.operand.Argument.{Argument}
use Rattle.cxx_program.specs.declared.operand.Variable.TheVariants.{Local}
use Rattle.cxx_program.specs.declared.statement.Converted.{Converted}
use Rattle.cxx_program.specs.declared.statement.TypedKind.{TypedKind}
use Rattle.cxx_program.specs.declared.statement.TypedKind.TheVariants.{Declare, Assign, Write, Copy, Call, Delete, If, While, Return, Print, PrintType, PrintView, Dump}
use Rattle.cxx_program.specs.declared.operand.TypedOperand.{TypedOperand}
use Rattle.cxx_program.specs.declared.operand.TypedOperand.TheVariants.{Variable as VariableOperand, This, Number as NumberOperand}
use Rattle.cxx_program.specs.Typed.{Scope, variable_type}
use Rattle.path_plan.specs.declared.form.Form.TheVariants.{InFull}
use Rattle.path_model.specs.Effects.{block_at}
use Rattle.abi_slots.specs.Listing.{entry_number, entry_key}
use Rattle.abi_slots.specs.declared.words.CodeKind.TheVariants.{Deleting}
use Rattle.byte_code.specs.declared.op.Finish.TheVariants.{Move}
use Rattle.byte_code.specs.declared.op.Op.{Op}
use Rattle.byte_code.specs.declared.op.Op.TheVariants.{Does as DoesOp, Print as PrintOp, Dump as DumpOp, TypeOf, Top, DeleteEntry, DeleteCode, Jump, JumpIf, Return as ReturnOp, End}
use Rattle.byte_code.specs.declared.width.Width.{Width}
use Rattle.byte_code.specs.declared.op.PrintAs.{PrintAs}
use Rattle.byte_code.specs.declared.op.PrintAs.TheVariants.{Number as AsNumber, Address as AsAddress, Class as AsClass}
use Rattle.code_ops.specs.Setups.{Setup, places, Routine, MainCode, FunctionCode, PlanCode, local_register, register_width, word_width}
use Rattle.code_ops.specs.declared.routines.Course.TheVariants.{Deletes}
use Rattle.code_ops.specs.Operands.{operand_ops, operand_register, ops_of}
use Rattle.code_ops.specs.declared.uses.Used.{Used}
use Rattle.code_ops.specs.declared.uses.Used.TheVariants.{Follows, Guards, Views, Deletes as DeletesUse, Dumps}
use Rattle.code_ops.specs.Uses.{reads, arrow_used, views_if}
use Rattle.code_ops.specs.PlaceOps.{place_ops, place_used}
use Rattle.code_ops.specs.Leaves.{place_leaf, store_op}
use Rattle.code_ops.specs.Arguments.{Block, free, argument_front, argument_used, argument_ops}
use Rattle.code_statements.specs.CopyTests.{copy_front, copy_used}
use Rattle.code_statements.specs.CopyOps.{copy_ops}
use Rattle.code_statements.specs.Rights.{right_front, right_used, right_ops, call_front, call_used, call_ops, unused}

abbrev pub print_as : Option (ValueType ClassId) → PrintAs
print_as None = AsNumber (register_width Int)
print_as (Some (NumberType t)) = AsNumber (register_width t)
print_as (Some (PointerType c)) = AsAddress

-- a number that is written is printed whole, by its sign
abbrev pub written_width : ℤ → Width
written_width (pos a) = word_width
written_width (negsuc a) = record { bytes = 8; signed = true }

-- the type of what a statement prints: that of a variable
abbrev pub operand_print : Scope → TypedOperand → PrintAs
operand_print e (VariableOperand x) = print_as (variable_type e x)
operand_print e This = AsAddress
operand_print e (NumberOperand z) = AsNumber (written_width z)

abbrev pub declared_front : Block → ℕ → ℕ → Option Converted → List Op
declared_front b spare n None = DoesOp (Move (local_register n) spare) ∷ []
declared_front b spare n (Some v) = DoesOp (Move (local_register n) spare) ∷ right_front b v.right

abbrev pub declared_used : Block → Option Converted → List Used
declared_used b None = []
declared_used b (Some v) = right_used b v.right v.conversion

abbrev pub declared_ops : Block → (Routine → ℕ) → ℕ → Option Converted → List Op
declared_ops b at n None = []
declared_ops b at n (Some v) = right_ops b at (Local n) v.right v.conversion

abbrev pub returned_front : Block → Option Argument → List Op
returned_front b None = []
returned_front b (Some a) = argument_front a (free b 0)

abbrev pub returned_used : Block → Option Argument → List Used
returned_used b None = []
returned_used b (Some a) = argument_used b a (free b 0)

abbrev pub class_number : Option ClassId → Option ℕ
class_number None = None
class_number (Some c) = Some c.0

-- the class to which the result of a routine points
abbrev pub routine_class : Setup → Routine → Option ℕ
routine_class x MainCode = None
routine_class x (FunctionCode f) = class_number (pointee (return_of x.h f))
routine_class x (PlanCode course form c) = None

-- `main` ends the program; a function returns its result
abbrev pub returned_ops : Block → Routine → Option Argument → List Op
returned_ops b MainCode a = End ∷ []
returned_ops b (FunctionCode f) None = ReturnOp None None ∷ []
returned_ops b (FunctionCode f) (Some a) = ops_of (argument_ops b a (free b 1) (free b 0)) ++ (ReturnOp (Some (free b 1)) (routine_class b.x (FunctionCode f)) ∷ [])
returned_ops b (PlanCode course form c) a = []

-- what a statement reads before its tests
abbrev pub kind_front : Block → ℕ → TypedKind → List Op
kind_front b spare (Declare n v) = declared_front b spare n v
kind_front b spare (Assign variable v) = right_front b v.right
kind_front b spare (Write place a) = operand_ops (free b 0) place.pointer ++ argument_front a (free b 1)
kind_front b spare (Copy to from c) = copy_front b to from
kind_front b spare (Call call) = call_front b call
kind_front b spare (Delete p c) = operand_ops (free b 0) p
kind_front b spare (If p other behind) = operand_ops (free b 0) p
kind_front b spare (While p behind) = operand_ops (free b 0) p
kind_front b spare (Return a) = returned_front b a
kind_front b spare (Print p) = operand_ops (free b 0) p
kind_front b spare (PrintType p c) = operand_ops (free b 0) p
kind_front b spare (PrintView p c) = operand_ops (free b 0) p
kind_front b spare (Dump p c) = operand_ops (free b 0) p

-- what is tested of it
abbrev pub kind_used : Block → TypedKind → List Used
kind_used b (Declare n v) = declared_used b v
kind_used b (Assign variable v) = right_used b v.right v.conversion
kind_used b (Write place a) = place_used b.x b.scope place (free b 0) ++ argument_used b a (free b 1)
kind_used b (Copy to from c) = copy_used b to from c
kind_used b (Call call) = call_used b call
kind_used b (Delete p c) =
    reads b.scope (free b 0) p
    ++ (Guards (operand_register (free b 0) p) 0 c.0 ∷ (views_if (is_virtual b.x.h (destructor_of b.x.h c)) (operand_register (free b 0) p) 0 c ++ (DeletesUse (operand_register (free b 0) p) c.0 (is_virtual b.x.h (destructor_of b.x.h c)) ∷ [])))
kind_used b (If p other behind) = reads b.scope (free b 0) p
kind_used b (While p behind) = reads b.scope (free b 0) p
kind_used b (Return a) = returned_used b a
kind_used b (Print p) = reads b.scope (free b 0) p
kind_used b (PrintType p c) = arrow_used b.scope (free b 0) p c ++ (Views (operand_register (free b 0) p) 0 c.0 ∷ [])
kind_used b (PrintView p c) = reads b.scope (free b 0) p ++ (Guards (operand_register (free b 0) p) 0 c.0 ∷ Views (operand_register (free b 0) p) 0 c.0 ∷ [])
kind_used b (Dump p c) = reads b.scope (free b 0) p ++ (Follows (operand_register (free b 0) p) ∷ Dumps (operand_register (free b 0) p) ∷ [])

-- a `delete` runs the deleting destructor: that of the view, or without dispatch that of the class
abbrev pub delete_op : Block → (Routine → ℕ) → Bool → ClassId → ℕ → Op
delete_op b at true c r = DeleteEntry r (entry_number b.x.h (places b.x) (entry_key (destructor_of b.x.h c) Deleting))
delete_op b at false c r = DeleteCode r (at (PlanCode Deletes InFull c))

-- what it does: `at` gives the number of the first block of a routine, `to` that of a statement of the same body; n is the number of the statement, and next that of the one to which control goes on
abbrev pub kind_ops : Block → (Routine → ℕ) → Routine → (ℕ → ℕ) → (n next : ℕ) → TypedKind → List Op
kind_ops b at r to n next (Declare m v) = declared_ops b at m v ++ (Jump (to next) ∷ [])
kind_ops b at r to n next (Assign variable v) = right_ops b at variable v.right v.conversion ++ (Jump (to next) ∷ [])
kind_ops b at r to n next (Write place a) =
    ops_of (place_ops b.x place (free b 2) (operand_register (free b 0) place.pointer)) ++ (ops_of (argument_ops b a (free b 3) (free b 1)) ++ (store_op (place_leaf b.x place) (free b 3) (free b 2) 0 ∷ Jump (to next) ∷ []))
kind_ops b at r to n next (Copy p q c) = copy_ops b p q c ++ (Jump (to next) ∷ [])
kind_ops b at r to n next (Call call) = call_ops b at call (unused b.x call.function) ++ (Jump (to next) ∷ [])
kind_ops b at r to n next (Delete p c) = delete_op b at (is_virtual b.x.h (destructor_of b.x.h c)) c (operand_register (free b 0) p) ∷ Jump (to next) ∷ []
kind_ops b at r to n next (If p other behind) = Jump (to (block_at other behind next)) ∷ JumpIf (operand_register (free b 0) p) (to (block_at (n + 1) other next)) ∷ []
kind_ops b at r to n next (While p behind) = Jump (to next) ∷ JumpIf (operand_register (free b 0) p) (to (block_at (n + 1) behind n)) ∷ []
kind_ops b at r to n next (Return a) = returned_ops b r a
kind_ops b at r to n next (Print p) = PrintOp (operand_register (free b 0) p) (operand_print b.scope p) ∷ Jump (to next) ∷ []
kind_ops b at r to n next (PrintType p c) = TypeOf (free b 1) (operand_register (free b 0) p) ∷ PrintOp (free b 1) AsClass ∷ Jump (to next) ∷ []
kind_ops b at r to n next (PrintView p c) = Top (free b 1) (operand_register (free b 0) p) ∷ PrintOp (free b 1) AsAddress ∷ Jump (to next) ∷ []
kind_ops b at r to n next (Dump p c) = DumpOp (operand_register (free b 0) p) ∷ Jump (to next) ∷ []
