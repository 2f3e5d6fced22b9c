-- Arguments: values that are read and converted; and what follows the ops of a right side.
use Rattle.std.specs.Prelude.{ℕ, suc, ◌+◌, ◌*◌, Option, Some, List, [], ◌∷◌, ◌++◌}
use Rattle.cxx_hierarchy.specs.declared.records.ClassId.{ClassId}
use Rattle.cxx_program.specs.declared.operand.TypedOperand.{TypedOperand}
use Rattle.cxx_program.specs.declared.operand.Argument.{Argument}
use Rattle.cxx_program.specs.declared.operand.Conversion.{Conversion}
use Rattle.cxx_program.specs.declared.operand.Variable.{Variable}
use Rattle.cxx_program.specs.declared.program.TypedBody.{TypedBody}
use Rattle.cxx_program.specs.Typed.{Scope, scope_of}
use Rattle.path_model.specs.Outs.{class_or_first}
use Rattle.byte_code.specs.declared.op.Finish.{Finish}
use Rattle.byte_code.specs.declared.op.Op.{Op}
use Rattle.code_ops.specs.Setups.{Setup, free_register}
use Rattle.code_ops.specs.Operands.{operand_class, operand_ops, operand_register, converted_ops, assign_op}
use Rattle.code_ops.specs.declared.uses.Used.{Used}
use Rattle.code_ops.specs.Uses.{check_list, reads, convert_used}

-- where the free registers of a block are, and what its body may name
pub record Block : Type 0 where
  pub x : Setup
  pub scope : Scope
  pub free : ℕ

-- those of a statement of a body
abbrev pub block_in : Setup → TypedBody → Block
block_in x body = record { x = x; scope = scope_of x.h x.program.globals body; free = free_register (Some body) 0 }

abbrev pub free : Block → ℕ → ℕ
free b n = b.free + n

-- the class that an operand points to; what no typed program has is the first class
abbrev pub pointed_class : Block → TypedOperand → ClassId
pointed_class b operand = class_or_first (operand_class b.scope operand)

-- arguments: a value that is read into one register, and converted into another

abbrev pub argument_front : Argument → ℕ → List Op
argument_front a r = operand_ops r a.operand

abbrev pub argument_used : Block → Argument → ℕ → List Used
argument_used b a r = reads b.scope r a.operand ++ convert_used (operand_class b.scope a.operand) a.conversion (operand_register r a.operand)

abbrev pub argument_ops : Block → Argument → (to r : ℕ) → List Finish
argument_ops b a to r = converted_ops b.x (operand_class b.scope a.operand) a.conversion to (operand_register r a.operand)

-- what follows the ops of a right side: its value is in a register, of class `class` if it is a pointer, and is converted and given to the variable

abbrev pub taken_ops : Block → Variable → Option ClassId → Conversion → (to from : ℕ) → List Finish
taken_ops b variable class conversion to from = converted_ops b.x class conversion to from ++ (assign_op variable to ∷ [])

-- the same, with the tests of a conversion whose value was just made
abbrev pub checked_taken : Block → Variable → Option ClassId → Conversion → (to from : ℕ) → List Finish
checked_taken b variable class conversion to from = check_list (convert_used class conversion from) ++ taken_ops b variable class conversion to from

-- the arguments of a call, each with the registers of its value and of its converted value

abbrev pub argument_read : Block → ℕ → ℕ
argument_read b n = free b (5 + 2 * n)

abbrev pub argument_converted : Block → ℕ → ℕ
argument_converted b n = free b (6 + 2 * n)

abbrev pub arguments_front : Block → ℕ → List Argument → List Op
arguments_front b n [] = []
arguments_front b n (a ∷ arguments) = argument_front a (argument_read b n) ++ arguments_front b (suc n) arguments

abbrev pub arguments_used : Block → ℕ → List Argument → List Used
arguments_used b n [] = []
arguments_used b n (a ∷ arguments) = argument_used b a (argument_read b n) ++ arguments_used b (suc n) arguments

abbrev pub arguments_ops : Block → ℕ → List Argument → List Finish
arguments_ops b n [] = []
arguments_ops b n (a ∷ arguments) = argument_ops b a (argument_converted b n) (argument_read b n) ++ arguments_ops b (suc n) arguments

abbrev pub arguments_registers : Block → ℕ → List Argument → List ℕ
arguments_registers b n [] = []
arguments_registers b n (a ∷ arguments) = argument_converted b n ∷ arguments_registers b (suc n) arguments
