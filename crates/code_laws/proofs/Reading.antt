-- What is read before the tests: operands, and those of arguments.
use Rattle.std.proofs.Common.{ℕ, suc, List, [], ◌∷◌, ◌++◌, refl}
use Rattle.cxx_program.specs.declared.operand.Argument.{Argument}
use Rattle.cxx_program.specs.declared.operand.Variable.TheVariants.{Global, Local}
use Rattle.cxx_program.specs.declared.operand.TypedOperand.{TypedOperand}
use Rattle.cxx_program.specs.declared.operand.TypedOperand.TheVariants.{Variable as VariableOperand, This, Number as NumberOperand}
use Rattle.cxx_program.specs.declared.statement.TypedCall.{TypedCall}
use Rattle.cxx_program.specs.declared.statement.TypedKind.{TypedKind}
use Rattle.cxx_program.specs.declared.statement.TypedRight.{TypedRight}
use Rattle.cxx_program.specs.declared.statement.TypedRight.TheVariants.{Operand, Arithmetic, SamePointer, Not, Read, Address, Call, New, Cast, TypeEqual}
use Rattle.code_ops.specs.Setups.{Routine}
use Rattle.code_ops.specs.Operands.{operand_ops}
use Rattle.code_ops.specs.Arguments.{Block, free, argument_read, arguments_front}
use Rattle.code_statements.specs.Rights.{call_front, right_front}
use Rattle.code_laws.proofs.Every.{AllMay, no_op, last_op, both_may}

pub operand_may : (r : Routine) (k : TypedKind) (n : ℕ) (p : TypedOperand) → AllMay r k (operand_ops n p)
operand_may r k n (VariableOperand (Global m)) = last_op refl
operand_may r k n (VariableOperand (Local m)) = no_op
operand_may r k n This = no_op
operand_may r k n (NumberOperand z) = last_op refl

pub two_may : (r : Routine) (k : TypedKind) (m n : ℕ) (p q : TypedOperand) → AllMay r k (operand_ops m p ++ operand_ops n q)
two_may r k m n p q = both_may (operand_may r k m p) (operand_may r k n q)

arguments_may : (r : Routine) (k : TypedKind) (b : Block) (n : ℕ) (list : List Argument) → AllMay r k (arguments_front b n list)
arguments_may r k b n [] = no_op
arguments_may r k b n (a ∷ list) = both_may (operand_may r k (argument_read b n) a.operand) (arguments_may r k b (suc n) list)

pub call_front_may : (r : Routine) (k : TypedKind) (b : Block) (call : TypedCall) → AllMay r k (call_front b call)
call_front_may r k b call = both_may (operand_may r k (free b 0) call.pointer) (arguments_may r k b 0 call.arguments)

pub right_front_may : (r : Routine) (k : TypedKind) (b : Block) (right : TypedRight) → AllMay r k (right_front b right)
right_front_may r k b (Operand p) = operand_may r k (free b 0) p
right_front_may r k b (Arithmetic op t p q) = two_may r k (free b 0) (free b 1) p q
right_front_may r k b (SamePointer differ p q) = two_may r k (free b 0) (free b 1) p.operand q.operand
right_front_may r k b (Not p) = operand_may r k (free b 0) p
right_front_may r k b (Read place) = operand_may r k (free b 0) place.pointer
right_front_may r k b (Address place d) = operand_may r k (free b 0) place.pointer
right_front_may r k b (Call call) = call_front_may r k b call
right_front_may r k b (New d) = no_op
right_front_may r k b (Cast cast p) = operand_may r k (free b 0) p
right_front_may r k b (TypeEqual p d) = operand_may r k (free b 0) p
