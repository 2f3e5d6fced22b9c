-- The ops of statements, and of their blocks in the code of a program.
use Rattle.std.proofs.Common.{◌≡◌, ℕ, Bool, true, false, Some, None, List, refl, ap, ◌∙◌}
use Rattle.cxx_hierarchy.specs.declared.records.ClassId.{ClassId}
use Rattle.cxx_search.specs.Searches.{destructor_of}
use Rattle.cxx_overrider.specs.Virtuals.{is_virtual}
use Rattle.cxx_program.specs.declared.operand.Variable.TheVariants.{Local}
use Rattle.cxx_program.specs.declared.program.TypedBody.{TypedBody}
use Rattle.cxx_program.specs.declared.statement.TypedKind.{TypedKind}
use Rattle.cxx_program.specs.declared.statement.TypedKind.TheVariants.{Declare, Assign, Write, Copy, Call, Delete, If, While, Return, Print, PrintType, PrintView, Dump}
use Rattle.cxx_program.specs.declared.statement.TypedStatement.{TypedStatement}
use Rattle.abi_slots.specs.declared.code_numbers.CodeRow.{CodeRow}
use Rattle.byte_code.specs.declared.code.Code.{Code}
use Rattle.code_ops.specs.declared.widths.LeafWidth.{LeafWidth}
use Rattle.code_ops.specs.declared.widths.LeafWidth.TheVariants.{Bytes as InBytes, Bits as InBits}
use Rattle.code_ops.specs.Leaves.{place_leaf, store_op}
use Rattle.code_ops.specs.Setups.{Setup, Routine, MainCode, FunctionCode, PlanCode, spare_register}
use Rattle.code_ops.specs.Operands.{operand_register}
use Rattle.code_ops.specs.PlaceOps.{place_ops}
use Rattle.code_ops.specs.Uses.{check_list}
use Rattle.code_ops.specs.Arguments.{Block, block_in, free, argument_ops}
use Rattle.code_statements.specs.Rights.{unused}
use Rattle.code_statements.specs.Statements.{kind_front, kind_used, kind_ops, delete_op}
use Rattle.code_blocks.specs.Blocks.{Place, AtStatement, routine_start, statement_ops}
use Rattle.code_blocks.specs.Lowered.{IsLowered, body_block, statement_block}
use Rattle.code_laws.specs.Kinds.{is_write, is_delete, AllMayStand, IsNthStatement, HasSuchBlock}
use Rattle.code_laws.proofs.Every.{May, AllMay, one_op, no_op, last_op, all_may, both_may, done_may}
use Rattle.code_laws.proofs.Reading.{operand_may, two_may, call_front_may, right_front_may}
use Rattle.code_laws.proofs.Copying.{copies_may}
use Rattle.code_laws.proofs.RightOps.{call_may, right_may}

front_may : (r : Routine) (b : Block) (spare : ℕ) (k : TypedKind) → AllMay r k (kind_front b spare k)
front_may r b spare (Declare n None) = last_op refl
front_may r b spare (Declare n (Some v)) = one_op refl (right_front_may r (Declare n (Some v)) b v.right)
front_may r b spare (Assign variable v) = right_front_may r (Assign variable v) b v.right
front_may r b spare (Write place a) = two_may r (Write place a) (free b 0) (free b 1) place.pointer a.operand
front_may r b spare (Copy to from c) = two_may r (Copy to from c) (free b 0) (free b 1) to from
front_may r b spare (Call call) = call_front_may r (Call call) b call
front_may r b spare (Delete p c) = operand_may r (Delete p c) (free b 0) p
front_may r b spare (If p other behind) = operand_may r (If p other behind) (free b 0) p
front_may r b spare (While p behind) = operand_may r (While p behind) (free b 0) p
front_may r b spare (Return None) = no_op
front_may r b spare (Return (Some a)) = operand_may r (Return (Some a)) (free b 0) a.operand
front_may r b spare (Print p) = operand_may r (Print p) (free b 0) p
front_may r b spare (PrintType p c) = operand_may r (PrintType p c) (free b 0) p
front_may r b spare (PrintView p c) = operand_may r (PrintView p c) (free b 0) p
front_may r b spare (Dump p c) = operand_may r (Dump p c) (free b 0) p

store_may : (r : Routine) (k : TypedKind) → is_write k ≡ true → (leaf : LeafWidth) (from base offset : ℕ) → May r k (store_op leaf from base offset)
store_may r k is (InBytes width) from base offset = is
store_may r k is (InBits first width) from base offset = is

delete_may : (r : Routine) (k : TypedKind) → is_delete k ≡ true → (b : Block) (at : Routine → ℕ) (way : Bool) (c : ClassId) (n : ℕ) → May r k (delete_op b at way c n)
delete_may r k is b at true c n = is
delete_may r k is b at false c n = is

does_may : (b : Block) (at : Routine → ℕ) (r : Routine) (to : ℕ → ℕ) (n next : ℕ) (k : TypedKind) → AllMay r k (kind_ops b at r to n next k)
does_may b at r to n next (Declare m None) = last_op refl
does_may b at r to n next (Declare m (Some v)) = both_may (right_may r (Declare m (Some v)) b at (Local m) v.right v.conversion refl refl) (last_op refl)
does_may b at r to n next (Assign variable v) = both_may (right_may r (Assign variable v) b at variable v.right v.conversion refl refl) (last_op refl)
does_may b at r to n next (Write place a) =
    both_may (done_may r (Write place a) (place_ops b.x place (free b 2) (operand_register (free b 0) place.pointer)))
    (both_may (done_may r (Write place a) (argument_ops b a (free b 3) (free b 1))) (one_op (store_may r (Write place a) refl (place_leaf b.x place) (free b 3) (free b 2) 0) (last_op refl)))
does_may b at r to n next (Copy p q c) = both_may (copies_may r (Copy p q c) refl b p q c) (last_op refl)
does_may b at r to n next (Call call) = both_may (call_may r (Call call) b at call (unused b.x call.function) refl) (last_op refl)
does_may b at r to n next (Delete p c) = one_op (delete_may r (Delete p c) refl b at (is_virtual b.x.h (destructor_of b.x.h c)) c (operand_register (free b 0) p)) (last_op refl)
does_may b at r to n next (If p other behind) = one_op refl (one_op refl no_op)
does_may b at r to n next (While p behind) = one_op refl (one_op refl no_op)
does_may b at MainCode to n next (Return a) = last_op refl
does_may b at (FunctionCode f) to n next (Return None) = last_op refl
does_may b at (FunctionCode f) to n next (Return (Some a)) = both_may (done_may (FunctionCode f) (Return (Some a)) (argument_ops b a (free b 1) (free b 0))) (last_op refl)
does_may b at (PlanCode course form c) to n next (Return a) = no_op
does_may b at r to n next (Print p) = one_op refl (one_op refl no_op)
does_may b at r to n next (PrintType p c) = one_op refl (one_op refl (one_op refl no_op))
does_may b at r to n next (PrintView p c) = one_op refl (one_op refl (one_op refl no_op))
does_may b at r to n next (Dump p c) = one_op refl (one_op refl no_op)

pub statement_may : (x : Setup) (at : Place → ℕ) (r : Routine) (body : TypedBody) (n : ℕ) (s : TypedStatement) → AllMayStand r s.kind (statement_ops x at r body n s)
statement_may x at r body n s =
    all_may r s.kind (statement_ops x at r body n s)
    (both_may (front_may r (block_in x body) (spare_register (Some body)) s.kind)
    (both_may (done_may r s.kind (check_list (kind_used (block_in x body) s.kind)))
    (does_may (block_in x body) (λ routine. at (routine_start x routine)) r (λ m. at (AtStatement r m)) n s.next s.kind)))

pub block_may : (x : Setup) (code : Code) (numbers : List CodeRow) (lowered : IsLowered x code numbers) (r : Routine) (n : ℕ) (s : TypedStatement) → IsNthStatement x r n s → HasSuchBlock code (lowered.at (AtStatement r n)) r s.kind
block_may x code numbers lowered r n s is = record {
  block = record { ops = statement_ops x lowered.at r is.body n s; line = s.line };
  there = lowered.each (AtStatement r n) (record { ops = statement_ops x lowered.at r is.body n s; line = s.line }) is.routine
      (ap (body_block x lowered.at r n) is.has ∙ ap (statement_block x lowered.at r is.body n) is.stands);
  ops = statement_may x lowered.at r is.body n s;
}
