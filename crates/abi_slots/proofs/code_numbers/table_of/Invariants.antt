use Rattle.std.proofs.Common.{◌≡◌, ◌≤◌, length, drop}
use Rattle.cxx_overrider.specs.declared.FunctionId.{FunctionId}
use Rattle.abi_slots.specs.declared.code_numbers.BlockKind.{BlockKind}
use Rattle.abi_slots.specs.CodeRows.{code_of}
use Rattle.abi_slots.specs.invariants.CodeTables.{code_in, code_key}
use Rattle.abi_slots.proofs.code_numbers.table_of.Given as goal

abbrev pub invariant-loop-left : goal.invariant-loop-left
invariant-loop-left l = record {
  within : l.left ≤ length l.rows;
  same : (f : FunctionId) (kind : BlockKind) → code_in l.table (code_key f kind) ≡ code_of (drop l.left l.rows) f kind;
}

abbrev pub decreases-loop-left : goal.decreases-loop-left
decreases-loop-left l = l.left
