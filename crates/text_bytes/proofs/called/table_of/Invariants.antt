use Rattle.std.proofs.Common.{◌≡◌, ℕ, ◌≤◌, length, drop}
use Rattle.std.specs.Prelude.{nat_eq}
use Rattle.indexmap.specs.IndexMap.{get}
use Rattle.text_bytes.specs.RawTexts.{function_at_block}
use Rattle.text_bytes.proofs.called.table_of.Given as goal

-- the rows from here on are in the table
abbrev pub invariant-loop-left : goal.invariant-loop-left
invariant-loop-left l = record {
  within : l.left ≤ length l.rows;
  same : (block : ℕ) → get nat_eq l.functions block ≡ function_at_block (drop l.left l.rows) block;
}

abbrev pub decreases-loop-left : goal.decreases-loop-left
decreases-loop-left l = l.left
