use Rattle.std.proofs.Common.{◌≡◌, ◌++◌, drop}
use Rattle.abi_inspect.specs.Rows.{rows_from}
use Rattle.abi_inspect.proofs.slots.rows_from.Given as goal

-- the rows so far and those that are left make the whole
abbrev pub invariant-loop-slot : goal.invariant-loop-slot
invariant-loop-slot l = l.rows.items ++ rows_from l.end l.at (drop l.slot-index l.slots) ≡ rows_from l.end 0 l.slots
