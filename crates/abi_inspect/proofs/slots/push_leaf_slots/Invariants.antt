use Rattle.std.proofs.Common.{◌≡◌, ◌++◌, map, take}
use Rattle.abi_inspect.specs.Rows.{leaf_slot}
use Rattle.abi_inspect.proofs.slots.push_leaf_slots.Given as goal

abbrev pub invariant-loop-row : goal.invariant-loop-row
invariant-loop-row l = l.slots.items ≡ l.fn.slots.items ++ map (leaf_slot l.h) (take l.row-index l.rows)
