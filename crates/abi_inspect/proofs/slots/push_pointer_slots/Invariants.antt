use Rattle.std.proofs.Common.{◌≡◌, ◌++◌, map, take}
use Rattle.abi_inspect.specs.Rows.{pointer_slot}
use Rattle.abi_inspect.proofs.slots.push_pointer_slots.Given as goal

abbrev pub invariant-loop-item : goal.invariant-loop-item
invariant-loop-item l = l.slots.items ≡ l.fn.slots.items ++ map pointer_slot (take l.item-index l.items)
