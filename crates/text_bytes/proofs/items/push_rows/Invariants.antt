use Rattle.std.proofs.Common.{◌≡◌, ◌++◌, map, take}
use Rattle.byte_machine.specs.MachineState.{state_of}
use Rattle.text_bytes.specs.RawDumps.{row_item}
use Rattle.text_bytes.proofs.items.push_rows.Given as goal

abbrev pub invariant-loop-row : goal.invariant-loop-row
invariant-loop-row g l = l.items.items ≡ l.fn.items.items ++ map (row_item l.h (state_of l.machine).memory (state_of l.machine).objects l.start) (take l.row-index l.rows)
