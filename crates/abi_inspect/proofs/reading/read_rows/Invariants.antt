use Rattle.abi_inspect.proofs.RowSteps.{IsReadTo}
use Rattle.abi_inspect.proofs.reading.read_rows.Given as goal

-- the rows so far are read
abbrev pub invariant-loop-i : goal.invariant-loop-i
invariant-loop-i l = IsReadTo l.h l.rows l.text l.i l.values.items l.rest
