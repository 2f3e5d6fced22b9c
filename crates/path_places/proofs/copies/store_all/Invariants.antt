use Rattle.std.proofs.Common.{◌≤◌, length}
use Rattle.path_places.specs.invariants.Stores.{StoresFrom}
use Rattle.path_places.proofs.copies.store_all.Given as goal

-- the leaves from i on have their values
abbrev pub invariant-loop-i : goal.invariant-loop-i
invariant-loop-i l = record {
  leaves : l.i ≤ length l.leaves;
  values : l.i ≤ length l.values;
  stores : StoresFrom l.fn.heap l.heap l.leaves l.values l.i;
}

abbrev pub decreases-loop-i : goal.decreases-loop-i
decreases-loop-i l = l.i
