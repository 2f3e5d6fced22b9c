use Rattle.std.proofs.Common.{◌-◌}
use Rattle.path_heap.specs.invariants.Cuts.{IsBetween}
use Rattle.path_heap.proofs.lists.rows_to.Given as goal

abbrev pub invariant-loop-low : goal.invariant-loop-low
invariant-loop-low l = IsBetween l.rows.items l.n l.low l.high

abbrev pub decreases-loop-low : goal.decreases-loop-low
decreases-loop-low l = l.high - l.low
