use Rattle.std.specs.List.{AllAdjacentBelow}
use Rattle.abi_judge.proofs.Sorted.{EndsBefore}
use Rattle.abi_judge.proofs.apart.goes_on.Given as goal

abbrev pub invariant-loop-i : goal.invariant-loop-i
invariant-loop-i l = AllAdjacentBelow EndsBefore l.spans l.i
