use Rattle.std.specs.List.{AllAdjacentBelow}
use Rattle.abi_judge.specs.invariants.Apart.{Differ}
use Rattle.abi_judge.proofs.apart.repeats.Given as goal

abbrev pub invariant-loop-i : goal.invariant-loop-i
invariant-loop-i l = AllAdjacentBelow Differ l.keys l.i
