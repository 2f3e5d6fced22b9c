use Rattle.std.proofs.Common.{◌≡◌, ◌++◌, map}
use Rattle.std.specs.List.{range_with_len}
use Rattle.abi_judge.specs.invariants.Leaves.{leaf_from}
use Rattle.abi_judge.proofs.walk.push_leaves.Given as goal

abbrev pub invariant-loop-i : goal.invariant-loop-i
invariant-loop-i l = l.things.items ≡ l.fn.things.items ++ map (leaf_from l.first) (range_with_len 0 l.i)
