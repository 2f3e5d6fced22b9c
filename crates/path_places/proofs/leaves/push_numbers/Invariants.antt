use Rattle.std.proofs.Common.{◌≡◌, ◌+◌, ◌%◌, ◌^◌, ◌++◌, map}
use Rattle.path_plan.specs.Plans.{upto}
use Rattle.path_places.proofs.leaves.push_numbers.Given as goal

abbrev pub invariant-loop-i : goal.invariant-loop-i
invariant-loop-i l = (l.leaves.items ≡ l.fn.leaves.items ++ map (λ i. (l.k + i) % 2 ^ 64) (upto l.i))
