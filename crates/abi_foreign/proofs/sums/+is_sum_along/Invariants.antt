use Rattle.std.proofs.Common.{length}
use Rattle.abi_foreign.proofs.sums.+is_sum_along.Given as goal

abbrev pub decreases-is_sum_along : goal.decreases-is_sum_along
decreases-is_sum_along l = length l.path.now
