use Rattle.std.proofs.Common.{length}
use Rattle.code_plans.proofs.lengths.+base_sum.Given as goal

abbrev pub decreases-base_sum : goal.decreases-base_sum
decreases-base_sum g l = length l.bases.now
