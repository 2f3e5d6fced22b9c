use Rattle.std.proofs.Common.{length}
use Rattle.code_plans.proofs.lengths.+shared_sum.Given as goal

abbrev pub decreases-shared_sum : goal.decreases-shared_sum
decreases-shared_sum g l = length l.classes.now
