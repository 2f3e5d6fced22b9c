use Rattle.std.proofs.Common.{length}
use Rattle.code_plans.proofs.lengths.+base_before.Given as goal

abbrev pub decreases-base_before : goal.decreases-base_before
decreases-base_before g l = length l.bases.now
