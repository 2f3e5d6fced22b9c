use Rattle.std.proofs.Common.{length}
use Rattle.code_plans.proofs.openings.+push_openings.Given as goal

abbrev pub decreases-push_openings : goal.decreases-push_openings
decreases-push_openings g l = length l.left.now
