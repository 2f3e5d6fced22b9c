use Rattle.std.proofs.Common.{length}
use Rattle.code_ops.proofs.places.+push_passed_used.Given as goal

abbrev pub decreases-push_passed_used : goal.decreases-push_passed_used
decreases-push_passed_used g l = length l.passed.now
