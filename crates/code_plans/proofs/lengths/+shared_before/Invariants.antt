use Rattle.std.proofs.Common.{length}
use Rattle.code_plans.proofs.lengths.+shared_before.Given as goal

abbrev pub decreases-shared_before : goal.decreases-shared_before
decreases-shared_before g l = length l.classes.now
