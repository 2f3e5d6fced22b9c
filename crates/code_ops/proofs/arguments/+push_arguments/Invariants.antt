use Rattle.std.proofs.Common.{length}
use Rattle.code_ops.proofs.arguments.+push_arguments.Given as goal

abbrev pub decreases-push_arguments : goal.decreases-push_arguments
decreases-push_arguments g l = length l.arguments.now
