use Rattle.std.proofs.Common.{length}
use Rattle.code_ops.proofs.arguments.+push_arguments_used.Given as goal

abbrev pub decreases-push_arguments_used : goal.decreases-push_arguments_used
decreases-push_arguments_used g l = length l.arguments.now
