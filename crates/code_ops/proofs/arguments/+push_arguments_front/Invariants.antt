use Rattle.std.proofs.Common.{length}
use Rattle.code_ops.proofs.arguments.+push_arguments_front.Given as goal

abbrev pub decreases-push_arguments_front : goal.decreases-push_arguments_front
decreases-push_arguments_front g l = length l.arguments.now
