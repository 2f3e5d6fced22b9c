use Rattle.std.proofs.Common.{length}
use Rattle.code_ops.proofs.arguments.+push_registers.Given as goal

abbrev pub decreases-push_registers : goal.decreases-push_registers
decreases-push_registers g l = length l.arguments.now
