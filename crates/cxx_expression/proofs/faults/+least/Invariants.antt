use Rattle.std.proofs.Common.{length}
use Rattle.cxx_expression.proofs.faults.+least.Given as goal

abbrev pub decreases-least : goal.decreases-least
decreases-least l = length l.faults.now
