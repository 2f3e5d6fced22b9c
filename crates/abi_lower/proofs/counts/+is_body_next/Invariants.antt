use Rattle.std.proofs.Common.{length}
use Rattle.abi_lower.proofs.counts.+is_body_next.Given as goal

abbrev pub decreases-is_body_next : goal.decreases-is_body_next
decreases-is_body_next l = length l.left.now
