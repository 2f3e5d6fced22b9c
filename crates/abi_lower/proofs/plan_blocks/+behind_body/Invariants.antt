use Rattle.std.proofs.Common.{length}
use Rattle.abi_lower.proofs.plan_blocks.+behind_body.Given as goal

abbrev pub decreases-behind_body : goal.decreases-behind_body
decreases-behind_body l = length l.items.now
