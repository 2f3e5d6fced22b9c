use Rattle.std.proofs.Common.{length}
use Rattle.code_blocks.proofs.items.+push_each_back.Given as goal

abbrev pub decreases-push_each_back : goal.decreases-push_each_back
decreases-push_each_back l = length l.order.now
