use Rattle.std.proofs.Common.{length}
use Rattle.code_blocks.proofs.items.+push_bases.Given as goal

abbrev pub decreases-push_bases : goal.decreases-push_bases
decreases-push_bases l = length l.bases.now
