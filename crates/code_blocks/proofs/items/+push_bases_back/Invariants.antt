use Rattle.std.proofs.Common.{length}
use Rattle.code_blocks.proofs.items.+push_bases_back.Given as goal

abbrev pub decreases-push_bases_back : goal.decreases-push_bases_back
decreases-push_bases_back l = length l.bases.now
