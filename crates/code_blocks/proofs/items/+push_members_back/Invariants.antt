use Rattle.std.proofs.Common.{length}
use Rattle.code_blocks.proofs.items.+push_members_back.Given as goal

abbrev pub decreases-push_members_back : goal.decreases-push_members_back
decreases-push_members_back l = length l.members.now
