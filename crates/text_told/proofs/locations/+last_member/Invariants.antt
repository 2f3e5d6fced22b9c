use Rattle.std.proofs.Common.{length}
use Rattle.text_told.proofs.locations.+last_member.Given as goal

abbrev pub decreases-last_member : goal.decreases-last_member
decreases-last_member l = length l.hops.now
