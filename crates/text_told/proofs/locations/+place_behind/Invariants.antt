use Rattle.std.proofs.Common.{length}
use Rattle.text_told.proofs.locations.+place_behind.Given as goal

abbrev pub decreases-place_behind : goal.decreases-place_behind
decreases-place_behind g l = length l.hops.now
