use Rattle.std.proofs.Common.{length}
use Rattle.path_refusals.proofs.places.+members.Given as goal

abbrev pub decreases-members : goal.decreases-members
decreases-members l = length l.path.now
