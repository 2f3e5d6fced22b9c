use Rattle.std.proofs.Common.{length}
use Rattle.abi_sound.proofs.places.+sum_along.Given as goal

abbrev pub decreases-sum_along : goal.decreases-sum_along
decreases-sum_along g l = length l.path.now
