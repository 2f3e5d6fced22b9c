use Rattle.std.proofs.Common.{length}
use Rattle.abi_layout.proofs.base_places.+own_place.Given as goal

abbrev pub decreases-own_place : goal.decreases-own_place
decreases-own_place l = length l.front.now
