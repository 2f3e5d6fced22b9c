use Rattle.std.proofs.Common.{length}
use Rattle.abi_judge.proofs.draft.Draft.+place_along.Given as goal

abbrev pub decreases-place_along : goal.decreases-place_along
decreases-place_along l = length l.path.now
