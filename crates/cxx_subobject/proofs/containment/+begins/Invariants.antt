use Rattle.std.proofs.Common.{length}
use Rattle.cxx_subobject.proofs.containment.+begins.Given as goal

abbrev pub decreases-begins : goal.decreases-begins
decreases-begins l = length l.front.now
