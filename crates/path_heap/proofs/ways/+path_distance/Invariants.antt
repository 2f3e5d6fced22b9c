use Rattle.std.proofs.Common.{length}
use Rattle.path_heap.proofs.ways.+path_distance.Given as goal

abbrev pub decreases-path_distance : goal.decreases-path_distance
decreases-path_distance l = length l.path.now
