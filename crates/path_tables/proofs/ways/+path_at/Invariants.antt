use Rattle.std.proofs.Common.{length}
use Rattle.path_tables.proofs.ways.+path_at.Given as goal

abbrev pub decreases-path_at : goal.decreases-path_at
decreases-path_at l = length l.path.now
