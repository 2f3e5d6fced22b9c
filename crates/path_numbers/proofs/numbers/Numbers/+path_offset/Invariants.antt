use Rattle.std.proofs.Common.{length}
use Rattle.path_numbers.proofs.numbers.Numbers.+path_offset.Given as goal

abbrev pub decreases-path_offset : goal.decreases-path_offset
decreases-path_offset l = length l.path.now
