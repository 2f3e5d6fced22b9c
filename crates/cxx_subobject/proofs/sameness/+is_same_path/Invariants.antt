use Rattle.std.proofs.Common.{length}
use Rattle.cxx_subobject.proofs.sameness.+is_same_path.Given as goal

abbrev pub decreases-is_same_path : goal.decreases-is_same_path
decreases-is_same_path l = length l.one.now
