use Rattle.std.proofs.Common.{length}
use Rattle.cxx_subobject.proofs.containment.+is_public_path.Given as goal

abbrev pub decreases-is_public_path : goal.decreases-is_public_path
decreases-is_public_path l = length l.path.now
