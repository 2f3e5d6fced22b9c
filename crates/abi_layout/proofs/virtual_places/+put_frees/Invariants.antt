use Rattle.std.proofs.Common.{length}
use Rattle.abi_layout.proofs.virtual_places.+put_frees.Given as goal

abbrev pub decreases-put_frees : goal.decreases-put_frees
decreases-put_frees l = length l.free.now
