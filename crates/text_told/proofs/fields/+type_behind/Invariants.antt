use Rattle.std.proofs.Common.{length}
use Rattle.text_told.proofs.fields.+type_behind.Given as goal

abbrev pub decreases-type_behind : goal.decreases-type_behind
decreases-type_behind l = length l.hops.now
