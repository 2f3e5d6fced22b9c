use Rattle.std.proofs.Common.{length}
use Rattle.text_told.proofs.fields.+append_inner.Given as goal

abbrev pub decreases-append_inner : goal.decreases-append_inner
decreases-append_inner l = length l.hops.now
