use Rattle.abi_primary.proofs.Nth.{EachNth}
use Rattle.abi_primary.proofs.KindLemmas.{IsEmptyBase}
use Rattle.abi_primary.proofs.kinds.+is_empty.Given as goal

abbrev pub decreases-is_empty : goal.decreases-is_empty
decreases-is_empty l = l.c.0

abbrev pub invariant-loop-base : goal.invariant-loop-base
invariant-loop-base l = EachNth (IsEmptyBase l.h) l.base-items l.base-index
