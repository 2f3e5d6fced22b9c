use Rattle.abi_primary.proofs.Nth.{EachNth}
use Rattle.abi_primary.proofs.KindLemmas.{IsStill}
use Rattle.abi_primary.proofs.kinds.+is_dynamic.Given as goal

abbrev pub decreases-is_dynamic : goal.decreases-is_dynamic
decreases-is_dynamic l = l.c.0

abbrev pub invariant-loop-base : goal.invariant-loop-base
invariant-loop-base l = EachNth (IsStill l.h) l.base-items l.base-index
