use Rattle.abi_primary.proofs.Nth.{EachNth}
use Rattle.abi_primary.proofs.KindLemmas.{IsStill}
use Rattle.abi_primary.proofs.flags.is_dynamic_by.Given as goal

abbrev pub invariant-loop-base : goal.invariant-loop-base
invariant-loop-base l = EachNth (IsStill l.h) l.base-items l.base-index
