use Rattle.abi_primary.proofs.Nth.{EachNth}
use Rattle.abi_primary.proofs.PrimaryLemmas.{IsNoDynamic}
use Rattle.abi_primary.proofs.primaries.first_dynamic.Given as goal

abbrev pub invariant-loop-base : goal.invariant-loop-base
invariant-loop-base l = EachNth (IsNoDynamic l.h) l.base-items l.base-index
