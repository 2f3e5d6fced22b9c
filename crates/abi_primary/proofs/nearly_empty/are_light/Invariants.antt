use Rattle.abi_primary.specs.NearlyEmpty.{IsLight}
use Rattle.abi_primary.proofs.Nth.{EachNth}
use Rattle.abi_primary.proofs.nearly_empty.are_light.Given as goal

abbrev pub invariant-loop-base : goal.invariant-loop-base
invariant-loop-base l = EachNth (IsLight l.h l.nearly) l.bases l.base-index
