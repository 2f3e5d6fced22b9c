use Rattle.std.proofs.Common.{◌≡◌, take}
use Rattle.cxx_subobject.specs.invariants.Counts.{own_bases}
use Rattle.abi_tables.specs.invariants.Weights.{cut, number_by_class}
use Rattle.abi_tables.proofs.numbers.base_sum.Given as goal

abbrev pub invariant-loop-base : goal.invariant-loop-base
invariant-loop-base l = l.sum ≡ cut (own_bases (number_by_class l.numbers) (take l.base-index l.bases))
