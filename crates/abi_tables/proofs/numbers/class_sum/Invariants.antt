use Rattle.std.proofs.Common.{◌≡◌, take}
use Rattle.std.specs.List.{sum_by}
use Rattle.abi_tables.specs.invariants.Weights.{cut, number_by_class}
use Rattle.abi_tables.proofs.numbers.class_sum.Given as goal

abbrev pub invariant-loop-c : goal.invariant-loop-c
invariant-loop-c l = l.sum ≡ cut (sum_by (number_by_class l.numbers) (take l.c-index l.classes))
