use Rattle.std.proofs.Common.{ℕ}
use Rattle.cxx_hierarchy.specs.declared.records.ClassId.{ClassId}
use Rattle.cxx_subobject.specs.invariants.Counts.{own_of}
use Rattle.abi_tables.specs.invariants.Weights.{AreNumbers, AreNumbersTo}
use Rattle.abi_tables.proofs.numbers.own_sums.Given as goal

abbrev pub invariant-loop-n : goal.invariant-loop-n
invariant-loop-n l = (f : ClassId → ℕ) → AreNumbers l.h f l.weights → AreNumbersTo l.n (own_of f l.h) l.sums.items
