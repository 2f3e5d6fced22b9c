use Rattle.std.proofs.Common.{ℕ, ◌+◌}
use Rattle.cxx_hierarchy.specs.declared.records.ClassId.{ClassId}
use Rattle.abi_tables.specs.invariants.Weights.{AreNumbers, AreNumbersTo}
use Rattle.abi_tables.proofs.numbers.pair_sums.Given as goal

abbrev pub invariant-loop-n : goal.invariant-loop-n
invariant-loop-n l = (f g : ClassId → ℕ) → AreNumbers l.h f l.one → AreNumbers l.h g l.other → AreNumbersTo l.n (λ c. f c + g c) l.sums.items
