use Rattle.std.proofs.Common.{ℕ, ◌+◌}
use Rattle.std.specs.List.{sum_by}
use Rattle.cxx_hierarchy.specs.declared.records.ClassId.{ClassId}
use Rattle.cxx_subobject.specs.VirtualBases.{virtual_bases}
use Rattle.abi_tables.specs.invariants.Weights.{AreNumbers, AreNumbersTo}
use Rattle.abi_tables.proofs.numbers.shared_sums.Given as goal

abbrev pub invariant-loop-n : goal.invariant-loop-n
invariant-loop-n g l = (f k : ClassId → ℕ) → AreNumbers l.h f l.own → AreNumbers l.h k l.shared → AreNumbersTo l.n (λ c. f c + sum_by k (virtual_bases l.h c)) l.sums.items
