use Rattle.std.proofs.Common.{◌≡◌, ℕ, ◌+◌, ◌≤◌, min}
use Rattle.cxx_hierarchy.specs.declared.records.ClassId.{ClassId}
use Rattle.cxx_subobject.specs.invariants.Counts.{IsCapped, IsSharedSum}
use Rattle.cxx_subobject.proofs.parts.shared_sum.Given as goal

-- the start and what the virtual bases so far have
abbrev pub invariant-loop-number : goal.invariant-loop-number
invariant-loop-number l = record {
  within : l.sum ≤ l.limit + 1;
  sum : (f : ClassId → ℕ) (n : ℕ) → IsCapped l.limit f l.values → l.start ≡ min n (l.limit + 1) → IsSharedSum l.h l.c l.number f n l.limit l.sum;
}
