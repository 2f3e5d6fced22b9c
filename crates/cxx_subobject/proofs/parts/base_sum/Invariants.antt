use Rattle.std.proofs.Common.{◌≡◌, ℕ, ◌+◌, ◌≤◌, min, take}
use Rattle.cxx_hierarchy.specs.declared.records.ClassId.{ClassId}
use Rattle.cxx_subobject.specs.invariants.Counts.{IsCapped, own_bases}
use Rattle.cxx_subobject.proofs.parts.base_sum.Given as goal

-- the start and what the bases so far have
abbrev pub invariant-loop-base : goal.invariant-loop-base
invariant-loop-base l = record {
  within : l.sum ≤ l.limit + 1;
  sum : (f : ClassId → ℕ) (n : ℕ) → IsCapped l.limit f l.values → l.start ≡ min n (l.limit + 1) → l.sum ≡ min (n + own_bases f (take l.base-index l.bases)) (l.limit + 1);
}
