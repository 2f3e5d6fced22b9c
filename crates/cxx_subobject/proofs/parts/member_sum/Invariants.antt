use Rattle.std.proofs.Common.{◌≡◌, ℕ, ◌+◌, ◌≤◌, min, take}
use Rattle.cxx_hierarchy.specs.declared.records.ClassId.{ClassId}
use Rattle.cxx_subobject.specs.invariants.Counts.{IsCapped, parts_of_members}
use Rattle.cxx_subobject.proofs.parts.member_sum.Given as goal

-- the subobject and the parts of the members so far
abbrev pub invariant-loop-member : goal.invariant-loop-member
invariant-loop-member l = record {
  within : l.sum ≤ 65537;
  sum : (f : ClassId → ℕ) → IsCapped 65536 f l.parts → l.sum ≡ min (1 + parts_of_members f (take l.member-index l.members)) 65537;
}
