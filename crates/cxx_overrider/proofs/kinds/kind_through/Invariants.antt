use Rattle.std.proofs.Common.{◌≡◌}
use Rattle.cxx_hierarchy.specs.Classes.{bases_of}
use Rattle.cxx_overrider.specs.invariants.Kinds.{Counts, IsPartThrough}
use Rattle.cxx_overrider.proofs.kinds.kind_through.Given as goal

-- the kind counts what the bases so far give
abbrev pub invariant-loop-base : goal.invariant-loop-base
invariant-loop-base l = record {
  items : l.base-items ≡ bases_of l.h l.fn.c;
  counts : Counts (IsPartThrough l.h l.fn.c l.d l.base-index) l.kind;
}
