use Rattle.std.proofs.Common.{◌≡◌, ◌<◌, ℕ, Some, true}
use Rattle.std.specs.List.{slice_get}
use Rattle.cxx_hierarchy.specs.declared.records.ClassId.{ClassId}
use Rattle.cxx_hierarchy.specs.declared.records.Base.{Base}
use Rattle.cxx_hierarchy.specs.Classes.{bases_of}
use Rattle.cxx_overrider.specs.invariants.Marks.{mark_of}
use Rattle.cxx_overrider.proofs.virtuals.has_marked_base.Given as goal

-- no base so far has the mark
abbrev pub invariant-loop-base : goal.invariant-loop-base
invariant-loop-base l = record {
  items : l.base-items ≡ bases_of l.h l.fn.c;
  none : (k : ℕ) (base : Base ClassId) → k < l.base-index → slice_get l.base-items k ≡ Some base → mark_of l.rows base.class l.n ≡ true → ⊥;
}
