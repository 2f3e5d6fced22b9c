use Rattle.std.proofs.Common.{◌≡◌, ◌<◌, ℕ, Some, true, false}
use Rattle.std.specs.Prelude.{slice_index_or}
use Rattle.std.specs.List.{slice_get}
use Rattle.cxx_hierarchy.specs.declared.records.ClassId.{ClassId}
use Rattle.cxx_hierarchy.specs.declared.records.Base.{Base}
use Rattle.cxx_hierarchy.specs.Classes.{bases_of}
use Rattle.cxx_subobject.proofs.virtual_flags.gets_virtual_base.Given as goal

-- no base so far is virtual or flagged
abbrev pub invariant-loop-base : goal.invariant-loop-base
invariant-loop-base l = record {
  items : l.base-items ≡ bases_of l.h l.fn.c;
  plain : (k : ℕ) (base : Base ClassId) → k < l.base-index → slice_get l.base-items k ≡ Some base → base.is_virtual ≡ true → ⊥;
  none : (k : ℕ) (base : Base ClassId) → k < l.base-index → slice_get l.base-items k ≡ Some base → slice_index_or l.flags base.class.0 false ≡ true → ⊥;
}
