use Rattle.std.proofs.Common.{◌≡◌, ◌<◌, ℕ, true, Some}
use Rattle.std.specs.List.{slice_get}
use Rattle.cxx_hierarchy.specs.declared.records.ClassId.{ClassId}
use Rattle.cxx_hierarchy.specs.declared.records.Base.{Base}
use Rattle.cxx_overrider.proofs.sharing.are_virtual.Given as goal

-- the bases so far
abbrev pub invariant-loop-base : goal.invariant-loop-base
invariant-loop-base l = (i : ℕ) (x : Base ClassId) → i < l.base-index → slice_get l.bases i ≡ Some x → x.is_virtual ≡ true
