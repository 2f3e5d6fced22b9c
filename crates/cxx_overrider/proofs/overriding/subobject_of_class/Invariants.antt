use Rattle.std.proofs.Common.{◌≡◌, ◌<◌, ℕ, Some}
use Rattle.std.specs.List.{slice_get}
use Rattle.cxx_subobject.specs.declared.Subobject.{Subobject}
use Rattle.cxx_subobject.specs.Subobjects.{class_of}
use Rattle.cxx_overrider.proofs.overriding.subobject_of_class.Given as goal

-- no subobject so far is of the class
abbrev pub invariant-loop-s : goal.invariant-loop-s
invariant-loop-s l = (k : ℕ) (t : Subobject) → k < l.s-index → slice_get l.s-items k ≡ Some t → class_of t ≡ Some l.d → ⊥
