use Rattle.std.proofs.Common.{◌≡◌, ◌<◌, ℕ, false, Some}
use Rattle.std.specs.List.{slice_get}
use Rattle.cxx_hierarchy.specs.declared.records.ClassId.{ClassId}
use Rattle.cxx_hierarchy.specs.declared.records.Function.{Function}
use Rattle.cxx_overrider.proofs.pure.has_pure.Given as goal

-- the functions so far
abbrev pub invariant-loop-function : goal.invariant-loop-function
invariant-loop-function l = (i : ℕ) (x : Function ClassId) → i < l.function-index → slice_get l.functions i ≡ Some x → x.is_pure ≡ false
