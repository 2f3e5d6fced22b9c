use Rattle.std.proofs.Common.{◌≡◌, ◌<◌, ℕ, Some}
use Rattle.std.specs.List.{slice_get}
use Rattle.cxx_overrider.specs.declared.FunctionId.{FunctionId}
use Rattle.cxx_overrider.specs.invariants.Numbers.{number_of}
use Rattle.cxx_overrider.proofs.sharing.declares_all.Given as goal

-- the numbers so far
abbrev pub invariant-loop-n : goal.invariant-loop-n
invariant-loop-n l = (i n : ℕ) → i < l.n-index → slice_get l.row i ≡ Some n → (f : FunctionId) × (f.class ≡ l.fn.c) × (number_of l.rows f ≡ Some n)
