use Rattle.std.proofs.Common.{◌≡◌, ◌<◌, false}
use Rattle.cxx_overrider.specs.declared.FunctionId.{FunctionId}
use Rattle.cxx_overrider.specs.Functions.{is_pure}
use Rattle.cxx_overrider.proofs.pure.has_pure_function.Given as goal

-- the classes so far
abbrev pub invariant-loop-number : goal.invariant-loop-number
invariant-loop-number l = (f : FunctionId) → f.class.0 < l.number → is_pure l.h f ≡ false
