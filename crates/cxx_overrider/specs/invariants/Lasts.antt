-- The last classes that declare a function of each number.
use Rattle.std.specs.Prelude.{◌≡◌, ℕ, ◌≤◌, Some, List, get_or}
use Rattle.cxx_overrider.specs.declared.FunctionId.{FunctionId}
use Rattle.cxx_overrider.specs.invariants.Numbers.{number_of}

-- no class behind the noted one declares a function of the number
pub record AreLasts (numbers : List (List ℕ)) (lasts : List ℕ) : Type 0 where
  pub each : (f : FunctionId) (n : ℕ) → number_of numbers f ≡ Some n → f.class.0 ≤ get_or lasts n 0
