use Rattle.std.proofs.Common.{◌≡◌, ◌<◌, ◌≤◌, ℕ, Some, length, get_or}
use Rattle.cxx_overrider.specs.declared.FunctionId.{FunctionId}
use Rattle.cxx_overrider.specs.invariants.Numbers.{number_of}
use Rattle.cxx_overrider.proofs.lasts.last_classes.Given as goal

-- the classes so far are noted
abbrev pub invariant-loop-number : goal.invariant-loop-number
invariant-loop-number l = record {
  size : length l.lasts.items ≡ l.numbering.count;
  each : (f : FunctionId) (n : ℕ) → f.class.0 < l.number → number_of l.numbering.rows.items f ≡ Some n → f.class.0 ≤ get_or l.lasts.items n 0;
}
