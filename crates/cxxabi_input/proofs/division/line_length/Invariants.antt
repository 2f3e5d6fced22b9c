use Rattle.std.proofs.Common.{◌≡◌, ◌≤◌, ◌+◌, ◌-◌, length, drop}
use Rattle.cxxabi_input.proofs.Cuts.{first_end}
use Rattle.cxxabi_input.proofs.division.line_length.Given as goal

abbrev pub invariant-loop-length : goal.invariant-loop-length
invariant-loop-length l = record {
  within : l.length ≤ length l.text;
  same : first_end l.text ≡ l.length + first_end (drop l.length l.text);
}

abbrev pub decreases-loop-length : goal.decreases-loop-length
decreases-loop-length l = length l.text - l.length
