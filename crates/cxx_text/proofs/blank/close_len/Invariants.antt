use Rattle.std.proofs.Common.{◌≡◌, ◌+◌, length, option_map}
use Rattle.cxx_text.specs.invariants.Front.{close_len}
use Rattle.cxx_text.proofs.blank.close_len.Given as goal

abbrev pub invariant-loop-rest : goal.invariant-loop-rest
invariant-loop-rest l = record {
  within : l.len + length l.rest ≡ length l.text;
  value : close_len l.text ≡ option_map (λ n. l.len + n) (close_len l.rest);
}

abbrev pub decreases-loop-rest : goal.decreases-loop-rest
decreases-loop-rest l = length l.rest
