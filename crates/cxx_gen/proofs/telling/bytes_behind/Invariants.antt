use Rattle.std.proofs.Common.{◌≡◌, ◌+◌, ◌≤◌, not, length, take}
use Rattle.std.specs.List.{suffix_len}
use Rattle.cxx_gen.specs.Summary.{is_line_feed}
use Rattle.cxx_gen.proofs.telling.bytes_behind.Given as goal

-- no line feed stands from the start on
abbrev pub invariant-loop-start : goal.invariant-loop-start
invariant-loop-start l = record {
  within : l.start ≤ length l.text;
  behind : l.start + suffix_len (λ byte. not (is_line_feed byte)) l.text ≡ length l.text + suffix_len (λ byte. not (is_line_feed byte)) (take l.start l.text);
}

abbrev pub decreases-loop-start : goal.decreases-loop-start
decreases-loop-start l = l.start
