use Rattle.std.proofs.Common.{◌≡◌, ℕ, ◌<◌, get_or}
use Rattle.abi_foreign.proofs.class_lines.line_end.Given as goal

-- no byte so far is a line feed
abbrev pub invariant-loop-n : goal.invariant-loop-n
invariant-loop-n l = (k : ℕ) → k < l.n → get_or l.text k 0 ≡ 10 → ⊥
