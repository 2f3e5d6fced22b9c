use Rattle.std.proofs.Common.{ℕ, ◌<◌}
use Rattle.abi_image.specs.invariants.Points.{NumbersGroup}
use Rattle.abi_image.proofs.finding.first_named.Given as goal

abbrev pub invariant-loop-number : goal.invariant-loop-number
invariant-loop-number l = (k : ℕ) → k < l.number → NumbersGroup l.groups l.name k → ⊥
