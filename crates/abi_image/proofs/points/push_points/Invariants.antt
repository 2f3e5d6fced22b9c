use Rattle.std.proofs.Common.{◌≡◌, ◌++◌, ℕ, drop}
use Rattle.abi_image.specs.Encoded.{points_from}
use Rattle.abi_image.specs.invariants.Points.{ArePointsOf}
use Rattle.abi_image.proofs.points.push_points.Given as goal

abbrev pub invariant-loop-table : goal.invariant-loop-table
invariant-loop-table l = (at : ℕ) → ArePointsOf at l.group.tables l.addresses → l.points ++ points_from at l.group l.table (drop l.table l.group.tables) ≡ l.initial.points ++ points_from at l.group 0 l.group.tables
