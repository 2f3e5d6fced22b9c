use Rattle.std.proofs.Common.{◌≡◌, ◌++◌, ℕ, List, drop}
use Rattle.abi_image.specs.Encoded.{points_of}
use Rattle.abi_image.specs.invariants.Drafts.{address_in}
use Rattle.abi_image.specs.invariants.Points.{AreGroupPoints}
use Rattle.abi_image.proofs.points.list_points.Given as goal

abbrev pub invariant-loop-i : goal.invariant-loop-i
invariant-loop-i l = (group_at : List ℕ) → AreGroupPoints l.groups group_at l.points → l.list ++ points_of (address_in group_at) l.i (drop l.i l.groups) ≡ points_of (address_in group_at) 0 l.groups
