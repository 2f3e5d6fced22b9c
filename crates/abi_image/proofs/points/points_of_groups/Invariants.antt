use Rattle.std.proofs.Common.{take}
use Rattle.abi_image.specs.invariants.Points.{AreGroupPoints}
use Rattle.abi_image.proofs.points.points_of_groups.Given as goal

abbrev pub invariant-loop-i : goal.invariant-loop-i
invariant-loop-i l = AreGroupPoints (take l.i l.groups) l.group_at l.points.items
