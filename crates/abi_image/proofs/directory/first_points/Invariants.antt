use Rattle.std.proofs.Common.{take}
use Rattle.abi_image.specs.invariants.Drafts.{address_in}
use Rattle.abi_image.specs.invariants.Points.{AreFirstPoints}
use Rattle.abi_image.proofs.directory.first_points.Given as goal

abbrev pub invariant-loop-i : goal.invariant-loop-i
invariant-loop-i l = AreFirstPoints (take l.i l.groups) (address_in l.places.at.items) l.classes l.firsts.items
