use Rattle.std.proofs.Common.{◌+◌, ◌*◌, take}
use Rattle.code_statements.specs.invariants.Pushes.{CopiesObjects, CopiesMembers, CopiesBases}
use Rattle.code_statements.proofs.copies.CopySite.+copies.Given as goal
use Rattle.code_ops.specs.invariants.Sites.{site_setup}

-- a member object is of a class of a smaller number than the class that declares it
abbrev pub decreases-push_objects : goal.decreases-push_objects
decreases-push_objects g l = 4 * l.d.0 + 3

abbrev pub decreases-push_object : goal.decreases-push_object
decreases-push_object g l = 4 * l.d.0 + 2

abbrev pub decreases-push_own : goal.decreases-push_own
decreases-push_own g l = 4 * l.b.0 + 1

abbrev pub decreases-push_member : goal.decreases-push_member
decreases-push_member g l = 4 * l.b.0

abbrev pub invariant-push_objects-loop-i : goal.invariant-push_objects-loop-i
invariant-push_objects-loop-i g l = CopiesObjects (site_setup g.L.SoundLayout.rows l.self.site.now) l.self.sides l.d l.elements.start l.elements.stride l.i l.fn.ops l.ops

abbrev pub invariant-push_own-loop-m : goal.invariant-push_own-loop-m
invariant-push_own-loop-m g l = CopiesMembers (site_setup g.L.SoundLayout.rows l.self.site.now) l.self.sides l.b l.offset l.m l.fn.ops l.ops

abbrev pub invariant-push_object-loop-base : goal.invariant-push_object-loop-base
invariant-push_object-loop-base g l = CopiesBases (site_setup g.L.SoundLayout.rows l.self.site.now) l.self.sides l.d l.offset (take l.base-index l.bases) l.fn.ops l.ops
