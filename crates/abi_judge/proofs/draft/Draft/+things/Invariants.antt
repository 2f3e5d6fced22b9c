use Rattle.std.proofs.Common.{◌+◌, ◌*◌, take}
use Rattle.abi_judge.specs.invariants.Things.{setting_of}
use Rattle.abi_judge.specs.invariants.Pushes.{AddsObjects, AddsMembers, AddsBases}
use Rattle.abi_judge.proofs.draft.Draft.+things.Given as goal

-- a member object is of a class of a smaller number than the class that declares it
abbrev pub decreases-push_objects : goal.decreases-push_objects
decreases-push_objects l = 4 * l.b.0 + 3

abbrev pub decreases-push_object : goal.decreases-push_object
decreases-push_object l = 4 * l.e.0 + 2

abbrev pub decreases-push_own : goal.decreases-push_own
decreases-push_own l = 4 * l.d.0 + 1

abbrev pub decreases-push_member : goal.decreases-push_member
decreases-push_member l = 4 * l.d.0

abbrev pub invariant-push_objects-loop-i : goal.invariant-push_objects-loop-i
invariant-push_objects-loop-i l = AddsObjects (setting_of l.self) l.b l.start l.i l.fn.things.items l.things.items

abbrev pub invariant-push_own-loop-m : goal.invariant-push_own-loop-m
invariant-push_own-loop-m l = AddsMembers (setting_of l.self) l.d l.at l.m l.fn.things.items l.things.items

abbrev pub invariant-push_object-loop-s : goal.invariant-push_object-loop-s
invariant-push_object-loop-s l = AddsBases (setting_of l.self) l.e l.at (take l.s-index l.bases) l.fn.things.items l.things.items
