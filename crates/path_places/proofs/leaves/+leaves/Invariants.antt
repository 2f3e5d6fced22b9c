use Rattle.std.proofs.Common.{◌+◌, ◌*◌, take}
use Rattle.path_places.specs.invariants.Leaves.{ListsElements, ListsMembers, ListsBases}
use Rattle.path_places.proofs.leaves.+leaves.Given as goal

-- a member object is of a class of a smaller number than the class that declares it
abbrev pub decreases-push_elements : goal.decreases-push_elements
decreases-push_elements l = 4 * l.class.0 + 3

abbrev pub decreases-push_whole : goal.decreases-push_whole
decreases-push_whole l = 4 * l.c.0 + 2

abbrev pub decreases-push_own : goal.decreases-push_own
decreases-push_own l = 4 * l.c.0 + 1

abbrev pub decreases-push_member : goal.decreases-push_member
decreases-push_member l = 4 * l.c.0

abbrev pub invariant-push_elements-loop-i : goal.invariant-push_elements-loop-i
invariant-push_elements-loop-i l = ListsElements l.world.h.now l.class l.k l.count l.i l.fn.leaves.items l.leaves.items

abbrev pub invariant-push_own-loop-m : goal.invariant-push_own-loop-m
invariant-push_own-loop-m l = ListsMembers l.world.h.now l.c l.k l.m l.fn.leaves.items l.leaves.items

abbrev pub invariant-push_whole-loop-base : goal.invariant-push_whole-loop-base
invariant-push_whole-loop-base l = ListsBases l.world.h.now l.c l.k (take l.base-index l.base-items) l.fn.leaves.items l.leaves.items
