use Rattle.std.proofs.Common.{◌+◌, ◌*◌, ◌≤◌, ℕ, length}
use Rattle.cxx_subobject.specs.Locations.{ObjectPart}
use Rattle.path_model.specs.Values.{Objects}
use Rattle.path_refusals.specs.invariants.Pieces.{IsReadyPart}
use Rattle.path_refusals.specs.invariants.Left.{LeftSame, element_asked, member_asked}
use Rattle.path_refusals.proofs.copies.+covers.Given as goal

abbrev pub decreases-is_element_covered : goal.decreases-is_element_covered
decreases-is_element_covered l = 3 * l.d.0 + 2

abbrev pub decreases-is_member_covered : goal.decreases-is_member_covered
decreases-is_member_covered l = 3 * l.c.0

abbrev pub decreases-is_covered : goal.decreases-is_covered
decreases-is_covered l = 3 * l.c.0 + 1

-- the elements that are left are refused as all are
abbrev pub invariant-is_member_covered-loop-i : goal.invariant-is_member_covered-loop-i
invariant-is_member_covered-loop-i l = (s : Objects) (p : ObjectPart) (k : ℕ) → IsReadyPart l.moment.world.h.now l.moment.heap.now s l.n p l.fn.c → l.fn.c.0 ≤ k → LeftSame l.moment.world.h.now s (element_asked l.moment.world.h.now k p l.m l.d) l.i-end l.i

-- the members that are left are refused as all are
abbrev pub invariant-is_covered-loop-m : goal.invariant-is_covered-loop-m
invariant-is_covered-loop-m l = (s : Objects) (p : ObjectPart) (k : ℕ) → IsReadyPart l.moment.world.h.now l.moment.heap.now s l.n p l.c → l.c.0 ≤ k → LeftSame l.moment.world.h.now s (member_asked l.moment.world.h.now k p l.c) (length l.members) l.m
