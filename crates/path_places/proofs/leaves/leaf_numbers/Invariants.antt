use Rattle.std.proofs.Common.{take}
use Rattle.path_places.specs.invariants.Leaves.{ListsPart}
use Rattle.path_places.proofs.leaves.leaf_numbers.Given as goal

-- the leaves of the subobjects so far
abbrev pub invariant-loop-i : goal.invariant-loop-i
invariant-loop-i l = ListsPart l.world.h.now l.heap l.n l.fn.c (take l.i l.base-items) l.leaves.items
