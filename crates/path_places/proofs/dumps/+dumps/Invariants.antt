use Rattle.std.proofs.Common.{◌+◌, ◌*◌, take}
use Rattle.path_places.specs.invariants.Dumps.{dumped_object, DumpsElements, DumpsMembers, DumpsBases}
use Rattle.path_places.proofs.dumps.+dumps.Given as goal

-- a member object is of a class of a smaller number than the class that declares it
abbrev pub decreases-dump_elements : goal.decreases-dump_elements
decreases-dump_elements l = 4 * l.d.0 + 3

abbrev pub decreases-dump_whole : goal.decreases-dump_whole
decreases-dump_whole l = 4 * l.c.0 + 2

abbrev pub decreases-dump_own : goal.decreases-dump_own
decreases-dump_own l = 4 * l.c.0 + 1

abbrev pub decreases-dump_member : goal.decreases-dump_member
decreases-dump_member l = 4 * l.c.0

abbrev pub invariant-dump_elements-loop-i : goal.invariant-dump_elements-loop-i
invariant-dump_elements-loop-i l = DumpsElements (dumped_object l.site.world.now.h.now l.site.heap.now l.site.object l.site.class) l.place.hops.now.items l.place.base.now l.m l.d l.k l.count l.i l.fn.out.items l.out.items

abbrev pub invariant-dump_own-loop-m : goal.invariant-dump_own-loop-m
invariant-dump_own-loop-m l = DumpsMembers (dumped_object l.site.world.now.h.now l.site.heap.now l.site.object l.site.class) l.place.hops.now.items l.place.base.now l.c l.k l.m l.fn.out.items l.out.items

abbrev pub invariant-dump_whole-loop-base : goal.invariant-dump_whole-loop-base
invariant-dump_whole-loop-base l = DumpsBases (dumped_object l.site.world.now.h.now l.site.heap.now l.site.object l.site.class) l.hops.items l.c l.k (take l.base-index l.base-items) l.fn.out.items l.out.items
