use Rattle.path_places.specs.invariants.Dumps.{dumped_object, DumpsValues}
use Rattle.path_places.proofs.dumps.dump_values.Given as goal

-- the elements so far
abbrev pub invariant-loop-i : goal.invariant-loop-i
invariant-loop-i l = DumpsValues (dumped_object l.site.world.now.h.now l.site.heap.now l.site.object l.site.class) l.place.hops.now.items l.place.base.now l.m l.k l.count l.i l.fn.out.items l.out.items
