use Rattle.path_places.specs.invariants.Dumps.{dumped_object}
use Rattle.path_places.proofs.Dumping.{values_next}
use Rattle.path_places.proofs.dumps.dump_values.Goals as goal

pub loop-i-preserved : goal.loop-i-preserved
loop-i-preserved c =
    let site = c.args.site.now in
    values_next (dumped_object site.world.now.h.now site.heap.now site.object site.class) c.args.place.now.hops.now.items c.args.place.now.base.now c.args.m c.args.k c.args.count c.loop-i.i c.loop-i-test.true
    c.args.out.now.items c.loop-i.out.items c.push.new.self.items c.in_ok-dump_leaf.field-0 c.loop-i.invariant c.in_ok-dump_leaf.ensures c.in_ok-push.ensures.items
