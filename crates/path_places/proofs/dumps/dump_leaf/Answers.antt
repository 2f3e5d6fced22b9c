use Rattle.path_places.specs.invariants.Dumps.{dumped_object}
use Rattle.path_places.proofs.Dumping.{leaf_told}
use Rattle.path_places.proofs.dumps.dump_leaf.Goals as goal

pub returns : goal.returns
returns c =
    let site = c.args.site.now in
    leaf_told (dumped_object site.world.now.h.now site.heap.now site.object site.class) c.args.place.now.hops.now.items c.in_ok-hops.hops.items c.args.place.now.base.now c.args.member c.args.index c.args.k c.leaf.result c.in_ok-value.value c.in_ok-hops.ensures
    c.leaf.ensures c.in_ok-value.ensures c.from_vec.result c.from_vec.ensures
