use Rattle.path_places.proofs.Naming.{located, turned_back}
use Rattle.path_places.proofs.locations.location.Goals as goal

pub returns : goal.returns
returns c = λ s p stands q.
    let h = c.args.world.now.h.now in
    let listed = c.object_class-class.ensures h s p stands q in
    located h c.args.heap.now s stands c.args.n c.heap_object.result p c.object_class-class.result q listed (c.heap_object.ensures h s p c.object_class-class.result stands q listed)
    c.object-object.result _ (c.object-object.ensures.is h s p stands q) (turned_back c.args.n c.heap_object.result c.behind-rest.result c.behind-rest.ensures) c.in_ok-whole.whole c.in_ok-whole.ensures.class c.in_ok-whole.ensures.full c.in_ok-whole.ensures.root c.in_ok-whole.ensures.path
    c.new-hops.result.items c.walk.new.hops.items c.new-hops.ensures.items c.in_ok-walk.ensures c.from_vec.result c.from_vec.ensures
