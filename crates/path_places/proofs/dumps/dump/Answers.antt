use Rattle.std.proofs.Common.{arith}
use Rattle.path_places.proofs.Dumping.{dump_told, dump_past}
use Rattle.path_places.proofs.dumps.dump.Goals as goal

pub returns-then-class-len : goal.returns-then-class-len
returns-then-class-len c = λ s p stands q.
    let h = c.args.world.now.h.now in
    let size = c.len.ensures in
    let past = c.if-class-len.true in
    dump_past h c.requires.hierarchy s p.object c.object-object.result c.object_class-class.result (c.object-object.ensures.is h s p stands q) (c.object_class-class.ensures h s p stands q) (omega arith)
    c.new-leaves.result.items c.new-leaves.ensures.items c.from_vec.result c.from_vec.ensures

pub returns : goal.returns
returns c = λ s p stands q.
    let h = c.args.world.now.h.now in
    let listed = c.object_class-class.ensures h s p stands q in
    dump_told h c.args.heap.now s stands p.object c.object-object.result c.heap_object.result c.object_class-class.result (c.object-object.ensures.is h s p stands q) listed (c.heap_object.ensures h s p c.object_class-class.result stands q listed)
    c.new-leaves.result.items c.dump_whole.new.out.items c.new-leaves.ensures.items c.new-hops.result.items c.new-hops.ensures.items c.in_ok-dump_whole.ensures c.from_vec-2.result c.from_vec-2.ensures
