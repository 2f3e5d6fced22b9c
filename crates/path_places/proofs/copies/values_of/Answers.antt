use Rattle.path_places.proofs.Moving.{reads_next, reads_all}
use Rattle.path_places.proofs.copies.values_of.Goals as goal

pub loop-k-preserved : goal.loop-k-preserved
loop-k-preserved c = reads_next c.args.heap.now c.args.leaves.now c.loop-k.values.items c.push.new.self.items c.loop-k.k-index _ c.leaf.result c.loop-k-test.true c.loop-k.invariant c.leaf.ensures c.in_ok-push.ensures.items

pub returns : goal.returns
returns c = reads_all c.args.heap.now c.args.leaves.now c.loop-k.values.items c.loop-k.k-index c.loop-k-test.false c.loop-k.invariant
