use Rattle.path_heap.proofs.Storing.{stored_stands}
use Rattle.path_heap.proofs.heap.Heap.set_leaf.Goals as goal

pub returns : goal.returns
returns c = λ h s l v stands q means. stored_stands h c.args.self.now c.store.new.self s stands c.args.k c.args.value l v q means c.in_ok-store.ensures
