use Rattle.path_heap.proofs.Storing.{leaf_told}
use Rattle.path_heap.proofs.heap.Heap.leaf.Goals as goal

pub returns : goal.returns
returns c = λ h s l stands q. leaf_told h c.args.self.now s stands c.args.k l q c.value_at.result c.value_at.ensures
