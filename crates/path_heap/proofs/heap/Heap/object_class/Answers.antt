use Rattle.path_heap.proofs.Asking.{object_class_told}
use Rattle.path_heap.proofs.heap.Heap.object_class.Goals as goal

pub returns : goal.returns
returns c = λ h s p stands q. object_class_told h c.args.self.now s stands c.args.n p q c.object_at.result c.object_at.ensures c.row.result c.row.ensures
