use Rattle.path_heap.proofs.Asking.{heap_object_told}
use Rattle.path_heap.proofs.heap.Heap.heap_object.Goals as goal

pub returns : goal.returns
returns c = λ h s p class stands q listed. heap_object_told h c.args.self.now s stands c.args.n p q c.object_at.result c.object_at.ensures c.row.result c.row.ensures class listed
