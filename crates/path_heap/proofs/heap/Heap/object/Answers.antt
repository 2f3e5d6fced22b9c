use Rattle.path_heap.proofs.Finding.{object_found}
use Rattle.path_heap.proofs.heap.Heap.object.Goals as goal

pub returns-clause-is : goal.returns-clause-is
returns-clause-is c = λ h s p stands q. object_found h c.args.self.now s stands c.args.n p q c.object_at.result c.object_at.ensures
