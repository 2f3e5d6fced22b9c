use Rattle.path_heap.proofs.Asking.{class_told}
use Rattle.path_heap.proofs.heap.Heap.class.Goals as goal

pub returns : goal.returns
returns c = λ h s p stands q begun. class_told h c.args.self.now s stands c.args.n p q begun c.cell.result c.cell.ensures
