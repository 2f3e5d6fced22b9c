use Rattle.path_heap.proofs.Asking.{owner_class_told}
use Rattle.path_heap.proofs.heap.Heap.owner_class.Goals as goal

pub returns : goal.returns
returns c = λ h s p stands q begun. owner_class_told h c.args.self.now s stands c.args.n p q begun c.cell.result c.cell.ensures
