use Rattle.path_heap.proofs.Asking.{phase_told}
use Rattle.path_heap.proofs.heap.Heap.phase.Goals as goal

pub returns : goal.returns
returns c = λ h s p stands q. phase_told h c.args.self.now s stands c.args.n p q c.cell.result c.cell.ensures
