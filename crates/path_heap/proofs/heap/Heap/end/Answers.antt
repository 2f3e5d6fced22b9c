use Rattle.path_heap.proofs.Leaving.{ends_heap}
use Rattle.path_heap.proofs.heap.Heap.end.Goals as goal

pub returns : goal.returns
returns c = λ h program s p stands r fits. ends_heap h c.args.self.now c.leave.new.self c.mark.new.self c.close.new.self program s stands c.args.part p r fits.1 c.in_ok-leave.ensures c.in_ok-mark.ensures c.close.ensures
