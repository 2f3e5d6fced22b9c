use Rattle.path_heap.specs.declared.state.Phase.TheVariants.{Complete}
use Rattle.path_heap.proofs.Leaving.{leaves_plain}
use Rattle.path_heap.proofs.heap.Heap.done.Goals as goal

pub returns : goal.returns
returns c = λ h program s p stands r fits. leaves_plain h c.args.self.now c.leave.new.self c.mark.new.self s stands c.args.part p r Complete fits.1 c.in_ok-leave.ensures c.in_ok-mark.ensures
