use Rattle.std.proofs.Common.{ap, refl}
use Rattle.path_heap.specs.declared.state.Phase.TheVariants.{InBases}
use Rattle.path_heap.proofs.Marking.{enters}
use Rattle.path_heap.proofs.heap.Heap.begin.Goals as goal
use Rattle.path_plan.specs.Phases.{is_running}

pub returns : goal.returns
returns c = λ h program s p stands r fits. enters h c.args.self.now c.enter.new.self c.mark.new.self s stands c.args.part p r InBases (ap is_running fits) refl c.in_ok-enter.ensures c.in_ok-mark.ensures
