use Rattle.std.proofs.Common.{refl}
use Rattle.path_heap.specs.declared.state.Phase.TheVariants.{ReadyBuilding}
use Rattle.path_heap.proofs.Marking.{stays}
use Rattle.path_heap.proofs.heap.Heap.ready.Goals as goal

pub returns : goal.returns
returns c = λ h program s p stands r fits. stays h c.args.self.now c.mark.new.self s stands c.args.part p r ReadyBuilding refl c.in_ok-mark.ensures
