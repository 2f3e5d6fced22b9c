use Rattle.path_model.specs.States.{sight}
use Rattle.path_machine.proofs.statements.operand.Goals as goal

-- src/statements.rt:163:1
pub returns : goal.returns
returns c = λ h sizes program s f below t. c.value.ensures h c.args.machine.now.heap (sight s f) (c.scene_of-scene.ensures h sizes program s f below t)
