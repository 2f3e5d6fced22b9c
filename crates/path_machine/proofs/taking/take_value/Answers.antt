use Rattle.std.proofs.Common.{refl}
use Rattle.path_model.specs.Values.{converted_to}
use Rattle.path_model.specs.States.{sight}
use Rattle.path_model.specs.Effects.{right_side_value}
use Rattle.path_machine.specs.invariants.Steps.{size_in}
use Rattle.path_machine.proofs.taking.take_value.Goals as goal
use Rattle.path_machine.proofs.Tellings.{nothing_more}

-- src/taking.rt:60:1
pub returns-clause-agrees : goal.returns-clause-agrees
returns-clause-agrees c = λ e s f below outs t given plain.
    let h = c.args.run.now.world.h.now in
    let sizes = size_in c.args.run.now.sizes.now in
    let program = c.args.run.now.program.now in
    let see = sight s f in
    let x = c.args.x.now in
    let scene = c.scene_of-scene.ensures h sizes program s f below t in
    let means = c.in_ok-value.ensures.is e see given.type scene given.seen given.typed given.clear in
    (refl, c.assign.ensures h sizes program _ (converted_to (right_side_value h see x.right) x.conversion) (c.in_ok-go_on.ensures h sizes program s f below t) means, nothing_more outs)
