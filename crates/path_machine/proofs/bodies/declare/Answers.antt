use Rattle.std.proofs.Common.{◌∷◌}
use Rattle.path_model.specs.States.{InBody, sight, with_frames}
use Rattle.path_machine.specs.invariants.Steps.{size_in, gone_on}
use Rattle.path_machine.proofs.Effecting.{unset_agrees}
use Rattle.path_machine.proofs.bodies.declare.Goals as goal

-- src/bodies.rt:96:1
pub returns-in_ok-go_on-in-None-clause-agrees : goal.returns-in_ok-go_on-in-None-clause-agrees
returns-in_ok-go_on-in-None-clause-agrees c = λ e s f below t d.
    let h = c.args.run.now.world.h.now in
    let sizes = size_in c.args.run.now.sizes.now in
    let program = c.args.run.now.program.now in
    unset_agrees h sizes program c.go_on.new.machine (sight s f) (gone_on s f c.args.next below) (with_frames s (InBody f ∷ below)) c.args.n c.args.x.now c.args.outs.now c.in-None.is (c.in_ok-go_on-in-None.ensures h sizes program s f below t)
