use Rattle.std.proofs.Common.{rules}
use Rattle.path_model.specs.States.{with_frames}
use Rattle.path_machine.proofs.Beginning.{constructor_agrees, no_plan}
use Rattle.path_machine.proofs.bodies.close_constructor.Goals as goal

pub returns-in_ok-done-in-Some : goal.returns-in_ok-done-in-Some
returns-in_ok-done-in-Some c = λ sizes s below stands next.
    let h = c.args.run.now.world.h.now in
    let program = c.args.run.now.program.now in
    constructor_agrees h sizes program c.pop-top.new.self c.event_step.new.machine s below c.pop-top.result c.in-Some.plan c.args.outs.now c.event_step.new.outs c.in_ok-done-in-Some.done (c.pop-top.ensures.pops h sizes program (with_frames s below) stands) (search rules) next (λ g rest taken goes. c.in_ok-done-in-Some.ensures sizes s g rest taken goes)

pub returns-in-None : goal.returns-in-None
returns-in-None c = λ sizes s below stands next.
    let h = c.args.run.now.world.h.now in
    let program = c.args.run.now.program.now in
    no_plan h sizes program c.pop-top.new.self c.pop-top.new.self s below c.pop-top.result c.args.outs.now c.args.outs.now _ (c.pop-top.ensures.pops h sizes program (with_frames s below) stands) (search rules)
