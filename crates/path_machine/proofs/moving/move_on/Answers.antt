use Rattle.std.proofs.Common.{refl, ap, ◌∙◌, Some}
use Rattle.path_machine.specs.invariants.Steps.{size_in}
use Rattle.path_machine.proofs.Knowing.{body_moves, plan_moves, none_moves}
use Rattle.path_machine.proofs.moving.move_on.Goals as goal

pub returns-in-None-clause-agrees : goal.returns-in-None-clause-agrees
returns-in-None-clause-agrees c = λ s stands next.
    let h = c.args.run.now.world.h.now in
    let sizes = size_in c.args.run.now.sizes.now in
    let program = c.args.run.now.program.now in
    let pops = c.pop-top.ensures.pops h sizes program s stands in
    none_moves h sizes program c.pop-top.new.self c.pop-top.new.self s s.frames c.pop-top.result c.args.outs.now c.args.outs.now _ c.in-None.is pops

pub returns-in_ok-next-in-Body-clause-agrees : goal.returns-in_ok-next-in-Body-clause-agrees
returns-in_ok-next-in-Body-clause-agrees c = λ s stands next.
    let h = c.args.run.now.world.h.now in
    let sizes = size_in c.args.run.now.sizes.now in
    let program = c.args.run.now.program.now in
    let pops = c.pop-top.ensures.pops h sizes program s stands in
    body_moves h sizes program c.requires.setup.typed c.pop-top.new.self c.body_step.new.machine s s.frames c.pop-top.result c.in-Body.frame c.args.outs.now c.body_step.new.outs c.in_ok-next-in-Body.next refl (c.in-Some.is ∙ ap Some c.in-Body.is) pops next
    (λ f below taken frames known. c.in_ok-next-in-Body.ensures.agrees s f below taken frames known)

pub returns-in_ok-next-in-Plan-clause-agrees : goal.returns-in_ok-next-in-Plan-clause-agrees
returns-in_ok-next-in-Plan-clause-agrees c = λ s stands next.
    let h = c.args.run.now.world.h.now in
    let sizes = size_in c.args.run.now.sizes.now in
    let program = c.args.run.now.program.now in
    let pops = c.pop-top.ensures.pops h sizes program s stands in
    plan_moves h sizes program c.pop-top.new.self c.event_step.new.machine s s.frames c.pop-top.result c.in-Plan.frame c.args.outs.now c.event_step.new.outs c.in_ok-next-in-Plan.next refl (c.in-Some.is ∙ ap Some c.in-Plan.is) pops next
    (λ f below taken goes. c.in_ok-next-in-Plan.ensures sizes s f below taken goes)
