use Rattle.code_ops.specs.Setups.{setup}
use Rattle.code_plans.proofs.Putting.{ending_put, ready_put}
use Rattle.code_plans.proofs.events.push_event.Goals as goal

pub returns-in_ok-push_phase-in-AtReady : goal.returns-in_ok-push_phase-in-AtReady
returns-in_ok-push_phase-in-AtReady g c =
    let x = setup c.args.site.now.h.now (g.L.SoundLayout.rows c.args.site.now.layout.now) c.args.site.now.program.now in
    ready_put x c.args.plan.course c.args.plan.form c.args.plan.class c.args.kind c.args.ops.now c.push_pointers.new.ops c.push_phase.new.ops c.in-AtReady.is (c.in_ok-push_pointers-in-AtReady.ensures x c.args.plan.class c.requires.pointers) c.in_ok-push_phase-in-AtReady.ensures

pub returns-in_ok-push_ending-in-AtEnding : goal.returns-in_ok-push_ending-in-AtEnding
returns-in_ok-push_ending-in-AtEnding g c =
    let x = setup c.args.site.now.h.now (g.L.SoundLayout.rows c.args.site.now.layout.now) c.args.site.now.program.now in
    ending_put x c.args.plan.course c.args.plan.form c.args.plan.class c.args.kind c.args.ops.now c.push_pointers-in-AtEnding.new.ops c.push_ending.new.ops c.in-AtEnding.is (c.in_ok-push_pointers-in-AtEnding.ensures x c.args.plan.class c.requires.pointers) c.in_ok-push_ending-in-AtEnding.ensures
