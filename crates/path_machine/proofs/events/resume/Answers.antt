use Rattle.std.proofs.Common.{sym, ◌∙◌, Some, None, subst}
use Rattle.path_machine.specs.declared.frames.PlanFrame.{PlanFrame}
use Rattle.path_machine.proofs.Resuming.{Upcoming, Gives, resumes_body, resumes_plan, resumes_none}
use Rattle.path_machine.proofs.events.resume.Goals as goal

-- src/events.rt:180:1
pub returns-in-None : goal.returns-in-None
returns-in-None c = resumes_none c.args.run.now.world.h.now c.args.run.now.program.now c.args.machine.now c.give.new.machine c.args.frame
    (subst (λ (x : PlanFrame). Upcoming c.args.run.now.world.h.now c.args.run.now.program.now x.plan None) c.get-begun.ensures (c.in-None.ensures c.args.run.now.world.h.now c.args.run.now.program.now))
    (subst (λ (x : PlanFrame). Gives c.args.run.now.world.h.now c.args.run.now.program.now c.args.machine.now c.give.new.machine x) c.get-begun.ensures (λ sizes s v. c.give.ensures sizes c.args.run.now.program.now s v))

-- src/events.rt:180:1
pub returns-in_ok-next-in-Some-body_part : goal.returns-in_ok-next-in-Some-body_part
returns-in_ok-next-in-Some-body_part c = resumes_body c.args.run.now.world.h.now c.args.run.now.program.now c.args.machine.now c.enter_body.new.machine c.args.frame c.in-Some.event c.in-Some-body_part.part c.in_ok-next-in-Some-body_part.next (sym c.body_part.ensures ∙ c.in-Some-body_part.is) (subst (λ (x : PlanFrame). Upcoming c.args.run.now.world.h.now c.args.run.now.program.now x.plan (Some c.in-Some.event)) c.get-begun.ensures (c.in-Some.ensures c.args.run.now.world.h.now c.args.run.now.program.now)) c.in_ok-next-in-Some-body_part.ensures

-- src/events.rt:180:1
pub returns-in_ok-push-in-None-body_part : goal.returns-in_ok-push-in-None-body_part
returns-in_ok-push-in-None-body_part c = resumes_plan c.args.run.now.world.h.now c.args.run.now.program.now c.args.machine.now c.push.new.self c.args.frame c.in-Some.event (sym c.body_part.ensures ∙ c.in-None-body_part.is) (subst (λ (x : PlanFrame). Upcoming c.args.run.now.world.h.now c.args.run.now.program.now x.plan (Some c.in-Some.event)) c.get-begun.ensures (c.in-Some.ensures c.args.run.now.world.h.now c.args.run.now.program.now)) (λ sizes s f. c.in_ok-push-in-None-body_part.ensures c.args.run.now.world.h.now sizes c.args.run.now.program.now s f)
