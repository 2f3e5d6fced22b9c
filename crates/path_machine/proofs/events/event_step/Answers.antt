use Rattle.std.proofs.Common.{Some, None, subst}
use Rattle.path_machine.specs.declared.frames.PlanFrame.{PlanFrame}
use Rattle.path_machine.specs.invariants.Events.{Resumes}
use Rattle.path_machine.proofs.Resuming.{Upcoming, steps, steps_none}
use Rattle.path_machine.specs.declared.next.Next.TheVariants.{Wrong}
use Rattle.path_machine.proofs.events.event_step.Goals as goal

-- src/events.rt:207:1
pub returns-in_ok-next-in-Some : goal.returns-in_ok-next-in-Some
returns-in_ok-next-in-Some c = steps c.args.run.now.world.h.now c.args.run.now.program.now c.args.machine.now c.happen.new.machine c.resume.new.machine c.args.frame c.advance.new.self.plan c.in-Some.event c.args.outs.now c.tell_event.new.outs c.in_ok-next-in-Some.next
    (subst (λ (x : PlanFrame). Upcoming c.args.run.now.world.h.now c.args.run.now.program.now x.plan (Some c.in-Some.event)) c.get-begun.ensures (c.in-Some.ensures c.args.run.now.world.h.now c.args.run.now.program.now)) c.in_ok-tell_event-in-Some.ensures c.in_ok-happen-in-Some.ensures (λ classes e events. c.in_ok-advance-in-Some.ensures.plan c.args.run.now.program.now classes e events c.requires.setup.are_bodies)
    (subst (λ (x : PlanFrame). Resumes c.args.run.now.world.h.now c.args.run.now.program.now c.happen.new.machine c.resume.new.machine x c.in_ok-next-in-Some.next) c.in_ok-advance-in-Some.ensures.same c.in_ok-next-in-Some.ensures)

-- src/events.rt:207:1
pub returns-in-None : goal.returns-in-None
returns-in-None c = steps_none c.args.run.now.world.h.now c.args.run.now.program.now c.args.machine.now c.args.frame c.args.outs.now Wrong (subst (λ (x : PlanFrame). Upcoming c.args.run.now.world.h.now c.args.run.now.program.now x.plan None) c.get-begun.ensures (c.in-None.ensures c.args.run.now.world.h.now c.args.run.now.program.now))
