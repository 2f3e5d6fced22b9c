use Rattle.std.proofs.Common.{subst, sym}
use Rattle.path_events.specs.declared.plan.PlanEvent.{PlanEvent}
use Rattle.path_machine.specs.invariants.Events.{TellsEvent}
use Rattle.path_machine.proofs.Happening.{tells_built, tells_ending, silent}
use Rattle.path_machine.proofs.events.tell_event.Goals as goal

-- src/events.rt:79:1
pub returns-in_ok-tell-in-Done : goal.returns-in_ok-tell-in-Done
returns-in_ok-tell-in-Done c = subst (λ (e : PlanEvent). TellsEvent c.args.run.now.world.h.now c.args.run.now.program.now c.args.machine.now e c.args.outs.now c.tell.new.self) (sym c.in-Done.is)
    (tells_built c.args.run.now.world.h.now c.args.run.now.program.now c.args.machine.now c.in-Done.part c.args.outs.now c.tell.new.self c.in_ok-built_told-in-Done.field-0 c.in_ok-built_told-in-Done.ensures c.in_ok-tell-in-Done.ensures)

-- src/events.rt:79:1
pub returns-in_ok-tell-in-Ending : goal.returns-in_ok-tell-in-Ending
returns-in_ok-tell-in-Ending c = subst (λ (e : PlanEvent). TellsEvent c.args.run.now.world.h.now c.args.run.now.program.now c.args.machine.now e c.args.outs.now c.tell-in-Ending.new.self) (sym c.in-Ending.is)
    (tells_ending c.args.run.now.world.h.now c.args.run.now.program.now c.args.machine.now c.in-Ending.part c.args.outs.now c.tell-in-Ending.new.self c.in_ok-ending_told-in-Ending.field-0 c.in_ok-ending_told-in-Ending.ensures c.in_ok-tell-in-Ending.ensures)

-- src/events.rt:79:1
pub returns-in-Begin : goal.returns-in-Begin
returns-in-Begin c = silent c.args.run.now.world.h.now c.args.run.now.program.now c.args.machine.now c.args.outs.now c.args.event c.in-Begin.is
