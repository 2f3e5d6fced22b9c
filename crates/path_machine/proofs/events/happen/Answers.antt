use Rattle.std.proofs.Common.{subst, sym}
use Rattle.path_events.specs.declared.plan.PlanEvent.{PlanEvent}
use Rattle.path_machine.specs.invariants.Events.{Happens}
use Rattle.path_machine.proofs.Effecting.{heaped}
use Rattle.path_machine.proofs.Happening.{begins, readies, completes, starts_ending, ends_bases, finishes, waits}
use Rattle.path_machine.proofs.events.happen.Goals as goal

-- src/events.rt:60:1
pub returns-in_ok-begin-in-Begin : goal.returns-in_ok-begin-in-Begin
returns-in_ok-begin-in-Begin c = subst (λ (e : PlanEvent). Happens c.args.run.now.world.h.now c.args.run.now.program.now c.args.machine.now (heaped c.args.machine.now c.begin.new.self) e) (sym c.in-Begin.is) (begins c.args.run.now.world.h.now c.args.run.now.program.now c.args.machine.now c.begin.new.self c.in-Begin.part (c.in_ok-begin-in-Begin.ensures c.args.run.now.world.h.now c.args.run.now.program.now))

-- src/events.rt:60:1
pub returns-in_ok-ready-in-Ready : goal.returns-in_ok-ready-in-Ready
returns-in_ok-ready-in-Ready c = subst (λ (e : PlanEvent). Happens c.args.run.now.world.h.now c.args.run.now.program.now c.args.machine.now (heaped c.args.machine.now c.ready.new.self) e) (sym c.in-Ready.is) (readies c.args.run.now.world.h.now c.args.run.now.program.now c.args.machine.now c.ready.new.self c.in-Ready.part (c.in_ok-ready-in-Ready.ensures c.args.run.now.world.h.now c.args.run.now.program.now))

-- src/events.rt:60:1
pub returns-in_ok-done-in-Done : goal.returns-in_ok-done-in-Done
returns-in_ok-done-in-Done c = subst (λ (e : PlanEvent). Happens c.args.run.now.world.h.now c.args.run.now.program.now c.args.machine.now (heaped c.args.machine.now c.done.new.self) e) (sym c.in-Done.is) (completes c.args.run.now.world.h.now c.args.run.now.program.now c.args.machine.now c.done.new.self c.in-Done.part (c.in_ok-done-in-Done.ensures c.args.run.now.world.h.now c.args.run.now.program.now))

-- src/events.rt:60:1
pub returns-in_ok-ending-in-Ending : goal.returns-in_ok-ending-in-Ending
returns-in_ok-ending-in-Ending c = subst (λ (e : PlanEvent). Happens c.args.run.now.world.h.now c.args.run.now.program.now c.args.machine.now (heaped c.args.machine.now c.ending.new.self) e) (sym c.in-Ending.is) (starts_ending c.args.run.now.world.h.now c.args.run.now.program.now c.args.machine.now c.ending.new.self c.in-Ending.part (c.in_ok-ending-in-Ending.ensures c.args.run.now.world.h.now c.args.run.now.program.now))

-- src/events.rt:60:1
pub returns-in_ok-bases-in-Bases : goal.returns-in_ok-bases-in-Bases
returns-in_ok-bases-in-Bases c = subst (λ (e : PlanEvent). Happens c.args.run.now.world.h.now c.args.run.now.program.now c.args.machine.now (heaped c.args.machine.now c.bases.new.self) e) (sym c.in-Bases.is) (ends_bases c.args.run.now.world.h.now c.args.run.now.program.now c.args.machine.now c.bases.new.self c.in-Bases.part (c.in_ok-bases-in-Bases.ensures c.args.run.now.world.h.now c.args.run.now.program.now))

-- src/events.rt:60:1
pub returns-in_ok-end-in-End : goal.returns-in_ok-end-in-End
returns-in_ok-end-in-End c = subst (λ (e : PlanEvent). Happens c.args.run.now.world.h.now c.args.run.now.program.now c.args.machine.now (heaped c.args.machine.now c.end.new.self) e) (sym c.in-End.is) (finishes c.args.run.now.world.h.now c.args.run.now.program.now c.args.machine.now c.end.new.self c.in-End.part (c.in_ok-end-in-End.ensures c.args.run.now.world.h.now c.args.run.now.program.now))

-- src/events.rt:60:1
pub returns-in_ok-initialize-in-Init : goal.returns-in_ok-initialize-in-Init
returns-in_ok-initialize-in-Init c = subst (λ (e : PlanEvent). Happens c.args.run.now.world.h.now c.args.run.now.program.now c.args.machine.now c.initialize.new.machine e) (sym c.in-Init.is) c.in_ok-initialize-in-Init.ensures

-- src/events.rt:60:1
pub returns-in-Body : goal.returns-in-Body
returns-in-Body c = subst (λ (e : PlanEvent). Happens c.args.run.now.world.h.now c.args.run.now.program.now c.args.machine.now c.args.machine.now e) (sym c.in-Body.is) (waits c.args.run.now.world.h.now c.args.run.now.program.now c.args.machine.now c.in-Body.field-0)
