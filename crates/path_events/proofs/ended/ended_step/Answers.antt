use Rattle.std.proofs.Common.{false, refl, subst, sym}
use Rattle.path_plan.specs.Phases.{End}
use Rattle.path_events.specs.declared.frame.Stage.{Stage}
use Rattle.path_events.specs.declared.frame.Step.TheVariants.{Last as LastStep}
use Rattle.path_events.specs.declared.plan.PlanEvent.TheVariants.{End as EndCode}
use Rattle.path_events.specs.Plans.{end_event}
use Rattle.path_events.specs.invariants.Steps.{GivesStep}
use Rattle.path_events.proofs.Giving.{named}
use Rattle.path_events.proofs.ended.ended_step.Goals as goal

pub returns-in-Last : goal.returns-in-Last
returns-in-Last c = subst (λ (s : Stage). GivesStep c.args.course.now.h.now c.args.course.now.index.now false c.args.course.now.frame s (LastStep (EndCode c.args.course.now.frame.part))) (sym c.in-Last.is) (λ program classes p is stands. record { e = End p; means = end_event c.args.course.now.frame.part p (named c.args.course.now.h.now classes c.args.course.now.frame.part _ p stands); is = refl })
