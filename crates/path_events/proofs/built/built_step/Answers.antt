use Rattle.std.proofs.Common.{true, refl, subst, sym}
use Rattle.path_plan.specs.Phases.{Done}
use Rattle.path_events.specs.declared.frame.Stage.{Stage}
use Rattle.path_events.specs.declared.frame.Stage.TheVariants.{Shared as SharedStage, Bases as BasesStage}
use Rattle.path_events.specs.declared.frame.Step.TheVariants.{Last as LastStep}
use Rattle.path_events.specs.declared.plan.PlanEvent.TheVariants.{Done as DoneCode}
use Rattle.path_events.specs.Plans.{done_event}
use Rattle.path_events.specs.invariants.Steps.{GivesStep}
use Rattle.path_events.proofs.Giving.{named, gives_then, may_some, may_none}
use Rattle.path_events.proofs.built.built_step.Goals as goal

pub returns-in-Some : goal.returns-in-Some
returns-in-Some c = subst (λ (s : Stage). GivesStep c.args.course.now.h.now c.args.course.now.index.now true c.args.course.now.frame s c.in-Some.step) (sym c.in-Shared.is) (may_some c.args.course.now.h.now c.args.course.now.index.now true c.args.course.now.frame (SharedStage c.in-Shared.j) (BasesStage 0) c.built_shared.result c.in-Some.step c.in-Some.is c.built_shared.ensures)

pub returns-in-None : goal.returns-in-None
returns-in-None c = subst (λ (s : Stage). GivesStep c.args.course.now.h.now c.args.course.now.index.now true c.args.course.now.frame s c.built_bases.result) (sym c.in-Shared.is) (gives_then c.args.course.now.h.now c.args.course.now.index.now true c.args.course.now.frame (SharedStage c.in-Shared.j) (BasesStage 0) c.built_bases.result (may_none c.args.course.now.h.now c.args.course.now.index.now true c.args.course.now.frame (SharedStage c.in-Shared.j) (BasesStage 0) c.built_shared.result c.in-None.is c.built_shared.ensures) c.built_bases.ensures)

pub returns-in-Bases : goal.returns-in-Bases
returns-in-Bases c = subst (λ (s : Stage). GivesStep c.args.course.now.h.now c.args.course.now.index.now true c.args.course.now.frame s c.built_bases-in-Bases.result) (sym c.in-Bases.is) c.built_bases-in-Bases.ensures

pub returns-in-Members : goal.returns-in-Members
returns-in-Members c = subst (λ (s : Stage). GivesStep c.args.course.now.h.now c.args.course.now.index.now true c.args.course.now.frame s c.built_members.result) (sym c.in-Members.is) c.built_members.ensures

pub returns-in-Last : goal.returns-in-Last
returns-in-Last c = subst (λ (s : Stage). GivesStep c.args.course.now.h.now c.args.course.now.index.now true c.args.course.now.frame s (LastStep (DoneCode c.args.course.now.frame.part))) (sym c.in-Last.is) (λ program classes p is stands. record { e = Done p; means = done_event c.args.course.now.frame.part p (named c.args.course.now.h.now classes c.args.course.now.frame.part _ p stands); is = refl })
