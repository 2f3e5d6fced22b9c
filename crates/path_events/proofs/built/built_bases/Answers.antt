use Rattle.std.proofs.Common.{◌≤◌, List, subst, ◌∙◌}
use Rattle.std.specs.Prelude.{length}
use Rattle.cxx_hierarchy.specs.declared.records.ClassId.{ClassId}
use Rattle.cxx_hierarchy.specs.declared.records.Base.{Base}
use Rattle.path_plan.specs.Phases.{Ready}
use Rattle.path_model.specs.States.{plan_bodies}
use Rattle.path_events.specs.Plans.{ready_event}
use Rattle.path_events.proofs.Giving.{named}
use Rattle.path_events.proofs.Building.{base_past}
use Rattle.path_events.proofs.built.built_bases.Goals as goal

pub returns : goal.returns
returns c = λ program classes p is stands. record { e = Ready p; means = ready_event c.args.course.now.frame.part p (named c.args.course.now.h.now classes c.args.course.now.frame.part _ p stands); is = c.loop-place.invariant program p is ∙ base_past c.args.course.now.h.now (plan_bodies program) c.args.course.now.frame.part.class p c.loop-place.place (subst (λ (bs : List (Base ClassId)). length bs ≤ c.loop-place.place) c.bases_of-place-end.ensures c.loop-place-test.false) }
