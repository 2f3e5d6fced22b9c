use Rattle.std.proofs.Common.{List, ◌∷◌, ap, sym, ◌∙◌}
use Rattle.std.specs.Prelude.{length}
use Rattle.cxx_hierarchy.specs.declared.records.ClassId.{ClassId}
use Rattle.cxx_hierarchy.specs.declared.records.Member.{Member}
use Rattle.path_plan.specs.Phases.{Body}
use Rattle.path_plan.specs.Pieces.{Own}
use Rattle.path_model.specs.States.{plan_bodies}
use Rattle.path_events.specs.Frames.{ended_members}
use Rattle.path_events.specs.Plans.{body_event}
use Rattle.path_events.proofs.Giving.{named}
use Rattle.path_events.proofs.Ending.{body_on}
use Rattle.path_events.proofs.ended.ended_body.Goals as goal

pub returns-then-has_body : goal.returns-then-has_body
returns-then-has_body c = λ program classes p is stands. record { e = Body p; means = body_event c.args.course.now.frame.part p (named c.args.course.now.h.now classes c.args.course.now.frame.part _ p stands); is = body_on c.args.course.now.h.now (plan_bodies program) c.args.course.now.frame.form c.args.course.now.frame.part.class p (sym (c.has_body.ensures program is) ∙ c.if-has_body.true) ∙ ap (λ (ms : List (Member ClassId)). Own (Body p) ∷ ended_members c.args.course.now.h.now c.args.course.now.frame.form c.args.course.now.frame.part.class p (length ms) 0) (sym c.members_of-members.ensures) }
