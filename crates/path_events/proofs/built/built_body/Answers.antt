use Rattle.std.proofs.Common.{sym, ◌∙◌}
use Rattle.path_plan.specs.Phases.{Body, Done}
use Rattle.path_model.specs.States.{plan_bodies}
use Rattle.path_events.specs.Plans.{body_event, done_event}
use Rattle.path_events.proofs.Giving.{named}
use Rattle.path_events.proofs.Building.{body_on, body_off}
use Rattle.path_events.proofs.built.built_body.Goals as goal

pub returns-then-has_body : goal.returns-then-has_body
returns-then-has_body c = λ program classes p is stands. record { e = Body p; means = body_event c.args.course.now.frame.part p (named c.args.course.now.h.now classes c.args.course.now.frame.part _ p stands); is = body_on (plan_bodies program) c.args.course.now.frame.part.class p (sym (c.has_body.ensures program is) ∙ c.if-has_body.true) }

pub returns-else-has_body : goal.returns-else-has_body
returns-else-has_body c = λ program classes p is stands. record { e = Done p; means = done_event c.args.course.now.frame.part p (named c.args.course.now.h.now classes c.args.course.now.frame.part _ p stands); is = body_off (plan_bodies program) c.args.course.now.frame.part.class p (sym (c.has_body.ensures program is) ∙ c.if-has_body.false) }
