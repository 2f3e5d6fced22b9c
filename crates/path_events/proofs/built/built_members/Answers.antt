use Rattle.std.proofs.Common.{◌≤◌, true, List, subst, ◌∙◌}
use Rattle.std.specs.Prelude.{length}
use Rattle.cxx_hierarchy.specs.declared.records.ClassId.{ClassId}
use Rattle.cxx_hierarchy.specs.declared.records.Member.{Member}
use Rattle.path_model.specs.States.{plan_bodies}
use Rattle.path_events.specs.declared.frame.Stage.TheVariants.{Members as MembersStage, Body as BodyStage}
use Rattle.path_events.proofs.Giving.{gives_then}
use Rattle.path_events.proofs.Building.{members_past}
use Rattle.path_events.proofs.built.built_members.Goals as goal

pub returns : goal.returns
returns c = gives_then c.args.course.now.h.now c.args.course.now.index.now true c.args.course.now.frame (MembersStage c.args.m c.args.i) BodyStage c.built_body.result (λ program p is. c.loop-place.invariant program p is ∙ members_past c.args.course.now.h.now (plan_bodies program) c.args.course.now.frame.part.class p c.loop-place.place c.loop-place.element (subst (λ (ms : List (Member ClassId)). length ms ≤ c.loop-place.place) c.members_of-place-end.ensures c.loop-place-test.false)) c.built_body.ensures
