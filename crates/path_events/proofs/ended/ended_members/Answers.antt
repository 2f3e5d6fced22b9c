use Rattle.std.proofs.Common.{◌≡◌, false, List, ◌∷◌, ap, sym, ◌∙◌, arith}
use Rattle.std.specs.Prelude.{◌-◌, length}
use Rattle.cxx_hierarchy.specs.declared.records.ClassId.{ClassId}
use Rattle.cxx_hierarchy.specs.declared.records.Base.{Base}
use Rattle.path_plan.specs.Phases.{Bases}
use Rattle.path_plan.specs.Pieces.{Own}
use Rattle.path_events.specs.declared.frame.Stage.TheVariants.{Members as MembersStage}
use Rattle.path_events.specs.Frames.{ended_members, ended_bases}
use Rattle.path_events.specs.Plans.{bases_event}
use Rattle.path_events.proofs.Giving.{named, gives_then, may_some, may_none}
use Rattle.path_events.proofs.Ending.{before_left, members_done}
use Rattle.path_events.proofs.ended.ended_members.Goals as goal

pub returns-in-Some-ended_element : goal.returns-in-Some-ended_element
returns-in-Some-ended_element c = gives_then c.args.course.now.h.now c.args.course.now.index.now false c.args.course.now.frame (MembersStage c.args.m c.args.i) (MembersStage (c.loop-left.left - 1) c.elements_at-elements.result) c.in-Some-ended_element.step
    (λ program p is. c.loop-left.invariant program p is ∙ before_left c.args.course.now.h.now c.args.course.now.frame.form c.args.course.now.frame.part.class p c.loop-left.left c.elements_at-elements.result c.loop-left-test.true c.elements_at-elements.ensures)
    (may_some c.args.course.now.h.now c.args.course.now.index.now false c.args.course.now.frame (MembersStage (c.loop-left.left - 1) c.elements_at-elements.result) (MembersStage (c.loop-left.left - 1) 0) c.ended_element-in-loop-left.result c.in-Some-ended_element.step c.in-Some-ended_element.is c.ended_element-in-loop-left.ensures)

pub loop-left-preserved : goal.loop-left-preserved
loop-left-preserved c = λ program p is. c.loop-left.invariant program p is
    ∙ (before_left c.args.course.now.h.now c.args.course.now.frame.form c.args.course.now.frame.part.class p c.loop-left.left c.elements_at-elements.result c.loop-left-test.true c.elements_at-elements.ensures
    ∙ may_none c.args.course.now.h.now c.args.course.now.index.now false c.args.course.now.frame (MembersStage (c.loop-left.left - 1) c.elements_at-elements.result) (MembersStage (c.loop-left.left - 1) 0) c.ended_element-in-loop-left.result c.in-None-ended_element.is c.ended_element-in-loop-left.ensures program p is)

pub returns : goal.returns
returns c = λ program classes p is stands.
    let zero : c.loop-left.left ≡ 0 = omega arith in
    record {
      e = Bases p;
      means = bases_event c.args.course.now.frame.part p (named c.args.course.now.h.now classes c.args.course.now.frame.part _ p stands);
      is = c.loop-left.invariant program p is ∙ (ap (λ n. ended_members c.args.course.now.h.now c.args.course.now.frame.form c.args.course.now.frame.part.class p n 0) zero ∙ (members_done c.args.course.now.h.now c.args.course.now.frame.form c.args.course.now.frame.part.class p ∙ ap (λ (bs : List (Base ClassId)). Own (Bases p) ∷ ended_bases c.args.course.now.h.now c.args.course.now.frame.form c.args.course.now.frame.part.class p (length bs)) (sym c.bases_of-bases.ensures)));
    }
