use Rattle.std.proofs.Common.{◌≡◌, ◌+◌, false, List, ap, sym, ◌∙◌, arith}
use Rattle.std.specs.Prelude.{◌-◌, length}
use Rattle.cxx_hierarchy.specs.declared.records.ClassId.{ClassId}
use Rattle.path_events.specs.declared.frame.Stage.TheVariants.{Shared as SharedStage, Bases as BasesStage}
use Rattle.path_events.specs.Frames.{ended_bases, ended_shared}
use Rattle.path_events.proofs.Giving.{gives_then, may_some}
use Rattle.path_events.proofs.ended.ended_bases.Goals as goal

pub returns-in-Some : goal.returns-in-Some
returns-in-Some c = gives_then c.args.course.now.h.now c.args.course.now.index.now false c.args.course.now.frame (BasesStage c.args.i) (BasesStage (c.loop-left.left - 1 + 1)) c.in-Some.step
    (λ program p is. c.loop-left.invariant program p is ∙ ap (λ n. ended_bases c.args.course.now.h.now c.args.course.now.frame.form c.args.course.now.frame.part.class p n) (let e : c.loop-left.left ≡ c.loop-left.left - 1 + 1 = omega arith in e))
    (may_some c.args.course.now.h.now c.args.course.now.index.now false c.args.course.now.frame (BasesStage (c.loop-left.left - 1 + 1)) (BasesStage (c.loop-left.left - 1)) c.ended_base.result c.in-Some.step c.in-Some.is c.ended_base.ensures)

pub returns : goal.returns
returns c = gives_then c.args.course.now.h.now c.args.course.now.index.now false c.args.course.now.frame (BasesStage c.args.i) (SharedStage (length c.order_of-left.result.now)) c.ended_shared.result
    (λ program p is. c.loop-left.invariant program p is ∙ (ap (λ n. ended_bases c.args.course.now.h.now c.args.course.now.frame.form c.args.course.now.frame.part.class p n) (let e : c.loop-left.left ≡ 0 = omega arith in e) ∙ ap (λ (vs : List ClassId). ended_shared c.args.course.now.h.now c.args.course.now.frame.form c.args.course.now.frame.part.class p (length vs)) (sym c.order_of-left.ensures)))
    c.ended_shared.ensures
