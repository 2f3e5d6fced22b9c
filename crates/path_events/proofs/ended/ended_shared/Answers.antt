use Rattle.std.proofs.Common.{◌≡◌, List, ◌∷◌, length, ap, subst, sym, ◌∙◌, arith}
use Rattle.std.proofs.lemmas.Option.{slice_get_within}
use Rattle.std.specs.Prelude.{slice_get, ◌-◌}
use Rattle.cxx_hierarchy.specs.declared.records.ClassId.{ClassId}
use Rattle.path_plan.specs.Places.{shared_part}
use Rattle.path_plan.specs.Phases.{End}
use Rattle.path_plan.specs.declared.form.Form.{Form}
use Rattle.path_plan.specs.declared.form.Form.TheVariants.{InFull, AsBase}
use Rattle.path_plan.specs.Plans.{virtual_order}
use Rattle.path_plan.specs.Pieces.{Sub}
use Rattle.path_events.specs.Frames.{StandsAs, ended_shared}
use Rattle.path_events.specs.Plans.{end_event}
use Rattle.path_events.proofs.Giving.{named}
use Rattle.path_events.proofs.Ending.{shared_one, shared_none}
use Rattle.path_events.proofs.Lists.{front_left, none_front}
use Rattle.path_events.proofs.Few.{few_virtual}
use Rattle.path_events.proofs.ended.ended_shared.Goals as goal

pub returns-in-AsBase : goal.returns-in-AsBase
returns-in-AsBase c = λ program classes p is stands. record { e = End p; means = end_event c.args.course.now.frame.part p (named c.args.course.now.h.now classes c.args.course.now.frame.part _ p stands); is = ap (λ (f : Form). ended_shared c.args.course.now.h.now f c.args.course.now.frame.part.class p c.args.j) c.in-AsBase.is }

pub returns-then-left-eq0 : goal.returns-then-left-eq0
returns-then-left-eq0 c = λ program classes p is stands. record { e = End p; means = end_event c.args.course.now.frame.part p (named c.args.course.now.h.now classes c.args.course.now.frame.part _ p stands); is = ap (λ (f : Form). ended_shared c.args.course.now.h.now f c.args.course.now.frame.part.class p c.args.j) c.in-InFull.is ∙ shared_none c.args.course.now.h.now c.args.course.now.frame.part.class p c.args.j (none_front (virtual_order c.args.course.now.h.now c.args.course.now.frame.part.class) c.order_of-order.result.now c.args.j c.min-left.result c.order_of-order.ensures c.min-left.ensures c.if-left-eq0.true) }

pub returns-else-left-eq0 : goal.returns-else-left-eq0
returns-else-left-eq0 c = λ program classes p is stands.
    let full : c.args.course.now.frame.form ≡ InFull = c.in-InFull.is in
    let at = ap (λ (l : List ClassId). slice_get l (c.min-left.result - 1)) (sym c.order_of-order.ensures) ∙ c.class_at-v.ensures in
    record {
      q = shared_part p c.class_at-v.result;
      stands = c.shared_kid-kid.ensures.part classes p (subst (λ (f : Form). StandsAs c.args.course.now.h.now classes c.args.course.now.frame.part f p) full stands);
      is = ap (λ (f : Form). ended_shared c.args.course.now.h.now f c.args.course.now.frame.part.class p c.args.j) full
          ∙ (shared_one c.args.course.now.h.now c.args.course.now.frame.part.class p c.args.j (c.min-left.result - 1) c.class_at-v.result (front_left (virtual_order c.args.course.now.h.now c.args.course.now.frame.part.class) c.order_of-order.result.now c.args.j c.min-left.result c.order_of-order.ensures c.min-left.ensures c.if-left-eq0.false) at
          ∙ (ap (λ (t : ClassId). Sub AsBase t (shared_part p c.class_at-v.result) ∷ ended_shared c.args.course.now.h.now InFull c.args.course.now.frame.part.class p (c.min-left.result - 1)) (sym c.shared_kid-kid.ensures.class)
          ∙ ap (λ (f : Form). Sub AsBase c.shared_kid-kid.result.class (shared_part p c.class_at-v.result) ∷ ended_shared c.args.course.now.h.now f c.args.course.now.frame.part.class p (c.min-left.result - 1)) (sym full)));
    }

pub overflow_cast-result : goal.overflow_cast-result
overflow_cast-result c =
    let few = few_virtual c.args.course.now.h.now c.keeps.ensures c.args.course.now.frame.part.class in
    let same = ap (λ (l : List ClassId). length l) c.order_of-order.ensures in
    let within = slice_get_within c.order_of-order.result.now (c.min-left.result - 1) c.class_at-v.result c.class_at-v.ensures in
    omega arith
