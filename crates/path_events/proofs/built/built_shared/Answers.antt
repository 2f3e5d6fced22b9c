use Rattle.std.proofs.Common.{◌≡◌, ◌+◌, ◌<◌, arith, Some, true, List, ◌∷◌, length, refl, ap, subst, sym, ◌∙◌}
use Rattle.std.proofs.lemmas.Option.{slice_get_read}
use Rattle.std.specs.Prelude.{slice_get}
use Rattle.cxx_hierarchy.specs.declared.records.ClassId.{ClassId}
use Rattle.path_plan.specs.Places.{shared_part}
use Rattle.path_plan.specs.declared.form.Form.{Form}
use Rattle.path_plan.specs.declared.form.Form.TheVariants.{InFull, AsBase}
use Rattle.path_plan.specs.Plans.{virtual_order}
use Rattle.path_plan.specs.Pieces.{Sub}
use Rattle.path_model.specs.States.{plan_bodies}
use Rattle.path_events.specs.declared.frame.Stage.TheVariants.{Shared as SharedStage}
use Rattle.path_events.specs.Frames.{StandsAs, left_of}
use Rattle.path_events.proofs.Building.{shared_one}
use Rattle.path_events.proofs.Few.{few_virtual}
use Rattle.path_events.proofs.built.built_shared.Goals as goal

pub returns-in-Some : goal.returns-in-Some
returns-in-Some c = λ program classes p is stands.
    let h = c.args.course.now.h.now in
    let class = c.args.course.now.frame.part.class in
    let v = c.in-Some.v.now in
    let full : c.args.course.now.frame.form ≡ InFull = c.in-InFull.is in
    let read : slice_get c.order_of.result.now c.args.j ≡ Some v = slice_get_read c.order_of.result.now (length c.order_of.result.now) c.args.j v refl c.in-Some.ensures.lookup.3.0 c.in-Some.ensures.lookup.1 in
    let at : slice_get (virtual_order h class) c.args.j ≡ Some v = ap (λ (l : List ClassId). slice_get l c.args.j) (sym c.order_of.ensures) ∙ read in
    record {
      q = shared_part p v;
      stands = c.shared_kid-kid.ensures.part classes p (subst (λ (f : Form). StandsAs h classes c.args.course.now.frame.part f p) full stands);
      is = ap (λ (f : Form). left_of h (plan_bodies program) true f class p (SharedStage c.args.j)) full
          ∙ (shared_one h (plan_bodies program) class p c.args.j v at
          ∙ (ap (λ (t : ClassId). Sub AsBase t (shared_part p v) ∷ left_of h (plan_bodies program) true InFull class p (SharedStage (c.args.j + 1))) (sym c.shared_kid-kid.ensures.class)
          ∙ ap (λ (f : Form). Sub AsBase c.shared_kid-kid.result.class (shared_part p v) ∷ left_of h (plan_bodies program) true f class p (SharedStage (c.args.j + 1))) (sym full)));
    }

pub overflow_cast-result : goal.overflow_cast-result
overflow_cast-result c =
    let h = c.args.course.now.h.now in
    let few = few_virtual h c.keeps.ensures c.args.course.now.frame.part.class in
    let same = ap (λ (l : List ClassId). length l) c.order_of.ensures in
    let within : c.args.j < length c.order_of.result.now = c.in-Some.ensures.lookup.3.0 in
    omega arith
