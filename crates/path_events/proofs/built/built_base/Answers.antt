use Rattle.std.proofs.Common.{◌+◌, ◌≤◌, ◌∷◌, ap, sym, ◌∙◌, arith}
use Rattle.std.specs.Prelude.{option_copied, length}
use Rattle.std.proofs.lemmas.Option.{slice_get_within}
use Rattle.cxx_hierarchy.specs.declared.records.ClassId.{ClassId}
use Rattle.cxx_hierarchy.specs.Classes.{bases_of}
use Rattle.path_plan.specs.Places.{base_part}
use Rattle.path_plan.specs.declared.form.Form.TheVariants.{AsBase}
use Rattle.path_plan.specs.Pieces.{Sub}
use Rattle.path_model.specs.States.{plan_bodies}
use Rattle.path_events.specs.Frames.{built_bases}
use Rattle.path_events.proofs.Building.{base_one, base_over, base_none}
use Rattle.path_events.proofs.built.built_base.Goals as goal

pub returns-in-None : goal.returns-in-None
returns-in-None c = λ program p is. base_none c.args.course.now.h.now (plan_bodies program) c.args.course.now.frame.part.class p c.args.i (sym c.base_at.ensures ∙ ap option_copied c.in-None.is)

pub returns-then-base : goal.returns-then-base
returns-then-base c = λ program p is. base_over c.args.course.now.h.now (plan_bodies program) c.args.course.now.frame.part.class p c.args.i c.in-Some.base.now (sym c.base_at.ensures ∙ ap option_copied c.in-Some.is) c.if-base.true

pub overflow_add-result : goal.overflow_add-result
overflow_add-result c = let a = slice_get_within (bases_of c.args.course.now.h.now c.args.course.now.frame.part.class) c.args.i c.in-Some.base.now (sym c.base_at.ensures ∙ ap option_copied c.in-Some.is) in let b : length (bases_of c.args.course.now.h.now c.args.course.now.frame.part.class) ≤ 64 = c.keeps.ensures.few_bases c.args.course.now.frame.part.class in omega arith

pub returns-else-base : goal.returns-else-base
returns-else-base c = λ program classes p is stands. record { q = base_part p c.in-Some.base.now; stands = c.base_kid-kid.ensures.part classes _ p stands c.if-base.false; is = base_one c.args.course.now.h.now (plan_bodies program) c.args.course.now.frame.part.class p c.args.i c.in-Some.base.now (sym c.base_at.ensures ∙ ap option_copied c.in-Some.is) c.if-base.false ∙ ap (λ (t : ClassId). Sub AsBase t (base_part p c.in-Some.base.now) ∷ built_bases c.args.course.now.h.now (plan_bodies program) c.args.course.now.frame.part.class p (c.args.i + 1)) (sym c.base_kid-kid.ensures.class) }
