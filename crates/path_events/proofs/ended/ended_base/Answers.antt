use Rattle.std.proofs.Common.{◌∷◌, ap, sym, ◌∙◌}
use Rattle.std.specs.Prelude.{option_copied}
use Rattle.cxx_hierarchy.specs.declared.records.ClassId.{ClassId}
use Rattle.path_plan.specs.Places.{base_part}
use Rattle.path_plan.specs.declared.form.Form.TheVariants.{AsBase}
use Rattle.path_plan.specs.Pieces.{Sub}
use Rattle.path_events.specs.Frames.{ended_bases}
use Rattle.path_events.proofs.Ending.{base_one, base_over, base_none}
use Rattle.path_events.proofs.ended.ended_base.Goals as goal

pub returns-in-None : goal.returns-in-None
returns-in-None c = λ program p is. base_none c.args.course.now.h.now c.args.course.now.frame.form c.args.course.now.frame.part.class p c.args.i (sym c.base_at.ensures ∙ ap option_copied c.in-None.is)

pub returns-then-base : goal.returns-then-base
returns-then-base c = λ program p is. base_over c.args.course.now.h.now c.args.course.now.frame.form c.args.course.now.frame.part.class p c.args.i c.in-Some.base.now (sym c.base_at.ensures ∙ ap option_copied c.in-Some.is) c.if-base.true

pub base_kid-kid-requires-clause-listed : goal.base_kid-kid-requires-clause-listed
base_kid-kid-requires-clause-listed c = sym c.base_at.ensures ∙ ap option_copied c.in-Some.is

pub returns-else-base : goal.returns-else-base
returns-else-base c = λ program classes p is stands. record { q = base_part p c.in-Some.base.now; stands = c.base_kid-kid.ensures.part classes _ p stands c.if-base.false; is = base_one c.args.course.now.h.now c.args.course.now.frame.form c.args.course.now.frame.part.class p c.args.i c.in-Some.base.now (sym c.base_at.ensures ∙ ap option_copied c.in-Some.is) c.if-base.false ∙ ap (λ (t : ClassId). Sub AsBase t (base_part p c.in-Some.base.now) ∷ ended_bases c.args.course.now.h.now c.args.course.now.frame.form c.args.course.now.frame.part.class p c.args.i) (sym c.base_kid-kid.ensures.class) }
