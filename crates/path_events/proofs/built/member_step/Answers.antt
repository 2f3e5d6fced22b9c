use Rattle.std.proofs.Common.{◌+◌, ◌<◌, ◌≤◌, ◌∷◌, ap, subst, sym, ◌∙◌, arith}
use Rattle.std.specs.Prelude.{length}
use Rattle.std.proofs.lemmas.Option.{slice_get_within}
use Rattle.cxx_hierarchy.specs.declared.records.ClassId.{ClassId}
use Rattle.cxx_hierarchy.specs.Classes.{members_of}
use Rattle.path_plan.specs.Places.{element}
use Rattle.path_plan.specs.Phases.{Init}
use Rattle.path_plan.specs.declared.form.Form.TheVariants.{InFull}
use Rattle.path_plan.specs.Pieces.{Sub}
use Rattle.path_model.specs.States.{plan_bodies}
use Rattle.path_events.specs.Frames.{built_members}
use Rattle.path_events.specs.Plans.{init_event}
use Rattle.path_events.proofs.Giving.{named}
use Rattle.path_events.proofs.Building.{value_none, value_set, object_one, object_none}
use Rattle.path_events.proofs.Few.{few_elements}
use Rattle.path_events.proofs.built.member_step.Goals as goal

pub returns-then-not-has_initializer : goal.returns-then-not-has_initializer
returns-then-not-has_initializer c = λ program p is. value_none c.args.course.now.h.now (plan_bodies program) c.args.course.now.frame.part.class p c.args.m c.args.i c.args.member.now c.in-Value.field-0 c.requires.listed c.in-Value.is (sym (c.has_initializer.ensures program is) ∙ c.if-not-has_initializer.true)

pub overflow_cast-event : goal.overflow_cast-event
overflow_cast-event c = let a = slice_get_within (members_of c.args.course.now.h.now c.args.course.now.frame.part.class) c.args.m c.args.member.now c.requires.listed in let b : length (members_of c.args.course.now.h.now c.args.course.now.frame.part.class) ≤ 1024 = c.keeps.ensures.few_members c.args.course.now.frame.part.class in omega arith

pub overflow_add-result : goal.overflow_add-result
overflow_add-result c = let a = slice_get_within (members_of c.args.course.now.h.now c.args.course.now.frame.part.class) c.args.m c.args.member.now c.requires.listed in let b : length (members_of c.args.course.now.h.now c.args.course.now.frame.part.class) ≤ 1024 = c.keeps.ensures.few_members c.args.course.now.frame.part.class in omega arith

pub returns-then-i-elements : goal.returns-then-i-elements
returns-then-i-elements c = λ program p is. object_none c.args.course.now.h.now (plan_bodies program) c.args.course.now.frame.part.class p c.args.m c.args.i c.args.member.now c.in-Object.d c.requires.listed c.in-Object.is (subst (λ n. n ≤ c.args.i) c.elements.ensures c.if-i-elements.true)

pub returns-else-not-has_initializer : goal.returns-else-not-has_initializer
returns-else-not-has_initializer c = λ program classes p is stands. record { e = Init p c.args.m; means = init_event c.args.course.now.frame.part c.args.m p (named c.args.course.now.h.now classes c.args.course.now.frame.part _ p stands) (sym (c.has_initializer.ensures program is) ∙ c.if-not-has_initializer.false); is = value_set c.args.course.now.h.now (plan_bodies program) c.args.course.now.frame.part.class p c.args.m c.args.i c.args.member.now c.in-Value.field-0 c.requires.listed c.in-Value.is (sym (c.has_initializer.ensures program is) ∙ c.if-not-has_initializer.false) }

pub returns-else-i-elements : goal.returns-else-i-elements
returns-else-i-elements c = λ program classes p is stands. record { q = element p c.args.m c.args.i c.in-Object.d; stands = c.element_kid-kid.ensures.part classes _ p stands; is = object_one c.args.course.now.h.now (plan_bodies program) c.args.course.now.frame.part.class p c.args.m c.args.i c.args.member.now c.in-Object.d c.requires.listed c.in-Object.is (subst (λ n. c.args.i < n) c.elements.ensures c.if-i-elements.false) ∙ ap (λ (t : ClassId). Sub InFull t (element p c.args.m c.args.i c.in-Object.d) ∷ built_members c.args.course.now.h.now (plan_bodies program) c.args.course.now.frame.part.class p c.args.m (c.args.i + 1)) (sym c.element_kid-kid.ensures.class) }

pub overflow_cast-result-in-Object-2 : goal.overflow_cast-result-in-Object-2
overflow_cast-result-in-Object-2 c =
    let few = few_elements c.args.course.now.h.now c.keeps.ensures c.args.course.now.frame.part.class c.args.m c.args.member.now c.requires.listed in
    let within = subst (λ n. c.args.i < n) c.elements.ensures c.if-i-elements.false in
    omega arith
