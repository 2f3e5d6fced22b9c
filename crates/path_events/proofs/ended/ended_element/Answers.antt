use Rattle.std.proofs.Common.{◌∷◌, ap, sym, ◌∙◌, arith}
use Rattle.std.specs.Prelude.{option_copied, ◌-◌}
use Rattle.cxx_hierarchy.specs.declared.records.ClassId.{ClassId}
use Rattle.cxx_hierarchy.specs.Declarations.{elements_of}
use Rattle.path_plan.specs.Places.{element}
use Rattle.path_plan.specs.declared.form.Form.TheVariants.{InFull}
use Rattle.path_plan.specs.Pieces.{Sub}
use Rattle.path_events.specs.Frames.{ended_members}
use Rattle.path_events.proofs.Ending.{member_none, value_none, object_none, object_one}
use Rattle.path_events.proofs.Lists.{elements_front, elements_none, element_within}
use Rattle.path_events.proofs.Few.{few_elements}
use Rattle.path_events.proofs.ended.ended_element.Goals as goal

pub returns-then-left-eq0 : goal.returns-then-left-eq0
returns-then-left-eq0 c = λ program p is. object_none c.args.course.now.h.now c.args.course.now.frame.form c.args.course.now.frame.part.class p c.args.m c.args.i c.in-Some.member.now c.in-Object.d (sym c.member_at.ensures ∙ ap option_copied c.in-Some.is) c.in-Object.is (elements_none (elements_of c.in-Some.member.now.count) c.elements.result c.args.i c.min-left.result c.min-left.ensures c.elements.ensures c.if-left-eq0.true)

pub element_kid-kid-requires-clause-listed : goal.element_kid-kid-requires-clause-listed
element_kid-kid-requires-clause-listed c = sym c.member_at.ensures ∙ ap option_copied c.in-Some.is

pub returns-in-None : goal.returns-in-None
returns-in-None c = λ program p is. member_none c.args.course.now.h.now c.args.course.now.frame.form c.args.course.now.frame.part.class p c.args.m c.args.i (sym c.member_at.ensures ∙ ap option_copied c.in-None.is)

pub returns-in-Value : goal.returns-in-Value
returns-in-Value c = λ program p is. value_none c.args.course.now.h.now c.args.course.now.frame.form c.args.course.now.frame.part.class p c.args.m c.args.i c.in-Some.member.now c.in-Value.field-0 (sym c.member_at.ensures ∙ ap option_copied c.in-Some.is) c.in-Value.is

pub returns-else-left-eq0 : goal.returns-else-left-eq0
returns-else-left-eq0 c = λ program classes p is stands. record {
  q = element p c.args.m (c.min-left.result - 1) c.in-Object.d;
  stands = c.element_kid-kid.ensures.part classes _ p stands;
  is = object_one c.args.course.now.h.now c.args.course.now.frame.form c.args.course.now.frame.part.class p c.args.m c.args.i (c.min-left.result - 1) c.in-Some.member.now c.in-Object.d (sym c.member_at.ensures ∙ ap option_copied c.in-Some.is) c.in-Object.is
      (element_within (elements_of c.in-Some.member.now.count) c.elements.result c.args.i c.min-left.result c.min-left.ensures c.elements.ensures c.if-left-eq0.false)
      (elements_front (elements_of c.in-Some.member.now.count) c.elements.result c.args.i c.min-left.result c.min-left.ensures c.elements.ensures c.if-left-eq0.false)
      ∙ ap (λ (t : ClassId). Sub InFull t (element p c.args.m (c.min-left.result - 1) c.in-Object.d) ∷ ended_members c.args.course.now.h.now c.args.course.now.frame.form c.args.course.now.frame.part.class p c.args.m (c.min-left.result - 1)) (sym c.element_kid-kid.ensures.class);
}

pub overflow_cast-result-in-Object : goal.overflow_cast-result-in-Object
overflow_cast-result-in-Object c =
    let few = few_elements c.args.course.now.h.now c.keeps.ensures c.args.course.now.frame.part.class c.args.m c.in-Some.member.now (sym c.member_at.ensures ∙ ap option_copied c.in-Some.is) in
    let within = element_within (elements_of c.in-Some.member.now.count) c.elements.result c.args.i c.min-left.result c.min-left.ensures c.elements.ensures c.if-left-eq0.false in
    omega arith
