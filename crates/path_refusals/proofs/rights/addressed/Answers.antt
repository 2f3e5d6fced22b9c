use Rattle.std.proofs.Common.{◌≡◌, ◌∙◌, ◌++◌, sym}
use Rattle.std.proofs.lemmas.Result.{IfOk-weaker}
use Rattle.cxx_hierarchy.specs.declared.records.ClassId.{ClassId}
use Rattle.cxx_hierarchy.specs.declared.records.FieldType.TheVariants.{Object}
use Rattle.cxx_program.specs.declared.statement.TypedRight.TheVariants.{Address}
use Rattle.cxx_program.specs.Typed.{Scope, IsPlace}
use Rattle.path_model.specs.Values.{Sight, value_of_operand}
use Rattle.path_model.specs.Places.{address_value}
use Rattle.path_model.specs.Uses.{convert, right_uses}
use Rattle.path_model.specs.Rules.{refused, is_clear}
use Rattle.path_refusals.specs.invariants.Pieces.{SightStands, Refuses, way_uses}
use Rattle.path_refusals.proofs.Refused.{first_stage, second_stage}
use Rattle.path_refusals.proofs.Givens.{operand_value}
use Rattle.path_refusals.proofs.Staging.{address_staged}
use Rattle.path_refusals.proofs.rights.addressed.Goals as goal

pub returns-in-Some-clause-is : goal.returns-in-Some-clause-is
returns-in-Some-clause-is c = λ e s d a of.
    let x = value_of_operand s c.args.of.now.pointer in
    let v = operand_value c.args.moment.now.world.h.now c.args.moment.now.heap.now c.args.scene.now e s a c.args.of.now.pointer c.args.of.now.class of.pointer c.value-v.result (c.value-v.ensures c.args.moment.now.world.h.now c.args.moment.now.heap.now s a.stands) in
    first_stage (refused c.args.moment.now.world.h.now s.objects (way_uses c.args.of.now x)) (refused c.args.moment.now.world.h.now s.objects (convert (address_value c.args.of.now d x) c.args.c.now)) (refused c.args.moment.now.world.h.now s.objects (way_uses c.args.of.now x ++ convert (address_value c.args.of.now d x) c.args.c.now)) c.in-Some.rule
    (address_staged c.args.moment.now.world.h.now c.requires.world.hierarchy c.args.moment.now.heap.now s.objects c.value-v.result x e c.args.of.now d c.args.c.now v of) (sym c.in-Some.is ∙ c.in_ok-rule.ensures.is of.path s.objects x v)

pub returns-in-None-clause-is : goal.returns-in-None-clause-is
returns-in-None-clause-is c = IfOk-weaker c.convert.result (Refuses c.args.moment.now.world.h.now c.args.moment.now.heap.now c.address_of-to.result (λ x. convert x c.args.c.now)) (λ rule. (e : Scope) (s : Sight) (d : ClassId) → SightStands c.args.moment.now.world.h.now c.args.moment.now.heap.now c.args.scene.now e s → IsPlace c.args.moment.now.world.h.now e c.args.of.now (Object d) → rule ≡ refused c.args.moment.now.world.h.now s.objects (right_uses c.args.moment.now.world.h.now (is_clear c.args.moment.now.world.h.now s.objects) s (Address c.args.of.now d) c.args.c.now)) (λ rule told e s d a of.
    let x = value_of_operand s c.args.of.now.pointer in
    let v = operand_value c.args.moment.now.world.h.now c.args.moment.now.heap.now c.args.scene.now e s a c.args.of.now.pointer c.args.of.now.class of.pointer c.value-v.result (c.value-v.ensures c.args.moment.now.world.h.now c.args.moment.now.heap.now s a.stands) in
    let clear = sym c.in-None.is ∙ c.in_ok-rule.ensures.is of.path s.objects x v in
    second_stage (refused c.args.moment.now.world.h.now s.objects (way_uses c.args.of.now x)) (refused c.args.moment.now.world.h.now s.objects (convert (address_value c.args.of.now d x) c.args.c.now)) (refused c.args.moment.now.world.h.now s.objects (way_uses c.args.of.now x ++ convert (address_value c.args.of.now d x) c.args.c.now)) rule
    (address_staged c.args.moment.now.world.h.now c.requires.world.hierarchy c.args.moment.now.heap.now s.objects c.value-v.result x e c.args.of.now d c.args.c.now v of) clear (told s.objects (address_value c.args.of.now d x) v.heap_stands (c.address_of-to.ensures e s x d v of clear))) c.convert.ensures.is
