use Rattle.std.proofs.Common.{◌≡◌, ◌∙◌, ◌++◌, sym}
use Rattle.std.proofs.lemmas.Result.{IfOk-weaker}
use Rattle.cxx_hierarchy.specs.declared.records.ClassId.{ClassId}
use Rattle.cxx_hierarchy.specs.declared.records.ValueType.TheVariants.{Pointer as PointerType}
use Rattle.cxx_program.specs.declared.statement.TypedRight.TheVariants.{Cast}
use Rattle.cxx_program.specs.Typed.{Scope, HasType, Casts}
use Rattle.path_model.specs.Values.{Sight, value_of_operand}
use Rattle.path_model.specs.Uses.{convert, cast_uses, cast_value, right_uses}
use Rattle.path_model.specs.Rules.{refused, is_clear}
use Rattle.path_refusals.specs.invariants.Pieces.{SightStands, CastRefuses}
use Rattle.path_refusals.proofs.Refused.{first_stage, second_stage}
use Rattle.path_refusals.proofs.Givens.{operand_value}
use Rattle.path_refusals.proofs.Staging.{cast_staged, cast_steady}
use Rattle.path_refusals.proofs.rights.casted.Goals as goal

pub returns-in-Some-clause-is : goal.returns-in-Some-clause-is
returns-in-Some-clause-is c = λ e s from to a has casts.
    let x = value_of_operand s c.args.x.now in let how = c.args.how.now in
    let v = operand_value c.args.moment.now.world.h.now c.args.moment.now.heap.now c.args.scene.now e s a c.args.x.now from has c.value-v.result (c.value-v.ensures c.args.moment.now.world.h.now c.args.moment.now.heap.now s a.stands) in
    first_stage (refused c.args.moment.now.world.h.now s.objects (cast_uses how x)) (refused c.args.moment.now.world.h.now s.objects (convert (cast_value c.args.moment.now.world.h.now s.objects how x) c.args.c.now)) (refused c.args.moment.now.world.h.now s.objects (cast_uses how x ++ convert (cast_value c.args.moment.now.world.h.now s.objects how x) c.args.c.now)) c.in-Some.rule
    (cast_staged c.args.moment.now.world.h.now c.args.moment.now.heap.now s.objects c.value-v.result x how from to c.args.c.now v casts) (sym c.in-Some.is ∙ c.in_ok-rule.ensures.is s.objects x v.heap_stands v.means)

pub returns-in-None-clause-is : goal.returns-in-None-clause-is
returns-in-None-clause-is c = IfOk-weaker c.cast_converted.result (CastRefuses c.args.moment.now.world.h.now c.args.moment.now.heap.now c.value-v.result c.args.how.now c.args.c.now) (λ rule. (e : Scope) (s : Sight) (from to : ClassId) → SightStands c.args.moment.now.world.h.now c.args.moment.now.heap.now c.args.scene.now e s → HasType e c.args.x.now (PointerType from) → Casts c.args.moment.now.world.h.now from c.args.how.now to → rule ≡ refused c.args.moment.now.world.h.now s.objects (right_uses c.args.moment.now.world.h.now (is_clear c.args.moment.now.world.h.now s.objects) s (Cast c.args.how.now c.args.x.now) c.args.c.now)) (λ rule told e s from to a has casts.
    let x = value_of_operand s c.args.x.now in let how = c.args.how.now in
    let v = operand_value c.args.moment.now.world.h.now c.args.moment.now.heap.now c.args.scene.now e s a c.args.x.now from has c.value-v.result (c.value-v.ensures c.args.moment.now.world.h.now c.args.moment.now.heap.now s a.stands) in
    let clear = sym c.in-None.is ∙ c.in_ok-rule.ensures.is s.objects x v.heap_stands v.means in
    second_stage (refused c.args.moment.now.world.h.now s.objects (cast_uses how x)) (refused c.args.moment.now.world.h.now s.objects (convert (cast_value c.args.moment.now.world.h.now s.objects how x) c.args.c.now)) (refused c.args.moment.now.world.h.now s.objects (cast_uses how x ++ convert (cast_value c.args.moment.now.world.h.now s.objects how x) c.args.c.now)) rule
    (cast_staged c.args.moment.now.world.h.now c.args.moment.now.heap.now s.objects c.value-v.result x how from to c.args.c.now v casts) clear (told s.objects x from to v casts (cast_steady c.args.moment.now.world.h.now s.objects how x clear))) c.cast_converted.ensures.is
