use Rattle.std.proofs.Common.{◌≡◌, ◌∙◌, ◌∷◌, sym}
use Rattle.std.proofs.lemmas.Result.{IfOk-weaker}
use Rattle.cxx_hierarchy.specs.declared.records.ClassId.{ClassId}
use Rattle.cxx_hierarchy.specs.declared.records.ValueType.{ValueType}
use Rattle.cxx_hierarchy.specs.declared.records.FieldType.TheVariants.{Value as ValueField}
use Rattle.cxx_program.specs.declared.statement.TypedRight.TheVariants.{Read}
use Rattle.cxx_program.specs.Typed.{Scope, IsPlace}
use Rattle.path_model.specs.Values.{Sight, value_of_operand}
use Rattle.path_model.specs.Places.{leaf_value}
use Rattle.path_model.specs.Uses.{Reads, convert, right_uses}
use Rattle.path_model.specs.Rules.{refused, is_clear}
use Rattle.path_refusals.specs.invariants.Pieces.{SightStands, Refuses, way_uses}
use Rattle.path_refusals.proofs.Givens.{operand_value, read_stops, read_goes_on}
use Rattle.path_refusals.proofs.rights.loaded.Goals as goal

pub returns-in-Some-clause-is : goal.returns-in-Some-clause-is
returns-in-Some-clause-is c = λ e s t a of.
    let x = value_of_operand s c.args.from.now.pointer in
    let v = operand_value c.args.moment.now.world.h.now c.args.moment.now.heap.now c.args.scene.now e s a c.args.from.now.pointer c.args.from.now.class of.pointer c.value-v.result (c.value-v.ensures c.args.moment.now.world.h.now c.args.moment.now.heap.now s a.stands) in
    read_stops c.args.moment.now.world.h.now s.objects (way_uses c.args.from.now x) (leaf_value s c.args.from.now x) c.args.c.now c.in-Some.rule (sym c.in-Some.is ∙ c.in_ok-rule.ensures.is of.path s.objects x v)

pub returns-in-None-clause-is : goal.returns-in-None-clause-is
returns-in-None-clause-is c = IfOk-weaker c.read_converted.result (Refuses c.args.moment.now.world.h.now c.args.moment.now.heap.now c.leaf_of-leaf.result (λ x. Reads x ∷ convert x c.args.c.now)) (λ rule. (e : Scope) (s : Sight) (t : ValueType ClassId) → SightStands c.args.moment.now.world.h.now c.args.moment.now.heap.now c.args.scene.now e s → IsPlace c.args.moment.now.world.h.now e c.args.from.now (ValueField t) → rule ≡ refused c.args.moment.now.world.h.now s.objects (right_uses c.args.moment.now.world.h.now (is_clear c.args.moment.now.world.h.now s.objects) s (Read c.args.from.now) c.args.c.now)) (λ rule told e s t a of.
    let x = value_of_operand s c.args.from.now.pointer in
    let v = operand_value c.args.moment.now.world.h.now c.args.moment.now.heap.now c.args.scene.now e s a c.args.from.now.pointer c.args.from.now.class of.pointer c.value-v.result (c.value-v.ensures c.args.moment.now.world.h.now c.args.moment.now.heap.now s a.stands) in
    let clear = sym c.in-None.is ∙ c.in_ok-rule.ensures.is of.path s.objects x v in
    read_goes_on c.args.moment.now.world.h.now s.objects (way_uses c.args.from.now x) (leaf_value s c.args.from.now x) c.args.c.now rule clear (told s.objects (leaf_value s c.args.from.now x) v.heap_stands (c.leaf_of-leaf.ensures e s x t v of clear))) c.read_converted.ensures.is
