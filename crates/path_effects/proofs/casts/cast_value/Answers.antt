use Rattle.std.proofs.Common.{subst, sym}
use Rattle.cxx_hierarchy.specs.declared.records.ValueType.TheVariants.{Pointer as PointerType}
use Rattle.cxx_program.specs.declared.statement.TypedCast.{TypedCast}
use Rattle.path_model.specs.Values.{value_of_operand}
use Rattle.path_model.specs.Uses.{cast_value}
use Rattle.path_heap.specs.Stands.{Means}
use Rattle.path_effects.proofs.Pointers.{seen_value}
use Rattle.path_effects.proofs.Targets.{typed_to}
use Rattle.path_effects.proofs.Telling.{where_ok}
use Rattle.path_effects.proofs.Casting.{cast_begun, cast_reaches}
use Rattle.path_effects.proofs.casts.cast_value.Goals as goal

pub returns-in-Up-clause-is : goal.returns-in-Up-clause-is
returns-in-Up-clause-is c = λ e s k d scene seen has casts clear.
    let h = c.args.world.now.h.now in
    let cs = s.objects.classes in
    let w = value_of_operand s c.args.x.now in
    let m = c.value-v.ensures h c.args.heap.now s scene in
    let to = typed_to h cs w k (seen_value h e s seen c.args.x.now (PointerType k) has) in
    subst (λ (x : TypedCast). Means h cs c.to_base.result (cast_value h s.objects x w)) (sym c.in-Up.is)
    (c.to_base.ensures s.objects w scene.heap_stands m (cast_reaches h s.objects k d c.args.cast.now casts c.in-Up.i c.in-Up.is w clear to))

pub returns-in-Down-clause-is : goal.returns-in-Down-clause-is
returns-in-Down-clause-is c = where_ok c.down_value.result _ _ (λ v told e s k d scene seen has casts clear.
    let h = c.args.world.now.h.now in
    let w = value_of_operand s c.args.x.now in
    subst (λ (x : TypedCast). Means h s.objects.classes v (cast_value h s.objects x w)) (sym c.in-Down.is)
    (told s.objects w scene.heap_stands (c.value-v.ensures h c.args.heap.now s scene) (cast_begun h s.objects c.args.cast.now w clear))) c.down_value.ensures.is

pub returns-in-Dynamic-clause-is : goal.returns-in-Dynamic-clause-is
returns-in-Dynamic-clause-is c = where_ok c.dynamic_value.result _ _ (λ v told e s k d scene seen has casts clear.
    let h = c.args.world.now.h.now in
    let w = value_of_operand s c.args.x.now in
    subst (λ (x : TypedCast). Means h s.objects.classes v (cast_value h s.objects x w)) (sym c.in-Dynamic.is)
    (told s.objects w scene.heap_stands (c.value-v.ensures h c.args.heap.now s scene) (cast_begun h s.objects c.args.cast.now w clear))) c.dynamic_value.ensures.is
