use Rattle.std.proofs.Common.{refl}
use Rattle.cxx_hierarchy.specs.declared.records.ValueType.TheVariants.{Pointer as PointerType}
use Rattle.cxx_program.specs.declared.statement.TypedKind.TheVariants.{Copy}
use Rattle.path_model.specs.Values.{value_of_operand}
use Rattle.path_model.specs.Uses.{arrow}
use Rattle.path_effects.proofs.Clear.{clear_back}
use Rattle.path_effects.proofs.Pointers.{seen_value, arrow_ready, names_at}
use Rattle.path_effects.proofs.Typing.{copy_typed}
use Rattle.path_effects.proofs.copies.copy.Goals as goal

pub returns-clause-copies : goal.returns-clause-copies
returns-clause-copies c = λ e s w p q scene seen typed clear to_is from_is.
    let h = c.args.world.now.h.now in
    let heap = c.args.heap.now in
    let to = c.args.to.now in
    let from = c.args.from.now in
    let k = c.args.c in
    let t = copy_typed h e (Copy to from k) typed to from k refl in
    let v = value_of_operand s to in
    let u = value_of_operand s from in
    let a = arrow_ready h s.objects v _ clear k (seen_value h e s seen to (PointerType k) t.target) in
    let b = arrow_ready h s.objects u _ (clear_back h s.objects (arrow v) _ clear) k (seen_value h e s seen from (PointerType k) t.source) in
    let x = names_at h s.objects v k a p to_is c.in-Pointer.target (c.in-Pointer.ensures h heap s scene) in
    let y = names_at h s.objects u k b q from_is c.in-Pointer-value.source (c.in-Pointer-value.ensures h heap s scene) in
    c.in_ok-copy.ensures s.objects p q scene.heap_stands x.points y.points x.begun y.begun x.of_class y.of_class
