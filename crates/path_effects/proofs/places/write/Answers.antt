use Rattle.std.proofs.Common.{subst, sym, refl, ◌∙◌, ◌≡◌, List}
use Rattle.cxx_hierarchy.specs.declared.records.FieldType.TheVariants.{Value as ValueField}
use Rattle.cxx_program.specs.declared.statement.TypedKind.TheVariants.{Write}
use Rattle.cxx_program.specs.Typed.{place_width}
use Rattle.path_plan.specs.Places.{ObjectPart}
use Rattle.path_model.specs.Values.{Value, Pointer, argument_value}
use Rattle.path_model.specs.Places.{leaf_at}
use Rattle.path_model.specs.Uses.{StatementUse, place_uses, argument_uses}
use Rattle.path_model.specs.Effects.{leaf_set}
use Rattle.path_heap.specs.declared.state.Value.TheVariants.{Pointer as PointerCode}
use Rattle.path_heap.specs.Stands.{HeapStands, Means}
use Rattle.path_effects.proofs.Clear.{clear_front, clear_back}
use Rattle.path_effects.proofs.Pointers.{place_ready}
use Rattle.path_effects.proofs.Typing.{write_typed}
use Rattle.path_effects.proofs.places.write.Goals as goal

pub returns-in_ok-set_leaf : goal.returns-in_ok-set_leaf
returns-in_ok-set_leaf c = λ e s w p scene seen typed clear named.
    let h = c.args.world.now.h.now in
    let place = c.args.place.now in
    let x = c.args.x.now in
    let cs = s.objects.classes in
    let is = write_typed h e (Write place x) typed place x refl in
    let us : List StatementUse = place_uses s place in
    let vs : List StatementUse = argument_uses s x in
    let r = place_ready h e s seen place (ValueField is.type) is.is_place (clear_front h s.objects us vs clear) in
    let q = r.names.part in
    let at = subst (λ (z : Value). Means h cs (PointerCode c.in-Pointer.n) z) r.names.is (c.in-Pointer.ensures h c.args.heap.now s scene) in
    let k = c.leaf_number-k.ensures s.objects q place.class is.is_place.class is.type scene.heap_stands at r.path is.is_place.of_class is.is_place.element in
    let m = c.argument_value-v.ensures e s (place_width h place) is.type scene seen is.is_value (clear_back h s.objects us vs clear) in
    let done = c.in_ok-set_leaf.ensures h s.objects (leaf_at q place) (argument_value s x) scene.heap_stands k m in
    let same : q ≡ p = let f : Pointer q ≡ Pointer p = sym r.names.is ∙ named in cc in
    subst (λ (y : ObjectPart). HeapStands h c.set_leaf.new.self (leaf_set s.objects (leaf_at y place) (argument_value s x))) same done
