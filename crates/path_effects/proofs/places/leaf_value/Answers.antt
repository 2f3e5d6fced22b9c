use Rattle.std.proofs.Common.{subst, sym}
use Rattle.cxx_hierarchy.specs.declared.records.FieldType.TheVariants.{Value as ValueField}
use Rattle.path_model.specs.Values.{Value}
use Rattle.path_model.specs.Places.{leaf_at, leaf_value}
use Rattle.path_heap.specs.declared.state.Value.TheVariants.{Pointer as PointerCode}
use Rattle.path_heap.specs.Stands.{Means}
use Rattle.path_effects.proofs.Pointers.{place_ready}
use Rattle.path_effects.proofs.places.leaf_value.Goals as goal

pub returns-in-Pointer : goal.returns-in-Pointer
returns-in-Pointer c = λ e s t scene seen is clear.
    let h = c.args.world.now.h.now in
    let place = c.args.place.now in
    let cs = s.objects.classes in
    let r = place_ready h e s seen place (ValueField t) is clear in
    let p = r.names.part in
    let at = subst (λ (w : Value). Means h cs (PointerCode c.in-Pointer.n) w) r.names.is (c.in-Pointer.ensures h c.args.heap.now s scene) in
    let k = c.leaf_number.ensures s.objects p place.class is.class t scene.heap_stands at r.path is.of_class is.element in
    subst (λ (w : Value). Means h cs c.leaf.result (leaf_value s place w)) (sym r.names.is) (c.leaf.ensures h s.objects (leaf_at p place) scene.heap_stands k)
