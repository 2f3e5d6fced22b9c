use Rattle.std.proofs.Common.{subst, sym}
use Rattle.cxx_hierarchy.specs.declared.records.FieldType.TheVariants.{Object}
use Rattle.path_model.specs.Values.{Value}
use Rattle.path_model.specs.Places.{address_value}
use Rattle.path_heap.specs.declared.state.Value.TheVariants.{Pointer as PointerCode}
use Rattle.path_heap.specs.Stands.{Means}
use Rattle.path_effects.proofs.Pointers.{place_ready}
use Rattle.path_effects.proofs.places.address_value.Goals as goal

pub returns-in-Pointer : goal.returns-in-Pointer
returns-in-Pointer c = λ e s d scene seen is clear.
    let h = c.args.world.now.h.now in
    let place = c.args.place.now in
    let cs = s.objects.classes in
    let r = place_ready h e s seen place (Object d) is clear in
    let p = r.names.part in
    let at = subst (λ (w : Value). Means h cs (PointerCode c.in-Pointer.n) w) r.names.is (c.in-Pointer.ensures h c.args.heap.now s scene) in
    subst (λ (w : Value). Means h cs (PointerCode c.address_number.result) (address_value place d w)) (sym r.names.is)
    (c.address_number.ensures s.objects p place.class d is.class scene.heap_stands at r.path is.of_class is.element)
