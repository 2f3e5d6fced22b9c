use Rattle.std.proofs.Common.{◌≡◌, ap, ◌∙◌, w64, to_z, of_z, arith}
use Rattle.std.proofs.lemmas.Int.{to_z-of_z}
use Rattle.std.specs.Prelude.{pos, ◌-ℤ◌}
use Rattle.cxx_subobject.specs.Subobjects.{shared_base}
use Rattle.cxx_subobject.specs.Preorder.{preorder}
use Rattle.abi_sound.specs.Places.{places_of}
use Rattle.abi_slots.specs.Groups.{named_in}
use Rattle.abi_vtable.specs.invariants.Parts.{view_of_parts}
use Rattle.abi_vtable.proofs.Over.{some_view, view_known, base_word, call_word}
use Rattle.abi_vtable.proofs.words.offset_word.Goals as goal

pub final_function-g-requires-clause-known : goal.final_function-g-requires-clause-known
final_function-g-requires-clause-known g c = view_known c.args.site.now.h.now c.keeps.ensures (view_of_parts c.args.x.now) c.requires.view.view

pub returns-in-ToBase : goal.returns-in-ToBase
returns-in-ToBase g c =
    let l = places_of c.args.site.now.h.now (g.L.SoundLayout.rows c.args.site.now.layout.now) in
    let fits : to_z w64 (of_z w64 c.distance.result) ≡ c.distance.result = grind (arith, to_z-of_z) in
    base_word c.args.site.now.h.now l (view_of_parts c.args.x.now) c.args.t.now.at c.in-ToBase.v c.args.offset.now _ c.in-ToBase.is
    (fits ∙ c.distance.ensures ∙ ap (λ n. pos n -ℤ pos c.args.start) c.shared_place-place.ensures ∙ ap (λ n. pos (l.place c.args.x.now.complete (shared_base c.in-ToBase.v)) -ℤ pos n) c.requires.start)

pub returns-in_ok-place-in-ToOverrider : goal.returns-in_ok-place-in-ToOverrider
returns-in_ok-place-in-ToOverrider g c =
    let h = c.args.site.now.h.now in
    let l = places_of h (g.L.SoundLayout.rows c.args.site.now.layout.now) in
    let path : c.as_slice.result.now ≡ c.in-ToOverrider.path = c.as_slice.ensures in
    let fits : to_z w64 (of_z w64 c.distance-in-ToOverrider.result) ≡ c.distance-in-ToOverrider.result = grind (arith, to_z-of_z) in
    call_word h c.keeps.ensures l (view_of_parts c.args.x.now) (preorder h c.args.x.now.class) c.args.t.now.at c.in_ok-s-in-ToOverrider.s c.final_function-g.ensures.0 c.in-ToOverrider.path c.in-ToOverrider.f c.final_function-g.result c.part_over-part.result.now c.args.offset.now c.args.start c.in_ok-place-in-ToOverrider.place _ c.in-ToOverrider.is
    (c.in_ok-s-in-ToOverrider.ensures ∙ ap (named_in c.args.x.now.class) path) c.final_function-g.ensures.1 (c.part_over-part.ensures.part l c.requires.view) c.part_over-part.ensures.class c.part_over-part.ensures.inside c.requires.start c.in_ok-place-in-ToOverrider.ensures
    (fits ∙ c.distance-in-ToOverrider.ensures)

pub part_over-part-requires-clause-view : goal.part_over-part-requires-clause-view
part_over-part-requires-clause-view g c = some_view c.args.site.now.h.now (places_of c.args.site.now.h.now (g.L.SoundLayout.rows c.args.site.now.layout.now)) c.args.x.now c.requires.view

pub place_of_part-requires-clause-valid : goal.place_of_part-requires-clause-valid
place_of_part-requires-clause-valid g c = (c.part_over-part.ensures.part (places_of c.args.site.now.h.now (g.L.SoundLayout.rows c.args.site.now.layout.now)) c.requires.view).valid
