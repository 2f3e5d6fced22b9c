use Rattle.std.proofs.Common.{◌∷◌, [], Some, None, ap, ◌∙◌}
use Rattle.std.specs.Prelude.{if◌then◌else◌}
use Rattle.cxx_subobject.specs.declared.Root.TheVariants.{Shared}
use Rattle.cxx_subobject.specs.Subobjects.{subobject}
use Rattle.abi_sound.specs.Places.{places_of, place_in_class}
use Rattle.code_ops.specs.Setups.{setup}
use Rattle.code_ops.specs.Routines.{start_by}
use Rattle.abi_vtt.specs.Blocks.{shared_distance}
use Rattle.abi_vtt.specs.Vtts.{has_vtt}
use Rattle.code_plans.proofs.Known.{base_shared, virtual_known}
use Rattle.code_plans.proofs.OpeningNumbers.{frame_same}
use Rattle.code_plans.proofs.openings.shared_opening.Goals as goal

pub place-place-requires-clause-subobject : goal.place-place-requires-clause-subobject
place-place-requires-clause-subobject g c = base_shared c.args.site.now.h.now c.args.plan.class c.args.v c.in_ok-longer_path.field-0 c.requires.base c.in_ok-longer_path.ensures

pub frame-requires : goal.frame-requires
frame-requires g c = virtual_known c.args.site.now.h.now c.keeps.ensures c.args.plan.class c.args.v c.requires.known c.requires.base

pub returns : goal.returns
returns g c =
    let h = c.args.site.now.h.now in
    let rows = g.L.SoundLayout.rows c.args.site.now.layout.now in
    let at = start_by (setup h rows c.args.site.now.program.now) c.args.site.now.numbers.now in
    let plan = c.args.plan in
    let whole = place_in_class h rows plan.class (subobject (Shared c.args.v) (c.args.v ∷ [])) in
    frame_same at plan c.args.v c.place-place.result whole c.shared_vtt.result (if has_vtt h c.args.v then Some (shared_distance h (places_of h rows) plan.class c.args.v) else None) c.frame.result (c.frame.ensures rows)
    (c.place-place.ensures ∙ ap (λ path. place_in_class h rows plan.class (subobject (Shared c.args.v) path)) c.in_ok-longer_path.ensures) c.shared_vtt.ensures
