use Rattle.std.proofs.Common.{◌≡◌, ◌∷◌, [], Some, None, ap, sym, subst, ◌∙◌}
use Rattle.std.specs.Prelude.{if◌then◌else◌}
use Rattle.cxx_hierarchy.specs.declared.records.ClassId.{ClassId}
use Rattle.cxx_subobject.specs.declared.Root.TheVariants.{Whole}
use Rattle.cxx_subobject.specs.Subobjects.{subobject}
use Rattle.abi_sound.specs.Places.{places_of, place_in_class}
use Rattle.code_ops.specs.Setups.{setup}
use Rattle.code_ops.specs.Routines.{start_by}
use Rattle.abi_vtt.specs.Blocks.{block_distance}
use Rattle.abi_vtt.specs.Vtts.{has_vtt}
use Rattle.code_plans.specs.invariants.Frames.{base_frame}
use Rattle.code_plans.proofs.Known.{base_known, base_whole}
use Rattle.code_plans.proofs.OpeningNumbers.{frame_same}
use Rattle.code_plans.proofs.openings.base_opening.Goals as goal

pub place-place-requires-clause-subobject : goal.place-place-requires-clause-subobject
place-place-requires-clause-subobject g c = base_whole c.args.site.now.h.now c.args.plan.class c.args.b c.in_ok-longer_path.field-0 c.requires.base c.in_ok-longer_path.ensures

pub frame-requires : goal.frame-requires
frame-requires g c = base_known c.args.site.now.h.now c.keeps.ensures c.args.plan.class c.args.b c.requires.known c.requires.base

pub returns : goal.returns
returns g c = λ base e.
    let h = c.args.site.now.h.now in
    let rows = g.L.SoundLayout.rows c.args.site.now.layout.now in
    let l = places_of h rows in
    let at = start_by (setup h rows c.args.site.now.program.now) c.args.site.now.numbers.now in
    let plan = c.args.plan in
    let whole = place_in_class h rows plan.class (subobject Whole (plan.class ∷ c.args.b ∷ [])) in
    let vtt_of = λ (b : ClassId). if has_vtt h b then Some (block_distance h l plan.class b) else None in
    let at_b = frame_same at plan c.args.b c.place-place.result whole c.base_vtt.result (vtt_of c.args.b) c.frame.result (c.frame.ensures rows)
    (c.place-place.ensures ∙ ap (λ path. place_in_class h rows plan.class (subobject Whole path)) c.in_ok-longer_path.ensures) c.base_vtt.ensures in
    subst (λ b. c.frame.result ≡ base_frame at plan b (place_in_class h rows plan.class (subobject Whole (plan.class ∷ b ∷ []))) (vtt_of b)) (sym e) at_b
