use Rattle.abi_sound.specs.Places.{places_of}
use Rattle.abi_vtable.proofs.Over.{root_virtual, base_valid, converted_is}
use Rattle.abi_vtable.proofs.returns.converted.Goals as goal

pub returns : goal.returns
returns g c =
    let h = c.args.site.now.h.now in
    let l = places_of h (g.L.SoundLayout.rows c.args.site.now.layout.now) in
    let from = c.args.classes.from in
    let base = c.in-Some.base in
    let valid = base_valid h from c.in_ok-base.field-0 base c.in-Some.is c.in_ok-base.ensures.valid in
    converted_is h l c.args.classes c.in_ok-base.field-0 base c.vbase_for-vbase.result c.return_adjust.result c.in_ok-base.ensures.base c.in-Some.is (c.vbase_for-vbase.ensures h l c.requires.site.are_slots (root_virtual h from base valid)) c.return_adjust.ensures
