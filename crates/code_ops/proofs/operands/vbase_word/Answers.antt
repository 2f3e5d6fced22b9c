use Rattle.std.proofs.Common.{◌≡◌, ◌∙◌, rules, to_z, of_z, w32}
use Rattle.cxx_subobject.proofs.DecidingLemmas.{base_of_shared}
use Rattle.abi_sound.specs.Places.{places_of}
use Rattle.code_ops.proofs.operands.vbase_word.Goals as goal

pub returns : goal.returns
returns g c =
    let h = c.args.site.now.h.now in
    let word = c.vbase.ensures h (places_of h (g.L.SoundLayout.rows c.args.site.now.layout.now)) c.requires.site.are_slots (base_of_shared h c.args.c c.args.v c.args.i.now c.requires.base.valid c.requires.shared) in
    let fits : to_z w32 (of_z w32 c.vbase.result) ≡ c.vbase.result = search rules in
    fits ∙ word
