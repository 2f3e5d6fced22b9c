use Rattle.std.proofs.Common.{◌≡◌, pos, ◌*ℤ◌, ap, ◌∙◌, refl, rules, to_z, of_z, w32, w64}
use Rattle.cxx_hierarchy.specs.VirtualBases.{HasVirtualBase, direct}
use Rattle.abi_sound.specs.Places.{places_of}
use Rattle.abi_rtti.proofs.info.base_offset.Goals as goal

pub returns-then-base-clause-offset : goal.returns-then-base-clause-offset
returns-then-base-clause-offset g c =
    let has : HasVirtualBase c.args.h.now c.args.c c.args.base.now.class = direct c.args.c c.args.base.now.class (record { base = c.args.base.now; listed = c.requires.base; class = refl; way = c.if-base.true }) in
    let word = c.vbase.ensures c.args.h.now (places_of c.args.h.now (g.L.SoundLayout.rows c.args.layout.now)) c.requires.slots has in
    let fits : to_z w32 (of_z w32 c.vbase.result) ≡ c.vbase.result = search rules in
    let large : to_z w64 (of_z w64 c.bytes_to_word.result) ≡ c.bytes_to_word.result = search rules in
    rw c.if-base.true (large ∙ c.bytes_to_word.ensures.bytes ∙ ap (λ z. pos 8 *ℤ z) (fits ∙ word))
