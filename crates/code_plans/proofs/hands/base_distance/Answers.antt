use Rattle.std.proofs.Common.{◌≡◌, ap, arith, length, sym, ◌∙◌}
use Rattle.cxx_hierarchy.specs.Classes.{bases_in}
use Rattle.abi_sound.specs.Places.{places_of}
use Rattle.code_plans.proofs.Known.{bases_below}
use Rattle.code_plans.proofs.Distances.{base_from}
use Rattle.code_plans.proofs.hands.base_distance.Goals as goal

pub base_before-requires-clause-known : goal.base_before-requires-clause-known
base_before-requires-clause-known g c =
    bases_below c.args.site.now.h.now c.keeps.ensures c.args.c c.as_slice-bases.result.now (length c.as_slice.result.now) (c.as_slice-bases.ensures ∙ sym (ap bases_in c.class.ensures))
    (let size : length c.as_slice.result.now ≡ length c.args.site.now.tables.now.blocks = ap length c.as_slice.ensures in let all = c.requires.site.site.are_tables.one_block_each in let known = c.requires.known in omega arith)

pub returns : goal.returns
returns g c = λ has.
    let h = c.args.site.now.h.now in
    let l = places_of h (g.L.SoundLayout.rows c.args.site.now.layout.now) in
    base_from h c.keeps.ensures l c.args.c c.args.b c.requires.known c.requires.site.site.few_words c.requires.base has c.as_slice-bases.result.now c.base_before.result c.saturating_add.result (c.as_slice-bases.ensures ∙ sym (ap bases_in c.class.ensures)) c.base_before.ensures c.saturating_add.ensures
