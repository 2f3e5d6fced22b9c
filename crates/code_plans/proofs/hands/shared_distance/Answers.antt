use Rattle.std.proofs.Common.{◌≡◌, ap, arith, length, subst, sym, ◌∙◌}
use Rattle.abi_sound.specs.Places.{places_of}
use Rattle.code_plans.specs.ClassTables.{AreBlocks}
use Rattle.code_plans.proofs.Known.{virtuals_are, virtuals_below}
use Rattle.code_plans.proofs.Distances.{shared_from}
use Rattle.code_plans.proofs.hands.shared_distance.Goals as goal

pub shared_before-before-requires-clause-known : goal.shared_before-before-requires-clause-known
shared_before-before-requires-clause-known g c =
    let h = c.args.site.now.h.now in
    virtuals_below h (g.L.SoundLayout.rows c.args.site.now.layout.now) c.keeps.ensures (g.met.L.SoundLayout.sound c.args.site.now.layout.now h c.requires.site.layout) c.args.c c.layout.result.now c.as_slice-bases.result.now (length c.as_slice-blocks.result.now) c.layout.ensures c.as_slice-bases.ensures
    (let size : length c.as_slice-blocks.result.now ≡ length c.args.site.now.tables.now.blocks = ap length c.as_slice-blocks.ensures in let all = c.requires.site.site.are_tables.one_block_each in let known = c.requires.known in omega arith)

pub returns : goal.returns
returns g c = λ _.
    let h = c.args.site.now.h.now in
    let rows = g.L.SoundLayout.rows c.args.site.now.layout.now in
    let blocks = c.args.site.now.tables.now.blocks in
    shared_from h c.keeps.ensures (places_of h rows) c.args.c c.args.v c.requires.known c.requires.site.site.few_words c.requires.base c.as_slice-blocks.result.now c.as_slice-bases.result.now c.length_at.result c.shared_before-before.result c.saturating_add.result
    (subst (AreBlocks h (places_of h rows)) (sym c.as_slice-blocks.ensures) c.requires.site.site.are_tables.blocks) (ap length c.as_slice-blocks.ensures ∙ c.requires.site.site.are_tables.one_block_each)
    (virtuals_are h rows (g.met.L.SoundLayout.sound c.args.site.now.layout.now h c.requires.site.layout) c.args.c c.layout.result.now c.as_slice-bases.result.now c.layout.ensures c.as_slice-bases.ensures)
    c.length_at.ensures c.shared_before-before.ensures c.saturating_add.ensures
