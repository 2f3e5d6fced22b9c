use Rattle.std.proofs.Common.{arith}
use Rattle.abi_sound.specs.Places.{places_of}
use Rattle.code_plans.proofs.Known.{virtuals_are, virtuals_below}
use Rattle.code_plans.proofs.Distances.{block_from}
use Rattle.code_plans.proofs.class_tables.block_len.Goals as goal

pub shared_sum-requires-clause-known : goal.shared_sum-requires-clause-known
shared_sum-requires-clause-known g c =
    virtuals_below c.args.h.now (g.L.SoundLayout.rows c.args.layout.now) c.keeps.ensures (g.met.L.SoundLayout.sound c.args.layout.now c.args.h.now c.requires.layout) c.args.c c.layout.result.now c.as_slice-shared.result.now _ c.layout.ensures c.as_slice-shared.ensures
    (let size = c.requires.size in omega arith)

pub returns : goal.returns
returns g c = λ has.
    let h = c.args.h.now in
    let rows = g.L.SoundLayout.rows c.args.layout.now in
    block_from h c.keeps.ensures (places_of h rows) c.args.c c.as_slice-shared.result.now c.args.words c.shared_sum.result c.saturating_sub.result has c.requires.words c.requires.few
    (virtuals_are h rows (g.met.L.SoundLayout.sound c.args.layout.now h c.requires.layout) c.args.c c.layout.result.now c.as_slice-shared.result.now c.layout.ensures c.as_slice-shared.ensures)
    c.shared_sum.ensures c.saturating_sub.ensures
