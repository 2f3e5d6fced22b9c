use Rattle.std.proofs.Common.{false, length, ap, ◌∙◌, arith}
use Rattle.abi_sound.specs.Places.{places_of}
use Rattle.abi_slots.proofs.OffsetBounds.{few_offsets}
use Rattle.abi_slots.proofs.ClassOffsets.{primaries_of, shared_few}
use Rattle.abi_slots.proofs.class_rows.shared_offsets.Goals as goal

pub name_table-requires-clause-few : goal.name_table-requires-clause-few
name_table-requires-clause-few g c =
    let rows = g.L.SoundLayout.rows c.args.site.now.layout.now in
    let are = primaries_of c.args.site.now.h.now rows (g.met.L.SoundLayout.sound c.args.site.now.layout.now c.args.site.now.h.now c.requires.site.layout) in
    let few = few_offsets c.args.site.now.h.now (places_of c.args.site.now.h.now rows) c.keeps.ensures are false c.args.c c.requires.known in
    let size = ap length c.requires.plain in
    omega arith

pub push_calls-requires-clause-few : goal.push_calls-requires-clause-few
push_calls-requires-clause-few g c =
    let rows = g.L.SoundLayout.rows c.args.site.now.layout.now in
    let l = places_of c.args.site.now.h.now rows in
    let are = primaries_of c.args.site.now.h.now rows (g.met.L.SoundLayout.sound c.args.site.now.layout.now c.args.site.now.h.now c.requires.site.layout) in
    shared_few c.args.site.now.h.now l c.keeps.ensures are c.args.c c.in_ok-table.table.offsets.items c.requires.known (c.in_ok-table.ensures.offsets ∙ c.requires.plain)
