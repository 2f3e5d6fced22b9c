use Rattle.abi_sound.specs.Places.{places_of}
use Rattle.abi_slots.proofs.ClassOffsets.{primaries_of}
use Rattle.abi_slots.proofs.RowParts.{lists_shared}
use Rattle.abi_slots.proofs.class_rows.calls_of.Goals as goal

pub returns : goal.returns
returns g c =
    let rows = g.L.SoundLayout.rows c.args.site.now.layout.now in
    let are = primaries_of c.args.site.now.h.now rows (g.met.L.SoundLayout.sound c.args.site.now.layout.now c.args.site.now.h.now c.requires.site.layout) in
    lists_shared c.args.site.now.h.now (places_of c.args.site.now.h.now rows) c.keeps.ensures are c.args.site.now.numbering.now.rows.items c.args.site.now.numbering.now.count c.args.c c.requires.known c.shared_offsets.result c.shared_offsets.ensures.offsets c.shared_offsets.ensures.size c.shared_offsets.ensures.words
