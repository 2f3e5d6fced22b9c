use Rattle.std.proofs.Common.{ap, subst, sym, ◌∙◌}
use Rattle.abi_sound.specs.Places.{places_of, primary_in}
use Rattle.abi_slots.specs.invariants.SlotRows.{IsPrimaryBefore}
use Rattle.abi_slots.proofs.CallRooms.{own_declared}
use Rattle.abi_slots.proofs.ClassEntries.{own_known, keys_known, old_known, class_entries_are, class_listings_are}
use Rattle.abi_slots.proofs.ClassOffsets.{primaries_of, primary_before}
use Rattle.abi_slots.proofs.class_rows.class_entries.Goals as goal

pub keys_of-requires-clause-known : goal.keys_of-requires-clause-known
keys_of-requires-clause-known g c = own_known c.args.site.now.h.now c.keeps.ensures c.args.c c.args.mine.now c.requires.own

pub keys_of-requires-clause-declared : goal.keys_of-requires-clause-declared
keys_of-requires-clause-declared g c = own_declared c.args.site.now.h.now c.keeps.ensures c.args.c c.args.mine.now c.requires.own

pub old_entries-old-requires : goal.old_entries-old-requires
old_entries-old-requires g c =
    let rows = g.L.SoundLayout.rows c.args.site.now.layout.now in
    let sound = g.met.L.SoundLayout.sound c.args.site.now.layout.now c.args.site.now.h.now c.requires.site.layout in
    subst (λ n. IsPrimaryBefore n c.layout-row.result.now.primary) (sym c.requires.size) (primary_before c.args.site.now.h.now (places_of c.args.site.now.h.now rows) c.keeps.ensures (primaries_of c.args.site.now.h.now rows sound) c.args.c c.layout-row.result.now.primary c.requires.known (sym (ap primary_in c.layout-row.ensures)))

pub entries_of-requires-clause-old : goal.entries_of-requires-clause-old
entries_of-requires-clause-old g c =
    let l = places_of c.args.site.now.h.now (g.L.SoundLayout.rows c.args.site.now.layout.now) in
    old_known c.args.site.now.h.now l c.keeps.ensures c.layout-row.result.now.primary c.old_entries-old.result.now (c.old_entries-old.ensures c.args.site.now.h.now l c.args.site.now.numbering.now.rows.items c.requires.rows)

pub entries_of-requires-clause-keys : goal.entries_of-requires-clause-keys
entries_of-requires-clause-keys g c = keys_known c.args.site.now.h.now c.keeps.ensures c.args.c c.args.mine.now c.as_slice.result.now c.requires.own (c.as_slice.ensures.value ∙ c.in_ok-keys.ensures)

pub returns-clause-entries : goal.returns-clause-entries
returns-clause-entries g c =
    let rows = g.L.SoundLayout.rows c.args.site.now.layout.now in
    let l = places_of c.args.site.now.h.now rows in
    let sound = g.met.L.SoundLayout.sound c.args.site.now.layout.now c.args.site.now.h.now c.requires.site.layout in
    class_entries_are c.args.site.now.h.now l c.keeps.ensures (primaries_of c.args.site.now.h.now rows sound) c.args.c c.layout-row.result.now.primary c.args.mine.now c.as_slice.result.now c.old_entries-old.result.now c.entries_of.result c.requires.known (sym (ap primary_in c.layout-row.ensures)) c.requires.own (c.as_slice.ensures.value ∙ c.in_ok-keys.ensures)
    (c.old_entries-old.ensures c.args.site.now.h.now l c.args.site.now.numbering.now.rows.items c.requires.rows) c.entries_of.ensures.entries

pub returns-clause-listings : goal.returns-clause-listings
returns-clause-listings g c =
    let l = places_of c.args.site.now.h.now (g.L.SoundLayout.rows c.args.site.now.layout.now) in
    class_listings_are c.args.site.now.h.now l c.args.c c.layout-row.result.now.primary c.args.mine.now c.as_slice.result.now c.old_entries-old.result.now c.entries_of.result (sym (ap primary_in c.layout-row.ensures)) c.requires.own (c.as_slice.ensures.value ∙ c.in_ok-keys.ensures)
    (c.old_entries-old.ensures c.args.site.now.h.now l c.args.site.now.numbering.now.rows.items c.requires.rows) c.entries_of.ensures.listings
