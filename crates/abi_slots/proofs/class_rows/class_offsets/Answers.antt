use Rattle.std.proofs.Common.{◌≤◌, length, map, ap, subst, sym, ◌∙◌}
use Rattle.abi_sound.specs.Places.{places_of, primary_in}
use Rattle.abi_slots.specs.declared.words.Offset.TheVariants.{ToBase}
use Rattle.abi_slots.specs.Limits.{most_offsets}
use Rattle.abi_slots.specs.Listing.{push_all}
use Rattle.abi_slots.specs.invariants.SlotRows.{IsPrimaryBefore}
use Rattle.abi_slots.proofs.ClassOffsets.{primaries_of, primary_before, primary_shared, bases_within, virtuals_within, plain_are, plain_few}
use Rattle.abi_slots.proofs.class_rows.class_offsets.Goals as goal

pub old_offsets-old-requires : goal.old_offsets-old-requires
old_offsets-old-requires g c =
    let rows = g.L.SoundLayout.rows c.args.site.now.layout.now in
    let sound = g.met.L.SoundLayout.sound c.args.site.now.layout.now c.args.site.now.h.now c.requires.site.layout in
    subst (λ n. IsPrimaryBefore n c.layout-row.result.now.primary) (sym c.requires.size) (primary_before c.args.site.now.h.now (places_of c.args.site.now.h.now rows) c.keeps.ensures (primaries_of c.args.site.now.h.now rows sound) c.args.c c.layout-row.result.now.primary c.requires.known (sym (ap primary_in c.layout-row.ensures)))

pub base_table-requires-clause-within : goal.base_table-requires-clause-within
base_table-requires-clause-within g c =
    let rows = g.L.SoundLayout.rows c.args.site.now.layout.now in
    let l = places_of c.args.site.now.h.now rows in
    let are = primaries_of c.args.site.now.h.now rows (g.met.L.SoundLayout.sound c.args.site.now.layout.now c.args.site.now.h.now c.requires.site.layout) in
    let primary = sym (ap primary_in c.layout-row.ensures) in
    let shared = primary_shared c.args.site.now.h.now l c.keeps.ensures are c.args.c c.layout-row.result.now.primary c.requires.known primary in
    bases_within c.args.site.now.h.now l c.keeps.ensures are c.args.c c.layout-row.result.now.primary c.old_offsets-old.result.now c.requires.known primary (c.old_offsets-old.ensures.offsets c.args.site.now.h.now l c.args.site.now.numbering.now.rows.items c.requires.rows shared)

pub push_bases-requires-clause-within : goal.push_bases-requires-clause-within
push_bases-requires-clause-within g c =
    let sound = g.met.L.SoundLayout.sound c.args.site.now.layout.now c.args.site.now.h.now c.requires.site.layout in
    let full = sound.full.each c.args.c c.layout-row.result.now c.layout-row.ensures in
    virtuals_within c.args.site.now.h.now c.keeps.ensures c.args.c c.as_slice.result.now (length c.in_ok-table.table.words.items) (c.as_slice.ensures ∙ full.virtuals) c.in_ok-table.ensures.size

pub push_bases-requires-clause-few : goal.push_bases-requires-clause-few
push_bases-requires-clause-few g c =
    let rows = g.L.SoundLayout.rows c.args.site.now.layout.now in
    let l = places_of c.args.site.now.h.now rows in
    let sound = g.met.L.SoundLayout.sound c.args.site.now.layout.now c.args.site.now.h.now c.requires.site.layout in
    let are = primaries_of c.args.site.now.h.now rows sound in
    let full = sound.full.each c.args.c c.layout-row.result.now c.layout-row.ensures in
    let primary = sym (ap primary_in c.layout-row.ensures) in
    let shared = primary_shared c.args.site.now.h.now l c.keeps.ensures are c.args.c c.layout-row.result.now.primary c.requires.known primary in
    subst (λ xs. length (push_all c.args.site.now.h.now xs (map ToBase c.as_slice.result.now)) ≤ most_offsets) (sym c.in_ok-table.ensures.offsets)
    (plain_few c.args.site.now.h.now l c.keeps.ensures are c.args.c c.layout-row.result.now.primary c.old_offsets-old.result.now c.as_slice.result.now c.requires.known primary (c.old_offsets-old.ensures.offsets c.args.site.now.h.now l c.args.site.now.numbering.now.rows.items c.requires.rows shared) (c.as_slice.ensures ∙ full.virtuals))

pub returns-clause-offsets : goal.returns-clause-offsets
returns-clause-offsets g c =
    let rows = g.L.SoundLayout.rows c.args.site.now.layout.now in
    let l = places_of c.args.site.now.h.now rows in
    let sound = g.met.L.SoundLayout.sound c.args.site.now.layout.now c.args.site.now.h.now c.requires.site.layout in
    let are = primaries_of c.args.site.now.h.now rows sound in
    let full = sound.full.each c.args.c c.layout-row.result.now c.layout-row.ensures in
    let primary = sym (ap primary_in c.layout-row.ensures) in
    let shared = primary_shared c.args.site.now.h.now l c.keeps.ensures are c.args.c c.layout-row.result.now.primary c.requires.known primary in
    c.in_ok-push_bases.ensures.offsets ∙ ap (λ xs. push_all c.args.site.now.h.now xs (map ToBase c.as_slice.result.now)) c.in_ok-table.ensures.offsets
    ∙ plain_are c.args.site.now.h.now l c.keeps.ensures are c.args.c c.layout-row.result.now.primary c.old_offsets-old.result.now c.as_slice.result.now c.requires.known primary (c.old_offsets-old.ensures.offsets c.args.site.now.h.now l c.args.site.now.numbering.now.rows.items c.requires.rows shared) (c.as_slice.ensures ∙ full.virtuals)
