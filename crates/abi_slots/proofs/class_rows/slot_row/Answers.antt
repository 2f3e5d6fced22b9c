use Rattle.std.proofs.Common.{◌+◌, map, false, length, ap, subst, sym, ◌∙◌, arith}
use Rattle.cxx_hierarchy.specs.Classes.{functions_in}
use Rattle.abi_sound.specs.Places.{places_of}
use Rattle.abi_slots.specs.Rows.{listed_function, AreEntryNumbers, HaveOneEntry}
use Rattle.abi_slots.specs.invariants.OffsetWords.{virtual_base_number, AreWords}
use Rattle.abi_slots.specs.invariants.SlotRows.{ListsShared}
use Rattle.abi_slots.proofs.Bounds.{few_entries}
use Rattle.abi_slots.proofs.OffsetBounds.{few_offsets}
use Rattle.abi_slots.proofs.ClassEntries.{one_entry, low_indices}
use Rattle.abi_slots.proofs.ClassOffsets.{primaries_of}
use Rattle.abi_slots.proofs.RowParts.{row_is}
use Rattle.abi_slots.proofs.class_rows.slot_row.Goals as goal

pub numbers_of-requires-clause-few : goal.numbers_of-requires-clause-few
numbers_of-requires-clause-few g c =
    let few = few_entries c.args.site.now.h.now (places_of c.args.site.now.h.now (g.L.SoundLayout.rows c.args.site.now.layout.now)) c.keeps.ensures c.args.c c.requires.known in
    let size = ap length (c.as_slice-5.ensures.value ∙ c.in_ok-all.ensures.entries) in
    omega arith

pub numbers_of-requires-clause-within : goal.numbers_of-requires-clause-within
numbers_of-requires-clause-within g c =
    let rows = g.L.SoundLayout.rows c.args.site.now.layout.now in
    let are = primaries_of c.args.site.now.h.now rows (g.met.L.SoundLayout.sound c.args.site.now.layout.now c.args.site.now.h.now c.requires.site.layout) in
    let count = c.len-count.ensures ∙ ap (λ o. length (functions_in o)) (sym c.class.ensures) in
    low_indices c.args.site.now.h.now (places_of c.args.site.now.h.now rows) c.keeps.ensures are c.args.c c.as_slice-4.result.now (c.len-count.result + 1) (c.as_slice-4.ensures.value ∙ c.in_ok-all.ensures.listings) (omega arith)

pub numbers_of-requires-clause-one : goal.numbers_of-requires-clause-one
numbers_of-requires-clause-one g c =
    let rows = g.L.SoundLayout.rows c.args.site.now.layout.now in
    let are = primaries_of c.args.site.now.h.now rows (g.met.L.SoundLayout.sound c.args.site.now.layout.now c.args.site.now.h.now c.requires.site.layout) in
    subst (λ xs. HaveOneEntry xs) (sym (c.as_slice-4.ensures.value ∙ c.in_ok-all.ensures.listings)) (one_entry c.args.site.now.h.now (places_of c.args.site.now.h.now rows) c.keeps.ensures are c.args.c)

pub invariant_of-result : goal.invariant_of-result
invariant_of-result g c =
    let rows = g.L.SoundLayout.rows c.args.site.now.layout.now in
    let l = places_of c.args.site.now.h.now rows in
    let are = primaries_of c.args.site.now.h.now rows (g.met.L.SoundLayout.sound c.args.site.now.layout.now c.args.site.now.h.now c.requires.site.layout) in
    let many = few_entries c.args.site.now.h.now l c.keeps.ensures c.args.c c.requires.known in
    let plain = few_offsets c.args.site.now.h.now l c.keeps.ensures are false c.args.c c.requires.known in
    let shared = c.in_ok-calls.ensures.few in
    let a = ap length (c.from_vec.ensures ∙ c.in_ok-all.ensures.entries) in
    let b = ap length (c.from_vec-2.ensures ∙ c.in_ok-bases.ensures.offsets) in
    let d = ap length c.from_vec-4.ensures in
    record { few_entries = omega arith; few_offsets = omega arith; few_shared = omega arith }

pub returns : goal.returns
returns g c =
    let rows = g.L.SoundLayout.rows c.args.site.now.layout.now in
    let l = places_of c.args.site.now.h.now rows in
    let are = primaries_of c.args.site.now.h.now rows (g.met.L.SoundLayout.sound c.args.site.now.layout.now c.args.site.now.h.now c.requires.site.layout) in
    let entries_are = c.from_vec.ensures ∙ c.in_ok-all.ensures.entries in
    let listings = c.in_ok-all.all.listings.items in
    row_is c.args.site.now.h.now l c.keeps.ensures are c.args.site.now.numbering.now.rows.items c.args.site.now.numbering.now.count c.requires.site.numbering c.args.c c.requires.known _ listings
    entries_are
    c.in_ok-all.ensures.listings
    (c.in_ok-declared.ensures ∙ ap (λ xs. map (listed_function xs) c.as_slice-3.result.now) c.as_slice-2.ensures.value ∙ ap (map (listed_function listings)) (c.as_slice-3.ensures.value ∙ sym c.from_vec.ensures))
    (subst (λ xs. AreEntryNumbers xs listings c.in_ok-numbers.numbers) (c.as_slice-5.ensures.value ∙ sym c.from_vec.ensures) (subst (λ xs. AreEntryNumbers c.as_slice-5.result.now xs c.in_ok-numbers.numbers) c.as_slice-4.ensures.value c.in_ok-numbers.ensures))
    (c.from_vec-2.ensures ∙ c.in_ok-bases.ensures.offsets)
    (ap length c.from_vec-3.ensures ∙ c.in_ok-bases.ensures.size)
    (subst (λ xs. AreWords virtual_base_number xs c.from_vec-3.result) (sym c.from_vec-2.ensures) (subst (λ ws. AreWords virtual_base_number c.in_ok-bases.bases.offsets.items ws) (sym c.from_vec-3.ensures) c.in_ok-bases.ensures.words))
    (subst (λ xs. ListsShared c.args.site.now.h.now l c.args.site.now.numbering.now.rows.items c.args.site.now.numbering.now.count c.args.c xs c.from_vec-5.result) (sym c.from_vec-4.ensures) (subst (λ ws. ListsShared c.args.site.now.h.now l c.args.site.now.numbering.now.rows.items c.args.site.now.numbering.now.count c.args.c c.in_ok-calls.calls.offsets.items ws) (sym c.from_vec-5.ensures) c.in_ok-calls.ensures))
