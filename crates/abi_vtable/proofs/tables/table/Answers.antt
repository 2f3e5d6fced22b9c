use Rattle.std.proofs.Common.{◌≡◌, ◌+◌, ◌++◌, ◌∷◌, List, map, length, reverse, ap, sym, ◌∙◌, arith, w64, to_z, of_z}
use Rattle.std.proofs.lemmas.Int.{to_z-of_z}
use Rattle.abi_sound.specs.Places.{places_of}
use Rattle.abi_slots.specs.Groups.{is_shared_base}
use Rattle.abi_slots.specs.declared.words.EntryWord.{EntryWord}
use Rattle.abi_slots.specs.declared.words.TableWord.{TableWord}
use Rattle.abi_slots.specs.declared.words.TableWord.TheVariants.{Top, Info, Entry}
use Rattle.abi_vtable.proofs.TableWords.{read_part, part_of, part_known, part_number, told_offsets, part_named, part_keys, part_along, part_table}
use Rattle.abi_vtable.proofs.tables.table.Goals as goal

pub seen_of-requires : goal.seen_of-requires
seen_of-requires g c =
    let h = c.args.site.now.h.now in
    let sound = g.met.L.SoundLayout.sound c.args.site.now.layout.now h c.requires.layout in
    let at = read_part h (g.L.SoundLayout.rows c.args.site.now.layout.now) c.keeps.ensures sound c.args.x.now c.requires.view c.as_slice.result.now c.args.number c.index-as_slice-number.result c.as_slice.ensures c.requires.number c.index-as_slice-number.is in
    record { view = c.requires.view.view; valid = (part_of at).valid }

pub offset_words-requires : goal.offset_words-requires
offset_words-requires g c =
    let h = c.args.site.now.h.now in
    let l = places_of h (g.L.SoundLayout.rows c.args.site.now.layout.now) in
    let sound = g.met.L.SoundLayout.sound c.args.site.now.layout.now h c.requires.layout in
    let at = read_part h (g.L.SoundLayout.rows c.args.site.now.layout.now) c.keeps.ensures sound c.args.x.now c.requires.view c.as_slice.result.now c.args.number c.index-as_slice-number.result c.as_slice.ensures c.requires.number c.index-as_slice-number.is in
    record {
      layout = c.requires.layout;
      site = c.requires.site;
      view = c.requires.view;
      part = part_of at;
      start = c.place-place.ensures ∙ ap (l.place c.args.x.now.complete) c.in_ok-seen.ensures.seen;
      named = part_named at c.offsets-offsets.result.now (told_offsets at c.is_shared_base.result c.offsets-offsets.result.now (c.is_shared_base.ensures ∙ ap is_shared_base c.in_ok-seen.ensures.seen) (c.offsets-offsets.ensures.offsets h l c.requires.site.are_slots));
    }

pub entry_words-requires : goal.entry_words-requires
entry_words-requires g c =
    let h = c.args.site.now.h.now in
    let rows = g.L.SoundLayout.rows c.args.site.now.layout.now in
    let sound = g.met.L.SoundLayout.sound c.args.site.now.layout.now h c.requires.layout in
    let at = read_part h rows c.keeps.ensures sound c.args.x.now c.requires.view c.as_slice.result.now c.args.number c.index-as_slice-number.result c.as_slice.ensures c.requires.number c.index-as_slice-number.is in
    let keys = c.entries-entries.ensures.entries h (places_of h rows) c.requires.site.are_slots (part_known at) in
    record {
      layout = c.requires.layout;
      site = c.requires.site;
      known = c.requires.known;
      view = c.requires.view;
      number = c.requires.number;
      keys = part_keys at c.entries-entries.result.now keys;
      along = part_along at c.entries-entries.result.now keys;
    }

pub returns-clause-table : goal.returns-clause-table
returns-clause-table g c = λ t here.
    let h = c.args.site.now.h.now in
    let rows = g.L.SoundLayout.rows c.args.site.now.layout.now in
    let v = c.args.x.now in
    let part = c.index-as_slice-number.result in
    let sound = g.met.L.SoundLayout.sound c.args.site.now.layout.now h c.requires.layout in
    let at = read_part h rows c.keeps.ensures sound v c.requires.view c.as_slice.result.now c.args.number part c.as_slice.ensures c.requires.number c.index-as_slice-number.is in
    let listed = told_offsets at c.is_shared_base.result c.offsets-offsets.result.now (c.is_shared_base.ensures ∙ ap is_shared_base c.in_ok-seen.ensures.seen) (c.offsets-offsets.ensures.offsets h (places_of h rows) c.requires.site.are_slots) in
    let keys = c.entries-entries.ensures.entries h (places_of h rows) c.requires.site.are_slots (part_known at) in
    let fits : to_z w64 (of_z w64 c.distance-top.result) ≡ c.distance-top.result = grind (arith, to_z-of_z) in
    let offset_items = c.in_ok-offset_words.offset_words.items in
    let entry_items = c.in_ok-entry_words.entry_words.items in
    let top = c.distance-top.result in
    let words : c.in_ok-words.words ≡ reverse offset_items ++ Top top ∷ Info v.class ∷ map Entry entry_items = c.in_ok-words.ensures
    ∙ ap (λ d. reverse c.as_slice-2.result.now ++ Top d ∷ Info v.class ∷ map Entry c.as_slice-3.result.now) fits
    ∙ ap (λ (ws : List TableWord). reverse ws ++ Top top ∷ Info v.class ∷ map Entry c.as_slice-3.result.now) c.as_slice-2.ensures.value
    ∙ ap (λ (es : List EntryWord). reverse offset_items ++ Top top ∷ Info v.class ∷ map Entry es) c.as_slice-3.ensures.value in
    let size : length c.as_slice-2.result.now ≡ length offset_items = ap length c.as_slice-2.ensures.value in
    let before : c.len.result + 2 ≡ length offset_items + 2 = ap (λ n. n + 2) (c.len.ensures ∙ sym c.as_slice-2.ensures.len ∙ size) in
    part_table at t here c.place-place.result c.offsets-offsets.result.now c.entries-entries.result.now offset_items entry_items top (c.len.result + 2) c.in_ok-words.words
    (c.place-place.ensures ∙ ap ((places_of h rows).place v.complete) c.in_ok-seen.ensures.seen) listed keys
    c.in_ok-offset_words.ensures (c.in_ok-entry_words.ensures.words part.at (part_number at)) c.distance-top.ensures words before
