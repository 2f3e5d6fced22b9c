use Rattle.std.proofs.Common.{◌≡◌, Some, length, refl, sym, ap, ◌∙◌}
use Rattle.std.specs.Prelude.{is_some}
use Rattle.std.specs.List.{slice_get}
use Rattle.std.proofs.lemmas.Option.{slice_get_read}
use Rattle.byte_shadow.specs.declared.note.Note.{Note}
use Rattle.byte_shadow.specs.declared.near_list.NearPlace.{NearPlace}
use Rattle.byte_shadow.specs.declared.note.NoteState.{NoteState}
use Rattle.byte_shadow.specs.Meaning.{shadow_place, phased_note}
use Rattle.byte_shadow.proofs.MapLemmas.{changed-listed, changed-wide}
use Rattle.byte_shadow.proofs.note_map.NoteMap.set_phase.Goals as goal

pub returns-in-Some : goal.returns-in-Some
returns-in-Some c =
    let old = c.args.self.now in
    let items = old.list.items.items in
    let before : NearPlace NoteState = c.index-short.result.now in
    let after : NearPlace NoteState = record before { what = record before.what { phase = c.args.phase } } in
    let here : slice_get items c.in-Some.index ≡ Some before = slice_get_read items (length items) c.in-Some.index before refl c.in-Some.ensures.0 c.index-short.ensures in
    changed-listed (phased_note c.args.phase) old (record { list = c.change.new.self; wide = old.wide; changed = c.in-Some.index; viewed = old.viewed }) c.args.at c.args.class before after (c.in-Some.ensures.1 ∙ here) refl refl (c.change.ensures before here) refl refl

pub returns-in-Some-get_mut : goal.returns-in-Some-get_mut
returns-in-Some-get_mut c =
    let old = c.args.self.now in
    let before : Note = c.in-Some-get_mut.note.now in
    let after : Note = record before { phase = c.args.phase } in
    let there = sym c.in-Some-get_mut.ensures.value in
    let written = (c.get_mut.follows.holds after).3 (ap is_some there) in
    changed-wide (phased_note c.args.phase) old (record { list = old.list; wide = c.get_mut.follows.lender after; changed = old.changed; viewed = old.viewed }) c.args.at c.args.class before after c.in_default.ensures there refl (λ a d. written.0 (shadow_place a d)) refl
