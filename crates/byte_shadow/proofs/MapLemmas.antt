-- How what is noted goes along with the list and the map.
use Rattle.std.proofs.Common.{◌≡◌, ℕ, Bool, true, false, Option, Some, None, refl, ap, ◌∙◌, sym}
use Rattle.std.specs.Prelude.{nat_eq, ◌&&◌, if◌then◌else◌}
use Rattle.std.specs.List.{find}
use Rattle.foundation.proofs.Chosen.{find_passes}
use Rattle.indexmap.specs.IndexMap.{get_by}
use Rattle.byte_shadow.specs.declared.note.Note.{Note}
use Rattle.byte_shadow.specs.declared.note.NoteState.{NoteState}
use Rattle.byte_shadow.specs.declared.near_list.NearPlace.{NearPlace}
use Rattle.byte_shadow.specs.declared.note_map.NoteMap.{NoteMap}
use Rattle.byte_shadow.specs.NearLists.{is_near_at, IsNearListed}
use Rattle.byte_shadow.specs.Meaning.{same_place, shadow_place, wide_note, note_beside, mapped_note, IsNoteChanged}
use Rattle.byte_shadow.proofs.Changed.{one_pair}

-- what the list has
abbrev pub list_found : NoteMap → ℕ → ℕ → Option (NearPlace NoteState)
list_found map at class = find (is_near_at at class) map.list.items.items

-- what stands in the map
abbrev pub wide_found : NoteMap → ℕ → ℕ → Option Note
wide_found map at class = get_by (same_place (shadow_place at class)) map.wide

-- a note stands in the list now
listed : (old new : NoteMap) (note : NearPlace NoteState) → IsNearListed old.list.items.items new.list.items.items note → new.wide ≡ old.wide →
    (a c : ℕ) → mapped_note new a c ≡ (if nat_eq note.at a && nat_eq note.class c then Some (wide_note note) else mapped_note old a c)
listed old new note put wide a c = (λ i. note_beside (put a c i) (get_by (same_place (shadow_place a c)) (wide i))) ∙ chosen (nat_eq note.at a && nat_eq note.class c)
  where
    chosen : (b : Bool) → note_beside (if b then Some note else list_found old a c) (wide_found old a c) ≡ (if b then Some (wide_note note) else note_beside (list_found old a c) (wide_found old a c))
    chosen true = refl
    chosen false = refl

-- a note is put into the list
pub put-listed : (old new : NoteMap) (at class : ℕ) (short : NearPlace NoteState) (note : Note) → short.at ≡ at → short.class ≡ class → wide_note short ≡ note →
    IsNearListed old.list.items.items new.list.items.items short → new.wide ≡ old.wide → IsNoteChanged (λ before. Some note) old new at class
put-listed old new at class short note e f same put wide a c = listed old new short put wide a c ∙ (λ i. if nat_eq (e i) a && nat_eq (f i) c then Some (same i) else mapped_note old a c)

-- a note that is listed is changed
pub changed-listed : (change : Option Note → Option Note) (old new : NoteMap) (at class : ℕ) (before after : NearPlace NoteState) → list_found old at class ≡ Some before → after.at ≡ before.at → after.class ≡ before.class →
    IsNearListed old.list.items.items new.list.items.items after → new.wide ≡ old.wide → change (Some (wide_note before)) ≡ Some (wide_note after) → IsNoteChanged change old new at class
changed-listed change old new at class before after found e f put wide same a c =
    let pair = one_pair before.at before.class at class (find_passes (is_near_at at class) old.list.items.items before found).1 in
    let was : mapped_note old at class ≡ Some (wide_note before) = ap (λ x. note_beside x (wide_found old at class)) found in
    let now : Some (wide_note after) ≡ change (mapped_note old at class) = sym (ap change was ∙ same) in
    listed old new after put wide a c ∙ (λ i. if nat_eq ((e ∙ pair.0) i) a && nat_eq ((f ∙ pair.1) i) c then now i else mapped_note old a c)

-- a note is put into the map
pub put-wide : (old new : NoteMap) (at class : ℕ) (note : Note) → list_found old at class ≡ None → new.list ≡ old.list →
    ((a c : ℕ) → wide_found new a c ≡ (if nat_eq at a && nat_eq class c then Some note else wide_found old a c)) → IsNoteChanged (λ before. Some note) old new at class
put-wide old new at class note none list put a c = (λ i. note_beside (find (is_near_at a c) (list i).items.items) (put a c i)) ∙ chosen (nat_eq at a && nat_eq class c) refl
  where
    chosen : (b : Bool) → (nat_eq at a && nat_eq class c) ≡ b → note_beside (list_found old a c) (if b then Some note else wide_found old a c) ≡ (if b then Some note else note_beside (list_found old a c) (wide_found old a c))
    chosen true e =
        let pair = one_pair at class a c e in
        let here : list_found old a c ≡ None = (λ i. list_found old (sym pair.0 i) (sym pair.1 i)) ∙ none in
        ap (λ x. note_beside x (Some note)) here
    chosen false e = refl

-- a note of the map is changed
pub changed-wide : (change : Option Note → Option Note) (old new : NoteMap) (at class : ℕ) (before after : Note) → list_found old at class ≡ None → wide_found old at class ≡ Some before → new.list ≡ old.list →
    ((a c : ℕ) → wide_found new a c ≡ (if nat_eq at a && nat_eq class c then Some after else wide_found old a c)) → change (Some before) ≡ Some after → IsNoteChanged change old new at class
changed-wide change old new at class before after none found list put same a c =
    let was : mapped_note old at class ≡ Some before = ap (λ x. note_beside x (wide_found old at class)) none ∙ found in
    put-wide old new at class after none list put a c ∙ ap (λ (n : Option Note). if nat_eq at a && nat_eq class c then n else mapped_note old a c) (sym (ap change was ∙ same))

-- where nothing is noted, nothing is changed
pub changed-none : (change : Option Note → Option Note) (old new : NoteMap) (at class : ℕ) → mapped_note old at class ≡ None → change None ≡ None → new ≡ old → IsNoteChanged change old new at class
changed-none change old new at class none same kept a c = (λ i. mapped_note (kept i) a c) ∙ chosen (nat_eq at a && nat_eq class c) refl
  where
    chosen : (b : Bool) → (nat_eq at a && nat_eq class c) ≡ b → mapped_note old a c ≡ (if b then change (mapped_note old at class) else mapped_note old a c)
    chosen true e =
        let pair = one_pair at class a c e in
        (λ i. mapped_note old (sym pair.0 i) (sym pair.1 i)) ∙ (none ∙ sym (ap change none ∙ same))
    chosen false e = refl

-- of a subobject of which nothing is noted the list has nothing
pub unlisted : (found : Option (NearPlace NoteState)) (wide : Option Note) → note_beside found wide ≡ None → found ≡ None
unlisted None wide e = refl
unlisted (Some short) wide e = cc
