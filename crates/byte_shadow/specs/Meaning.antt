-- What a shadow notes.
use Rattle.std.specs.Prelude.{◌≡◌, ℕ, ◌+◌, ◌-◌, ◌^◌, ◌<◌, ◌≤◌, Bool, true, false, nat_eq, ◌&&◌, if◌then◌else◌, Option, Some, None, option_map, ⊤}
use Rattle.std.specs.List.{find}
use Rattle.std.specs.Option.{option_or}
use Rattle.indexmap.specs.IndexMap.{get_by}
use Rattle.byte_code.specs.declared.op.Phase.{Phase}
use Rattle.byte_shadow.specs.declared.note.Place.{Place}
use Rattle.byte_shadow.specs.declared.near_list.NearPlace.{NearPlace}
use Rattle.byte_shadow.specs.declared.note_map.NoteMap.{NoteMap}
use Rattle.byte_shadow.specs.declared.shadow.Viewed.{Viewed}
use Rattle.byte_shadow.specs.declared.note.Note.{Note}
use Rattle.byte_shadow.specs.declared.note.NoteState.{NoteState}
use Rattle.byte_shadow.specs.declared.view_map.ViewMap.{ViewMap}
use Rattle.byte_shadow.specs.declared.shadow.Shadow.{Shadow}
use Rattle.byte_shadow.specs.NearLists.{is_near_at}
use Rattle.byte_shadow.specs.Shadows.{Notes}

abbrev pub shadow_place : ℕ → ℕ → Place
shadow_place at class = record { at = at; class = class }

abbrev pub same_place : Place → Place → Bool
same_place p q = nat_eq p.at q.at && nat_eq p.class q.class

-- the note that a short one stands for
abbrev pub wide_note : NearPlace NoteState → Note
wide_note short = record { owner = short.at - short.distance; owner_class = short.other_class; phase = short.what.phase; is_own_view = short.what.is_own_view }

-- a note for 12 bytes: its address has at most 32 bits, and the numbers of both classes and the way back to its complete object 16
pub record FitsShort (at class : ℕ) (note : Note) : Type 0 where
  pub address : at < 2 ^ 32
  pub number : class < 2 ^ 16
  pub owner_class : note.owner_class < 2 ^ 16
  pub owner : note.owner ≤ at
  pub behind : at - note.owner < 2 ^ 16

-- what a note that is listed stands for, or else what stands in the map of the others
abbrev pub note_beside : Option (NearPlace NoteState) → Option Note → Option Note
note_beside None wide = wide
note_beside (Some short) wide = Some (wide_note short)

-- what is noted of a subobject: what the list has of it, or else the map
abbrev pub mapped_note : NoteMap → ℕ → ℕ → Option Note
mapped_note map at class = note_beside (find (is_near_at at class) map.list.items.items) (get_by (same_place (shadow_place at class)) map.wide)

abbrev pub note_of : Shadow → ℕ → ℕ → Option Note
note_of shadow at class = mapped_note shadow.notes at class

abbrev pub place_pair : Place → ℕ × ℕ
place_pair p = (p.at, p.class)

abbrev pub note_phase : Option Note → Option Phase
note_phase None = None
note_phase (Some note) = Some note.phase

abbrev pub note_owner : Option Note → Option (ℕ × ℕ)
note_owner None = None
note_owner (Some note) = Some (note.owner, note.owner_class)

-- the view that was set last, where it is that of the complete object, or else what stands in the map
abbrev pub view_beside : Option Viewed → ℕ → ℕ → Option Place → Option Place
view_beside None at class view = view
view_beside (Some last) at class view = if nat_eq last.owner.at at && nat_eq last.owner.class class then Some last.view else view

-- the view that a short one stands for
abbrev pub wide_view : NearPlace ⊤ → Place
wide_view short = record { at = short.at + short.distance; class = short.other_class }

-- the view that is listed of a complete object
abbrev pub short_found : ViewMap → ℕ → ℕ → Option Place
short_found map at class = option_map wide_view (find (is_near_at at class) map.list.items.items)

-- the view of a complete object: what the map has of it, or else the list
abbrev pub view_found : ViewMap → ℕ → ℕ → Option Place
view_found map at class = option_or (get_by (same_place (shadow_place at class)) map.wide) (short_found map at class)

-- a complete object has this view, and each other one has the view that it had
abbrev pub IsViewPut : (old new : ViewMap) (owner view : Place) → Type 0
IsViewPut old new owner view = (a c : ℕ) → view_found new a c ≡ (if nat_eq owner.at a && nat_eq owner.class c then Some view else view_found old a c)

abbrev pub mapped_view : Shadow → ℕ → ℕ → Option Place
mapped_view shadow at class = view_found shadow.views at class

abbrev pub noted_view : Shadow → ℕ → ℕ → Option Place
noted_view shadow at class = view_beside shadow.last at class (mapped_view shadow at class)

abbrev pub view_pair : Option Place → Option (ℕ × ℕ)
view_pair view = option_map place_pair view

-- whether a subobject is noted as the view of itself
abbrev pub is_own_view : Option Note → Bool
is_own_view None = false
is_own_view (Some note) = note.is_own_view

-- the view of the complete object of a class at an address: itself, or the one that is noted beside
abbrev pub kept_view : ℕ → ℕ → Bool → Option Place → Option (ℕ × ℕ)
kept_view at class true view = Some (at, class)
kept_view at class false view = view_pair view

abbrev pub shadow_view : Shadow → ℕ → ℕ → Option (ℕ × ℕ)
shadow_view shadow at class = kept_view at class (is_own_view (note_of shadow at class)) (noted_view shadow at class)

-- a note that says whether its subobject is the view of itself
abbrev pub marked_note : Bool → Option Note → Option Note
marked_note own None = None
marked_note own (Some note) = Some (record note { is_own_view = own })

-- a note that says in which phase its subobject is
abbrev pub phased_note : Phase → Option Note → Option Note
phased_note phase None = None
phased_note phase (Some note) = Some (record note { phase = phase })

-- what is noted of one subobject was changed, and all else is as it was
abbrev pub IsNoteChanged : (Option Note → Option Note) → (old new : NoteMap) (at class : ℕ) → Type 0
IsNoteChanged change old new at class = (a c : ℕ) → mapped_note new a c ≡ (if nat_eq at a && nat_eq class c then change (mapped_note old at class) else mapped_note old a c)

-- the note of one subobject says so, and all else is as it was
pub record IsMarked (old new : Shadow) (at class : ℕ) (own : Bool) : Type 0 where
  pub notes : (a c : ℕ) → note_of new a c ≡ (if nat_eq at a && nat_eq class c then marked_note own (note_of old at class) else note_of old a c)
  pub last : new.last ≡ old.last
  pub views : new.views ≡ old.views

-- the view that was set last stands in the map too, but where it is that of a complete object; all else is as it was
pub record IsLastKept (old new : Shadow) (owner : Place) : Type 0 where
  pub notes : new.notes ≡ old.notes
  pub views : (a c : ℕ) → (nat_eq owner.at a && nat_eq owner.class c) ≡ false → mapped_view new a c ≡ noted_view old a c

-- what the shadow notes, as functions of an address and a class
unfoldable pub notes_of : Shadow → Notes
notes_of shadow = record { phase = λ at class. note_phase (note_of shadow at class); owner = λ at class. note_owner (note_of shadow at class); view = λ at class. shadow_view shadow at class }
