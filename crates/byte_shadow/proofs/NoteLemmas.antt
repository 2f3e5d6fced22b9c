-- How what a shadow notes goes along with its notes and its views.
use Rattle.std.proofs.Common.{◌≡◌, ℕ, Bool, true, false, Option, Some, None, refl, ap, ◌∙◌, sym}
use Rattle.std.specs.Prelude.{nat_eq, ◌&&◌, if◌then◌else◌, is_some}
use Rattle.byte_code.specs.declared.op.Phase.{Phase}
use Rattle.byte_code.specs.declared.op.Phase.TheVariants.{Raw}
use Rattle.byte_shadow.specs.declared.note.Note.{Note}
use Rattle.byte_shadow.specs.declared.note.Place.{Place}
use Rattle.byte_shadow.specs.declared.shadow.Viewed.{Viewed}
use Rattle.byte_shadow.specs.declared.shadow.Shadow.{Shadow}
use Rattle.byte_shadow.specs.Shadows.{Notes, put_at, noted_raw, phased, viewed}
use Rattle.byte_shadow.specs.Meaning.{shadow_place, view_found, note_of, view_beside, mapped_view, noted_view, note_phase, note_owner, is_own_view, kept_view, shadow_view, marked_note, phased_note, IsNoteChanged, IsMarked, IsLastKept, notes_of}
use Rattle.byte_shadow.proofs.Changed.{one_pair, same_pair}

notes_alike : (n m : Notes) → ((a c : ℕ) → n.phase a c ≡ m.phase a c) → ((a c : ℕ) → n.owner a c ≡ m.owner a c) → ((a c : ℕ) → n.view a c ≡ m.view a c) → n ≡ m
notes_alike n m phases owners views i = record { phase = λ a c. phases a c i; owner = λ a c. owners a c i; view = λ a c. views a c i }

-- a map has one entry in place of what was there
pub record IsPut {X : Type 0} (old new : ℕ → ℕ → Option X) (at class : ℕ) (x : X) : Type 0 where
  pub each : (a c : ℕ) → new a c ≡ (if nat_eq at a && nat_eq class c then Some x else old a c)

-- what is read of the entries changes at the pair alone
changed : {X Y : Type 0} (read : Option X → Y) (old new : ℕ → ℕ → Option X) (at class : ℕ) (x : X) → IsPut old new at class x → (a c : ℕ) → read (new a c) ≡ put_at (λ b d. read (old b d)) at class (read (Some x)) a c
changed {X} {Y} read old new at class x put a c = ap read (put.each a c) ∙ chosen (nat_eq at a && nat_eq class c)
  where
    chosen : (b : Bool) → read (if b then Some x else old a c) ≡ (if b then read (Some x) else read (old a c))
    chosen true = refl
    chosen false = refl

-- and does not change, where the new entry has what was there
unchanged : {X Y : Type 0} (read : Option X → Y) (old new : ℕ → ℕ → Option X) (at class : ℕ) (x : X) → IsPut old new at class x → read (Some x) ≡ read (old at class) → (a c : ℕ) → read (new a c) ≡ read (old a c)
unchanged {X} {Y} read old new at class x put same a c = ap read (put.each a c) ∙ chosen (nat_eq at a && nat_eq class c) refl
  where
    chosen : (b : Bool) → (nat_eq at a && nat_eq class c) ≡ b → read (if b then Some x else old a c) ≡ read (old a c)
    chosen true e = let pair = one_pair at class a c e in same ∙ (λ i. read (old (pair.0 i) (pair.1 i)))
    chosen false e = refl

marked_phase : (own : Bool) (note : Option Note) → note_phase (marked_note own note) ≡ note_phase note
marked_phase own None = refl
marked_phase own (Some note) = refl

marked_owner : (own : Bool) (note : Option Note) → note_owner (marked_note own note) ≡ note_owner note
marked_owner own None = refl
marked_owner own (Some note) = refl

-- a subobject of which nothing is noted is not noted as its own view
unnoted_view : (note : Option Note) → note_phase note ≡ None → false ≡ is_own_view note
unnoted_view None e = refl
unnoted_view (Some note) e = cc

pub begun_notes : (old new : Shadow) (at class owner owner_class : ℕ) → (notes_of old).phase at class ≡ None → IsPut (note_of old) (note_of new) at class (record { owner = owner; owner_class = owner_class; phase = Raw; is_own_view = false }) → ((a c : ℕ) → noted_view new a c ≡ noted_view old a c) → notes_of new ≡ noted_raw (notes_of old) at class owner owner_class
unfolding notes_of
begun_notes old new at class owner owner_class none put views =
    let note : Note = record { owner = owner; owner_class = owner_class; phase = Raw; is_own_view = false } in
    notes_alike (notes_of new) (noted_raw (notes_of old) at class owner owner_class)
    (changed note_phase (note_of old) (note_of new) at class note put)
    (changed note_owner (note_of old) (note_of new) at class note put)
    (λ a c i. kept_view a c (unchanged is_own_view (note_of old) (note_of new) at class note put (unnoted_view (note_of old at class) none) a c i) (views a c i))

pub phased_notes : (old new : Shadow) (at class : ℕ) (before : Note) (phase : Phase) → note_of old at class ≡ Some before → IsPut (note_of old) (note_of new) at class (record before { phase = phase }) → ((a c : ℕ) → noted_view new a c ≡ noted_view old a c) → notes_of new ≡ phased (notes_of old) at class phase
unfolding notes_of
phased_notes old new at class before phase there put views =
    let note : Note = record before { phase = phase } in
    notes_alike (notes_of new) (phased (notes_of old) at class phase)
    (changed note_phase (note_of old) (note_of new) at class note put)
    (unchanged note_owner (note_of old) (note_of new) at class note put (ap note_owner (sym there)))
    (λ a c i. kept_view a c (unchanged is_own_view (note_of old) (note_of new) at class note put (ap is_own_view (sym there)) a c i) (views a c i))

-- the view that is noted stays
views_alike : (old new : Shadow) → new.last ≡ old.last → new.views ≡ old.views → (a c : ℕ) → noted_view new a c ≡ noted_view old a c
views_alike old new last views a c i = view_beside (last i) a c (view_found (views i) a c)

pub begun-mapped : (old new : Shadow) (at class owner owner_class : ℕ) → (notes_of old).phase at class ≡ None → IsNoteChanged (λ before. Some (record { owner = owner; owner_class = owner_class; phase = Raw; is_own_view = false })) old.notes new.notes at class →
    new.last ≡ old.last → new.views ≡ old.views → notes_of new ≡ noted_raw (notes_of old) at class owner owner_class
unfolding notes_of
begun-mapped old new at class owner owner_class none put last views = begun_notes old new at class owner owner_class none (record { each = put }) (views_alike old new last views)

pub phased-mapped : (old new : Shadow) (at class : ℕ) (phase : Phase) → ((notes_of old).phase at class ≡ None → ⊥) → IsNoteChanged (phased_note phase) old.notes new.notes at class →
    new.last ≡ old.last → new.views ≡ old.views → notes_of new ≡ phased (notes_of old) at class phase
unfolding notes_of
phased-mapped old new at class phase some changed_to last views = by_note (note_of old at class) refl
  where
    by_note : (note : Option Note) → note_of old at class ≡ note → notes_of new ≡ phased (notes_of old) at class phase
    by_note None there = absurd (some (ap note_phase there))
    by_note (Some before) there =
        phased_notes old new at class before phase there
        (record { each = λ a c. changed_to a c ∙ ap (λ (n : Option Note). if nat_eq at a && nat_eq class c then phased_note phase n else note_of old a c) there })
        (views_alike old new last views)

-- the notes after one was marked_note, where other complete objects keep their view
pub viewed_notes : (old new : Shadow) (owner owner_class at class : ℕ) (own : Bool) →
    ((a c : ℕ) → note_of new a c ≡ (if nat_eq owner a && nat_eq owner_class c then marked_note own (note_of old owner owner_class) else note_of old a c)) →
    ((a c : ℕ) → (nat_eq owner a && nat_eq owner_class c) ≡ false → noted_view new a c ≡ noted_view old a c) →
    shadow_view new owner owner_class ≡ Some (at, class) → notes_of new ≡ viewed (notes_of old) owner owner_class at class
unfolding notes_of
viewed_notes old new owner owner_class at class own notes others there =
    notes_alike (notes_of new) (viewed (notes_of old) owner owner_class at class) (kept note_phase marked_phase) (kept note_owner marked_owner)
    (λ a c. by_test a c (nat_eq owner a && nat_eq owner_class c) refl)
  where
    kept : {Y : Type 0} (read : Option Note → Y) → ((own : Bool) (note : Option Note) → read (marked_note own note) ≡ read note) → (a c : ℕ) → read (note_of new a c) ≡ read (note_of old a c)
    kept {Y} read same a c = ap read (notes a c) ∙ chosen (nat_eq owner a && nat_eq owner_class c) refl
      where
        chosen : (b : Bool) → (nat_eq owner a && nat_eq owner_class c) ≡ b → read (if b then marked_note own (note_of old owner owner_class) else note_of old a c) ≡ read (note_of old a c)
        chosen true e = let pair = one_pair owner owner_class a c e in same own (note_of old owner owner_class) ∙ (λ i. read (note_of old (pair.0 i) (pair.1 i)))
        chosen false e = refl

    by_test : (a c : ℕ) (b : Bool) → (nat_eq owner a && nat_eq owner_class c) ≡ b → shadow_view new a c ≡ (if b then Some (at, class) else shadow_view old a c)
    by_test a c true e = let pair = one_pair owner owner_class a c e in (λ i. shadow_view new (sym pair.0 i) (sym pair.1 i)) ∙ there
    by_test a c false e =
        let note : note_of new a c ≡ note_of old a c = rw e at (notes a c) in
        let view : noted_view new a c ≡ noted_view old a c = others a c e in
        rw (note, view) refl

not_own : (note : Option Note) → is_own_view (marked_note false note) ≡ false
not_own None = refl
not_own (Some note) = refl

-- the view that was set last, of another complete object, is put into the map
pub last-put : (old new : Shadow) (last : Viewed) (owner : Place) → old.last ≡ Some last → new.notes ≡ old.notes → IsPut (mapped_view old) (mapped_view new) last.owner.at last.owner.class last.view → IsLastKept old new owner
last-put old new last owner there notes put = record { notes = notes; views = λ a c e. put.each a c ∙ ap (λ l. view_beside l a c (mapped_view old a c)) (sym there) }

-- it is that of the complete object
pub last-same : (old : Shadow) (last : Viewed) (owner : Place) → old.last ≡ Some last → (nat_eq last.owner.at owner.at && nat_eq last.owner.class owner.class) ≡ true → IsLastKept old old owner
last-same old last owner there same = record { notes = refl; views = λ a c e. sym (ap (λ l. view_beside l a c (mapped_view old a c)) there ∙ other a c e) }
  where
    other : (a c : ℕ) → (nat_eq owner.at a && nat_eq owner.class c) ≡ false → view_beside (Some last) a c (mapped_view old a c) ≡ mapped_view old a c
    other a c e =
        let pair = one_pair last.owner.at last.owner.class owner.at owner.class same in
        let fails : (nat_eq last.owner.at a && nat_eq last.owner.class c) ≡ false = (λ i. nat_eq (pair.0 i) a && nat_eq (pair.1 i) c) ∙ e in
        rw fails refl

-- none was set
pub last-none : (old : Shadow) (owner : Place) → old.last ≡ None → IsLastKept old old owner
last-none old owner there = record { notes = refl; views = λ a c e. sym (ap (λ l. view_beside l a c (mapped_view old a c)) there) }

-- a view that is noted beside
pub viewed-beside : (old kept mid new : Shadow) (owner owner_class at class : ℕ) → IsLastKept old kept (shadow_place owner owner_class) → mid.notes ≡ kept.notes → mid.views ≡ kept.views →
    mid.last ≡ Some (record { owner = shadow_place owner owner_class; view = shadow_place at class }) → IsMarked mid new owner owner_class false →
    notes_of new ≡ viewed (notes_of old) owner owner_class at class
viewed-beside old kept mid new owner owner_class at class is mapped views last mark = viewed_notes old new owner owner_class at class false notes others there
  where
    before : (a c : ℕ) → note_of mid a c ≡ note_of old a c
    before a c = rw (mapped, is.notes) refl

    notes : (a c : ℕ) → note_of new a c ≡ (if nat_eq owner a && nat_eq owner_class c then marked_note false (note_of old owner owner_class) else note_of old a c)
    notes a c = mark.notes a c ∙ (λ i. if nat_eq owner a && nat_eq owner_class c then marked_note false (before owner owner_class i) else before a c i)

    view : (a c : ℕ) → noted_view new a c ≡ (if nat_eq owner a && nat_eq owner_class c then Some (shadow_place at class) else mapped_view kept a c)
    view a c = rw (mark.views, mark.last, views, last) refl

    others : (a c : ℕ) → (nat_eq owner a && nat_eq owner_class c) ≡ false → noted_view new a c ≡ noted_view old a c
    others a c e = let other : noted_view new a c ≡ mapped_view kept a c = rw e at (view a c) in other ∙ is.views a c e

    there : shadow_view new owner owner_class ≡ Some (at, class)
    there =
        let e : (nat_eq owner owner && nat_eq owner_class owner_class) ≡ true = same_pair owner owner_class in
        let own : note_of new owner owner_class ≡ marked_note false (note_of old owner owner_class) = rw e at (notes owner owner_class) in
        let set : noted_view new owner owner_class ≡ Some (shadow_place at class) = rw e at (view owner owner_class) in
        ap (λ (n : Option Note). kept_view owner owner_class (is_own_view n) (noted_view new owner owner_class)) own
        ∙ (ap (λ (b : Bool). kept_view owner owner_class b (noted_view new owner owner_class)) (not_own (note_of old owner owner_class))
        ∙ ap (λ (v : Option Place). kept_view owner owner_class false v) set)

-- a view of itself
pub viewed-own : (old new : Shadow) (owner owner_class at class : ℕ) → at ≡ owner → class ≡ owner_class → is_some (note_of old at class) ≡ true → IsMarked old new at class true → notes_of new ≡ viewed (notes_of old) owner owner_class at class
viewed-own old new owner owner_class at class e f some mark =
    viewed_notes old new at class at class true mark.notes (λ a c other. views_alike old new mark.last mark.views a c) there ∙ (λ i. viewed (notes_of old) (e i) (f i) at class)
  where
    own : (note : Option Note) → is_some note ≡ true → is_own_view (marked_note true note) ≡ true
    own None none = cc
    own (Some note) found = refl

    there : shadow_view new at class ≡ Some (at, class)
    there =
        let same : (nat_eq at at && nat_eq class class) ≡ true = same_pair at class in
        let note : note_of new at class ≡ marked_note true (note_of old at class) = rw same at (mark.notes at class) in
        ap (λ (n : Option Note). kept_view at class (is_own_view n) (noted_view new at class)) note
        ∙ ap (λ (b : Bool). kept_view at class b (noted_view new at class)) (own (note_of old at class) some)
