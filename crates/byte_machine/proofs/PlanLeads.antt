-- One lemma for each op of constructors and destructors, and each outcome.
use Rattle.std.proofs.Common.{◌≡◌, ℕ, suc, ◌*◌, true, false, Option, Some, None, List, ◌∷◌, subst, sym, refl, ap, ◌∙◌}
use Rattle.std.specs.Prelude.{ℤ, find, ◌&&◌}
use Rattle.byte_memory.specs.Store.{store_of, close_of}
use Rattle.byte_memory.specs.Regions.{fault_at, starts}
use Rattle.byte_memory.specs.declared.memory.Region.{Region}
use Rattle.byte_code.specs.declared.op.Whose.{Whose}
use Rattle.byte_code.specs.declared.op.BaseHand.{BaseHand}
use Rattle.byte_code.specs.declared.op.Opening.{Opening}
use Rattle.byte_code.specs.declared.op.Setting.{Setting}
use Rattle.byte_code.specs.declared.op.PointSource.TheVariants.{Directory, Vtt}
use Rattle.byte_code.specs.declared.op.Phase.{Phase}
use Rattle.byte_code.specs.declared.op.Op.{Op}
use Rattle.byte_code.specs.declared.op.Op.TheVariants.{Open, SetTable, Begin, SetPhase, SetView, ViewBack}
use Rattle.byte_code.specs.Images.{word_at}
use Rattle.byte_shadow.specs.Shadows.{noted_raw, phased, viewed}
use Rattle.byte_machine.specs.declared.frames.Handed.{Handed}
use Rattle.byte_machine.specs.Heap.{object_at}
use Rattle.byte_machine.specs.Frames.{nothing_handed}
use Rattle.byte_machine.specs.Running.{Fixed, Running, Stop, moved, register}
use Rattle.byte_machine.specs.Calls.{opening}
use Rattle.byte_machine.specs.Plans.{closed_if, directory_point, hand_by, handed_to, is_ended, is_heap_object, frame_owner, part_frame, part_opened, part_opened_by, place_through, source_word, sub_vtt, vtt_of, with_notes, word_offset}
use Rattle.byte_machine.specs.Leads.{LeadsBy, LeadsIn, OpsLead}

-- Open of no part, and of the first of some
pub leads_open_none : (f : Fixed) {ops : List Op} {s : Running} {P : Running → Stop → Type 0} (how : Opening) (this : ℕ) → register s 0 ≡ Some this → how.count ≡ 0 → OpsLead f ops s P → OpsLead f (Open how ∷ ops) s P
leads_open_none f {ops} {s} {P} how this e count h = record { run = rw e (subst (λ n. LeadsBy f (part_opened f s how n this) s (λ new. LeadsIn f ops new P) P) (sym count) h.run) }

pub leads_open_part : (f : Fixed) {ops : List Op} {s : Running} {P : Running → Stop → Type 0} (how : Opening) (this again : ℕ) (handed : Handed) → register s 0 ≡ Some this → how.count ≡ suc again → handed_to f s.top.handed this how.hand ≡ Some handed → OpsLead f ops (opening (part_frame f how (moved this how.place) again handed) s) P → OpsLead f (Open how ∷ ops) s P
leads_open_part f {ops} {s} {P} how this again handed e count hands h =
    let by_hand : LeadsBy f (part_opened f s how (suc again) this) s (λ new. LeadsIn f ops new P) P = subst (λ o. LeadsBy f (part_opened_by f s how this again o) s (λ new. LeadsIn f ops new P) P) (sym hands) h.run in
    record { run = rw e (subst (λ n. LeadsBy f (part_opened f s how n this) s (λ new. LeadsIn f ops new P) P) (sym count) by_hand) }

-- what is handed to the frame of a member, and to that of a base
pub handed_member : (f : Fixed) (handed : Handed) (this : ℕ) (hand : Option BaseHand) → hand ≡ None → handed_to f handed this hand ≡ Some nothing_handed
handed_member f handed this hand e = rw e refl

pub handed_base : (f : Fixed) (handed : Handed) (this vtt : ℕ) (hand : Option BaseHand) (base : BaseHand) → hand ≡ Some base → sub_vtt base.vtt (vtt_of f handed base.owner base.class) ≡ Some vtt →
    handed_to f handed this hand ≡ Some (record { owner = (frame_owner handed base.owner this base.class).0; owner_class = (frame_owner handed base.owner this base.class).1; vtt = vtt; outer = this; outer_class = base.class })
handed_base f handed this vtt hand base e block = ap (λ o. handed_to f handed this o) e ∙ ap (λ o. hand_by handed this base o) block

pub sub_vtt_none : (words vtt : Option ℕ) → words ≡ None → sub_vtt words vtt ≡ Some 0
sub_vtt_none words vtt e = rw e refl

pub sub_vtt_some : (words vtt : Option ℕ) (number block : ℕ) → words ≡ Some number → vtt ≡ Some block → sub_vtt words vtt ≡ Some (moved block (8 * number))
sub_vtt_some words vtt number block e there = rw (e, there) refl

-- SetTable, wherever the address point comes from, and wherever it goes
pub leads_set_table : (f : Fixed) {ops : List Op} {s : Running} {P : Running → Stop → Type 0} (how : Setting) (this point at : ℕ) → register s 0 ≡ Some this → source_word f s.top.handed how.source ≡ Some point → place_through f s.top.handed (moved this how.place) how.through ≡ Some at → fault_at s.memory.regions at 8 ≡ None → OpsLead f ops (record s { memory = store_of s.memory at 8 (moved point how.distance) }) P → OpsLead f (SetTable how ∷ ops) s P
leads_set_table f {ops} {s} {P} how this point at e source place there h = record { run = rw (e, source, place, there) h.run }

-- the two sources, and the two kinds of place
pub source_directory : (f : Fixed) (handed : Handed) (class point : ℕ) → directory_point f class ≡ Some point → source_word f handed (Directory class) ≡ Some point
source_directory f handed class point e = e

pub source_vtt : (f : Fixed) (handed : Handed) (owner : Whose) (class number vtt point : ℕ) → vtt_of f handed owner class ≡ Some vtt → word_at f.image (moved vtt (8 * number)) ≡ Some point → source_word f handed (Vtt owner class number) ≡ Some point
source_vtt f handed owner class number vtt point e there = rw e there

pub place_itself : (f : Fixed) (handed : Handed) (at : ℕ) (through : Option ℤ) → through ≡ None → place_through f handed at through ≡ Some at
place_itself f handed at through e = rw e refl

pub place_virtual : (f : Fixed) (handed : Handed) (at first by : ℕ) (through : Option ℤ) (word : ℤ) → through ≡ Some word → word_at f.image handed.vtt ≡ Some first → word_at f.image (moved first (word_offset word)) ≡ Some by → place_through f handed at through ≡ Some (moved at by)
place_virtual f handed at first by through word e there is = rw (e, there, is) refl

-- Begin, of a subobject that is not noted
pub leads_begin : (f : Fixed) {ops : List Op} {s : Running} {P : Running → Stop → Type 0} (class : ℕ) (owner : Whose) (this : ℕ) → register s 0 ≡ Some this → s.notes.phase this class ≡ None → OpsLead f ops (with_notes s (noted_raw s.notes this class (frame_owner s.top.handed owner this class).0 (frame_owner s.top.handed owner this class).1)) P → OpsLead f (Begin class owner ∷ ops) s P
leads_begin f {ops} {s} {P} class owner this e fresh h = record { run = rw (e, fresh) h.run }

-- SetPhase, where nothing is closed, and where the region of a heap object is
pub leads_set_phase : (f : Fixed) {ops : List Op} {s : Running} {P : Running → Stop → Type 0} (class : ℕ) (phase before : Phase) (this : ℕ) → register s 0 ≡ Some this → s.notes.phase this class ≡ Some before → (is_ended phase && is_heap_object this class (object_at s.objects this)) ≡ false → OpsLead f ops (with_notes s (phased s.notes this class phase)) P → OpsLead f (SetPhase class phase ∷ ops) s P
leads_set_phase f {ops} {s} {P} class phase before this e there stays h = record { run = rw (e, there) (subst (λ b. LeadsBy f (closed_if b (with_notes s (phased s.notes this class phase)) this) s (λ new. LeadsIn f ops new P) P) (sym stays) h.run) }

pub leads_set_phase_closes : (f : Fixed) {ops : List Op} {s : Running} {P : Running → Stop → Type 0} (class : ℕ) (phase before : Phase) (this : ℕ) (region : Region) → register s 0 ≡ Some this → s.notes.phase this class ≡ Some before → (is_ended phase && is_heap_object this class (object_at s.objects this)) ≡ true → find (starts this) s.memory.regions ≡ Some region → region.is_open ≡ true → OpsLead f ops (record (with_notes s (phased s.notes this class phase)) { memory = close_of s.memory this region.size }) P → OpsLead f (SetPhase class phase ∷ ops) s P
leads_set_phase_closes f {ops} {s} {P} class phase before this region e there ends found is_open h = record { run = rw (e, there) (subst (λ b. LeadsBy f (closed_if b (with_notes s (phased s.notes this class phase)) this) s (λ new. LeadsIn f ops new P) P) (sym ends) (rw (found, is_open) h.run)) }

-- SetView, and ViewBack
pub leads_set_view : (f : Fixed) {ops : List Op} {s : Running} {P : Running → Stop → Type 0} (class : ℕ) (owner : Whose) (this : ℕ) (phase : Phase) → register s 0 ≡ Some this → s.notes.phase (frame_owner s.top.handed owner this class).0 (frame_owner s.top.handed owner this class).1 ≡ Some phase → OpsLead f ops (with_notes s (viewed s.notes (frame_owner s.top.handed owner this class).0 (frame_owner s.top.handed owner this class).1 this class)) P → OpsLead f (SetView class owner ∷ ops) s P
leads_set_view f {ops} {s} {P} class owner this phase e there h = record { run = rw (e, there) h.run }

pub leads_view_back : (f : Fixed) {ops : List Op} {s : Running} {P : Running → Stop → Type 0} (phase : Phase) → s.notes.phase s.top.handed.owner s.top.handed.owner_class ≡ Some phase → OpsLead f ops (with_notes s (viewed s.notes s.top.handed.owner s.top.handed.owner_class s.top.handed.outer s.top.handed.outer_class)) P → OpsLead f (ViewBack ∷ ops) s P
leads_view_back f {ops} {s} {P} phase there h = record { run = rw there h.run }
