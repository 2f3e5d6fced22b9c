-- The notes after the ops of an event, and what the registers of its frame say of them.
use Rattle.std.proofs.Common.{◌≡◌, ℕ, Bool, true, Option, Some, List, [], ◌∷◌, refl, ap, subst, sym, ◌∙◌}
use Rattle.cxx_hierarchy.specs.declared.records.ClassId.{ClassId}
use Rattle.cxx_subobject.specs.declared.Subobject.{Subobject}
use Rattle.cxx_subobject.specs.Locations.{ObjectPart}
use Rattle.path_plan.specs.Phases.{Phase, Raw, InBases, ReadyBuilding, Complete, ReadyEnding, EndingBases, Ended, Phases, is_running}
use Rattle.path_plan.specs.declared.form.Form.{Form}
use Rattle.path_plan.specs.declared.form.Form.TheVariants.{InFull, AsBase}
use Rattle.path_model.specs.Values.{Objects}
use Rattle.byte_code.specs.declared.op.Phase.{Phase as BytePhase}
use Rattle.byte_code.specs.declared.op.Phase.TheVariants.{Raw as ByteRaw}
use Rattle.byte_shadow.specs.Shadows.{Notes, noted_raw, phased, viewed, put_at}
use Rattle.byte_shadow.proofs.Changed.{put_at-same, put_at-other}
use Rattle.byte_machine.specs.declared.frames.Handed.{Handed}
use Rattle.byte_machine.specs.Running.{Running}
use Rattle.byte_machine.specs.Plans.{frame_owner}
use Rattle.code_blocks.specs.Blocks.{whose_of}
use Rattle.agree_parts.specs.Heaps.{Heap}
use Rattle.agree_relation.specs.Worlds.{World}
use Rattle.agree_relation.specs.Words.{heap_of}
use Rattle.agree_relation.specs.Columns.{noted_phase, shadow_pair, PhasesStand, ColumnsStand}
use Rattle.agree_relation.specs.Goings.{StandsOnStack}
use Rattle.agree_relation.specs.Frames.{PlaceNumbers, IsHandedBy}
use Rattle.agree_events.specs.Events.{IsAfter}
use Rattle.agree_events.proofs.Own.{whole_in, whole_same}
use Rattle.agree_events.proofs.Noted.{Made, at_part, IsPhased, IsViewed}
use Rattle.agree_events.proofs.Steps.{tells_nothing}

-- a part in another phase
pub phased_at : (w : World) (g : Heap) (s : Phases) (notes : Notes) (p : ObjectPart) (c d : ClassId) (v : Phase) (b : BytePhase) → Made w g p c → Made w g (whole_in p d) d → PhasesStand w g s notes → (s.phase p ≡ Raw → ⊥) → noted_phase v ≡ Some b → IsPhased w g p c d v notes (phased notes (at_part w g p) c.0 b)
phased_at w g s notes p c d v b made whole old some e = record {
  here = put_at-same notes.phase (at_part w g p) c.0 (Some b) ∙ sym e;
  there = λ a n differ. put_at-other notes.phase (at_part w g p) c.0 (Some b) a n (λ both. differ both.0 both.1);
  owner = old.owner p c d made whole some;
  owners = λ a n differ. refl;
}

-- a part that begins: it is noted as raw, and then in another phase
pub begun_at : (w : World) (g : Heap) (notes : Notes) (p : ObjectPart) (c d : ClassId) (v : Phase) (b : BytePhase) (owner : ℕ × ℕ) → noted_phase v ≡ Some b → owner ≡ shadow_pair w g (whole_in p d) d → IsPhased w g p c d v notes (phased (noted_raw notes (at_part w g p) c.0 owner.0 owner.1) (at_part w g p) c.0 b)
begun_at w g notes p c d v b owner e is = record {
  here = put_at-same (put_at notes.phase (at_part w g p) c.0 (Some ByteRaw)) (at_part w g p) c.0 (Some b) ∙ sym e;
  there = λ a n differ. put_at-other (put_at notes.phase (at_part w g p) c.0 (Some ByteRaw)) (at_part w g p) c.0 (Some b) a n (λ both. differ both.0 both.1) ∙ put_at-other notes.phase (at_part w g p) c.0 (Some ByteRaw) a n (λ both. differ both.0 both.1);
  owner = put_at-same notes.owner (at_part w g p) c.0 (Some owner) ∙ ap (λ (o : ℕ × ℕ). Some o) is;
  owners = λ a n differ. put_at-other notes.owner (at_part w g p) c.0 (Some owner) a n (λ both. differ both.0 both.1);
}

-- another view of its complete object
pub viewed_at : (w : World) (g : Heap) (notes : Notes) (p : ObjectPart) (d : ClassId) (owner at : ℕ × ℕ) → owner ≡ shadow_pair w g (whole_in p d) d → IsViewed w g p d notes (viewed notes owner.0 owner.1 at.0 at.1)
viewed_at w g notes p d owner at is = subst (λ (o : ℕ × ℕ). IsViewed w g p d notes (viewed notes o.0 o.1 at.0 at.1)) (sym is) (record { there = λ a n differ. put_at-other notes.view (at_part w g (whole_in p d)) d.0 (Some at) a n (λ both. differ both.0 both.1) })

pub viewed_here : (w : World) (g : Heap) (notes : Notes) (p : ObjectPart) (d : ClassId) (owner at : ℕ × ℕ) → owner ≡ shadow_pair w g (whole_in p d) d → (viewed notes owner.0 owner.1 at.0 at.1).view (at_part w g (whole_in p d)) d.0 ≡ Some at
viewed_here w g notes p d owner at is = subst (λ (o : ℕ × ℕ). (viewed notes o.0 o.1 at.0 at.1).view (at_part w g (whole_in p d)) d.0 ≡ Some at) (sym is) (put_at-same notes.view (at_part w g (whole_in p d)) d.0 (Some at))

-- the complete object by the registers
pub owner_is : (w : World) (g : Heap) (form : Form) (c d : ClassId) (p : ObjectPart) (stack : List Subobject) (handed : Handed) → StandsOnStack form c d p stack → IsHandedBy w g form c d p stack handed → frame_owner handed (whose_of form) (at_part w g p) c.0 ≡ shadow_pair w g (whole_in p d) d
owner_is w g InFull c d p stack handed stands is = λ i. ((ap (at_part w g) (sym (whole_same c d p stack stands))) i, (ap (λ (e : ClassId). e.0) (sym stands.2)) i)
owner_is w g AsBase c d p [] handed stands is = absurd is
owner_is w g AsBase c d p (y ∷ rest) handed stands is = λ i. (is.owner i, is.owner_class i)

-- what is noted of a part that runs
pub running_noted : (v : Phase) → is_running v ≡ true → (b : BytePhase) × (noted_phase v ≡ Some b)
running_noted Raw e = absurd (cc)
running_noted InBases e = (_, refl)
running_noted ReadyBuilding e = (_, refl)
running_noted Complete e = (_, refl)
running_noted ReadyEnding e = (_, refl)
running_noted EndingBases e = (_, refl)
running_noted Ended e = (_, refl)

pub owner_noted : (w : World) (g : Heap) (s : Phases) (notes : Notes) (p : ObjectPart) (d : ClassId) (pair : ℕ × ℕ) → Made w g (whole_in p d) d → PhasesStand w g s notes → pair ≡ shadow_pair w g (whole_in p d) d → is_running (s.phase (whole_in p d)) ≡ true → (b : BytePhase) × (notes.phase pair.0 pair.1 ≡ Some b)
owner_noted w g s notes p d pair whole old is on =
    let noted = running_noted (s.phase (whole_in p d)) on in
    (noted.0, ap (λ (o : ℕ × ℕ). notes.phase o.0 o.1) is ∙ (old.phase (whole_in p d) d whole ∙ noted.1))

-- the phase that an event finds is noted
pub found : (w : World) (g : Heap) (s : Phases) (notes : Notes) (p : ObjectPart) (c : ClassId) (v : Phase) → Made w g p c → PhasesStand w g s notes → s.phase p ≡ v → notes.phase (at_part w g p) c.0 ≡ noted_phase v
found w g s notes p c v made old e = old.phase p c made ∙ ap noted_phase e

-- nothing is told, and no object moves
pub quietly : (w : World) (at : PlaceNumbers) (s' : Objects) (r : Running) (bit' : ℕ → Option Bool) (notes : Notes) → ColumnsStand w s' (record r.memory { bit = bit' }) r.objects r.heap notes → IsAfter w at s' r [] (record r.memory { bit = bit' }) notes r.outs
quietly w at s' r bit' notes columns = record { columns = columns; starts = refl; tells = tells_nothing w at (heap_of s'.classes r.memory.regions) r.outs }
