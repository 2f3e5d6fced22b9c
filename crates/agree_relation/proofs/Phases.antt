-- What the notes say of the phase of a part.
use Rattle.std.proofs.Common.{◌≡◌, ℕ, Bool, true, false, Option, Some, None, List, [], inl, inr, refl, ap, sym, subst, ◌∙◌}
use Rattle.std.specs.Prelude.{◌⊎◌, not, slice_get}
use Rattle.cxx_hierarchy.specs.declared.records.ClassId.{ClassId}
use Rattle.cxx_subobject.specs.Locations.{ObjectPart}
use Rattle.path_plan.specs.Phases.{Phases, Phase, Raw, InBases, ReadyBuilding, Complete, ReadyEnding, EndingBases, Ended, is_ready, is_complete}
use Rattle.path_plan.specs.Places.{part}
use Rattle.path_model.specs.Values.{Objects}
use Rattle.path_model.specs.Rules.{is_whole_complete, is_incomplete}
use Rattle.path_model.specs.TypedStates.{IsPartMade}
use Rattle.cxx_subobject.specs.Subobjects.{whole_of}
use Rattle.byte_memory.specs.declared.memory.Region.{Region}
use Rattle.byte_code.specs.declared.op.Phase.{Phase as BytePhase}
use Rattle.byte_code.specs.declared.op.Phase.TheVariants.{InBases as ByteInBases, ReadyBuilding as ByteReadyBuilding, Complete as ByteComplete, ReadyEnding as ByteReadyEnding, EndingBases as ByteEndingBases, Ended as ByteEnded}
use Rattle.byte_shadow.specs.Shadows.{Notes, ready_at, is_ready_in}
use Rattle.byte_machine.specs.Checks.{is_complete_phase}
use Rattle.agree_parts.specs.Heaps.{Heap, object_start}
use Rattle.agree_parts.proofs.Made.{whole_made}
use Rattle.agree_parts.specs.Addresses.{address}
use Rattle.agree_relation.specs.Worlds.{World, world_classes, places_in}
use Rattle.agree_relation.specs.Words.{heap_of}
use Rattle.agree_relation.specs.Columns.{noted_phase, PhasesStand}
use Rattle.agree_relation.proofs.Objects.{whole_address}

-- phases and what is noted of them

noted_ready : (x : Phase) → is_ready_in (noted_phase x) ≡ is_ready x
noted_ready Raw = refl
noted_ready InBases = refl
noted_ready ReadyBuilding = refl
noted_ready Complete = refl
noted_ready ReadyEnding = refl
noted_ready EndingBases = refl
noted_ready Ended = refl

-- what is ready was begun
pub ready_begun : (x : Phase) → is_ready x ≡ true → x ≡ Raw → ⊥
ready_begun x ready raw = let f : false ≡ true = sym (ap is_ready raw) ∙ ready in cc

noted_complete : (x : Phase) → is_complete x ≡ true → noted_phase x ≡ Some ByteComplete
noted_complete Raw e = absurd (cc)
noted_complete InBases e = absurd (cc)
noted_complete ReadyBuilding e = absurd (cc)
noted_complete Complete e = refl
noted_complete ReadyEnding e = absurd (cc)
noted_complete EndingBases e = absurd (cc)
noted_complete Ended e = absurd (cc)

-- nothing is noted, or a phase in which a part is not complete
abbrev pub NotesIncomplete : Option BytePhase → Type 0
NotesIncomplete noted = (noted ≡ None) ⊎ ((x : BytePhase) × (noted ≡ Some x) × (is_complete_phase x ≡ false))

noted_incomplete : (x : Phase) → is_complete x ≡ false → NotesIncomplete (noted_phase x)
noted_incomplete Raw e = inl refl
noted_incomplete InBases e = inr (ByteInBases, refl, refl)
noted_incomplete ReadyBuilding e = inr (ByteReadyBuilding, refl, refl)
noted_incomplete Complete e = absurd (cc)
noted_incomplete ReadyEnding e = inr (ByteReadyEnding, refl, refl)
noted_incomplete EndingBases e = inr (ByteEndingBases, refl, refl)
noted_incomplete Ended e = inr (ByteEnded, refl, refl)

-- parts

pub part_ready : (w : World) (g : Heap) (s : Phases) (notes : Notes) (p : ObjectPart) (c : ClassId) → PhasesStand w g s notes → IsPartMade (world_classes w) g.classes p c → ready_at notes (address (world_classes w) (places_in w) g p) c.0 ≡ is_ready (s.phase p)
part_ready w g s notes p c noted made = ap is_ready_in (noted.phase p c made) ∙ noted_ready (s.phase p)

pub part_complete : (w : World) (g : Heap) (s : Phases) (notes : Notes) (p : ObjectPart) (c : ClassId) → PhasesStand w g s notes → IsPartMade (world_classes w) g.classes p c → is_complete (s.phase p) ≡ true →
    notes.phase (address (world_classes w) (places_in w) g p) c.0 ≡ Some ByteComplete
part_complete w g s notes p c noted made full = noted.phase p c made ∙ noted_complete (s.phase p) full

pub part_incomplete : (w : World) (g : Heap) (s : Phases) (notes : Notes) (p : ObjectPart) (c : ClassId) → PhasesStand w g s notes → IsPartMade (world_classes w) g.classes p c → is_complete (s.phase p) ≡ false →
    NotesIncomplete (notes.phase (address (world_classes w) (places_in w) g p) c.0)
part_incomplete w g s notes p c noted made less = rw (noted.phase p c made) (noted_incomplete (s.phase p) less)

-- the whole of a heap object, at the address where the object starts

pub object_complete : (w : World) (s : Objects) (regions : List Region) (notes : Notes) (p : ObjectPart) (e : ClassId) → PhasesStand w (heap_of s.classes regions) s.phases notes → slice_get s.classes p.object ≡ Some e → is_incomplete s p ≡ false →
    notes.phase (object_start (heap_of s.classes regions) p.object) e.0 ≡ Some ByteComplete
object_complete w s regions notes p e noted class less =
    let g = heap_of s.classes regions in
    ap (λ (at : ℕ). notes.phase at e.0) (sym (whole_address w g p.object e class))
    ∙ part_complete w g s.phases notes (part p.object [] (whole_of e)) e noted (whole_made (world_classes w) g p.object e class) (not_less (is_complete (s.phases.phase (part p.object [] (whole_of e)))) (ap (λ (x : Option ClassId). not (is_whole_complete s p.object x)) (sym class) ∙ less))
  where
    not_less : (b : Bool) → not b ≡ false → b ≡ true
    not_less true e = refl
    not_less false e = absurd (cc)

pub object_incomplete : (w : World) (s : Objects) (regions : List Region) (notes : Notes) (p : ObjectPart) (e : ClassId) → PhasesStand w (heap_of s.classes regions) s.phases notes → slice_get s.classes p.object ≡ Some e → is_incomplete s p ≡ true →
    NotesIncomplete (notes.phase (object_start (heap_of s.classes regions) p.object) e.0)
object_incomplete w s regions notes p e noted class less =
    let g = heap_of s.classes regions in
    subst (λ (at : ℕ). NotesIncomplete (notes.phase at e.0)) (whole_address w g p.object e class)
    (part_incomplete w g s.phases notes (part p.object [] (whole_of e)) e noted (whole_made (world_classes w) g p.object e class) (is_less (is_complete (s.phases.phase (part p.object [] (whole_of e)))) (ap (λ (x : Option ClassId). not (is_whole_complete s p.object x)) (sym class) ∙ less)))
  where
    is_less : (b : Bool) → not b ≡ true → b ≡ false
    is_less true e = absurd (cc)
    is_less false e = refl
