-- A check decides whether a pointer is the base of what begins so many bytes before it.
use Rattle.std.specs.Prelude.{is_none}
use Rattle.std.proofs.Common.{◌≡◌, ℕ, zero, suc, ◌+◌, ◌<◌, ◌^◌, false, Option, Some, None, List, refl, ap, sym, ◌∙◌, subst, arith}
use Rattle.foundation.proofs.Members.{Has}
use Rattle.cxx_hierarchy.specs.declared.records.ClassId.{ClassId}
use Rattle.cxx_hierarchy.specs.declared.records.ValueType.TheVariants.{Pointer as PointerType}
use Rattle.cxx_subobject.specs.declared.Subobject.{Subobject}
use Rattle.cxx_subobject.specs.declared.Root.TheVariants.{Whole}
use Rattle.cxx_subobject.specs.Subobjects.{IsSubobject, class_of}
use Rattle.cxx_subobject.specs.Locations.{ObjectPart}
use Rattle.path_plan.specs.Places.{part}
use Rattle.path_plan.specs.Phases.{Phase, Raw, InBases, ReadyBuilding, Complete, ReadyEnding, EndingBases, Ended}
use Rattle.path_rules.specs.declared.Undefined.{Undefined}
use Rattle.path_rules.specs.declared.Undefined.TheVariants.{NotReady, BadDowncast}
use Rattle.path_rules.specs.Rules.{undefined_no}
use Rattle.path_model.specs.Values.{Value, Unset, Number, Null, Pointer, Objects, inner_part}
use Rattle.path_model.specs.Uses.{StatementUse, Guards, Downs, derived_of}
use Rattle.path_model.specs.Rules.{breaks, names, is_unready}
use Rattle.path_model.specs.TypedStates.{IsPartMade, IsValue}
use Rattle.byte_code.specs.declared.op.Check.TheVariants.{Derived}
use Rattle.byte_code.specs.declared.op.Phase.{Phase as BytePhase}
use Rattle.byte_code.specs.declared.op.Phase.TheVariants.{InBases as ByteInBases, ReadyBuilding as ByteReadyBuilding, Complete as ByteComplete, ReadyEnding as ByteReadyEnding, EndingBases as ByteEndingBases, Ended as ByteEnded}
use Rattle.byte_machine.specs.Running.{Running, Stop, register, moved}
use Rattle.byte_machine.proofs.CheckLeads.{leads_idle, leads_derived, leads_not_derived}
use Rattle.code_ops.specs.Uses.{checks_of}
use Rattle.code_ops.specs.declared.uses.Used.TheVariants.{Downs as DownsWord}
use Rattle.code_statements.specs.Rights.{back_by}
use Rattle.agree_parts.specs.Addresses.{address}
use Rattle.agree_parts.specs.Heaps.{Heap}
use Rattle.agree_parts.specs.Placed.{AreObjectsLaid}
use Rattle.agree_parts.proofs.Inside.{part_positive, part_limit}
use Rattle.agree_parts.proofs.Made.{inner_is_made}
use Rattle.agree_parts.proofs.Sums.{to_inner}
use Rattle.agree_relation.specs.Worlds.{World, IsProgramWorld, world_classes, places_in, fixed}
use Rattle.agree_relation.specs.Words.{heap_of, register_word}
use Rattle.agree_relation.specs.Columns.{ColumnsStand, noted_phase}
use Rattle.agree_relation.proofs.Derived.{derived_is_base, none_noted}
use Rattle.agree_relation.proofs.Objects.{objects_laid}
use Rattle.agree_relation.proofs.Owners.{same_class}
use Rattle.agree_statements.specs.Statements.{AreSeen}
use Rattle.agree_statements.specs.Tests.{Decides, Decide, NoneBefore, IsTested}
use Rattle.agree_statements.proofs.Checks.{idle_unset, idle_null}
use Rattle.agree_statements.proofs.Tests.{unbroken}

-- so many bytes back lies what the address is so far behind
pub steps_back : (at by start : ℕ) → at ≡ start + by → at < 2 ^ 41 → moved at (back_by by) ≡ start
steps_back at zero start e low = omega arith
steps_back at (suc by) start e low = omega arith

-- what wraps does not lie below 2 ^ 41
step_fits : (at by start : ℕ) → moved at (back_by by) ≡ start → start + by < 2 ^ 41 → at < 2 ^ 41 → start + by ≡ at
step_fits at zero start e low fits = omega arith
step_fits at (suc by) start e low fits = omega arith

-- what was begun is noted
begun_noted : (x : Phase) → (x ≡ Raw → ⊥) → (y : BytePhase) × (noted_phase x ≡ Some y)
begun_noted Raw begun = absurd (begun refl)
begun_noted InBases begun = (ByteInBases, refl)
begun_noted ReadyBuilding begun = (ByteReadyBuilding, refl)
begun_noted Complete begun = (ByteComplete, refl)
begun_noted ReadyEnding begun = (ByteReadyEnding, refl)
begun_noted EndingBases begun = (ByteEndingBases, refl)
begun_noted Ended begun = (ByteEnded, refl)

module _ (w : World) (s : Objects) (b : Running) (P : Running → Stop → Type 0) (world : IsProgramWorld w) (columns : ColumnsStand w s b.memory b.objects b.heap b.notes) (target c : ClassId) (i : Subobject) (valid : IsSubobject (world_classes w) target i) (root : i.root ≡ Whole) (of_class : class_of i ≡ Some c) where
  abbrev g : Heap
  g = heap_of s.classes b.memory.regions

  abbrev place : ℕ
  place = (places_in w).place target i

  laid : AreObjectsLaid (world_classes w) w.setup.rows g
  laid = objects_laid w s b.memory.regions b.objects b.heap world columns.objects

  -- the address before a part at which the target's object would begin
  abbrev back : ObjectPart → ℕ
  back p = moved (address (world_classes w) (places_in w) g p) (back_by place)

  -- it is that of the subobject that the rule finds
  pub back_is : (p : ObjectPart) (t : Subobject) → IsPartMade (world_classes w) s.classes p c → derived_of (world_classes w) s target i p ≡ Some t → back p ≡ address (world_classes w) (places_in w) g (part p.object p.owner t)
  back_is p t made found =
      let a = derived_is_base w s b.memory.regions target i p c laid made valid root of_class t found in
      steps_back (address (world_classes w) (places_in w) g p) place (address (world_classes w) (places_in w) g (part p.object p.owner t)) a.behind (part_limit (world_classes w) w.setup.rows g p c laid made)

  begun_there : (p : ObjectPart) (t : Subobject) → IsPartMade (world_classes w) s.classes p c → derived_of (world_classes w) s target i p ≡ Some t → (s.phases.phase (part p.object p.owner t) ≡ Raw → ⊥) → (y : BytePhase) × (b.notes.phase (back p) target.0 ≡ Some y)
  begun_there p t made found begun =
      let a = derived_is_base w s b.memory.regions target i p c laid made valid root of_class t found in
      let y = begun_noted (s.phases.phase (part p.object p.owner t)) begun in
      (y.0, ap (λ (n : ℕ). b.notes.phase n target.0) (back_is p t made found) ∙ columns.phases.phase (part p.object p.owner t) target a.made ∙ y.1)

  -- where the rule finds none, nothing is noted there, also where the address wraps
  none_there : (p : ObjectPart) → IsPartMade (world_classes w) s.classes p c → derived_of (world_classes w) s target i p ≡ None → b.notes.phase (back p) target.0 ≡ None
  none_there p made none = by_note (b.notes.phase (back p) target.0) refl
    where
      by_note : (o : Option BytePhase) → b.notes.phase (back p) target.0 ≡ o → o ≡ None
      by_note None e = refl
      by_note (Some x) e =
          let h = world_classes w in
          let found = columns.phases.only (back p) target.0 x e in
          let q = found.0 in
          let class : target ≡ found.1 = same_class target found.1 found.2.class_is in
          let there : IsPartMade h s.classes q target = subst (λ (z : ClassId). IsPartMade h s.classes q z) (sym class) found.2.made in
          let sum = to_inner h w.setup.rows g q target i there valid root in
          let low = part_limit h w.setup.rows g (inner_part q i) c laid (inner_is_made h g q target c i there valid of_class) in
          let fits = step_fits (address h (places_in w) g p) place (address h (places_in w) g q) found.2.at_is (subst (λ (n : ℕ). n < 2 ^ 41) sum low) (part_limit h w.setup.rows g p c laid made) in
          let before : back p + place ≡ address h (places_in w) g p = ap (λ (n : ℕ). n + place) found.2.at_is ∙ fits in
          sym e ∙ none_noted w s b.memory.regions target i p c laid made valid root of_class b.notes (back p) columns.phases before none

  -- 7
  pub decides_derived : (r : ℕ) (v : Value) → IsValue (world_classes w) s.classes v (PointerType c) → register b r ≡ register_word w g v
      → ((p : ObjectPart) (t : Subobject) → v ≡ Pointer p → derived_of (world_classes w) s target i p ≡ Some t → s.phases.phase (part p.object p.owner t) ≡ Raw → ⊥)
      → Decides (fixed w) b P 7 (Derived r (back_by place) target.0) (names (λ p. is_none (derived_of (world_classes w) s target i p)) v)
  decides_derived r Unset typed e begun = record { leads = λ ops goes refuses. leads_idle (fixed w) (Derived r (back_by place) target.0) r refl (idle_unset (register b r) e) (goes refl) }
  decides_derived r (Number z) typed e begun = absurd typed
  decides_derived r Null typed e begun = record { leads = λ ops goes refuses. leads_idle (fixed w) (Derived r (back_by place) target.0) r refl (idle_null (register b r) e) (goes refl) }
  decides_derived r (Pointer p) made e begun = by_found (derived_of (world_classes w) s target i p) refl
    where
      by_found : (o : Option Subobject) → derived_of (world_classes w) s target i p ≡ o → Decides (fixed w) b P 7 (Derived r (back_by place) target.0) (is_none o)
      by_found None none = record { leads = λ ops goes refuses. leads_not_derived (fixed w) r (back_by place) target.0 (address (world_classes w) (places_in w) g p) e (λ q. let some = part_positive (world_classes w) w.setup.rows g p c laid made in omega arith) (none_there p made none) (refuses refl) }
      by_found (Some t) found = let y = begun_there p t made found (begun p t refl found) in record { leads = λ ops goes refuses. leads_derived (fixed w) r (back_by place) target.0 (address (world_classes w) (places_in w) g p) y.0 e y.1 (goes refl) }

  -- of a pointer that is guarded, what it is a base of has begun
  pub downed : (all : List StatementUse) (r : ℕ) (v : Value) → AreSeen (world_classes w) s → Has all (Guards v) → IsValue (world_classes w) s.classes v (PointerType c) → register b r ≡ register_word w g v → IsTested (fixed w) b P (world_classes w) s all (Downs v target i) (DownsWord r (back_by place) target.0)
  downed all r v seen guards typed e = record { each = by_rule }
    where
      by_rule : (rule : Undefined) → NoneBefore (world_classes w) s all rule → Decide (fixed w) b P (undefined_no rule) (checks_of rule (DownsWord r (back_by place) target.0)) (breaks (world_classes w) s rule (Downs v target i))
      by_rule BadDowncast before = decides_derived r v typed e (λ p t is found.
          let ready = unbroken (fixed w) b P (world_classes w) s all (Guards v) NotReady (before NotReady (omega arith)) guards in
          seen.around p c target i t (subst (λ (x : Value). IsValue (world_classes w) s.classes x (PointerType c)) is typed) (subst (λ (x : Value). names (is_unready s) x ≡ false) is ready) valid root found)
      by_rule rule before = refl
