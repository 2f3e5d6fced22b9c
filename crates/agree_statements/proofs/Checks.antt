-- Single checks decide what a rule asks of a value that stands in a register.
use Rattle.std.proofs.Common.{◌≡◌, ℕ, ◌∷◌, ◌<◌, Bool, true, false, Option, Some, None, List, refl, ap, sym, ◌∙◌, subst, arith}
use Rattle.std.specs.Prelude.{not}
use Rattle.cxx_hierarchy.specs.declared.records.ClassId.{ClassId}
use Rattle.cxx_hierarchy.specs.declared.records.ValueType.TheVariants.{Number as NumberType, Pointer as PointerType}
use Rattle.cxx_hierarchy.specs.declared.records.Scalar.{Scalar}
use Rattle.cxx_subobject.specs.Locations.{ObjectPart}
use Rattle.cxx_program.specs.declared.statement.Arithmetic.{Arithmetic as Operator}
use Rattle.path_plan.specs.Phases.{is_ready}
use Rattle.path_model.specs.Values.{Value, Unset, Number, Null, Pointer, Objects}
use Rattle.path_model.specs.Rules.{is_null, is_unset, names, is_unready, is_outside, overflows}
use Rattle.path_model.specs.TypedStates.{IsPartMade, IsValue}
use Rattle.byte_code.specs.declared.op.Check.TheVariants.{NotNull, Open, Ready, InView, SetRegister, Fits}
use Rattle.byte_code.specs.declared.op.Op.{Op}
use Rattle.byte_code.specs.declared.op.Op.TheVariants.{Does}
use Rattle.byte_code.specs.declared.op.Check.{Check}
use Rattle.byte_code.specs.declared.op.Finish.TheVariants.{Check as CheckOp}
use Rattle.byte_machine.specs.declared.turn.MachineTurn.TheVariants.{Refused}
use Rattle.byte_shadow.specs.Shadows.{ready_at}
use Rattle.byte_code.specs.Numbers.{word_of, number_of_word}
use Rattle.byte_machine.specs.Running.{Fixed, Running, Stop, Answers, register, moved}
use Rattle.byte_machine.specs.Checks.{same_address_and_class, exact, is_number_of}
use Rattle.byte_machine.specs.Leads.{OpsLead}
use Rattle.byte_machine.proofs.Leads.{IsIdle}
use Rattle.byte_machine.proofs.CheckLeads.{leads_idle, leads_not_null, leads_not_null_unset, leads_null, leads_open, leads_closed, leads_ready, leads_not_ready, leads_is_view, leads_in_view, leads_outside_view, leads_set, leads_unset, leads_fits, leads_overflow, leads_fits_left_unset, leads_fits_right_unset, HasView, TellsOf}
use Rattle.code_ops.specs.Setups.{width_of}
use Rattle.code_statements.specs.Rights.{arith_kind}
use Rattle.agree_parts.specs.Heaps.{Heap}
use Rattle.agree_parts.specs.Addresses.{address}
use Rattle.agree_parts.specs.Placed.{AreObjectsLaid}
use Rattle.agree_parts.proofs.Inside.{part_positive}
use Rattle.agree_relation.specs.Worlds.{World, IsProgramWorld, world_classes, places_in, fixed}
use Rattle.agree_relation.specs.Words.{heap_of, register_word}
use Rattle.agree_relation.specs.Columns.{ColumnsStand}
use Rattle.agree_relation.proofs.Objects.{objects_laid}
use Rattle.agree_relation.proofs.Reached.{part_open, part_closed}
use Rattle.agree_relation.proofs.Moved.{moved_by_none}
use Rattle.agree_relation.proofs.Phases.{part_ready}
use Rattle.agree_statements.specs.Tests.{Decides}
use Rattle.agree_statements.proofs.Numbers.{IsWide, width_some, width_narrow, word_fits}

narrow : (t : Scalar) → (width_of t).bytes < 9
narrow t = let small = width_narrow t in omega arith

-- an unset or null word
pub idle_unset : (word : Option ℕ) → word ≡ None → IsIdle word
idle_unset word e = subst IsIdle (sym e) tt

pub idle_null : (word : Option ℕ) → word ≡ Some 0 → IsIdle word
idle_null word e = subst IsIdle (sym e) refl

-- a check that passes where the rule is not broken and refuses where it is
pub decides_by : (fx : Fixed) (b : Running) (P : Running → Stop → Type 0) (number : ℕ) (test : Check) (broken : Bool) → (broken ≡ false → (ops : List Op) → OpsLead fx ops b P → OpsLead fx (Does (CheckOp test) ∷ ops) b P) → (broken ≡ true → (ops : List Op) → P b (Answers (Refused number b.line)) → OpsLead fx (Does (CheckOp test) ∷ ops) b P) →
    Decides fx b P number test broken
decides_by fx b P number test false fine bad = record { leads = λ ops goes refuses. fine refl ops (goes refl) }
decides_by fx b P number test true fine bad = record { leads = λ ops goes refuses. bad refl ops (refuses refl) }

not_false : (x : Bool) → not x ≡ false → x ≡ true
not_false true e = refl
not_false false e = sym e

not_true : (x : Bool) → not x ≡ true → x ≡ false
not_true true e = sym e
not_true false e = refl

-- what the notes say of the view of a part's complete object, and whether the part is in it
pub record TellsView (w : World) (s : Objects) (b : Running) (p : ObjectPart) (c : ClassId) : Type 0 where
  pub owner : ℕ × ℕ
  pub view : ℕ × ℕ
  pub has : HasView b (address (world_classes w) (places_in w) (heap_of s.classes b.memory.regions) p) c.0 owner view
  pub itself : same_address_and_class view (address (world_classes w) (places_in w) (heap_of s.classes b.memory.regions) p) c.0 ≡ true → is_outside (world_classes w) s p ≡ false
  pub tells : same_address_and_class view (address (world_classes w) (places_in w) (heap_of s.classes b.memory.regions) p) c.0 ≡ false → TellsOf (fixed w) b view (address (world_classes w) (places_in w) (heap_of s.classes b.memory.regions) p) c.0 (not (is_outside (world_classes w) s p))

module _ (w : World) (s : Objects) (b : Running) (P : Running → Stop → Type 0) (world : IsProgramWorld w) (columns : ColumnsStand w s b.memory b.objects b.heap b.notes) where
  abbrev pub heap : Heap
  heap = heap_of s.classes b.memory.regions

  pub laid : AreObjectsLaid (world_classes w) w.setup.rows heap
  laid = objects_laid w s b.memory.regions b.objects b.heap world columns.objects

  pub part_some : (p : ObjectPart) (c : ClassId) → IsPartMade (world_classes w) s.classes p c → address (world_classes w) (places_in w) heap p ≡ 0 → ⊥
  part_some p c made e = let some = part_positive (world_classes w) w.setup.rows heap p c laid made in omega arith

  -- 1
  pub decides_null : (r : ℕ) (v : Value) (c : ClassId) → IsValue (world_classes w) s.classes v (PointerType c) → register b r ≡ register_word w heap v → Decides (fixed w) b P 1 (NotNull r) (is_null v)
  decides_null r Unset c typed e = record { leads = λ ops goes refuses. leads_not_null_unset (fixed w) r e (goes refl) }
  decides_null r (Number z) c typed e = absurd typed
  decides_null r Null c typed e = record { leads = λ ops goes refuses. leads_null (fixed w) r e (refuses refl) }
  decides_null r (Pointer p) c typed e = record { leads = λ ops goes refuses. leads_not_null (fixed w) r (address (world_classes w) (places_in w) heap p) e (part_some p c typed) (goes refl) }

  -- 2
  pub decides_open : (r : ℕ) (v : Value) (c : ClassId) → IsValue (world_classes w) s.classes v (PointerType c) → register b r ≡ register_word w heap v → Decides (fixed w) b P 2 (Open r) (names (λ p. s.is_closed p.object) v)
  decides_open r Unset c typed e = record { leads = λ ops goes refuses. leads_idle (fixed w) (Open r) r refl (idle_unset (register b r) e) (goes refl) }
  decides_open r (Number z) c typed e = absurd typed
  decides_open r Null c typed e = record { leads = λ ops goes refuses. leads_idle (fixed w) (Open r) r refl (idle_null (register b r) e) (goes refl) }
  decides_open r (Pointer p) c typed e = decides_by (fixed w) b P 2 (Open r) (s.is_closed p.object)
      (λ is ops goes. leads_open (fixed w) r (address (world_classes w) (places_in w) heap p) e (part_open w s b.memory.regions b.objects b.heap p c world columns.objects typed is) goes)
      (λ is ops refuses. leads_closed (fixed w) r (address (world_classes w) (places_in w) heap p) (address (world_classes w) (places_in w) heap p) e (part_some p c typed) (part_closed w s b.memory.regions b.objects b.heap p c world columns.objects typed is) refuses)

  -- 5
  pub decides_set : (r : ℕ) (v : Value) → register b r ≡ register_word w heap v → Decides (fixed w) b P 5 (SetRegister r) (is_unset v)
  decides_set r Unset e = record { leads = λ ops goes refuses. leads_unset (fixed w) r e (refuses refl) }
  decides_set r (Number z) e = record { leads = λ ops goes refuses. leads_set (fixed w) r (word_of z) e (goes refl) }
  decides_set r Null e = record { leads = λ ops goes refuses. leads_set (fixed w) r 0 e (goes refl) }
  decides_set r (Pointer p) e = record { leads = λ ops goes refuses. leads_set (fixed w) r (address (world_classes w) (places_in w) heap p) e (goes refl) }

  -- 3, of a part that lies so far behind the address of a register
  pub decides_ready : (r offset at : ℕ) (p : ObjectPart) (c : ClassId) → IsPartMade (world_classes w) s.classes p c → register b r ≡ Some at → (at ≡ 0 → ⊥) → moved at offset ≡ address (world_classes w) (places_in w) heap p → Decides (fixed w) b P 3 (Ready r offset c.0) (is_unready s p)
  decides_ready r offset at p c made e some there =
      let test : ready_at b.notes (moved at offset) c.0 ≡ is_ready (s.phases.phase p) = ap (λ a. ready_at b.notes a c.0) there ∙ part_ready w heap s.phases b.notes p c columns.phases made in
      decides_by (fixed w) b P 3 (Ready r offset c.0) (is_unready s p)
      (λ is ops goes. leads_ready (fixed w) r offset c.0 at e (test ∙ not_false (is_ready (s.phases.phase p)) is) goes)
      (λ is ops refuses. leads_not_ready (fixed w) r offset c.0 at e some (test ∙ not_true (is_ready (s.phases.phase p)) is) refuses)

  pub decides_guard : (r : ℕ) (v : Value) (c : ClassId) → IsValue (world_classes w) s.classes v (PointerType c) → register b r ≡ register_word w heap v → Decides (fixed w) b P 3 (Ready r 0 c.0) (names (is_unready s) v)
  decides_guard r Unset c typed e = record { leads = λ ops goes refuses. leads_idle (fixed w) (Ready r 0 c.0) r refl (idle_unset (register b r) e) (goes refl) }
  decides_guard r (Number z) c typed e = absurd typed
  decides_guard r Null c typed e = record { leads = λ ops goes refuses. leads_idle (fixed w) (Ready r 0 c.0) r refl (idle_null (register b r) e) (goes refl) }
  decides_guard r (Pointer p) c typed e = decides_ready r 0 (address (world_classes w) (places_in w) heap p) p c typed e (part_some p c typed) (moved_by_none (world_classes w) w.setup.rows heap p c laid typed)

  -- 4, likewise
  pub decides_inside : (r offset at : ℕ) (p : ObjectPart) (c : ClassId) → TellsView w s b p c → register b r ≡ Some at → (at ≡ 0 → ⊥) → moved at offset ≡ address (world_classes w) (places_in w) heap p → Decides (fixed w) b P 4 (InView r offset c.0) (is_outside (world_classes w) s p)
  decides_inside r offset at p c seen e some there = by_pair (same_address_and_class seen.view (address (world_classes w) (places_in w) heap p) c.0) refl
    where
      has : HasView b (moved at offset) c.0 seen.owner seen.view
      has = subst (λ a. HasView b a c.0 seen.owner seen.view) (sym there) seen.has

      by_pair : (x : Bool) → same_address_and_class seen.view (address (world_classes w) (places_in w) heap p) c.0 ≡ x → Decides (fixed w) b P 4 (InView r offset c.0) (is_outside (world_classes w) s p)
      by_pair true same = decides_by (fixed w) b P 4 (InView r offset c.0) (is_outside (world_classes w) s p)
          (λ is ops goes. leads_is_view (fixed w) r offset c.0 at seen.owner seen.view e has (ap (λ a. same_address_and_class seen.view a c.0) there ∙ same) goes)
          (λ is ops refuses. absurd (let f : false ≡ true = sym (seen.itself same) ∙ is in cc))
      by_pair false other =
          let apart = ap (λ a. same_address_and_class seen.view a c.0) there ∙ other in
          let told = subst (λ a. TellsOf (fixed w) b seen.view a c.0 (not (is_outside (world_classes w) s p))) (sym there) (seen.tells other) in
          decides_by (fixed w) b P 4 (InView r offset c.0) (is_outside (world_classes w) s p)
          (λ is ops goes. leads_in_view (fixed w) r offset c.0 at seen.owner seen.view e has apart (subst (λ x. TellsOf (fixed w) b seen.view (moved at offset) c.0 (not x)) is told) goes)
          (λ is ops refuses. leads_outside_view (fixed w) r offset c.0 at seen.owner seen.view e some has apart (subst (λ x. TellsOf (fixed w) b seen.view (moved at offset) c.0 (not x)) is told) refuses)

  pub decides_view : (r : ℕ) (v : Value) (c : ClassId) → IsValue (world_classes w) s.classes v (PointerType c) → register b r ≡ register_word w heap v → ((p : ObjectPart) → v ≡ Pointer p → TellsView w s b p c) → Decides (fixed w) b P 4 (InView r 0 c.0) (names (is_outside (world_classes w) s) v)
  decides_view r Unset c typed e seen = record { leads = λ ops goes refuses. leads_idle (fixed w) (InView r 0 c.0) r refl (idle_unset (register b r) e) (goes refl) }
  decides_view r (Number z) c typed e seen = absurd typed
  decides_view r Null c typed e seen = record { leads = λ ops goes refuses. leads_idle (fixed w) (InView r 0 c.0) r refl (idle_null (register b r) e) (goes refl) }
  decides_view r (Pointer p) c typed e seen = decides_inside r 0 (address (world_classes w) (places_in w) heap p) p c (seen p refl) e (part_some p c typed) (moved_by_none (world_classes w) w.setup.rows heap p c laid typed)

  -- 12
  pub decides_fits : (op : Operator) (t a b' : Scalar) (left right : ℕ) (x y : Value) → IsWide t → IsValue (world_classes w) s.classes x (NumberType a) → IsValue (world_classes w) s.classes y (NumberType b') → register b left ≡ register_word w heap x → register b right ≡ register_word w heap y →
      Decides (fixed w) b P 12 (Fits (arith_kind op) (width_of t) left right) (overflows op t x y)
  decides_fits op t a b' left right Unset y wide typed typed' e e' = record { leads = λ ops goes refuses. leads_fits_left_unset (fixed w) (arith_kind op) (width_of t) left right (width_some t) (narrow t) e (goes refl) }
  decides_fits op t a b' left right Null y wide typed typed' e e' = absurd typed
  decides_fits op t a b' left right (Pointer p) y wide typed typed' e e' = absurd typed
  decides_fits op t a b' left right (Number z) Unset wide typed typed' e e' = record { leads = λ ops goes refuses. leads_fits_right_unset (fixed w) (arith_kind op) (width_of t) left right (word_of z) (width_some t) (narrow t) e e' (goes refl) }
  decides_fits op t a b' left right (Number z) Null wide typed typed' e e' = absurd typed'
  decides_fits op t a b' left right (Number z) (Pointer p) wide typed typed' e e' = absurd typed'
  decides_fits op t a b' left right (Number z) (Number z') wide typed typed' e e' =
      let test : is_number_of (width_of t) (exact (arith_kind op) (number_of_word (width_of t) (word_of z)) (number_of_word (width_of t) (word_of z'))) ≡ not (overflows op t (Number z) (Number z')) = word_fits op t z z' wide in
      decides_by (fixed w) b P 12 (Fits (arith_kind op) (width_of t) left right) (overflows op t (Number z) (Number z'))
      (λ is ops goes. leads_fits (fixed w) (arith_kind op) (width_of t) left right (word_of z) (word_of z') (width_some t) (narrow t) e e' (test ∙ ap not is) goes)
      (λ is ops refuses. leads_overflow (fixed w) (arith_kind op) (width_of t) left right (word_of z) (word_of z') (width_some t) (narrow t) e e' (test ∙ ap not is) refuses)
