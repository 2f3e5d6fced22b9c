-- A return gives its result, moved to the class of the declaration that was found, to the frame below; or rules 3 and 4 refuse it.
use Rattle.std.proofs.Common.{◌≡◌, ⊎_elim, ℕ, zero, suc, ◌<◌, ◌^◌, Bool, true, false, Option, Some, None, List, [], ◌∷◌, length, refl, ap, sym, subst, ◌∙◌, arith, if◌then◌else◌}
use Rattle.agree_calls.proofs.Adjusted.{plain_moved, plain_vbase, shared_moved, shared_some}
use Rattle.agree_calls.specs.Shown.{ShowsViews, NamesOpen}
use Rattle.abi_primary.specs.Kinds.{IsDynamic}
use Rattle.agree_dispatch.specs.Results.{IsMoved}
use Rattle.code_ops.specs.Operands.{pointed}
use Rattle.code_statements.specs.Statements.{class_number}
use Rattle.agree_parts.proofs.Inside.{part_limit}
use Rattle.agree_parts.specs.Addresses.{address}
use Rattle.agree_parts.specs.Heaps.{Heap}
use Rattle.agree_parts.specs.Placed.{AreObjectsLaid}
use Rattle.agree_relation.proofs.Phases.{part_ready}
use Rattle.agree_relation.specs.Columns.{ColumnsStand}
use Rattle.agree_relation.specs.Frames.{constant_added, vbase_added}
use Rattle.agree_relation.specs.Words.{heap_of, register_word}
use Rattle.agree_relation.specs.Worlds.{IsProgramWorld, World, world_classes, fixed, places_in}
use Rattle.agree_statements.proofs.Checks.{TellsView, laid, part_some}
use Rattle.agree_statements.proofs.Useds.{TellsViews}
use Rattle.byte_code.proofs.Words.{word_of-fits}
use Rattle.byte_code.specs.Numbers.{word_of}
use Rattle.byte_code.specs.declared.op.Op.TheVariants.{Return as ReturnOp}
use Rattle.byte_machine.proofs.CheckLeads.{TellsOf}
use Rattle.byte_machine.proofs.ReturnLeads.{IsAsked, IsFine, Leaves, classless, direct, idle, idle_result, in_view, is_view, leads_return, leads_return_not_ready, leads_return_outside, moved_result, same, taken}
use Rattle.byte_machine.specs.Calls.{resumed_frame, left_calls, moved_by_word, result_moved}
use Rattle.byte_machine.specs.Checks.{same_address_and_class}
use Rattle.byte_machine.specs.Frames.{MachineFrame}
use Rattle.byte_machine.specs.Leads.{OpsLead}
use Rattle.byte_machine.specs.Running.{Answers, Returned, Running, Stop, moved, register}
use Rattle.byte_machine.specs.declared.turn.MachineTurn.TheVariants.{Refused}
use Rattle.byte_shadow.specs.Shadows.{ready_at}
use Rattle.cxx_hierarchy.specs.Classes.{Classes}
use Rattle.cxx_hierarchy.specs.VirtualBases.{HasVirtualBase}
use Rattle.cxx_hierarchy.specs.declared.records.ClassId.{ClassId}
use Rattle.cxx_hierarchy.specs.declared.records.ValueType.{ValueType}
use Rattle.cxx_hierarchy.specs.declared.records.ValueType.TheVariants.{Number as NumberType, Pointer as PointerType}
use Rattle.cxx_program.specs.Typed.{IsProperBase}
use Rattle.cxx_program.specs.declared.operand.Conversion.TheVariants.{Base as ToBase}
use Rattle.cxx_subobject.proofs.PathLemmas.{smaller}
use Rattle.cxx_subobject.specs.Locations.{ObjectPart}
use Rattle.cxx_subobject.specs.Subobjects.{IsSubobject, Leads as PathLeads, shared as in_shared, subobject, whole as in_whole, whole_of}
use Rattle.cxx_subobject.specs.declared.Root.TheVariants.{Shared, Whole}
use Rattle.cxx_subobject.specs.declared.Subobject.{Subobject}
use Rattle.foundation.proofs.Truth.{is_false}
use Rattle.path_model.specs.Order.{first_broken, sorted}
use Rattle.path_model.specs.Rules.{is_outside, is_unready, names}
use Rattle.path_model.specs.TypedStates.{IsPartMade, IsValue}
use Rattle.path_model.specs.Uses.{Guards, convert, is_shared, uses_of_view}
use Rattle.path_model.specs.Values.{Null, Number, Objects, Pointer, Unset, Value, inner_part, to_base}
use Rattle.path_plan.specs.Phases.{is_ready}
use Rattle.path_rules.specs.Rules.{undefined_no}
use Rattle.path_rules.specs.declared.Undefined.{Undefined}
use Rattle.path_rules.specs.declared.Undefined.TheVariants.{NotReady, OutsideView}
use Rattle.std.specs.Prelude.{slice_set, not, ◌&&◌}
use Rattle.abi_primary.proofs.KindLemmas.{base_dynamic}

-- the first rule that a conversion to a base breaks
pub convert_first : (h : Classes) (s : Objects) (v : Value) (i : Subobject) → first_broken h s (sorted (convert v (ToBase i))) ≡ (if names (is_unready s) v then Some NotReady else (if is_shared i && names (is_outside h s) v then Some OutsideView else None))
unfolding sorted
convert_first h s v i = by_root (is_shared i)
  where
    by_root : (b : Bool) → first_broken h s (sorted (Guards v ∷ uses_of_view b v)) ≡ (if names (is_unready s) v then Some NotReady else (if b && names (is_outside h s) v then Some OutsideView else None))
    by_root true = refl
    by_root false = refl

-- the frame below with the result in the register that takes it
abbrev pub taking : Option ℕ → Option ℕ → MachineFrame → MachineFrame
taking None word f = f
taking (Some to) word f = record f { registers = slice_set f.registers to word }

takes_given : (to word : Option ℕ) (under : MachineFrame) → ((r : ℕ) → to ≡ Some r → r < length under.registers) → resumed_frame to word under ≡ Some (taking to word under)
takes_given None word under room = refl
takes_given (Some r) word under room = taken word (Some r) r under refl (room r refl)

ready_from : (x : Bool) → not x ≡ false → x ≡ true
ready_from true e = refl
ready_from false e = sym e

raw_from : (x : Bool) → not x ≡ true → x ≡ false
raw_from true e = sym e
raw_from false e = refl

module _ (w : World) (s : Objects) (b : Running) (P : Running → Stop → Type 0) (world : IsProgramWorld w) (columns : ColumnsStand w s b.memory b.objects b.heap b.notes) (shows : ShowsViews w s b.memory) (tells : TellsViews w s b) where
  abbrev g : Heap
  g = heap_of s.classes b.memory.regions

  abbrev is_laid : AreObjectsLaid (world_classes w) w.setup.rows (heap_of s.classes b.memory.regions)
  is_laid = laid w s b P world columns

  -- the frame on top returns the value of a register to a frame below that has room for it
  pub record IsLeaving (r : ℕ) (v : Value) (under : MachineFrame) (rest : List MachineFrame) : Type 0 where
    pub opened : b.opened ≡ []
    pub last : b.top.again ≡ 0
    pub word_is : register b r ≡ register_word w (heap_of s.classes b.memory.regions) v
    pub below : b.below ≡ under ∷ rest
    pub room : (to : ℕ) → b.top.kept.to ≡ Some to → to < length under.registers

  -- the frame below goes on with the value, and what was left to do follows
  abbrev pub IsGiven : Value → MachineFrame → List MachineFrame → Type 0
  IsGiven v under rest = P (record b { top = taking b.top.kept.to (register_word w (heap_of s.classes b.memory.regions) v) under; below = rest; calls = left_calls b }) (Returned b.top.kept.finish)

  leads_left : (r : ℕ) (class : Option ℕ) (v given_v : Value) (under : MachineFrame) (rest : List MachineFrame) → IsLeaving r v under rest → IsFine (fixed w) b (register_word w (heap_of s.classes b.memory.regions) v) class
      → result_moved (fixed w) b (register_word w (heap_of s.classes b.memory.regions) v) ≡ Some (register_word w (heap_of s.classes b.memory.regions) given_v) → IsGiven given_v under rest → OpsLead (fixed w) (ReturnOp (Some r) class ∷ []) b P
  leads_left r class v given_v under rest leaving fine moved_is h =
      leads_return (fixed w) (Some r) class (register_word w g v) (register_word w g given_v) under (taking b.top.kept.to (register_word w g given_v) under) rest
      (record { opened = leaving.opened; last = leaving.last; operand_is = leaving.word_is }) fine
      (record { moved_is = moved_is; below_is = leaving.below; taker_is = takes_given b.top.kept.to (register_word w g given_v) under leaving.room }) h

  -- a result of the class that was found
  unmoved : (n : ℕ) → n < 2 ^ 64 → b.top.kept.vbase ≡ 0 → b.top.kept.add ≡ 0 → result_moved (fixed w) b (Some n) ≡ Some (Some n)
  unmoved zero low vbase add = idle_result (fixed w) b (Some 0) refl
  unmoved (suc a) low vbase add =
      let still : moved (suc a) b.top.kept.add ≡ suc a = omega (arith, add, low) in
      moved_result (fixed w) b (suc a) (suc a) (λ e. absurd (omega (arith, e))) (ap (moved_by_word w.image b.memory (suc a)) vbase) ∙ ap (λ n. Some (Some n)) still

  same_word : (v : Value) (t : ValueType ClassId) → IsValue (world_classes w) s.classes v t → b.top.kept.vbase ≡ 0 → b.top.kept.add ≡ 0 → result_moved (fixed w) b (register_word w (heap_of s.classes b.memory.regions) v) ≡ Some (register_word w (heap_of s.classes b.memory.regions) v)
  same_word Unset t typed vbase add = refl
  same_word Null t typed vbase add = unmoved 0 (omega arith) vbase add
  same_word (Number z) t typed vbase add = unmoved (word_of z) (word_of-fits z) vbase add
  same_word (Pointer p) (NumberType t) typed vbase add = absurd typed
  same_word (Pointer p) (PointerType c) typed vbase add = let low = part_limit (world_classes w) w.setup.rows g p c is_laid typed in unmoved (address (world_classes w) (places_in w) g p) (omega (arith, low)) vbase add

  pub leads_same : (r : ℕ) (t : ValueType ClassId) (v : Value) (under : MachineFrame) (rest : List MachineFrame) → IsValue (world_classes w) s.classes v t → IsLeaving r v under rest → b.top.kept.class ≡ class_number (pointed t) → b.top.kept.vbase ≡ 0 → b.top.kept.add ≡ 0
      → IsGiven v under rest → OpsLead (fixed w) (ReturnOp (Some r) (class_number (pointed t)) ∷ []) b P
  leads_same r (NumberType t) v under rest typed leaving class vbase add h = leads_left r None v v under rest leaving (classless refl) (same_word v (NumberType t) typed vbase add) h
  leads_same r (PointerType c) v under rest typed leaving class vbase add h = leads_left r (Some c.0) v v under rest leaving (same c.0 class refl) (same_word v (PointerType c) typed vbase add) h

  -- what is kept of a conversion to a base
  pub record KeepsBase (c d : ClassId) (i : Subobject) : Type 0 where
    pub class : b.top.kept.class ≡ Some d.0
    pub vbase : b.top.kept.vbase ≡ vbase_added w (Some c) (ToBase i)
    pub add : b.top.kept.add ≡ constant_added w (Some c) (ToBase i)

  base_moved : (c d : ClassId) (i : Subobject) (p q : ObjectPart) → KeepsBase c d i → IsPartMade (world_classes w) s.classes p c
      → IsMoved w.image b.memory (address (world_classes w) (places_in w) (heap_of s.classes b.memory.regions) p) (vbase_added w (Some c) (ToBase i)) (constant_added w (Some c) (ToBase i)) (address (world_classes w) (places_in w) (heap_of s.classes b.memory.regions) q)
      → result_moved (fixed w) b (register_word w (heap_of s.classes b.memory.regions) (Pointer p)) ≡ Some (register_word w (heap_of s.classes b.memory.regions) (Pointer q))
  base_moved c d i p q keeps made m =
      moved_result (fixed w) b (address (world_classes w) (places_in w) g p) m.base (part_some w s b P world columns p c made) (ap (moved_by_word w.image b.memory (address (world_classes w) (places_in w) g p)) keeps.vbase ∙ m.by_word)
      ∙ ap (λ n. Some (Some (moved m.base n))) keeps.add ∙ ap (λ n. Some (Some n)) m.by_constant

  -- the view of a part that is ready says whether rule 4 has anything against it
  fine_seen : (p : ObjectPart) (c : ClassId) → IsPartMade (world_classes w) s.classes p c → s.is_closed p.object ≡ false → IsDynamic (world_classes w) c → is_unready s p ≡ false → is_outside (world_classes w) s p ≡ false → ready_at b.notes (address (world_classes w) (places_in w) (heap_of s.classes b.memory.regions) p) c.0 ≡ true
      → IsFine (fixed w) b (register_word w (heap_of s.classes b.memory.regions) (Pointer p)) (Some c.0)
  fine_seen p c made unclosed dynamic ready within test = by_pair (same_address_and_class seen.view at c.0) refl
    where
      at : ℕ
      at = address (world_classes w) (places_in w) (heap_of s.classes b.memory.regions) p

      seen : TellsView w s b p c
      seen = tells.of p c made unclosed ready dynamic

      by_pair : (x : Bool) → same_address_and_class seen.view at c.0 ≡ x → IsFine (fixed w) b (Some at) (Some c.0)
      by_pair true is = is_view at c.0 seen.owner seen.view refl refl test seen.has is
      by_pair false is = in_view at c.0 seen.owner seen.view refl refl test seen.has is (subst (λ x. TellsOf (fixed w) b seen.view at c.0 (not x)) within (seen.tells is))

  pub leads_to_base : (c d : ClassId) (i : Subobject) (r : ℕ) (v : Value) (under : MachineFrame) (rest : List MachineFrame) → IsProperBase (world_classes w) c i d → IsValue (world_classes w) s.classes v (PointerType c) → NamesOpen s v → IsLeaving r v under rest → KeepsBase c d i
      → (first_broken (world_classes w) s (sorted (convert v (ToBase i))) ≡ None → IsGiven (to_base i v) under rest) → ((rule : Undefined) → first_broken (world_classes w) s (sorted (convert v (ToBase i))) ≡ Some rule → P b (Answers (Refused (undefined_no rule) b.line)))
      → OpsLead (fixed w) (ReturnOp (Some r) (Some c.0) ∷ []) b P
  leads_to_base c d i r Unset under rest proper typed unclosed leaving keeps goes refused = leads_left r (Some c.0) Unset Unset under rest leaving (idle tt) refl (goes (convert_first (world_classes w) s Unset i ∙ none (is_shared i)))
    where
      none : (x : Bool) → (if x && false then Some OutsideView else None) ≡ None
      none true = refl
      none false = refl
  leads_to_base c d i r (Number z) under rest proper typed unclosed leaving keeps goes refused = absurd typed
  leads_to_base c d i r Null under rest proper typed unclosed leaving keeps goes refused = leads_left r (Some c.0) Null Null under rest leaving (idle refl) (idle_result (fixed w) b (Some 0) refl) (goes (convert_first (world_classes w) s Null i ∙ none (is_shared i)))
    where
      none : (x : Bool) → (if x && false then Some OutsideView else None) ≡ None
      none true = refl
      none false = refl
  leads_to_base c d i r (Pointer p) under rest proper typed unclosed leaving keeps goes refused = by_ready (is_unready s p) refl
    where
      at : ℕ
      at = address (world_classes w) (places_in w) (heap_of s.classes b.memory.regions) p

      asked : IsAsked b (Some at) (Some c.0) at d.0 c.0
      asked = record { word_is = refl; some = part_some w s b P world columns p c typed; found_is = keeps.class; class_is = refl; other = λ e. ⊎_elim (λ (is : i ≡ whole_of c). proper.proper is) (λ less. absurd (omega (arith, less, e))) (smaller (world_classes w) world.hierarchy c d i proper.valid proper.class) }

      leaves : Leaves b (Some r) (Some at)
      leaves = record { opened = leaving.opened; last = leaving.last; operand_is = leaving.word_is }

      test : ready_at b.notes at c.0 ≡ is_ready (s.phases.phase p)
      test = part_ready w (heap_of s.classes b.memory.regions) s.phases b.notes p c columns.phases typed

      first : (u x o : Bool) → is_unready s p ≡ u → is_shared i ≡ x → is_outside (world_classes w) s p ≡ o → first_broken (world_classes w) s (sorted (convert (Pointer p) (ToBase i))) ≡ (if u then Some NotReady else (if x && o then Some OutsideView else None))
      first u x o eu ex eo = convert_first (world_classes w) s (Pointer p) i ∙ ap (λ y. if y then Some NotReady else (if is_shared i && is_outside (world_classes w) s p then Some OutsideView else None)) eu
          ∙ ap (λ y. if u then Some NotReady else (if y && is_outside (world_classes w) s p then Some OutsideView else None)) ex ∙ ap (λ y. if u then Some NotReady else (if x && y then Some OutsideView else None)) eo

      plain : (path : List ClassId) → i ≡ subobject Whole path → is_unready s p ≡ false → (o : Bool) → is_outside (world_classes w) s p ≡ o → OpsLead (fixed w) (ReturnOp (Some r) (Some c.0) ∷ []) b P
      plain path is ready o eo =
          let m = subst (λ (j : Subobject). IsMoved w.image b.memory at (vbase_added w (Some c) (ToBase j)) (constant_added w (Some c) (ToBase j)) (address (world_classes w) (places_in w) g (inner_part p j))) (sym is)
          (plain_moved w world g b.memory is_laid p c path typed (subst (IsSubobject (world_classes w) c) is proper.valid)) in
          let vbase : b.top.kept.vbase ≡ 0 = keeps.vbase ∙ ap (λ (j : Subobject). vbase_added w (Some c) (ToBase j)) is ∙ plain_vbase w world g b.memory is_laid c path in
          leads_left r (Some c.0) (Pointer p) (Pointer (inner_part p i)) under rest leaving (direct at c.0 refl refl (test ∙ ready_from (is_ready (s.phases.phase p)) ready) vbase)
          (base_moved c d i p (inner_part p i) keeps typed m) (goes (first false false o ready (ap is_shared is) eo))

      behind : (v : ClassId) (path : List ClassId) → i ≡ subobject (Shared v) (v ∷ path) → HasVirtualBase (world_classes w) c v → PathLeads (world_classes w) v path → is_unready s p ≡ false → (o : Bool) → is_outside (world_classes w) s p ≡ o → OpsLead (fixed w) (ReturnOp (Some r) (Some c.0) ∷ []) b P
      behind v path is has leads_on ready true eo =
          let seen = tells.of p c typed unclosed ready (base_dynamic (world_classes w) c v has) in
          let some : b.top.kept.vbase ≡ 0 → ⊥ = λ e. shared_some w world g b.memory is_laid p c v (v ∷ path) typed has (sym (keeps.vbase ∙ ap (λ (j : Subobject). vbase_added w (Some c) (ToBase j)) is) ∙ e) in
          let apart : same_address_and_class seen.view at c.0 ≡ false = is_false (same_address_and_class seen.view at c.0) (λ e. absurd (let f : false ≡ true = sym (seen.itself e) ∙ eo in cc)) in
          leads_return_outside (fixed w) (Some r) (Some c.0) (Some at) at d.0 c.0 seen.owner seen.view leaves asked (test ∙ ready_from (is_ready (s.phases.phase p)) ready) some seen.has apart
          (subst (λ x. TellsOf (fixed w) b seen.view at c.0 (not x)) eo (seen.tells apart)) (refused OutsideView (first false true true ready (ap is_shared is) eo))
      behind v path is has leads_on ready false eo =
          let m = subst (λ (j : Subobject). IsMoved w.image b.memory at (vbase_added w (Some c) (ToBase j)) (constant_added w (Some c) (ToBase j)) (address (world_classes w) (places_in w) g (inner_part p j))) (sym is)
          (shared_moved w world g b.memory is_laid p c v path (shows.of p c typed unclosed ready eo (base_dynamic (world_classes w) c v has)) typed has leads_on) in
          leads_left r (Some c.0) (Pointer p) (Pointer (inner_part p i)) under rest leaving (fine_seen p c typed unclosed (base_dynamic (world_classes w) c v has) ready eo (test ∙ ready_from (is_ready (s.phases.phase p)) ready))
          (base_moved c d i p (inner_part p i) keeps typed m) (goes (first false true false ready (ap is_shared is) eo))

      by_valid : (j : Subobject) → IsSubobject (world_classes w) c j → i ≡ j → is_unready s p ≡ false → OpsLead (fixed w) (ReturnOp (Some r) (Some c.0) ∷ []) b P
      by_valid _ (in_whole path leads_on) is ready = plain (c ∷ path) is ready (is_outside (world_classes w) s p) refl
      by_valid _ (in_shared v path has leads_on) is ready = behind v path is has leads_on ready (is_outside (world_classes w) s p) refl

      by_ready : (u : Bool) → is_unready s p ≡ u → OpsLead (fixed w) (ReturnOp (Some r) (Some c.0) ∷ []) b P
      by_ready true e = leads_return_not_ready (fixed w) (Some r) (Some c.0) (Some at) at d.0 c.0 leaves asked (test ∙ raw_from (is_ready (s.phases.phase p)) e) (refused NotReady (first true (is_shared i) (is_outside (world_classes w) s p) e refl refl))
      by_ready false e = by_valid i proper.valid refl e
