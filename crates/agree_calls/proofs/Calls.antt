-- A call by the view opens the frame of the final overrider; or rule 6 refuses it, or limit 10 stops it.
use Rattle.std.proofs.Common.{◌≡◌, ⊎_elim, ℕ, ◌<◌, ◌≤◌, Bool, true, false, Option, Some, List, [], ◌∷◌, ◌++◌, refl, ap, sym, subst, ◌∙◌, arith}
use Rattle.agree_calls.proofs.Kept.{nothing_added}
use Rattle.agree_calls.specs.Shown.{ShowsViews}
use Rattle.agree_dispatch.proofs.OwnKeys.{first_own}
use Rattle.agree_dispatch.specs.Words.{HasEntryWord}
use Rattle.code_blocks.specs.Blocks.{AtStatement}
use Rattle.code_ops.specs.Setups.{FunctionCode}
use Rattle.code_ops.specs.Uses.{check_ops, sorted_checks}
use Rattle.code_ops.specs.declared.uses.Used.TheVariants.{Takes as TakesEntry}
use Rattle.code_statements.specs.Rights.{call_entry}
use Rattle.agree_parts.specs.Addresses.{address}
use Rattle.agree_parts.specs.Heaps.{Heap}
use Rattle.abi_slots.proofs.Dynamics.{virtual_dynamic}
use Rattle.abi_slots.specs.CodeRows.{block_kind, code_of}
use Rattle.abi_slots.specs.Groups.{return_for}
use Rattle.abi_slots.specs.Images.{return_constant, return_vbase}
use Rattle.abi_slots.specs.Slots.{first_key, first_kind}
use Rattle.abi_slots.specs.declared.code_numbers.BlockKind.TheVariants.{Plain}
use Rattle.abi_slots.specs.declared.words.CodeKind.TheVariants.{Plain as PlainCode}
use Rattle.abi_slots.specs.declared.words.ReturnAdjust.{ReturnAdjust}
use Rattle.agree_relation.specs.Columns.{ColumnsStand}
use Rattle.agree_relation.specs.Words.{heap_of}
use Rattle.agree_relation.specs.Worlds.{IsProgramWorld, World, world_classes, fixed, places_in}
use Rattle.agree_statements.proofs.Checks.{part_some}
use Rattle.agree_views.proofs.Telling.{told_entry}
use Rattle.byte_code.specs.Numbers.{word_of}
use Rattle.byte_code.specs.declared.op.Check.TheVariants.{HasCode}
use Rattle.byte_code.specs.declared.op.Finish.TheVariants.{Check as CheckOp}
use Rattle.byte_code.specs.declared.op.Op.{Op}
use Rattle.byte_code.specs.declared.op.Op.TheVariants.{CallCode, CallEntry, Does}
use Rattle.byte_code.specs.declared.op.ResultUse.{ResultUse}
use Rattle.byte_machine.proofs.CallLeads.{leads_call_code, leads_call_code_full, leads_call_entry, leads_call_entry_full}
use Rattle.byte_machine.proofs.CheckLeads.{leads_has_code, leads_no_code}
use Rattle.byte_machine.specs.Calls.{calling, frame_at, kept_for, most_calls, register_words}
use Rattle.byte_machine.specs.Frames.{MachineFrame}
use Rattle.byte_machine.specs.Leads.{OpsLead}
use Rattle.byte_machine.specs.Running.{Answers, Running, Stop, register}
use Rattle.byte_machine.specs.declared.turn.MachineTurn.TheVariants.{Limit, Refused}
use Rattle.cxx_overrider.specs.Functions.{is_pure, signature_of}
use Rattle.cxx_overrider.specs.Overriding.{IsVirtual}
use Rattle.cxx_overrider.specs.declared.FunctionId.{FunctionId}
use Rattle.cxx_overrider.specs.declared.Overrider.{Overrider}
use Rattle.cxx_program.specs.declared.program.Owner.TheVariants.{Function}
use Rattle.cxx_search.specs.Searches.{final_in}
use Rattle.cxx_subobject.specs.Locations.{ObjectPart}
use Rattle.cxx_subobject.specs.Subobjects.{join}
use Rattle.cxx_subobject.specs.declared.Subobject.{Subobject}
use Rattle.path_model.specs.Effects.{overrider_by}
use Rattle.path_model.specs.Rules.{is_outside, is_unready}
use Rattle.path_model.specs.States.{owned_body, is_body}
use Rattle.path_model.specs.TypedStates.{IsPartMade}
use Rattle.path_model.specs.Uses.{view_of}
use Rattle.path_model.specs.Values.{Objects}
use Rattle.path_plan.specs.Places.{part}
use Rattle.std.proofs.lemmas.Bool.{cases_lt}

-- the one check of a pure call
one_check : (r entry : ℕ) → check_ops (TakesEntry r entry ∷ []) ≡ Does (CheckOp (HasCode r entry)) ∷ []
unfolding sorted_checks
one_check r entry = refl

-- the function and its body are those of a routine
pub function_block : (w : World) → (world : IsProgramWorld w) → (n : FunctionId) (block : ℕ) → is_body (owned_body w.setup.program (Function n)) ≡ true → code_of w.numbers n Plain ≡ Some block → block ≡ world.lowered.at (AtStatement (FunctionCode n) 0)
function_block w world n block defined coded =
    let number = world.lowered.numbered (FunctionCode n) n defined refl in
    let same : Some block ≡ Some (world.lowered.at (AtStatement (FunctionCode n) 0)) = sym coded ∙ number in
    cc

module _ (w : World) (s : Objects) (b : Running) (P : Running → Stop → Type 0) (world : IsProgramWorld w) (columns : ColumnsStand w s b.memory b.objects b.heap b.notes) (shows : ShowsViews w s b.memory) where
  abbrev g : Heap
  g = heap_of s.classes b.memory.regions

  -- the receiver of a call by the view, which no rule before refuses
  pub record IsReceiver (f : FunctionId) (p : ObjectPart) (this : ℕ) : Type 0 where
    pub made : IsPartMade (world_classes w) s.classes p f.class
    pub unclosed : s.is_closed p.object ≡ false
    pub ready : is_unready s p ≡ false
    pub within : is_outside (world_classes w) s p ≡ false
    pub is_virtual : IsVirtual (world_classes w) f
    pub plain : first_kind (signature_of (world_classes w) f) ≡ PlainCode
    pub word : register b this ≡ Some (address (world_classes w) (places_in w) (heap_of s.classes b.memory.regions) p)

  -- what the entry of its table has
  entry_word : (f : FunctionId) (p : ObjectPart) (this : ℕ) (o : Overrider) → IsReceiver f p this → overrider_by (world_classes w) (view_of (world_classes w) s p) p.at f ≡ Some o
      → HasEntryWord (world_classes w) (places_in w) w.image w.numbers b.memory (first_key (world_classes w) f) o (address (world_classes w) (places_in w) (heap_of s.classes b.memory.regions) p) (address (world_classes w) (places_in w) (heap_of s.classes b.memory.regions) (part p.object p.owner o.at))
  entry_word f p this o a found =
      let dynamic = virtual_dynamic (world_classes w) f a.is_virtual in
      let seen = shows.of p f.class a.made a.unclosed a.ready a.within dynamic in
      let view_is = shows.is_view p f.class a.made a.unclosed a.ready a.within dynamic in
      let final : final_in (world_classes w) seen.view.at p.at f ≡ Some o = sym (ap (λ (v : Option Subobject). overrider_by (world_classes w) v p.at f) view_is) ∙ found in
      let joined : join seen.view.at seen.inner ≡ p.at = ap (λ (q : ObjectPart). q.at) seen.is in
      let told = told_entry w g b.memory seen.view seen.view_class seen.complete seen.stands seen.inner (first_key (world_classes w) f) o seen.valid seen.of_class (first_own (world_classes w) world.hierarchy f a.is_virtual)
      (ap (λ (y : Subobject). final_in (world_classes w) seen.view.at y f) joined ∙ final) in
      subst (λ (q : ObjectPart). HasEntryWord (world_classes w) (places_in w) w.image w.numbers b.memory (first_key (world_classes w) f) o (address (world_classes w) (places_in w) g q) (address (world_classes w) (places_in w) g (part q.object q.owner o.at))) seen.is told

  -- the frame that a call of n, found as f, opens
  abbrev pub called_frame : FunctionId → FunctionId → ObjectPart → List (Option ℕ) → ResultUse → MachineFrame
  called_frame n f this words result = frame_at (fixed w) (world.lowered.at (AtStatement (FunctionCode n) 0)) (address (world_classes w) (places_in w) (heap_of s.classes b.memory.regions) this) words
      (kept_for result (word_of (return_vbase (return_for (world_classes w) (places_in w) n f))) (word_of (return_constant (return_for (world_classes w) (places_in w) n f))))

  pub leads_dispatched : (f : FunctionId) (p : ObjectPart) (this : ℕ) (arguments : List ℕ) (result : ResultUse) (o : Overrider) {ops : List Op} → IsReceiver f p this → overrider_by (world_classes w) (view_of (world_classes w) s p) p.at f ≡ Some o
      → (is_pure (world_classes w) o.function ≡ false → is_body (owned_body w.setup.program (Function o.function)) ≡ true)
      → (is_pure (world_classes w) o.function ≡ true → P b (Answers (Refused 6 b.line)))
      → (is_pure (world_classes w) o.function ≡ false → most_calls ≤ b.calls → P b (Answers (Limit 10)))
      → (is_pure (world_classes w) o.function ≡ false → b.calls < most_calls → OpsLead (fixed w) ops (calling (called_frame o.function f (part p.object p.owner o.at) (register_words b arguments) result) b) P)
      → OpsLead (fixed w) (check_ops (TakesEntry this (call_entry w.setup f) ∷ []) ++ (CallEntry this (call_entry w.setup f) arguments result ∷ ops)) b P
  leads_dispatched f p this arguments result o {ops} a found defined refused full goes =
      subst (λ (front : List Op). OpsLead (fixed w) (front ++ (CallEntry this (call_entry w.setup f) arguments result ∷ ops)) b P) (sym (one_check this (call_entry w.setup f)))
      (by_pure (is_pure (world_classes w) o.function) refl)
    where
      at : ℕ
      at = address (world_classes w) (places_in w) (heap_of s.classes b.memory.regions) p

      word : HasEntryWord (world_classes w) (places_in w) w.image w.numbers b.memory (first_key (world_classes w) f) o (address (world_classes w) (places_in w) (heap_of s.classes b.memory.regions) p) (address (world_classes w) (places_in w) (heap_of s.classes b.memory.regions) (part p.object p.owner o.at))
      word = entry_word f p this o a found

      some : at ≡ 0 → ⊥
      some = part_some w s b P world columns p f.class a.made

      by_room : is_pure (world_classes w) o.function ≡ false → OpsLead (fixed w) (CallEntry this (call_entry w.setup f) arguments result ∷ ops) b P
      by_room e = ⊎_elim
          (λ (room : b.calls < most_calls).
          let runs = word.runs e in
          let kind : code_of w.numbers o.function Plain ≡ Some runs.block = ap (λ k. code_of w.numbers o.function (block_kind k)) (sym a.plain) ∙ runs.coded in
          let block_is = function_block w world o.function runs.block (defined e) kind in
          leads_call_entry (fixed w) this (call_entry w.setup f) arguments result at _ a.word room runs.called
          (subst (λ (n : ℕ). OpsLead (fixed w) ops (calling (frame_at (fixed w) n (address (world_classes w) (places_in w) g (part p.object p.owner o.at)) (register_words b arguments)
          (kept_for result (word_of (return_vbase (return_for (world_classes w) (places_in w) o.function f))) (word_of (return_constant (return_for (world_classes w) (places_in w) o.function f))))) b) P) (sym block_is) (goes e room)))
          (λ (more : most_calls ≤ b.calls). leads_call_entry_full (fixed w) this (call_entry w.setup f) arguments result at a.word more (full e more))
          (cases_lt b.calls most_calls)

      by_pure : (x : Bool) → is_pure (world_classes w) o.function ≡ x → OpsLead (fixed w) (Does (CheckOp (HasCode this (call_entry w.setup f))) ∷ CallEntry this (call_entry w.setup f) arguments result ∷ ops) b P
      by_pure true e = leads_no_code (fixed w) this (call_entry w.setup f) at a.word some (word.there ∙ ap (λ n. Some n) (word.pure e)) (refused e)
      by_pure false e = let above = word.above e in leads_has_code (fixed w) this (call_entry w.setup f) at word.word a.word word.there (λ z. absurd (omega (arith, above, z))) (by_room e)

  -- without dispatch: the function that was found
  pub leads_found : (n : FunctionId) (p : ObjectPart) (this : ℕ) (arguments : List ℕ) (result : ResultUse) {ops : List Op} → register b this ≡ Some (address (world_classes w) (places_in w) (heap_of s.classes b.memory.regions) p)
      → (most_calls ≤ b.calls → P b (Answers (Limit 10)))
      → (b.calls < most_calls → OpsLead (fixed w) ops (calling (called_frame n n p (register_words b arguments) result) b) P)
      → OpsLead (fixed w) (CallCode (world.lowered.at (AtStatement (FunctionCode n) 0)) this arguments result ∷ ops) b P
  leads_found n p this arguments result {ops} e full goes = ⊎_elim
      (λ (room : b.calls < most_calls). leads_call_code (fixed w) block this arguments result (address (world_classes w) (places_in w) g p) e room
      (subst (λ (a : Option ReturnAdjust). OpsLead (fixed w) ops (calling (frame_at (fixed w) block (address (world_classes w) (places_in w) g p) (register_words b arguments) (kept_for result (word_of (return_vbase a)) (word_of (return_constant a)))) b) P) (nothing_added w world n) (goes room)))
      (λ (more : most_calls ≤ b.calls). leads_call_code_full (fixed w) block this arguments result (address (world_classes w) (places_in w) g p) e more (full more))
      (cases_lt b.calls most_calls)
    where
      block : ℕ
      block = world.lowered.at (AtStatement (FunctionCode n) 0)
