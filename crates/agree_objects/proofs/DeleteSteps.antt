-- `delete p;`
use Rattle.std.proofs.Common.{◌≡◌, ℕ, ◌+◌, ◌<◌, ◌≤◌, ⊎_elim, Bool, true, false, inl, inr, Option, Some, None, List, [], ◌∷◌, ◌++◌, refl, ap, sym, ◌∙◌, subst, arith}
use Rattle.std.specs.Prelude.{slice_get, not}
use Rattle.std.specs.Option.{option_map_or}
use Rattle.std.proofs.lemmas.Bool.{cases_lt}
use Rattle.std.proofs.Math.Bool.{not-not}
use Rattle.foundation.proofs.Members.{Has, has_left, has_right}
use Rattle.cxx_hierarchy.specs.declared.records.ClassId.{ClassId}
use Rattle.cxx_hierarchy.specs.declared.records.ValueType.TheVariants.{Pointer as PointerType}
use Rattle.cxx_hierarchy.specs.declared.stop.LimitNo.TheVariants.{L10}
use Rattle.cxx_hierarchy.specs.Stops.{limit_no}
use Rattle.cxx_hierarchy.specs.Classes.{Classes}
use Rattle.cxx_subobject.specs.Subobjects.{class_of, same_subobject, whole_of}
use Rattle.cxx_subobject.proofs.TreeLemmas.{subobject_same}
use Rattle.cxx_subobject.specs.Locations.{Step, ObjectPart}
use Rattle.cxx_overrider.specs.Virtuals.{is_virtual}
use Rattle.cxx_search.specs.Searches.{destructor_of}
use Rattle.cxx_search.proofs.Virtuals.{test_virtual}
use Rattle.cxx_program.specs.declared.operand.TypedOperand.{TypedOperand}
use Rattle.cxx_program.specs.declared.statement.TypedKind.TheVariants.{Delete}
use Rattle.cxx_program.specs.declared.statement.TypedStatement.{TypedStatement}
use Rattle.cxx_program.specs.Typed.{Scope, HasType, IsTyped, deletes}
use Rattle.path_rules.specs.declared.Undefined.{Undefined}
use Rattle.path_rules.specs.declared.Undefined.TheVariants.{Dangling, NotReady, OutsideView, Unset as UnsetUse, NonVirtualDelete, NotHeapObject, NotComplete}
use Rattle.path_plan.specs.Places.{part}
use Rattle.path_plan.specs.Phases.{is_complete}
use Rattle.path_plan.specs.declared.form.Form.TheVariants.{InFull}
use Rattle.path_plan.specs.Whole.{whole_part}
use Rattle.path_model.specs.Order.{first_broken, sorted}
use Rattle.path_model.specs.Values.{Value, Unset, Number, Null, Pointer, value_of_operand}
use Rattle.path_model.specs.States.{ProgramState, sight, with_frames}
use Rattle.path_model.specs.TypedStates.{IsPartMade, IsValue}
use Rattle.path_model.specs.Effects.{ending, object_ended, deleted}
use Rattle.path_model.specs.Places.{owner_class}
use Rattle.path_model.specs.Rules.{breaks, is_broken, is_unset, names, is_unready, is_outside, is_no_whole, is_in_heap_object, is_incomplete, is_whole_complete}
use Rattle.path_model.specs.Runs.{Move, within, call_limit, delete_demand, limit_of, move_by}
use Rattle.path_model.specs.Uses.{StatementUse, Reads, Guards, Views, Deletes, uses_of_view, class_of_owner}
use Rattle.path_model.proofs.TypedValues.{operand_typed}
use Rattle.byte_code.specs.declared.op.Op.TheVariants.{Jump}
use Rattle.byte_machine.specs.declared.turn.MachineTurn.TheVariants.{Went, Limit}
use Rattle.byte_machine.specs.Calls.{most_calls, calling, frame_at, kept_for, nothing_used}
use Rattle.byte_machine.specs.Effects.{jumping}
use Rattle.byte_machine.specs.Frames.{MachineFrame, nothing_kept, register_of}
use Rattle.byte_machine.specs.Running.{Running, Answers}
use Rattle.byte_machine.specs.Leads.{OpsLead, LeadsBlock}
use Rattle.byte_machine.proofs.Leads.{leads_end}
use Rattle.byte_machine.proofs.CallLeads.{leads_delete_entry_null, leads_delete_entry, leads_delete_entry_full, leads_delete_code_null, leads_delete_code, leads_delete_code_full}
use Rattle.byte_machine.proofs.ControlLeads.{leads_jump}
use Rattle.code_blocks.specs.Blocks.{routine_start, statement_ops}
use Rattle.code_ops.specs.Arguments.{free}
use Rattle.code_ops.specs.Operands.{operand_register}
use Rattle.code_ops.specs.Setups.{PlanCode}
use Rattle.code_ops.specs.Uses.{reads, views_if}
use Rattle.code_ops.specs.declared.routines.Course.TheVariants.{Deletes as DeletesCourse}
use Rattle.code_ops.specs.declared.uses.Used.{Used}
use Rattle.code_ops.specs.declared.uses.Used.TheVariants.{Guards as GuardsWord, Deletes as DeletesWord}
use Rattle.code_statements.specs.Statements.{delete_op}
use Rattle.abi_slots.specs.Listing.{entry_number, entry_key}
use Rattle.abi_slots.specs.declared.words.CodeKind.TheVariants.{Deleting}
use Rattle.abi_slots.proofs.Dynamics.{virtual_dynamic}
use Rattle.agree_parts.specs.Addresses.{address}
use Rattle.agree_relation.specs.Worlds.{world_classes, places_in, fixed}
use Rattle.agree_relation.specs.Words.{register_word}
use Rattle.agree_relation.specs.Frames.{PlaceNumbers, HasVariables}
use Rattle.agree_relation.specs.Stands.{StateStands}
use Rattle.agree_relation.specs.Agrees.{Agrees, StandsNow}
use Rattle.agree_relation.proofs.Objects.{objects_placed}
use Rattle.agree_events.proofs.Noted.{at_part}
use Rattle.agree_statements.specs.Registers.{at_registers, body_on, frame_on}
use Rattle.agree_statements.specs.Tests.{nothing, tested}
use Rattle.agree_statements.proofs.After.{state_on, stands_after}
use Rattle.agree_statements.proofs.Checks.{part_some}
use Rattle.agree_statements.proofs.Finish.{Reaches, to_next, refused, finished}
use Rattle.agree_statements.proofs.Moves.{move_in, move_fine, move_refused}
use Rattle.agree_statements.proofs.Operands.{leads_operand}
use Rattle.agree_statements.proofs.Registers.{variables_kept, variables_on}
use Rattle.agree_statements.proofs.Rights.{tells, free_in}
use Rattle.agree_statements.proofs.Scenes.{Scene, top, here, scope, block, sees, kind_typed, is_free, variables}
use Rattle.agree_statements.proofs.Taken.{silent}
use Rattle.agree_statements.proofs.Tests.{leads_checks, along_append, unbroken}
use Rattle.agree_statements.proofs.Useds.{along_reads, along_views, guarded, open_read}
use Rattle.agree_calls.specs.Shown.{ShowsViews}
use Rattle.agree_calls.proofs.Showing.{shows_views}
use Rattle.agree_calls.proofs.Opened.{limit_full, limit_room}
use Rattle.agree_objects.proofs.DeleteChecks.{delete_tested}
use Rattle.agree_objects.proofs.DeletingEntries.{IsDeleted, LeadsToPlan, leads_to_plan}
use Rattle.agree_objects.proofs.Idle.{complete_idle}
use Rattle.agree_statements.proofs.Moves.{move_asks}
use Rattle.agree_objects.proofs.ObjectStands.{ending_stands}

-- what the type of a `delete` says
deleted_type : (h : Classes) (e : Scope) (x : TypedOperand) (c : ClassId) → IsTyped h e (Delete x c) → HasType e x (PointerType c)
deleted_type h e _ _ (deletes x c has) = has

-- a complete object that is a heap object
in_heap : (o : List Step) → not (is_in_heap_object o) ≡ false → o ≡ []
in_heap [] e = refl
in_heap (step ∷ rest) e = absurd (let off : true ≡ false = e in cc)

module _ (x : TypedOperand) (c : ClassId) (line next : ℕ) (scene : Scene (record { kind = Delete x c; line = line; next = next })) where
  open scene use {w, at, s, f, below, body, b}

  abbrev deletion : TypedStatement
  deletion = record { kind = Delete x c; line = line; next = next }

  -- its destructor is found by the table
  abbrev by_table : Bool
  by_table = is_virtual (world_classes w) (destructor_of (world_classes w) c)

  abbrev v : Value
  v = value_of_operand (sight s f) x

  abbrev source : ℕ
  source = operand_register (free (block scene) 0) x

  abbrev uses : List StatementUse
  uses = Reads v ∷ Guards v ∷ (uses_of_view by_table v ++ Deletes v by_table ∷ [])

  abbrev used : List Used
  used = reads (scope scene) (free (block scene) 0) x ++ (GuardsWord source 0 c.0 ∷ (views_if by_table source 0 c ++ (DeletesWord source c.0 by_table ∷ [])))

  -- the state behind it, but for the plan
  abbrev on : ProgramState
  on = state_on s s.objects s.globals (body_on f f.locals next) below

  abbrev Fine : Type 0
  Fine = (r : Undefined) → is_broken (world_classes w) s.objects uses r ≡ false

  -- the plan of the object is opened

  -- a heap object that is to be ended, of class d
  record EndsObject (k : ℕ) (d : ClassId) : Type 0 where
    there : slice_get s.objects.classes k ≡ Some d
    complete : is_complete (s.objects.phases.phase (whole_part k d)) ≡ true
    moves : move_in w s ≡ within (call_limit s) (with_frames on (ending (world_classes w) w.setup.program k d ∷ on.frames)) []

  opened_there : (k : ℕ) (d : ClassId) (new : List (Option ℕ)) → EndsObject k d → HasVariables w (here scene) f new → b.calls < most_calls
      → Reaches scene (jumping (to_next scene next) (calling (frame_at (fixed w) (at (routine_start w.setup (PlanCode DeletesCourse InFull d))) (at_part w (here scene) (whole_part k d)) [] nothing_kept) (at_registers b new))) (Answers Went)
  opened_there k d new ends kept few =
      let frame = frame_at (fixed w) (at (routine_start w.setup (PlanCode DeletesCourse InFull d))) (at_part w (here scene) (whole_part k d)) [] nothing_kept in
      let waits = frame_on b.top new (to_next scene next) ∷ b.below in
      let behind = with_frames on (ending (world_classes w) w.setup.program k d ∷ on.frames) in
      let last = jumping (to_next scene next) (calling frame (at_registers b new)) in
      let after = stands_after w at s f below b (top scene) s.objects b.memory s.globals b.globals f.locals next new (record { classes = refl; phases = refl }) refl scene.begins.stands.columns scene.begins.stands.globals (variables_on w (here scene) f next new kept) in
      let placed = objects_placed w s.objects b.memory.regions b.objects b.heap scene.begins.stands.columns.objects in
      let idle = complete_idle w s.objects (top scene).goings k d (top scene).planned scene.next.settled ends.there ends.complete in
      let ended = ending_stands w at on b.memory b.objects b.heap b.notes b.globals waits b.calls scene.world after k d ends.there (placed.known k d ends.there) idle in
      let stack : frame ∷ waits ≡ (frame ∷ b.opened) ++ waits = ap (λ (o : List MachineFrame). frame ∷ (o ++ waits)) (sym scene.begins.opened) in
      let stands : StandsNow w at behind last = subst (λ (frames : List MachineFrame). StateStands w at behind b.memory b.objects b.heap b.notes b.globals frames (b.calls + 1)) stack ended in
      subst (λ (m : Move). Agrees w at m last Went) (sym (ends.moves ∙ ap (λ o. within o behind []) (limit_room s b.calls scene.begins.stands.frames.calls few))) (stands, silent scene f.locals, refl)

  opened_full : (k : ℕ) (d : ClassId) (new : Running) → EndsObject k d → most_calls ≤ b.calls → Reaches scene new (Answers (Limit 10))
  opened_full k d new ends full = subst (λ (m : Move). Agrees w at m new (Limit (limit_no L10))) (sym (ends.moves ∙ ap (λ o. within o (with_frames on (ending (world_classes w) w.setup.program k d ∷ on.frames)) []) (limit_full s b.calls scene.begins.stands.frames.calls full))) refl

  -- the op of the block, and the jump behind it
  abbrev DoesDelete : Bool → List (Option ℕ) → Type 0
  DoesDelete t new = OpsLead (fixed w) (delete_op (block scene) (λ routine. at (routine_start w.setup routine)) t c source ∷ Jump (to_next scene next) ∷ []) (at_registers b new) (Reaches scene)

  -- null

  null_goes : (new : List (Option ℕ)) → v ≡ Null → first_broken (world_classes w) s.objects (sorted uses) ≡ None → HasVariables w (here scene) f new → OpsLead (fixed w) (Jump (to_next scene next) ∷ []) (at_registers b new) (Reaches scene)
  null_goes new is fine kept =
      leads_jump (fixed w) (to_next scene next) (leads_end (fixed w)
      (finished scene s.objects b.memory s.globals b.globals f.locals next new b.outs [] (record { classes = refl; phases = refl }) refl scene.begins.stands.columns scene.begins.stands.globals (variables_on w (here scene) f next new kept) (silent scene f.locals)
      (move_fine w s f below body deletion scene.world scene.next tt fine (ap delete_demand is) ∙ ap (λ y. move_by (deleted (world_classes w) w.setup.program on y) None) is)))

  null_by : (t : Bool) (new : List (Option ℕ)) → register_of new source ≡ Some 0 → OpsLead (fixed w) (Jump (to_next scene next) ∷ []) (at_registers b new) (Reaches scene) → DoesDelete t new
  null_by true new has rest = leads_delete_entry_null (fixed w) source (entry_number (world_classes w) (places_in w) (entry_key (destructor_of (world_classes w) c) Deleting)) has rest
  null_by false new has rest = leads_delete_code_null (fixed w) source (at (routine_start w.setup (PlanCode DeletesCourse InFull c))) has rest

  -- a pointer to a part of a heap object
  module _ (p : ObjectPart) (is : v ≡ Pointer p) (made : IsPartMade (world_classes w) s.objects.classes p c) (fine : first_broken (world_classes w) s.objects (sorted uses) ≡ None) (none : Fine) where
    abbrev d : ClassId
    d = made.class

    named : (f : ObjectPart → Bool) → names f v ≡ false → f p ≡ false
    named f e = subst (λ (y : Value). names f y ≡ false) is e

    has_deletes : Has uses (Deletes v by_table)
    has_deletes = inr (inr (has_right (uses_of_view by_table v) (Deletes v by_table ∷ []) (Deletes v by_table) (inl refl)))

    owner_is : p.owner ≡ []
    owner_is = in_heap p.owner (named (λ q. not (is_in_heap_object q.owner)) (unbroken (fixed w) b (Reaches scene) (world_classes w) s.objects uses (Deletes v by_table) NotHeapObject (none NotHeapObject) has_deletes))

    whole_full : is_complete (s.objects.phases.phase (whole_part p.object made.class)) ≡ true
    whole_full =
        let e = named (is_incomplete s.objects) (unbroken (fixed w) b (Reaches scene) (world_classes w) s.objects uses (Deletes v by_table) NotComplete (none NotComplete) has_deletes) in
        sym (not-not (is_complete (s.objects.phases.phase (whole_part p.object d)))) ∙ ap not (ap (λ o. not (is_whole_complete s.objects p.object o)) (sym made.made) ∙ e)

    ends_object : EndsObject p.object made.class
    ends_object = record {
      there = made.made;
      complete = whole_full;
      moves = move_asks w s f below body deletion scene.world scene.next tt fine
          ∙ ap (λ y. move_by (deleted (world_classes w) w.setup.program on y) (limit_of (places_in w).size s (delete_demand y))) is
          ∙ ap (λ o. move_by (object_ended (world_classes w) w.setup.program on p.object o) (call_limit s)) made.made;
    }

    -- by the table: what its entry asks for

    shows : ShowsViews w s.objects b.memory
    shows = shows_views w s.objects (top scene).goings b scene.world scene.begins.stands.columns (top scene).planned scene.next.settled scene.next.seen

    deleted_by_table : by_table ≡ true → IsDeleted w s.objects b scene.world scene.begins.stands.columns shows p c made.class
    deleted_by_table dispatched =
        let h = world_classes w in
        let asked : Has uses (Views v) = inr (inr (has_left (uses_of_view by_table v) (Deletes v by_table ∷ []) (Views v) (subst (λ (t : Bool). Has (uses_of_view t v) (Views v)) (sym dispatched) (inl refl)))) in
        record {
          made = made;
          unclosed = named (λ q. s.objects.is_closed q.object) (unbroken (fixed w) b (Reaches scene) h s.objects uses (Reads v) Dangling (none Dangling) (inl refl));
          ready = named (is_unready s.objects) (unbroken (fixed w) b (Reaches scene) h s.objects uses (Guards v) NotReady (none NotReady) (inr (inl refl)));
          within = named (is_outside h s.objects) (unbroken (fixed w) b (Reaches scene) h s.objects uses (Views v) OutsideView (none OutsideView) asked);
          dispatched = dispatched;
          owner = owner_is;
          class = made.made;
          full = whole_full;
        }

    -- without it: the part is the object itself

    at_whole : by_table ≡ false → p.at ≡ whole_of made.class
    at_whole dispatched =
        let h = world_classes w in
        let asked = subst (λ (t : Bool). breaks h s.objects NonVirtualDelete (Deletes v t) ≡ false) dispatched (unbroken (fixed w) b (Reaches scene) h s.objects uses (Deletes v by_table) NonVirtualDelete (none NonVirtualDelete) has_deletes) in
        let own : class_of_owner h s.objects p ≡ Some d = ap (owner_class h s.objects.classes p.object) owner_is ∙ made.made in
        subobject_same p.at (whole_of d) (sym (not-not (same_subobject p.at (whole_of d))) ∙ ap not (ap (λ o. not (option_map_or (λ d. same_subobject p.at (whole_of d)) o false)) (sym own) ∙ named (is_no_whole h s.objects) asked))

    own_class : by_table ≡ false → made.class ≡ c
    own_class dispatched = let one : Some d ≡ Some c = sym (ap class_of (at_whole dispatched)) ∙ made.of_class in cc

    whole_is : by_table ≡ false → p ≡ whole_part p.object c
    whole_is dispatched =
        let whole = at_whole dispatched ∙ ap whole_of (own_class dispatched) in
        λ i. part p.object (owner_is i) (whole i)

    pub pointer_by : at ≡ scene.world.lowered.at → (t : Bool) (new : List (Option ℕ)) → by_table ≡ t → HasVariables w (here scene) f new → register_of new source ≡ Some (address (world_classes w) (places_in w) (here scene) p) → DoesDelete t new
    pointer_by same true new dispatched kept has = ⊎_elim
        (λ (few : b.calls < most_calls). leads_delete_entry (fixed w) source entry here_at plan.to has some few plan.called
        (subst (λ (frame : MachineFrame). OpsLead (fixed w) (Jump (to_next scene next) ∷ []) (calling frame (at_registers b new)) (Reaches scene)) (sym opened_same)
        (leads_jump (fixed w) (to_next scene next) (leads_end (fixed w) (opened_there p.object d new ends_object kept few)))))
        (λ (full : most_calls ≤ b.calls). leads_delete_entry_full (fixed w) source entry here_at has some full (opened_full p.object d (at_registers b new) ends_object full))
        (cases_lt b.calls most_calls)
      where
        entry : ℕ
        entry = entry_number (world_classes w) (places_in w) (entry_key (destructor_of (world_classes w) c) Deleting)

        here_at : ℕ
        here_at = address (world_classes w) (places_in w) (here scene) p

        some : here_at ≡ 0 → ⊥
        some = part_some w s.objects b (Reaches scene) scene.world scene.begins.stands.columns p c made

        plan : LeadsToPlan w s.objects b scene.world scene.begins.stands.columns shows p c made.class
        plan = leads_to_plan w s.objects b scene.world scene.begins.stands.columns shows p c d (deleted_by_table dispatched)

        opened_same : frame_at (fixed w) plan.to.block plan.to.this [] (kept_for nothing_used plan.to.vbase plan.to.add) ≡ frame_at (fixed w) (at (routine_start w.setup (PlanCode DeletesCourse InFull d))) (at_part w (here scene) (whole_part p.object d)) [] nothing_kept
        opened_same = λ i. frame_at (fixed w) ((plan.block ∙ ap (λ (numbers : PlaceNumbers). numbers (routine_start w.setup (PlanCode DeletesCourse InFull d))) (sym same)) i) (plan.this i) [] (plan.kept i)
    pointer_by same false new dispatched kept has = ⊎_elim
        (λ (few : b.calls < most_calls). leads_delete_code (fixed w) source code (address (world_classes w) (places_in w) (here scene) p) has some few
        (leads_jump (fixed w) (to_next scene next) (leads_end (fixed w)
        (subst (λ (this : ℕ). Reaches scene (jumping (to_next scene next) (calling (frame_at (fixed w) code this [] nothing_kept) (at_registers b new))) (Answers Went)) (ap (at_part w (here scene)) (sym (whole_is dispatched)))
        (opened_there p.object c new own_object kept few)))))
        (λ (full : most_calls ≤ b.calls). leads_delete_code_full (fixed w) source code (address (world_classes w) (places_in w) (here scene) p) has some full (opened_full p.object c (at_registers b new) own_object full))
        (cases_lt b.calls most_calls)
      where
        code : ℕ
        code = at (routine_start w.setup (PlanCode DeletesCourse InFull c))

        some : address (world_classes w) (places_in w) (here scene) p ≡ 0 → ⊥
        some = part_some w s.objects b (Reaches scene) scene.world scene.begins.stands.columns p c made

        own_object : EndsObject p.object c
        own_object = subst (EndsObject p.object) (own_class dispatched) ends_object

  -- by the value of the pointer, behind the tests
  by_value : at ≡ scene.world.lowered.at → (y : Value) (new : List (Option ℕ)) → v ≡ y → IsValue (world_classes w) s.objects.classes y (PointerType c) → is_unset y ≡ false → first_broken (world_classes w) s.objects (sorted uses) ≡ None → Fine → HasVariables w (here scene) f new
      → register_of new source ≡ register_word w (here scene) y → DoesDelete by_table new
  by_value same Unset new is typed set fine none kept has = absurd (let e : true ≡ false = set in cc)
  by_value same (Number z) new is typed set fine none kept has = absurd typed
  by_value same Null new is typed set fine none kept has = null_by by_table new has (null_goes new is fine kept)
  by_value same (Pointer p) new is made set fine none kept has = pointer_by p is made fine none same by_table new refl kept has

  pub delete_does : at ≡ scene.world.lowered.at → LeadsBlock (fixed w) (statement_ops w.setup at (top scene).on.routine body f.next (record { kind = Delete x c; line = line; next = next })) b (Agrees w at (move_in w s))
  delete_does same =
      let h = world_classes w in
      let e = scope scene in
      let has = deleted_type h e x c (kind_typed scene) in
      let r = free (block scene) 0 in
      let stands = variables scene in
      let typed = operand_typed h e (sight s f) (sees scene) x (PointerType c) has in
      leads_operand (fixed w) w (here scene) s f e b x (PointerType c) r b.top.registers (sees scene) scene.begins.stands.globals stands has (free_in scene f.locals b.top.registers 0 (omega arith) stands)
      (λ new read. leads_checks (fixed w) (at_registers b new) (Reaches scene) h s.objects uses used
      (along_append (fixed w) (at_registers b new) (Reaches scene) h s.objects uses (Reads v ∷ []) (Guards v ∷ (uses_of_view by_table v ++ Deletes v by_table ∷ [])) (reads e r x) (GuardsWord source 0 c.0 ∷ (views_if by_table source 0 c ++ (DeletesWord source c.0 by_table ∷ [])))
      (along_reads w (sight s f) (at_registers b new) (Reaches scene) scene.world scene.begins.stands.columns uses e r x (PointerType c) (sees scene) has read.word)
      (tested (Guards v) (GuardsWord source 0 c.0) (guarded w (sight s f) (at_registers b new) (Reaches scene) scene.world scene.begins.stands.columns uses source v c typed read.word)
      (along_append (fixed w) (at_registers b new) (Reaches scene) h s.objects uses (uses_of_view by_table v) (Deletes v by_table ∷ []) (views_if by_table source 0 c) (DeletesWord source c.0 by_table ∷ [])
      (along_views w (sight s f) (at_registers b new) (Reaches scene) scene.world scene.begins.stands.columns uses by_table source v c (tells scene new)
      (open_read w (sight s f) (at_registers b new) (Reaches scene) scene.world scene.begins.stands.columns uses v (inl refl)) (inr (inl refl)) (λ dispatched. virtual_dynamic h (destructor_of h c) (test_virtual h (destructor_of h c) dispatched)) typed read.word)
      (tested (Deletes v by_table) (DeletesWord source c.0 by_table) (delete_tested w s.objects (at_registers b new) (Reaches scene) scene.world scene.begins.stands.columns uses by_table source v c (inr (inl refl)) typed read.word) nothing))))
      (λ fine none. by_value same v new refl typed (unbroken (fixed w) b (Reaches scene) h s.objects uses (Reads v) UnsetUse (none UnsetUse) (inl refl)) fine none
      (variables_kept w (here scene) f r b.top.registers new (is_free scene 0) stands read.wrote) read.word)
      (λ rule broken. refused scene rule (at_registers b new) refl (move_refused w s f below body deletion scene.world scene.next rule tt broken)))
