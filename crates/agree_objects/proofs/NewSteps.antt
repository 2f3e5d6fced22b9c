-- `v = new D;` and `D* v = new D;`
use Rattle.std.proofs.Common.{◌≡◌, ℕ, ◌+◌, ◌<◌, ◌≤◌, ⊎_elim, Bool, true, Option, Some, None, List, [], ◌∷◌, ◌++◌, length, set, refl, ap, sym, ◌∙◌, subst, arith}
use Rattle.std.specs.Prelude.{slice_get, if◌then◌else◌}
use Rattle.std.proofs.lemmas.Bool.{cases_lt}
use Rattle.cxx_hierarchy.specs.declared.records.ClassId.{ClassId}
use Rattle.cxx_hierarchy.specs.declared.records.ValueType.{ValueType}
use Rattle.cxx_hierarchy.specs.declared.stop.LimitNo.{LimitNo}
use Rattle.cxx_hierarchy.specs.declared.stop.LimitNo.TheVariants.{L8, L10}
use Rattle.cxx_hierarchy.specs.Stops.{limit_no}
use Rattle.cxx_hierarchy.specs.Classes.{Classes}
use Rattle.cxx_program.specs.declared.operand.Conversion.{Conversion}
use Rattle.cxx_program.specs.declared.operand.Variable.{Variable}
use Rattle.cxx_program.specs.declared.operand.Variable.TheVariants.{Local}
use Rattle.cxx_program.specs.declared.statement.TypedKind.TheVariants.{Declare, Assign}
use Rattle.cxx_program.specs.declared.statement.TypedRight.TheVariants.{New}
use Rattle.cxx_program.specs.declared.statement.TypedStatement.{TypedStatement}
use Rattle.cxx_program.specs.declared.program.TypedBody.{TypedBody}
use Rattle.cxx_program.specs.Typed.{Scope, IsTyped, begins, assigns, IsConverted, a_right, an_object}
use Rattle.path_model.specs.Values.{Value, Unset}
use Rattle.path_plan.specs.Whole.{construction}
use Rattle.path_model.specs.States.{ProgramState, Planned, Frame as PathFrame, InBody, plan_bodies, with_objects, with_frames}
use Rattle.path_model.specs.TypedStates.{AreValues, AreTypedFrames}
use Rattle.path_model.specs.Effects.{with_new_object as with_made, building, taker, new_made}
use Rattle.path_model.specs.Runs.{Move, asks_object, call_limit, limit_of, most_heap_bytes, heap_total, move_by}
use Rattle.path_model.proofs.TypedValues.{values_set}
use Rattle.byte_code.specs.declared.op.Op.{Op}
use Rattle.byte_code.specs.declared.op.Op.TheVariants.{Jump, New as NewOp}
use Rattle.byte_memory.specs.Regions.{rounded}
use Rattle.byte_memory.specs.Store.{IsRoom, open_of}
use Rattle.byte_machine.specs.declared.turn.MachineTurn.TheVariants.{Went, Limit}
use Rattle.byte_machine.specs.Heap.{heap_limit, with_heap_object as with_listed}
use Rattle.byte_machine.specs.Calls.{most_calls, kept_for, frame_at, made_at}
use Rattle.byte_machine.specs.Effects.{jumping}
use Rattle.byte_machine.specs.Frames.{MachineFrame}
use Rattle.byte_machine.specs.Running.{Running, Answers}
use Rattle.byte_machine.specs.Runs.{MayAsk}
use Rattle.byte_machine.specs.Leads.{OpsLead, LeadsBlock}
use Rattle.byte_machine.specs.declared.turn.RawOut.{RawOut}
use Rattle.byte_machine.proofs.Leads.{below as less, not_below, leads_end}
use Rattle.byte_machine.proofs.CallLeads.{leads_new, leads_new_full, leads_new_deep, room_within}
use Rattle.byte_machine.proofs.ControlLeads.{leads_jump}
use Rattle.code_blocks.specs.Blocks.{routine_start, statement_ops}
use Rattle.code_ops.specs.Setups.{PlanCode}
use Rattle.code_ops.specs.declared.routines.Course.TheVariants.{Constructs}
use Rattle.code_ops.specs.Uses.{check_ops, sorted_checks}
use Rattle.path_plan.specs.declared.form.Form.TheVariants.{InFull}
use Rattle.code_statements.specs.Rights.{object_taken}
use Rattle.agree_relation.specs.Worlds.{world_classes, places_in, fixed}
use Rattle.agree_relation.specs.Words.{heap_of}
use Rattle.agree_relation.specs.Frames.{HasVariables, KeepsObject}
use Rattle.agree_relation.specs.Stands.{StateStands}
use Rattle.agree_relation.specs.Agrees.{ReadAs, Agrees, StandsNow}
use Rattle.agree_statements.specs.Registers.{at_registers, body_on, frame_on}
use Rattle.agree_statements.proofs.Registers.{variables_on}
use Rattle.agree_statements.proofs.After.{state_on, stands_after}
use Rattle.agree_statements.proofs.Assignments.{assign_does, declare_does}
use Rattle.agree_statements.proofs.Finish.{Reaches, to_next}
use Rattle.agree_statements.proofs.Moves.{move_in}
use Rattle.agree_statements.proofs.Rights.{DoesRight}
use Rattle.agree_statements.proofs.Scenes.{Scene, top, here, scope, block, sees, kind_typed}
use Rattle.agree_calls.proofs.Kept.{object_taken_kept}
use Rattle.agree_calls.proofs.Opened.{limit_full, limit_room}
use Rattle.agree_objects.specs.Grown.{AreHeld}
use Rattle.agree_objects.proofs.Held.{locals_held, frames_held}
use Rattle.agree_statements.proofs.Moves.{move_asks}
use Rattle.agree_objects.proofs.ObjectStands.{object_stands}

-- nothing is tested
no_checks : check_ops [] ≡ []
unfolding sorted_checks
no_checks = refl

module _ {statement : TypedStatement} (scene : Scene statement) (locals : List Value) (variable : Variable) (d : ClassId) (c : Conversion) where
  open scene use {w, at, s, f, below, body, b}

  -- the state behind the statement, but for the object
  abbrev on : ProgramState
  on = state_on s s.objects s.globals (body_on f locals statement.next) below

  -- a variable takes a new object; the locals are those behind the front of the statement
  pub record MakesObject : Type 0 where
    pub locals_typed : AreValues (world_classes w) s.objects.classes locals body.locals
    pub known : d.0 < length (world_classes w)
    pub moves : move_in w s ≡ move_by (new_made (world_classes w) w.setup.program (state_on s s.objects s.globals (body_on f locals statement.next) below) d (taker variable c)) (limit_of (places_in w).size s (asks_object d))

  abbrev size : ℕ
  size = (places_in w).size d

  -- limits

  limited : (limit : LimitNo) → MakesObject → limit_of (places_in w).size s (asks_object d) ≡ Some limit → (new : Running) → Reaches scene new (Answers (Limit (limit_no limit)))
  limited limit makes e new = subst (λ (m : Move). Agrees w at m new (Limit (limit_no limit))) (sym (makes.moves ∙ ap (move_by (new_made (world_classes w) w.setup.program on d (taker variable c))) e)) refl

  heap_is : b.heap ≡ heap_total (places_in w).size s.objects.classes
  heap_is = scene.begins.stands.columns.objects.heap_sum

  heap_past : heap_limit < b.heap + rounded size → limit_of (places_in w).size s (asks_object d) ≡ Some L8
  heap_past past = ap (λ (x : Bool). if x then Some L8 else call_limit s) (less most_heap_bytes (heap_total (places_in w).size s.objects.classes + rounded size) (subst (λ (n : ℕ). heap_limit < n + rounded size) heap_is past))

  heap_fits : b.heap + rounded size ≤ heap_limit → limit_of (places_in w).size s (asks_object d) ≡ call_limit s
  heap_fits fits = ap (λ (x : Bool). if x then Some L8 else call_limit s) (not_below most_heap_bytes (heap_total (places_in w).size s.objects.classes + rounded size) (subst (λ (n : ℕ). n + rounded size ≤ heap_limit) heap_is fits))

  may_ask : MakesObject → b.heap + rounded size ≤ heap_limit → (old : List (Option ℕ)) → MayAsk (at_registers b old) size
  may_ask makes fits old =
      let objects = scene.begins.stands.columns.objects in
      room_within (at_registers b old) size (let some = (scene.world.sound.each d makes.known).positive in omega arith) ((scene.world.sound.each d makes.known).bounded) (objects.region_sum ∙ sym objects.heap_sum) fits

  -- the object is made

  abbrev start_of_plan : ℕ
  start_of_plan = at (routine_start w.setup (PlanCode Constructs InFull d))

  held : MakesObject → AreHeld (world_classes w) s.objects.classes (InBody (body_on f locals statement.next) ∷ below)
  held makes =
      let h = world_classes w in
      let typed = subst (λ (frames : List PathFrame). AreTypedFrames h w.setup.program s.objects.classes frames) scene.next.frames scene.next.typed.frames in
      let all = frames_held h w.setup.program s.objects.classes (InBody f ∷ below) typed in
      (record { this = all.0.this; local = λ n v there. locals_held h s.objects.classes locals body.locals makes.locals_typed n v there }, all.1)

  made_there : (makes : MakesObject) (old : List (Option ℕ)) (start : ℕ) → HasVariables w (here scene) (body_on f locals f.next) old → IsRoom b.memory start size → limit_of (places_in w).size s (asks_object d) ≡ None
      → Reaches scene (jumping (to_next scene statement.next) (made_at (fixed w) (at_registers b old) size d.0 start_of_plan (object_taken (block scene) variable d c) start)) (Answers Went)
  made_there makes old start variables room none =
      let kept = kept_for (object_taken (block scene) variable d c) 0 0 in
      let waits = frame_on b.top old (to_next scene statement.next) ∷ b.below in
      let opened = frame_at (fixed w) start_of_plan start [] kept in
      let new = jumping (to_next scene statement.next) (made_at (fixed w) (at_registers b old) size d.0 start_of_plan (object_taken (block scene) variable d c) start) in
      let after = stands_after w at s f below b (top scene) s.objects b.memory s.globals b.globals locals statement.next old (record { classes = refl; phases = refl }) refl scene.begins.stands.columns scene.begins.stands.globals
      (variables_on w (here scene) (body_on f locals f.next) statement.next old variables) in
      let target = taker variable c in
      let planned : Planned = record { object = length s.objects.classes; is_building = true; events = construction (world_classes w) (plan_bodies w.setup.program) (length s.objects.classes) d; target = target } in
      let keeps = subst (λ (o : Option TypedBody). KeepsObject w planned d o kept) (sym scene.next.there) (object_taken_kept w scene.world body variable d c) in
      let made = object_stands w at on b.memory b.objects b.heap b.notes b.globals waits b.calls scene.world after d start makes.known room target kept scene.next.typed.leaves scene.next.typed.globals (held makes) keeps in
      let stack : opened ∷ waits ≡ (opened ∷ b.opened) ++ waits = ap (λ (o : List MachineFrame). opened ∷ (o ++ waits)) (sym scene.begins.opened) in
      let behind = with_frames (with_objects on (with_made on.objects d)) (building (world_classes w) w.setup.program (length s.objects.classes) d target ∷ on.frames) in
      let stands : StandsNow w at behind new = subst (λ (frames : List MachineFrame). StateStands w at behind (open_of b.memory start size) (with_listed b.objects start size d.0) (b.heap + rounded size) b.notes b.globals frames (b.calls + 1)) stack made in
      let told : ReadAs w at (heap_of behind.objects.classes new.memory.regions) b.outs [] = subst (λ (outs : List RawOut). ReadAs w at (heap_of behind.objects.classes new.memory.regions) outs []) (sym scene.begins.silent) tt in
      subst (λ (m : Move). Agrees w at m new Went) (sym (makes.moves ∙ ap (move_by (new_made (world_classes w) w.setup.program on d target)) none)) (stands, told, refl)

  pub new_right_does : MakesObject → DoesRight scene locals variable (record { right = New d; conversion = c })
  new_right_does makes old variables =
      let code = start_of_plan in
      let result = object_taken (block scene) variable d c in
      subst (λ (checks : List Op). OpsLead (fixed w) (checks ++ (NewOp size d.0 code result ∷ Jump (to_next scene statement.next) ∷ [])) (at_registers b old) (Reaches scene)) (sym no_checks)
      (⊎_elim
      (λ (past : heap_limit < b.heap + rounded size). leads_new_full (fixed w) size d.0 code result past (limited L8 makes (heap_past past) (at_registers b old)))
      (λ (fits : b.heap + rounded size ≤ heap_limit). ⊎_elim
      (λ (few : b.calls < most_calls). leads_new (fixed w) size d.0 code result fits few (may_ask makes fits old)
      (λ start room. leads_jump (fixed w) (to_next scene statement.next) (leads_end (fixed w) (made_there makes old start variables room (heap_fits fits ∙ limit_room s b.calls scene.begins.stands.frames.calls few)))))
      (λ (full : most_calls ≤ b.calls). leads_new_deep (fixed w) size d.0 code result fits full (limited L10 makes (heap_fits fits ∙ limit_full s b.calls scene.begins.stands.frames.calls full) (at_registers b old)))
      (cases_lt b.calls most_calls))
      (cases_lt heap_limit (b.heap + rounded size)))

-- what is typed

made_known : (h : Classes) (e : Scope) (d : ClassId) (c : Conversion) (t : ValueType ClassId) → IsConverted h e (record { right = New d; conversion = c }) t → d.0 < length h
made_known h e d c t (a_right _ s _ (an_object _ known) to) = known

assigned_known : (h : Classes) (e : Scope) (variable : Variable) (d : ClassId) (c : Conversion) → IsTyped h e (Assign variable (record { right = New d; conversion = c })) → d.0 < length h
assigned_known h e variable d c (assigns _ _ t there typed) = made_known h e d c t typed

declared_known : (h : Classes) (e : Scope) (n : ℕ) (d : ClassId) (c : Conversion) → IsTyped h e (Declare n (Some (record { right = New d; conversion = c }))) → (t : ValueType ClassId) × (slice_get e.locals n ≡ Some t) × (d.0 < length h)
declared_known h e n d c (begins _ _ t there typed) = (t, there, made_known h e d c t typed)

module _ (variable : Variable) (d : ClassId) (c : Conversion) (line next : ℕ) (scene : Scene (record { kind = Assign variable (record { right = New d; conversion = c }); line = line; next = next })) where
  open scene use {w, at, s, f, below, body, b}

  abbrev assignment : TypedStatement
  assignment = record { kind = Assign variable (record { right = New d; conversion = c }); line = line; next = next }

  pub assign_new_does : LeadsBlock (fixed w) (statement_ops w.setup at (top scene).on.routine body f.next (record { kind = Assign variable (record { right = New d; conversion = c }); line = line; next = next })) b (Agrees w at (move_in w s))
  assign_new_does = assign_does variable (record { right = New d; conversion = c }) line next scene
      (new_right_does scene f.locals variable d c (record {
        locals_typed = (sees scene).locals;
        known = assigned_known (world_classes w) (scope scene) variable d c (kind_typed scene);
        moves = move_asks w s f below body assignment scene.world scene.next tt refl;
      }))

module _ (n : ℕ) (d : ClassId) (c : Conversion) (line next : ℕ) (scene : Scene (record { kind = Declare n (Some (record { right = New d; conversion = c })); line = line; next = next })) where
  open scene use {w, at, s, f, below, body, b}

  abbrev declaration : TypedStatement
  declaration = record { kind = Declare n (Some (record { right = New d; conversion = c })); line = line; next = next }

  pub declare_new_does : LeadsBlock (fixed w) (statement_ops w.setup at (top scene).on.routine body f.next (record { kind = Declare n (Some (record { right = New d; conversion = c })); line = line; next = next })) b (Agrees w at (move_in w s))
  declare_new_does =
      let k = declared_known (world_classes w) (scope scene) n d c (kind_typed scene) in
      declare_does n (record { right = New d; conversion = c }) line next scene
      (new_right_does scene (set f.locals n Unset) (Local n) d c (record {
        locals_typed = values_set (world_classes w) s.objects.classes f.locals body.locals n k.0 Unset (sees scene).locals k.1 tt;
        known = k.2;
        moves = move_asks w s f below body declaration scene.world scene.next tt refl;
      }))
