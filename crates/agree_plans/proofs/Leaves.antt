-- The last event of a heap object: the return to the body that waits for the object.
use Rattle.std.proofs.Common.{◌≡◌, ℕ, ◌+◌, ◌<◌, ◌^◌, true, false, Bool, Option, Some, None, List, [], ◌∷◌, ◌++◌, length, map, refl, ap, subst, sym, ◌∙◌, arith}
use Rattle.std.specs.Prelude.{slice_get, slice_set, if◌then◌else◌}
use Rattle.std.proofs.lemmas.List.{map-set, length-map}
use Rattle.std.proofs.lemmas.Option.{slice_get_within}
use Rattle.cxx_hierarchy.specs.declared.records.ClassId.{ClassId}
use Rattle.cxx_hierarchy.specs.declared.records.ValueType.{ValueType}
use Rattle.cxx_hierarchy.specs.declared.records.ValueType.TheVariants.{Pointer as PointerType}
use Rattle.cxx_program.specs.declared.operand.Conversion.{Conversion}
use Rattle.cxx_program.specs.declared.operand.Variable.{Variable}
use Rattle.cxx_program.specs.declared.operand.Variable.TheVariants.{Global, Local}
use Rattle.cxx_program.specs.declared.program.TypedBody.{TypedBody}
use Rattle.cxx_program.specs.Typed.{scope_of, variable_type}
use Rattle.cxx_subobject.specs.Locations.{ObjectPart}
use Rattle.path_plan.specs.Phases.{Complete, phases_after}
use Rattle.path_plan.specs.Whole.{whole_part}
use Rattle.path_plan.proofs.Same.{part_itself}
use Rattle.path_model.specs.declared.outs.Out.{Out}
use Rattle.path_model.specs.Outs.{object_class, class_or_first}
use Rattle.path_model.specs.Values.{Value, Pointer, Objects, converted_to}
use Rattle.path_model.specs.States.{ProgramState, RunningBody as Body, Planned, Target, Frame as PathFrame, InBody, with_frames, with_objects, with_local, with_local_in, assigned}
use Rattle.path_model.specs.Effects.{Goes, given_to_target}
use Rattle.path_model.specs.Steps.{objects_after, event_outs, resumed}
use Rattle.path_model.specs.Typed.{AllSettled}
use Rattle.path_model.specs.TypedStates.{IsPartMade, AreValues, FitsTarget}
use Rattle.path_model.specs.Runs.{Moves}
use Rattle.byte_memory.specs.Store.{Store}
use Rattle.byte_code.specs.declared.op.Op.TheVariants.{Return as ReturnOp}
use Rattle.byte_shadow.specs.Shadows.{Notes}
use Rattle.byte_machine.specs.declared.turn.RawOut.{RawOut}
use Rattle.byte_machine.specs.declared.turn.MachineTurn.{MachineTurn}
use Rattle.byte_machine.specs.declared.turn.MachineTurn.TheVariants.{Went}
use Rattle.byte_machine.specs.Calls.{left_calls}
use Rattle.byte_machine.specs.Frames.{MachineFrame, Kept, nothing_kept, register_of}
use Rattle.byte_machine.specs.Running.{Running, Returned}
use Rattle.byte_machine.specs.Leads.{OpsLead, HoldsOfAnswer}
use Rattle.byte_machine.proofs.Leads.{leads_end}
use Rattle.byte_machine.proofs.ReturnLeads.{leads_return, classless, untaken, taken}
use Rattle.code_blocks.specs.Blocks.{plan_return}
use Rattle.code_blocks.specs.Items.{Item, Does, event_of}
use Rattle.code_blocks.specs.Lowered.{IsEnd}
use Rattle.code_blocks.specs.declared.items.Kind.{Kind}
use Rattle.code_blocks.specs.declared.items.Kind.TheVariants.{AtDone}
use Rattle.code_ops.specs.Arguments.{block_in, free, taken_ops}
use Rattle.code_ops.specs.declared.routines.Course.{Course}
use Rattle.code_ops.specs.declared.routines.Course.TheVariants.{Constructs, Destroys, Deletes}
use Rattle.agree_parts.specs.Heaps.{Heap}
use Rattle.agree_parts.specs.Addresses.{address}
use Rattle.agree_parts.proofs.Inside.{part_positive, part_limit}
use Rattle.agree_relation.specs.Worlds.{World, IsProgramWorld, world_classes, places_in, fixed}
use Rattle.agree_relation.specs.Words.{heap_of, register_word}
use Rattle.agree_relation.specs.Goings.{Going, builds, opened_goings, events_left}
use Rattle.agree_relation.specs.Frames.{PlaceNumbers, HasVariables, KeepsObject, object_kept, body_below, Behind, StandOver}
use Rattle.agree_relation.specs.Agrees.{Agrees}
use Rattle.agree_relation.proofs.Objects.{objects_laid}
use Rattle.agree_statements.specs.Registers.{Wrote, body_on}
use Rattle.agree_statements.specs.Statements.{AreSeen}
use Rattle.agree_statements.proofs.Registers.{set_here, wrote_set, variables_kept}
use Rattle.agree_statements.proofs.Scenes.{values_count}
use Rattle.agree_statements.proofs.Taken.{variables_set}
use Rattle.agree_statements.proofs.Tops.{body_on_top}
use Rattle.agree_calls.proofs.Below.{caller_variables}
use Rattle.agree_calls.proofs.Endings.{leads_nothing}
use Rattle.agree_calls.proofs.Showing.{shows_views}
use Rattle.agree_calls.proofs.TakenResults.{HasPlace, variable_set, leads_taken}
use Rattle.agree_events.specs.Events.{IsAfter, now}
use Rattle.agree_events.specs.Turns.{IsPlanTurn, ReturnsFromPlan}
use Rattle.agree_events.proofs.Returns.{result_stays}
use Rattle.agree_plans.proofs.Finished.{heap_same, planned_now, waits_on}
use Rattle.agree_plans.proofs.Last.{last_is_done, none_before}
use Rattle.agree_plans.proofs.Waiting.{Waits, locals_count, has_free}
use Rattle.agree_plans.proofs.Wholes.{whole_converts}

-- a body on top stays there where a variable takes a value, and so do the objects
assigned_frames : (s : ProgramState) (g : Body) (below : List PathFrame) (x : Variable) (v : Value) → s.frames ≡ InBody g ∷ below → (g' : Body) × ((assigned s x v).frames ≡ InBody g' ∷ below)
assigned_frames s g below (Global n) v is = (g, is)
assigned_frames s g below (Local n) v is = (with_local g n v, ap (λ (fs : List PathFrame). with_local_in fs n v) is)

assigned_objects : (s : ProgramState) (x : Variable) (v : Value) → (assigned s x v).objects ≡ s.objects
assigned_objects s (Global n) v = refl
assigned_objects s (Local n) v = refl

-- what is known where the plan of a heap object goes on, and who waits for the object
pub record IsLeaving (w : World) (at : PlaceNumbers) (s : ProgramState) (p : Planned) (path : List PathFrame) (f : Going) (k : Kind) (left : List Item) (others lower : List Going) (r : Running) (s' : ProgramState) (told : List Out) : Type 0 where
  pub plan : IsPlanTurn w at s p path f k left others lower r s' told
  pub ends : IsEnd w.setup f.course f.form f.class (Does k ∷ left)
  pub waits : Waits w s p path
  pub globals : AreValues (world_classes w) s.objects.classes s.globals w.setup.program.globals
  pub silent : p.is_building ≡ false → p.target ≡ None
  pub settled : (g : Body) (below : List PathFrame) → s'.frames ≡ InBody g ∷ below → AllSettled (world_classes w) s'.objects
  pub seen : (g : Body) (below : List PathFrame) → s'.frames ≡ InBody g ∷ below → AreSeen (world_classes w) s'.objects

module _ (w : World) (at : PlaceNumbers) (world : IsProgramWorld w) (s : ProgramState) (p : Planned) (path : List PathFrame) (f : Going) (k : Kind) (left : List Item) (others lower : List Going) (r : Running) (s' : ProgramState) (told : List Out) (leaving : IsLeaving w at s p path f k left others lower r s' told)
    (registers : List (Option ℕ)) (memory : Store) (notes : Notes) (outs : List RawOut) (happened : IsAfter w at (objects_after w.setup.program s.objects (event_of k f.part)) r (event_outs s.objects (event_of k f.part)) memory notes outs) where
  open leaving use {plan, waits}

  abbrev caller : Body
  caller = waits.caller

  abbrev g : Heap
  g = heap_of s.objects.classes memory.regions

  abbrev r1 : Running
  r1 = now r registers memory notes outs

  abbrev x1 : Objects
  x1 = objects_after w.setup.program s.objects (event_of k f.part)

  abbrev gs : List Going
  gs = opened_goings w f left (others ++ lower)

  abbrev told_here : List Out
  told_here = event_outs s.objects (event_of k f.part)

  abbrev Q : Running → MachineTurn → Type 0
  Q = Agrees w at (Moves s' told)

  -- the state behind the plan, when a target takes the pointer
  abbrev given_to : Value → Option Target → ProgramState
  given_to v target = given_to_target (with_frames (with_objects s x1) path) v target

  -- the frame below, before it takes anything
  record Under (class : ClassId) (under : MachineFrame) (rest : List MachineFrame) : Type 0 where
    below_is : r.below ≡ under ∷ rest
    stand : StandOver w at g None (InBody caller ∷ waits.below) gs (under ∷ rest)
    called : r.top.is_call ≡ true
    again : r.top.again ≡ 0
    class_is : slice_get s.objects.classes p.object ≡ Some class
    part_is : f.part ≡ whole_part p.object class
    this : register_of registers 0 ≡ Some (address (world_classes w) (places_in w) g f.part)
    kept : r.top.kept ≡ object_kept w waits.body class p.target
    state_is : given_to (Pointer (whole_part p.object class)) p.target ≡ s'
    told_is : told_here ≡ told

  module _ (class : ClassId) (under : MachineFrame) (rest : List MachineFrame) (a : Under class under rest) where
    abbrev v : Value
    v = Pointer (whole_part p.object class)

    -- its variables
    variables : HasVariables w g caller under.registers
    variables = caller_variables w at g caller waits.below gs under rest a.stand

    -- the same after the return
    abbrev left_to : MachineFrame → Running
    left_to b = record r1 { top = b; below = rest; calls = left_calls r1 }

    globals_now : r.globals ≡ map (register_word w g) s.globals
    globals_now = plan.turn.globals ∙ ap (λ (h : Heap). map (register_word w h) s.globals) (sym (heap_same w at world s p path f k left others lower r plan.turn registers memory notes outs happened))

    -- the frame below goes on
    waits_here : (globals : List Value) (words : List (Option ℕ)) (locals : List Value) (new : List (Option ℕ)) → words ≡ map (register_word w g) globals → HasVariables w g (body_on caller locals caller.next) new
        → Agrees w at (Moves (record { objects = x1; globals = globals; frames = InBody (body_on caller locals caller.next) ∷ waits.below }) told_here) (record (left_to (record under { registers = new })) { globals = words }) Went
    waits_here globals words locals new has there = waits_on w at world s p path f k left others lower r plan.turn registers memory notes outs happened caller waits.below under rest waits.is a.called a.stand globals words locals new has there

    -- the same of the state that is told
    reaches : (target : Option Target) (x : ProgramState) (new : Running) → p.target ≡ target → given_to v target ≡ x → Agrees w at (Moves x told_here) new Went → Q new Went
    reaches target x new target_is same agrees =
        let state : x ≡ s' = sym same ∙ (ap (given_to v) (sym target_is) ∙ a.state_is) in
        subst (λ (y : ProgramState). Agrees w at (Moves y told) new Went) state (subst (λ (o : List Out). Agrees w at (Moves x o) new Went) a.told_is agrees)

    -- nobody takes the pointer
    untold : p.target ≡ None → Q (left_to under) Went
    untold none = reaches None (record { objects = x1; globals = s.globals; frames = InBody caller ∷ waits.below }) (left_to under) none
        (ap (λ (fs : List PathFrame). record { objects = x1; globals = s.globals; frames = fs }) waits.is) (waits_here s.globals r.globals caller.locals under.registers globals_now variables)

    kept_none : p.target ≡ None → r.top.kept ≡ nothing_kept
    kept_none none = a.kept ∙ ap (object_kept w waits.body class) none

    -- the end of a destruction
    leads_gone : p.target ≡ None → OpsLead (fixed w) (ReturnOp None None ∷ []) r1 (HoldsOfAnswer (fixed w) Q)
    leads_gone none =
        leads_nothing (fixed w) r1 (HoldsOfAnswer (fixed w) Q) under rest plan.turn.opened a.again a.below_is (ap (λ (kept : Kept). kept.to) (kept_none none))
        (subst (λ (kept : Kept). HoldsOfAnswer (fixed w) Q (left_to under) (Returned kept.finish)) (sym (kept_none none)) (leads_end (fixed w) (untold none)))

    -- the new object
    made : IsPartMade (world_classes w) s.objects.classes (whole_part p.object class) class
    made =
        let going = plan.turn.planned.going.0 in
        let there = subst (λ q. IsPartMade (world_classes w) s.objects.classes q f.class) a.part_is going.made in
        let same : Some class ≡ Some f.class = there.of_class in
        let one : f.class ≡ class = cc (same) in
        subst (λ c. IsPartMade (world_classes w) s.objects.classes (whole_part p.object class) c) one there

    abbrev place : ℕ
    place = address (world_classes w) (places_in w) g (whole_part p.object class)

    this_is : register_of registers 0 ≡ Some place
    this_is = a.this ∙ ap (λ q. Some (address (world_classes w) (places_in w) g q)) a.part_is

    positive : place ≡ 0 → ⊥
    positive e = let laid = objects_laid w x1 memory.regions r.objects r.heap world happened.columns.objects in let some = part_positive (world_classes w) w.setup.rows g (whole_part p.object class) class laid made in omega (arith, some, e)

    low : place < 2 ^ 41
    low = let laid = objects_laid w x1 memory.regions r.objects r.heap world happened.columns.objects in part_limit (world_classes w) w.setup.rows g (whole_part p.object class) class laid made

    -- a `new` whose pointer nobody takes
    leads_untaken : p.target ≡ None → OpsLead (fixed w) (ReturnOp (Some 0) None ∷ []) r1 (HoldsOfAnswer (fixed w) Q)
    leads_untaken none =
        leads_return (fixed w) {s = r1} (Some 0) None (Some place) (Some place) under under rest
        (record { opened = plan.turn.opened; last = a.again; operand_is = this_is }) (classless refl)
        (record {
          moved_is = result_stays w r1 place positive low (ap (λ (kept : Kept). kept.vbase) (kept_none none)) (ap (λ (kept : Kept). kept.add) (kept_none none));
          below_is = a.below_is;
          taker_is = untaken (Some place) r.top.kept.to under (ap (λ (kept : Kept). kept.to) (kept_none none));
        })
        (subst (λ (kept : Kept). HoldsOfAnswer (fixed w) Q (left_to under) (Returned kept.finish)) (sym (kept_none none)) (leads_end (fixed w) (untold none)))

    -- the registers that take the pointer and its conversion
    abbrev taker : ℕ
    taker = free (block_in w.setup waits.body) 2

    abbrev converter : ℕ
    converter = free (block_in w.setup waits.body) 3

    abbrev words : List (Option ℕ)
    words = slice_set under.registers taker (Some place)

    abbrev taking : MachineFrame
    taking = record under { registers = words }

    has_room : (n : ℕ) → n < 7 → free (block_in w.setup waits.body) n < length under.registers
    has_room n few = has_free w at world x1 memory r.objects r.heap notes happened.columns caller waits.below waits.body gs under rest a.stand (planned_now w at world s p path f k left others lower r plan.turn registers memory notes outs happened).going waits.there variables n few

    count : length caller.locals ≡ length waits.body.locals
    count = locals_count w s p path waits

    -- the variables are kept
    kept_variables : (new : List (Option ℕ)) → Wrote converter words new → HasVariables w g caller new
    kept_variables new wrote =
        let same = count in
        let first = variables_kept w g caller taker under.registers words (omega (arith, same)) variables (wrote_set r1 under.registers taker (Some place)) in
        variables_kept w g caller converter words new (omega (arith, same)) first wrote

    -- a variable takes the pointer
    placed : (variable : Variable) (c : Conversion) (u : ValueType ClassId) → variable_type (scope_of (world_classes w) w.setup.program.globals waits.body) variable ≡ Some u → p.target ≡ Some (record { variable = variable; conversion = c }) → (new : List (Option ℕ)) → Wrote converter words new
        → register_of new converter ≡ register_word w g (converted_to v c) → HasPlace (left_to taking) new variable × Q (variable_set (left_to taking) new variable (register_of new converter)) Went
    placed (Global n) c u there is new wrote has =
        let known = values_count (world_classes w) s.objects.classes s.globals w.setup.program.globals leaving.globals in
        let within = slice_get_within w.setup.program.globals n u there in
        let size : length r.globals ≡ length s.globals = ap length globals_now ∙ length-map s.globals (register_word w g) in
        let set_words : slice_set r.globals n (register_of new converter) ≡ map (register_word w g) (slice_set s.globals n (converted_to v c)) =
        ap (λ (x : Option ℕ). slice_set r.globals n x) has ∙ ap (λ (ws : List (Option ℕ)). slice_set ws n (register_word w g (converted_to v c))) globals_now ∙ sym (map-set (register_word w g) s.globals n (converted_to v c)) in (
          omega (arith, size, known, within),
          reaches (Some (record { variable = Global n; conversion = c })) (record { objects = x1; globals = slice_set s.globals n (converted_to v c); frames = InBody caller ∷ waits.below }) (variable_set (left_to taking) new (Global n) (register_of new converter)) is
              (ap (λ (fs : List PathFrame). record { objects = x1; globals = slice_set s.globals n (converted_to v c); frames = fs }) waits.is)
              (waits_here (slice_set s.globals n (converted_to v c)) (slice_set r.globals n (register_of new converter)) caller.locals new set_words (kept_variables new wrote)),
        )
    placed (Local n) c u there is new wrote has =
        let within = slice_get_within waits.body.locals n u there in
        let same = count in
        let size = wrote.size ∙ (wrote_set r1 under.registers taker (Some place)).size in
        let room = has_room 2 (omega arith) in
        let inside : n + 1 < length new = omega (arith, size, room, within) in
        let set_variables = variables_set w g caller (left_to taking) caller.locals caller.next caller.next n (converted_to v c) new (kept_variables new wrote) (omega (arith, within, same)) inside in (
          inside,
          reaches (Some (record { variable = Local n; conversion = c })) (record { objects = x1; globals = s.globals; frames = InBody (body_on caller (slice_set caller.locals n (converted_to v c)) caller.next) ∷ waits.below }) (variable_set (left_to taking) new (Local n) (register_of new converter)) is
              (ap (λ (fs : List PathFrame). record { objects = x1; globals = s.globals; frames = with_local_in fs n (converted_to v c) }) waits.is)
              (waits_here s.globals r.globals (slice_set caller.locals n (converted_to v c)) (slice_set new (n + 1) (register_of new converter)) globals_now
              (subst (λ (x : Option ℕ). HasVariables w g (body_on caller (slice_set caller.locals n (converted_to v c)) caller.next) (slice_set new (n + 1) x)) (sym has) set_variables)),
        )

    -- the state behind the plan, with a body on top
    module _ (target : Target) (target_is : p.target ≡ Some target) where
      abbrev behind : ProgramState
      behind = assigned (with_frames (with_objects s x1) path) target.variable (converted_to v target.conversion)

      behind_is : behind ≡ s'
      behind_is = ap (given_to v) (sym target_is) ∙ a.state_is

      behind_objects : s'.objects ≡ x1
      behind_objects = ap (λ (x : ProgramState). x.objects) (sym behind_is) ∙ assigned_objects (with_frames (with_objects s x1) path) target.variable (converted_to v target.conversion)

      settled_now : AllSettled (world_classes w) x1
      settled_now =
          let top = assigned_frames (with_frames (with_objects s x1) path) caller waits.below target.variable (converted_to v target.conversion) waits.is in
          subst (λ (x : Objects). AllSettled (world_classes w) x) behind_objects (leaving.settled top.0 waits.below (ap (λ (x : ProgramState). x.frames) (sym behind_is) ∙ top.1))

      seen_now : AreSeen (world_classes w) x1
      seen_now =
          let top = assigned_frames (with_frames (with_objects s x1) path) caller waits.below target.variable (converted_to v target.conversion) waits.is in
          subst (λ (x : Objects). AreSeen (world_classes w) x) behind_objects (leaving.seen top.0 waits.below (ap (λ (x : ProgramState). x.frames) (sym behind_is) ∙ top.1))

      fits_target : FitsTarget (world_classes w) w.setup.program.globals waits.body (PointerType class) (Some target)
      fits_target =
          let same : Some waits.fits.class ≡ Some class = sym waits.fits.made ∙ a.class_is in
          let one : waits.fits.class ≡ class = cc (same) in
          subst (λ (o : Option Target). FitsTarget (world_classes w) w.setup.program.globals waits.body (PointerType class) o) target_is
          (subst (λ (c : ClassId). FitsTarget (world_classes w) w.setup.program.globals waits.body (PointerType c) p.target) one waits.fits.fits)

      -- the whole is complete
      complete_now : k ≡ AtDone → x1.phases.phase (whole_part p.object class) ≡ Complete
      complete_now done =
          ap (λ (q : ObjectPart). (phases_after s.objects.phases (event_of k f.part)).phase q) (sym a.part_is)
          ∙ (ap (λ (j : Kind). (phases_after s.objects.phases (event_of j f.part)).phase f.part) done ∙ ap (λ (b : Bool). if b then Complete else s.objects.phases.phase f.part) (part_itself f.part))

      open_now : k ≡ AtDone → x1.is_closed p.object ≡ false
      open_now done =
          ap (λ (j : Kind). (objects_after w.setup.program s.objects (event_of j f.part)).is_closed p.object) done ∙ (ap (λ (q : ObjectPart). s.objects.is_closed q.object) (sym a.part_is) ∙ plan.turn.is_open)

      kept_some : r.top.kept ≡ object_kept w waits.body class (Some target)
      kept_some = a.kept ∙ ap (object_kept w waits.body class) target_is

      leads_placed : k ≡ AtDone → HoldsOfAnswer (fixed w) Q (left_to taking) (Returned (taken_ops (block_in w.setup waits.body) target.variable (Some class) target.conversion converter taker))
      leads_placed done =
          let shows = shows_views w x1 gs (left_to taking) world happened.columns (planned_now w at world s p path f k left others lower r plan.turn registers memory notes outs happened) settled_now seen_now in
          let room = has_room 3 (omega arith) in
          let size = (wrote_set r1 under.registers taker (Some place)).size in
          leads_taken w x1 (left_to taking) _ world happened.columns shows (block_in w.setup waits.body) target.variable (PointerType class) fits_target.0 target.conversion converter taker v words refl fits_target.2 made
          (set_here r1 under.registers taker (Some place) (has_room 2 (omega arith))) (omega (arith, size, room)) (open_now done)
          (whole_converts (world_classes w) world.hierarchy x1 p.object class settled_now a.class_is (complete_now done) target.conversion)
          (λ new wrote has. placed target.variable target.conversion fits_target.0 fits_target.1 target_is new wrote has)

      leads_given : k ≡ AtDone → OpsLead (fixed w) (ReturnOp (Some 0) None ∷ []) r1 (HoldsOfAnswer (fixed w) Q)
      leads_given done =
          leads_return (fixed w) {s = r1} (Some 0) None (Some place) (Some place) under taking rest
          (record { opened = plan.turn.opened; last = a.again; operand_is = this_is }) (classless refl)
          (record {
            moved_is = result_stays w r1 place positive low (ap (λ (kept : Kept). kept.vbase) kept_some) (ap (λ (kept : Kept). kept.add) kept_some);
            below_is = a.below_is;
            taker_is = taken (Some place) r.top.kept.to taker under (ap (λ (kept : Kept). kept.to) kept_some) (has_room 2 (omega arith));
          })
          (subst (λ (kept : Kept). HoldsOfAnswer (fixed w) Q (left_to taking) (Returned kept.finish)) (sym kept_some) (leads_placed done))

    leads_new : k ≡ AtDone → (target : Option Target) → p.target ≡ target → OpsLead (fixed w) (ReturnOp (Some 0) None ∷ []) r1 (HoldsOfAnswer (fixed w) Q)
    leads_new done None is = leads_untaken is
    leads_new done (Some target) is = leads_given target is done

    -- by the course of the plan
    leads_back : left ≡ [] → OpsLead (fixed w) (plan_return f.course ∷ []) r1 (HoldsOfAnswer (fixed w) Q)
    leads_back last = by f.course refl
      where
        done : f.course ≡ Constructs → k ≡ AtDone
        done is = last_is_done w.setup f.form f.class k (subst (λ (xs : List Item). IsEnd w.setup Constructs f.form f.class (Does k ∷ xs)) last (subst (λ (course : Course). IsEnd w.setup course f.form f.class (Does k ∷ left)) is leaving.ends))

        by : (course : Course) → f.course ≡ course → OpsLead (fixed w) (plan_return course ∷ []) r1 (HoldsOfAnswer (fixed w) Q)
        by Constructs is = leads_new (done is) p.target refl
        by Destroys is = leads_gone (leaving.silent (sym plan.turn.course ∙ ap builds is))
        by Deletes is = leads_gone (leaving.silent (sym plan.turn.course ∙ ap builds is))

  -- the frame below, from the frames that stand
  under_of : (class : ClassId) (stack : List MachineFrame) → r.below ≡ stack → StandOver w at g None (InBody caller ∷ waits.below) gs stack → ((under : MachineFrame) (rest : List MachineFrame) → r.below ≡ under ∷ rest → StandOver w at g None (InBody caller ∷ waits.below) gs (under ∷ rest) → OpsLead (fixed w) (plan_return f.course ∷ []) r1 (HoldsOfAnswer (fixed w) Q))
      → OpsLead (fixed w) (plan_return f.course ∷ []) r1 (HoldsOfAnswer (fixed w) Q)
  under_of class [] is stand go = absurd (let on = body_on_top w at g caller waits.below gs [] stand in let none : [] ≡ on.frame ∷ on.rest = on.is in cc (none))
  under_of class (under ∷ rest) is stand go = go under rest is stand

  pub leaves_stand : ReturnsFromPlan w at (heap_of s.objects.classes r.memory.regions) p path (Behind lower (StandOver w at (heap_of s.objects.classes r.memory.regions) None path)) f left (others ++ lower) (now r registers memory notes outs) (Agrees w at (Moves s' told))
  leaves_stand last frame outer behind =
      let same = heap_same w at world s p path f k left others lower r plan.turn registers memory notes outs happened in
      let none : others ≡ [] = none_before others lower behind.0 in
      let gs_are : gs ≡ others ++ lower = ap (λ (xs : List Item). opened_goings w f xs (others ++ lower)) last in
      let stand : StandOver w at g None path gs r.below = subst (λ (l : List Going). StandOver w at g None path l r.below) (sym gs_are) (subst (λ (h : Heap). StandOver w at h None path (others ++ lower) r.below) (sym same) behind.1) in
      let in_body : StandOver w at g None (InBody caller ∷ waits.below) gs r.below = subst (λ (fs : List PathFrame). StandOver w at g None fs gs r.below) waits.is stand in
      let events : events_left w (opened_goings w f left others) ≡ [] = ap (λ (xs : List Item). events_left w (opened_goings w f xs others)) last ∙ ap (events_left w) none in
      let class_is : object_class x1 p.object ≡ outer.class = ap class_or_first outer.made in
      let ended : resumed w.setup.program (with_objects s x1) p path told_here [] ≡ Goes s' told = ap (resumed w.setup.program (with_objects s x1) p path told_here) (sym events) ∙ plan.next in
      let by_class : Goes (given_to (Pointer (whole_part p.object outer.class)) p.target) told_here ≡ Goes s' told = ap (λ (c : ClassId). Goes (given_to (Pointer (whole_part p.object c)) p.target) told_here) (sym class_is) ∙ ended in
      let below_body : body_below w path ≡ Some waits.body = ap (body_below w) waits.is ∙ waits.there in
      under_of outer.class r.below refl in_body
      (λ under rest is stands. leads_back outer.class under rest
      (record {
        below_is = is;
        stand = stands;
        called = outer.is_call;
        again = outer.again;
        class_is = outer.made;
        part_is = outer.part;
        this = frame.this ∙ ap (λ (h : Heap). Some (address (world_classes w) (places_in w) h f.part)) (sym same);
        kept = subst (λ (o : Option TypedBody). KeepsObject w p outer.class o r.top.kept) below_body outer.keeps;
        state_is = cc (by_class);
        told_is = cc (by_class);
      }) last)
