-- A call in a scene: what is known of it, and where it ends when the frame of its function is open.
use Rattle.agree_calls.proofs.Callees.{HasCode}
use Rattle.agree_calls.proofs.Arguments.{AreConverted, passed_words}
use Rattle.agree_calls.proofs.Entered.{callee_keeps}
use Rattle.agree_calls.proofs.Opened.{called_stands, limit_full, limit_room}
use Rattle.agree_calls.proofs.Showing.{shows_views}
use Rattle.agree_calls.specs.Shown.{ShowsViews}
use Rattle.agree_dispatch.specs.Results.{RunsFor}
use Rattle.code_blocks.specs.Blocks.{AtStatement}
use Rattle.code_blocks.specs.Lowered.{argument_count}
use Rattle.code_ops.specs.Arguments.{arguments_registers}
use Rattle.code_ops.specs.Setups.{FunctionCode}
use Rattle.agree_parts.specs.Addresses.{address}
use Rattle.abi_slots.specs.Groups.{return_for}
use Rattle.abi_slots.specs.Images.{return_constant, return_vbase}
use Rattle.agree_relation.specs.Agrees.{Agrees, ReadAs, StandsNow}
use Rattle.agree_relation.specs.Frames.{HasVariables, PlaceNumbers, call_kept}
use Rattle.agree_relation.specs.Stands.{StateStands}
use Rattle.agree_relation.specs.Worlds.{world_classes, fixed, places_in}
use Rattle.agree_statements.proofs.After.{stands_after, state_on}
use Rattle.agree_statements.proofs.Finish.{Reaches, to_next}
use Rattle.agree_statements.proofs.Moves.{move_in}
use Rattle.agree_statements.proofs.Scenes.{Scene, block, here, registers_enough, scope, top}
use Rattle.agree_statements.proofs.Told.{part_lies}
use Rattle.agree_statements.specs.Registers.{at_registers, body_on, frame_on}
use Rattle.byte_code.specs.Numbers.{word_of}
use Rattle.byte_code.specs.declared.op.Op.TheVariants.{Jump, Trace}
use Rattle.byte_code.specs.declared.op.ResultUse.{ResultUse}
use Rattle.byte_code.specs.declared.op.TraceKind.TheVariants.{Call as TraceCall}
use Rattle.byte_machine.proofs.ControlLeads.{leads_jump, leads_trace_call}
use Rattle.byte_machine.proofs.Leads.{leads_end}
use Rattle.byte_machine.specs.Calls.{calling, frame_at, kept_for, most_calls, register_words}
use Rattle.byte_machine.specs.Effects.{jumping}
use Rattle.byte_machine.specs.Frames.{MachineFrame}
use Rattle.byte_machine.specs.Leads.{OpsLead}
use Rattle.byte_machine.specs.Running.{Answers, Running}
use Rattle.byte_machine.specs.declared.turn.MachineTurn.TheVariants.{Limit, Went}
use Rattle.byte_machine.specs.declared.turn.RawOut.{RawOut}
use Rattle.byte_machine.specs.declared.turn.RawOut.TheVariants.{Call as RawCall}
use Rattle.cxx_hierarchy.specs.declared.records.ClassId.{ClassId}
use Rattle.cxx_hierarchy.specs.declared.records.Function.{Function as FunctionRecord}
use Rattle.cxx_hierarchy.specs.declared.stop.LimitNo.TheVariants.{L10}
use Rattle.cxx_overrider.specs.Functions.{return_of, pointee}
use Rattle.cxx_overrider.specs.declared.FunctionId.{FunctionId}
use Rattle.cxx_program.specs.Typed.{IsCall}
use Rattle.cxx_program.specs.declared.program.Owner.TheVariants.{Function}
use Rattle.cxx_program.specs.declared.statement.TypedCall.{TypedCall}
use Rattle.cxx_program.specs.declared.statement.TypedStatement.{TypedStatement}
use Rattle.cxx_subobject.specs.Locations.{ObjectPart}
use Rattle.path_model.proofs.TypedBodies.{body_typed}
use Rattle.path_model.proofs.TypedValues.{IsTypedSight}
use Rattle.path_model.specs.Effects.{body_entered, called, called_at, function_entered, result_conversion, runs}
use Rattle.path_model.specs.Order.{asked_call, first_broken, sorted}
use Rattle.path_model.specs.Outs.{location_of}
use Rattle.path_model.specs.Runs.{IsLimited, IsRefused, Move, Moves, call_limit, move_by}
use Rattle.path_model.specs.States.{InBody, ProgramState, Target, entered_body, sight, with_frames}
use Rattle.path_model.specs.TypedStates.{IsPartMade}
use Rattle.path_model.specs.Uses.{receiver_value}
use Rattle.path_model.specs.Values.{Pointer, Sight, Value, argument_value}
use Rattle.path_model.specs.declared.outs.Out.TheVariants.{Call as CallOut}
use Rattle.path_rules.specs.declared.Undefined.{Undefined}
use Rattle.std.proofs.Common.{◌≡◌, ℕ, ◌+◌, ◌<◌, ◌≤◌, Option, Some, None, List, [], ◌∷◌, ◌++◌, length, map, refl, ap, sym, subst, ◌∙◌, arith}
use Rattle.std.proofs.lemmas.List.{length-map}

module _ {statement : TypedStatement} (scene : Scene statement) (locals : List Value) where
  open scene use {w, at, s, f, below, body, b}

  -- what the call sees, and the state behind its statement
  abbrev pub see : Sight
  see = sight s (body_on f locals f.next)

  abbrev pub behind : ProgramState
  behind = state_on s s.objects s.globals (body_on f locals statement.next) below

  -- virtual pointers in memory show the views
  pub shows : ShowsViews w s.objects b.memory
  shows = shows_views w s.objects (top scene).goings b scene.world scene.begins.stands.columns (top scene).planned scene.next.settled scene.next.seen

module _ {statement : TypedStatement} (scene : Scene statement) (locals : List Value) (call : TypedCall) (target : Option Target) (result : ResultUse) where
  open scene use {w, at, s, f, below, body, b}

  -- the arguments
  abbrev pub values : List Value
  values = map (argument_value (see scene locals)) call.arguments

  -- what is known of the call: the locals are those that it sees, and its return does what the subobject machine says
  pub record Calling : Type 0 where
    pub count : length locals ≡ length body.locals
    pub sees : IsTypedSight (world_classes w) (scope scene) (see scene locals)
    pub declared : FunctionRecord ClassId
    pub typed : IsCall (world_classes w) (scope scene) call declared
    pub arguments : argument_count statement.kind ≡ length call.arguments
    pub kept : (n : FunctionId) → RunsFor (world_classes w) n call.function
        → kept_for result (word_of (return_vbase (return_for (world_classes w) (places_in w) n call.function))) (word_of (return_constant (return_for (world_classes w) (places_in w) n call.function)))
        ≡ call_kept w body (pointee (return_of (world_classes w) n)) (result_conversion (world_classes w) (return_of (world_classes w) n) (return_of (world_classes w) call.function)) target
    pub refused : (rule : Undefined) → first_broken (world_classes w) s.objects (sorted (asked_call (see scene locals) call)) ≡ Some rule → move_in w s ≡ IsRefused rule statement.line
    pub fine : first_broken (world_classes w) s.objects (sorted (asked_call (see scene locals) call)) ≡ None
        → move_in w s ≡ move_by (called (world_classes w) w.setup.program (see scene locals) (behind scene locals) call target) (call_limit s)

  -- the function that runs, its `this`, and its body
  pub record IsEntered (q : ObjectPart) : Type 0 where
    pub part : ObjectPart
    pub function : FunctionId
    pub runs_is : runs (world_classes w) s.objects call q ≡ Some (part, function)
    pub runs_for : RunsFor (world_classes w) function call.function
    pub made : IsPartMade (world_classes w) s.objects.classes part function.class
    pub code : HasCode w.setup.program function

  module _ (take : Calling) (q : ObjectPart) (receiver_is : receiver_value (see scene locals) call ≡ Pointer q) (enter : IsEntered q) (clear : first_broken (world_classes w) s.objects (sorted (asked_call (see scene locals) call)) ≡ None) where
    abbrev n : FunctionId
    n = enter.function

    abbrev p : ObjectPart
    p = enter.part

    abbrev entering : ProgramState
    entering = with_frames (behind scene locals) (InBody (entered_body enter.code.body (Pointer enter.part) values (result_conversion (world_classes w) (return_of (world_classes w) enter.function) (return_of (world_classes w) call.function)) target) ∷ (behind scene locals).frames)

    called_is : called (world_classes w) w.setup.program (see scene locals) (behind scene locals) call target ≡ body_entered (world_classes w) (behind scene locals) values call target (enter.part, enter.function) (Some enter.code.body)
    called_is =
        ap (called_at (world_classes w) w.setup.program (behind scene locals) values call target) receiver_is
        ∙ ap (function_entered (world_classes w) w.setup.program (behind scene locals) values call target) enter.runs_is
        ∙ ap (body_entered (world_classes w) (behind scene locals) values call target (p, n)) enter.code.there

    move_is : move_in w s ≡ move_by (body_entered (world_classes w) (behind scene locals) values call target (enter.part, enter.function) (Some enter.code.body)) (call_limit s)
    move_is = take.fine clear ∙ ap (λ x. move_by x (call_limit s)) called_is

    -- as many are open as may be
    pub is_full : (new : Running) → most_calls ≤ b.calls → Reaches scene new (Answers (Limit 10))
    is_full new full =
        let limited : move_in w s ≡ IsLimited L10 = move_is ∙ ap (move_by (body_entered (world_classes w) (behind scene locals) values call target (p, n) (Some enter.code.body))) (limit_full s b.calls scene.begins.stands.frames.calls full) in
        subst (λ (m : Move). Agrees w at m new (Limit 10)) (sym limited) refl

    abbrev pub opened_frame : PlaceNumbers → List (Option ℕ) → MachineFrame
    opened_frame numbers words = frame_at (fixed w) (numbers (AtStatement (FunctionCode enter.function) 0)) (address (world_classes w) (places_in w) (here scene) enter.part) (register_words (at_registers b words) (arguments_registers (block scene) 0 call.arguments))
        (kept_for result (word_of (return_vbase (return_for (world_classes w) (places_in w) enter.function call.function))) (word_of (return_constant (return_for (world_classes w) (places_in w) enter.function call.function))))

    entering_stands : (words : List (Option ℕ)) → HasVariables w (here scene) (body_on f locals statement.next) words → AreConverted w s.objects b (Reaches scene) scene.world scene.begins.stands.columns (shows scene locals) body (see scene locals) refl take.sees 0 call.arguments words
        → StateStands w at entering b.memory b.objects b.heap b.notes b.globals (opened_frame at words ∷ frame_on b.top words (to_next scene statement.next) ∷ b.below) (b.calls + 1)
    entering_stands words variables converted =
        let h = world_classes w in
        let here_stands = stands_after w at s f below b (top scene) s.objects b.memory s.globals b.globals locals statement.next words (record { classes = refl; phases = refl }) refl scene.begins.stands.columns scene.begins.stands.globals variables in
        let owner = (body_typed h w.setup.program scene.world.typed (Function n) enter.code.body enter.code.there).0 in
        let conversion = result_conversion h (return_of h n) (return_of h call.function) in
        let kept = kept_for result (word_of (return_vbase (return_for h (places_in w) n call.function))) (word_of (return_constant (return_for h (places_in w) n call.function))) in
        let enough = registers_enough scene in
        let as_many = take.arguments in
        let count : length values ≡ length call.arguments = length-map call.arguments (argument_value (see scene locals)) in
        called_stands w at (behind scene locals) b.memory b.objects b.heap b.notes b.globals (frame_on b.top words (to_next scene statement.next) ∷ b.below) b.calls n enter.code.body p values (register_words (at_registers b words) (arguments_registers (block scene) 0 call.arguments)) conversion target kept
        here_stands owner (passed_words w s.objects b (Reaches scene) scene.world scene.begins.stands.columns (shows scene locals) body (see scene locals) refl take.sees 0 call.arguments words converted) (omega (arith, enough, as_many, count))
        (callee_keeps w at (here scene) n enter.code.body body p values conversion target kept (body_on f locals statement.next) below owner scene.next.there (take.kept n enter.runs_for))

    entering_agrees : (words : List (Option ℕ)) → b.calls < most_calls → HasVariables w (here scene) (body_on f locals statement.next) words → AreConverted w s.objects b (Reaches scene) scene.world scene.begins.stands.columns (shows scene locals) body (see scene locals) refl take.sees 0 call.arguments words
        → OpsLead (fixed w) (Trace TraceCall ∷ Jump (to_next scene statement.next) ∷ []) (calling (opened_frame at words) (at_registers b words)) (Reaches scene)
    entering_agrees words room variables converted =
        let frame = opened_frame at words in
        let this = address (world_classes w) (places_in w) (here scene) p in
        let out = RawCall (at (AtStatement (FunctionCode n) 0)) this in
        let last = jumping (to_next scene statement.next) (record (calling frame (at_registers b words)) { outs = b.outs ++ out ∷ [] }) in
        let waits = frame_on b.top words (to_next scene statement.next) ∷ b.below in
        let moves : move_in w s ≡ Moves entering (CallOut n (location_of s.objects p) ∷ []) = move_is ∙ ap (move_by (body_entered (world_classes w) (behind scene locals) values call target (p, n) (Some enter.code.body))) (limit_room s b.calls scene.begins.stands.frames.calls room) in
        let stack : frame ∷ waits ≡ frame ∷ (b.opened ++ waits) = ap (λ (o : List MachineFrame). frame ∷ (o ++ waits)) (sym scene.begins.opened) in
        let now : StandsNow w at entering last = subst (λ (bs : List MachineFrame). StateStands w at entering b.memory b.objects b.heap b.notes b.globals bs (b.calls + 1)) stack (entering_stands words variables converted) in
        let told : ReadAs w at (here scene) (b.outs ++ out ∷ []) (CallOut n (location_of s.objects p) ∷ []) = subst (λ (o : List RawOut). ReadAs w at (here scene) (o ++ out ∷ []) (CallOut n (location_of s.objects p) ∷ [])) (sym scene.begins.silent)
        ((refl, part_lies w s.objects b.memory.regions p n.class enter.made), tt) in
        leads_trace_call (fixed w) frame b.opened this _ refl refl
        (leads_jump (fixed w) (to_next scene statement.next) (leads_end (fixed w)
        (subst (λ (m : Move). Agrees w at m last Went) (sym moves) (now, told, refl))))

    -- the frame of the function is open
    pub enters : scene.at ≡ scene.world.lowered.at → (words : List (Option ℕ)) → b.calls < most_calls → HasVariables w (here scene) (body_on f locals statement.next) words → AreConverted w s.objects b (Reaches scene) scene.world scene.begins.stands.columns (shows scene locals) body (see scene locals) refl take.sees 0 call.arguments words
        → OpsLead (fixed w) (Trace TraceCall ∷ Jump (to_next scene statement.next) ∷ []) (calling (opened_frame scene.world.lowered.at words) (at_registers b words)) (Reaches scene)
    enters same words room variables converted =
        subst (λ (numbers : PlaceNumbers). OpsLead (fixed w) (Trace TraceCall ∷ Jump (to_next scene statement.next) ∷ []) (calling (opened_frame numbers words) (at_registers b words)) (Reaches scene)) same (entering_agrees words room variables converted)
