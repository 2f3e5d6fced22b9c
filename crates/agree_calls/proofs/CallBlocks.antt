-- The block of a call: its reads, its tests, its receiver and its arguments, and the call itself.
use Rattle.agree_calls.proofs.Aimed.{IsAimed, aimed}
use Rattle.agree_calls.proofs.CallTests.{along_call}
use Rattle.agree_calls.proofs.Callees.{IsOverridden, defined, overridden, plain_kind}
use Rattle.agree_calls.proofs.Calling.{Calling, IsEntered, enters, is_full, see, shows}
use Rattle.agree_calls.proofs.ReadArguments.{AreHeld, leads_arguments_front}
use Rattle.agree_calls.proofs.Stages.{behind_front, front_refuses, front_uses, takes_order}
use Rattle.agree_calls.proofs.Arguments.{AreConverted, AreFine, AreRead, leads_arguments}
use Rattle.agree_calls.proofs.Calls.{leads_dispatched, leads_found}
use Rattle.agree_calls.proofs.Receivers.{leads_receiver}
use Rattle.code_blocks.specs.Blocks.{AtStatement, routine_start}
use Rattle.code_ops.specs.Arguments.{argument_read, arguments_front, arguments_ops, arguments_registers, free}
use Rattle.code_ops.specs.Operands.{operand_ops, operand_register, ops_of}
use Rattle.code_ops.specs.Setups.{FunctionCode}
use Rattle.code_ops.specs.Uses.{check_ops}
use Rattle.code_ops.specs.declared.uses.Used.TheVariants.{Takes as TakesEntry}
use Rattle.agree_relation.specs.Frames.{HasVariables, PlaceNumbers}
use Rattle.agree_relation.specs.Words.{register_word}
use Rattle.agree_relation.specs.Worlds.{world_classes, fixed}
use Rattle.code_statements.specs.Rights.{call_entry, call_front, call_op, call_ops, call_used, receiver_ops}
use Rattle.agree_statements.proofs.Finish.{Reaches, refused, to_next}
use Rattle.agree_statements.proofs.OperandRight.{argument_type}
use Rattle.agree_statements.proofs.Operands.{leads_operand, operand_apart}
use Rattle.agree_statements.proofs.Registers.{leads_grouped, variables_kept}
use Rattle.agree_statements.proofs.Rights.{tells}
use Rattle.agree_statements.proofs.RunningParts.{running_parts}
use Rattle.agree_statements.proofs.Scenes.{Scene, block, here, registers_enough, scope, top}
use Rattle.agree_statements.proofs.Tests.{leads_checks, unbroken}
use Rattle.agree_statements.specs.Registers.{Wrote, at_registers, body_on}
use Rattle.byte_code.specs.declared.op.Op.{Op}
use Rattle.byte_code.specs.declared.op.Op.TheVariants.{CallCode, CallEntry, Jump, Trace}
use Rattle.byte_code.specs.declared.op.ResultUse.{ResultUse}
use Rattle.byte_code.specs.declared.op.TraceKind.TheVariants.{Call as TraceCall}
use Rattle.byte_machine.specs.Leads.{OpsLead}
use Rattle.byte_machine.specs.Frames.{register_of}
use Rattle.cxx_hierarchy.specs.Classes.{Classes}
use Rattle.cxx_hierarchy.specs.declared.records.ValueType.TheVariants.{Pointer as PointerType}
use Rattle.cxx_overrider.specs.Functions.{is_pure}
use Rattle.cxx_program.specs.Typed.{IsArgument, Types}
use Rattle.cxx_program.specs.declared.operand.Argument.{Argument}
use Rattle.cxx_program.specs.declared.statement.TypedCall.{TypedCall}
use Rattle.cxx_program.specs.declared.statement.TypedStatement.{TypedStatement}
use Rattle.cxx_search.proofs.Virtuals.{test_virtual}
use Rattle.foundation.proofs.Chosen.{any_has}
use Rattle.foundation.proofs.Members.{Has, has_left, has_right}
use Rattle.foundation.proofs.Truth.{is_false, not_both, split}
use Rattle.path_model.proofs.TypedValues.{operand_typed}
use Rattle.path_model.specs.Effects.{overrider_in_view, at_part}
use Rattle.path_model.specs.Order.{asked_call, asked_views, first_broken, sorted}
use Rattle.path_model.specs.Rules.{breaks, is_broken, is_pure_in_view, names}
use Rattle.path_model.specs.States.{Target, is_body}
use Rattle.path_model.specs.Uses.{Reads, StatementUse, argument_uses, arrow, convert, is_shared_way, receiver_value}
use Rattle.path_model.specs.Values.{Objects, Pointer, Value, value_of_operand}
use Rattle.path_plan.specs.Places.{part}
use Rattle.path_rules.specs.declared.Undefined.{Undefined}
use Rattle.path_rules.specs.declared.Undefined.TheVariants.{Dangling, PureCall}
use Rattle.std.proofs.Common.{◌≡◌, ℕ, suc, ◌+◌, ◌≤◌, Bool, true, false, inl, inr, Option, Some, None, List, [], ◌∷◌, ◌++◌, length, refl, ap, sym, subst, ◌∙◌, arith}
use Rattle.std.proofs.lemmas.Option.{slice_get_within}
use Rattle.std.specs.List.{AllZip, flat_map}
use Rattle.std.specs.Prelude.{◌||◌, if◌then◌else◌, option_map}

-- no use breaks the rule
pub none_broken : (h : Classes) (s : Objects) (us : List StatementUse) (r : Undefined) → ((u : StatementUse) → Has us u → breaks h s r u ≡ false) → is_broken h s us r ≡ false
none_broken h s us r each = is_false (is_broken h s us r) (λ broken. let k = any_has (breaks h s r) us broken in not_both k.passes (each k.item k.has))

module _ {statement : TypedStatement} (scene : Scene statement) (locals : List Value) (call : TypedCall) (target : Option Target) (result : ResultUse) (take : Calling scene locals call target result) where
  open scene use {w, at, s, f, below, body, b}

  -- registers behind those of the body may be written
  variables_under : (next : ℕ) (old new : List (Option ℕ)) → HasVariables w (here scene) (body_on f locals f.next) old → length new ≡ length old → ((q : ℕ) → q ≤ length locals + 1 → register_of new q ≡ register_of old q) → HasVariables w (here scene) (body_on f locals next) new
  variables_under next old new variables size same = record {
    size = size ∙ variables.size;
    this = same 0 (omega arith) ∙ variables.this;
    local = λ n v there. let within = slice_get_within locals n v there in same (n + 1) (omega arith) ∙ variables.local n v there;
    spare = same (length locals + 1) (omega arith) ∙ variables.spare;
  }

  -- arguments that were read stand where the receiver is made
  read_again : (n : ℕ) (arguments : List Argument) (types : Types) (old new : List (Option ℕ)) → AllZip (IsArgument (world_classes w) (scope scene)) arguments types → AreHeld w (here scene) (block scene) (see scene locals) n arguments old → Wrote (free (block scene) 1) old new
      → AreRead w s.objects b (Reaches scene) scene.world scene.begins.stands.columns (shows scene locals) body (see scene locals) refl take.sees n arguments new
  read_again n [] types old new typed held wrote = tt
  read_again n (a ∷ more) [] old new typed held wrote = absurd typed
  read_again n (a ∷ more) (t ∷ types) old new typed held wrote =
      let has = argument_type (world_classes w) (scope scene) a t typed.0 in
      let count = take.count in
      let apart = operand_apart w s (body_on f locals f.next) (scope scene) a.operand has.0 (argument_read (block scene) n) (free (block scene) 1) take.sees has.1 (omega (arith, count)) (λ same. absurd (omega (arith, same))) in
      (wrote.other (operand_register (argument_read (block scene) n) a.operand) apart ∙ held.0, read_again (suc n) more types old new typed.1 held.1 wrote)

  -- no rule refuses what is read and converted
  fine_arguments : (arguments : List Argument) → ((u : StatementUse) → Has (flat_map (argument_uses (see scene locals)) arguments) u → (r : Undefined) → breaks (world_classes w) s.objects r u ≡ false)
      → AreFine w s.objects b (Reaches scene) scene.world scene.begins.stands.columns (shows scene locals) body (see scene locals) refl take.sees arguments
  fine_arguments [] each = tt
  fine_arguments (a ∷ more) each =
      let uses = argument_uses (see scene locals) a in
      let rest = flat_map (argument_uses (see scene locals)) more in (
        (each (Reads (value_of_operand (see scene locals) a.operand)) (inl refl) Dangling, λ r. none_broken (world_classes w) s.objects (convert (value_of_operand (see scene locals) a.operand) a.conversion) r (λ u has. each u (has_left uses rest u (inr has)) r)),
        fine_arguments more (λ u has. each u (has_right uses rest u has)),
      )

  -- behind the tests: the arguments stand in their registers, and the receiver is a part
  record IsReady (words : List (Option ℕ)) : Type 0 where
    variables : HasVariables w (here scene) (body_on f locals f.next) words
    converted : AreConverted w s.objects b (Reaches scene) scene.world scene.begins.stands.columns (shows scene locals) body (see scene locals) refl take.sees 0 call.arguments words
    clear : first_broken (world_classes w) s.objects (sorted (front_uses (see scene locals) call)) ≡ None
    aim : IsAimed (world_classes w) s.objects call (value_of_operand (see scene locals) call.pointer)
    word : register_of words (free (block scene) 1) ≡ register_word w (here scene) (Pointer aim.part)

  module _ (same : scene.at ≡ scene.world.lowered.at) (words : List (Option ℕ)) (a : IsReady words) where
    abbrev rest : List Op
    rest = Trace TraceCall ∷ Jump (to_next scene statement.next) ∷ []

    gone_on : HasVariables w (here scene) (body_on f locals statement.next) words
    gone_on = variables_under statement.next words words a.variables refl (λ q low. refl)

    -- the sixth rule decides
    sixth : (x : Bool) → is_pure_in_view (world_classes w) s.objects call.function a.aim.part ≡ x → call.is_dispatched ≡ true → first_broken (world_classes w) s.objects (sorted (asked_call (see scene locals) call)) ≡ (if x then Some PureCall else None)
    sixth x e flag = behind_front (world_classes w) s.objects (see scene locals) call (if x then Some PureCall else None) a.clear
        (takes_order (world_classes w) s.objects (receiver_value (see scene locals) call) call.function call.is_dispatched
        ∙ ap (λ (y : Bool). if y then (if names (is_pure_in_view (world_classes w) s.objects call.function) (receiver_value (see scene locals) call) then Some PureCall else None) else None) flag
        ∙ ap (λ (y : Bool). if y then Some PureCall else None) (ap (names (is_pure_in_view (world_classes w) s.objects call.function)) a.aim.is ∙ e))

    not_asked : call.is_dispatched ≡ false → first_broken (world_classes w) s.objects (sorted (asked_call (see scene locals) call)) ≡ None
    not_asked flag = behind_front (world_classes w) s.objects (see scene locals) call None a.clear
        (takes_order (world_classes w) s.objects (receiver_value (see scene locals) call) call.function call.is_dispatched
        ∙ ap (λ (y : Bool). if y then (if names (is_pure_in_view (world_classes w) s.objects call.function) (receiver_value (see scene locals) call) then Some PureCall else None) else None) flag)

    -- a call by the view
    overrider : call.is_dispatched ≡ true → IsOverridden (world_classes w) w.setup.program s.objects call.function a.aim.part
    overrider flag = overridden (world_classes w) scene.world.hierarchy scene.world.faultless w.setup.program scene.world.typed s.objects (running_parts w s.objects (top scene).goings (top scene).planned) (scope scene) call take.declared take.typed
        a.aim.part a.aim.made flag (a.aim.seen flag)

    abbrev overriding : call.is_dispatched ≡ true → (k : IsOverridden (world_classes w) w.setup.program s.objects call.function a.aim.part) → is_pure (world_classes w) k.overrider.function ≡ false → IsEntered scene locals call target result a.aim.part
    overriding flag k code = record {
      part = part a.aim.part.object a.aim.part.owner k.overrider.at;
      function = k.overrider.function;
      runs_is = ap (λ (y : Bool). if y then overrider_in_view (world_classes w) s.objects a.aim.part call.function else Some (a.aim.part, call.function)) flag ∙ ap (option_map (at_part a.aim.part)) k.is;
      runs_for = k.runs;
      made = k.made code;
      code = k.code code;
    }

    dispatches : call.is_dispatched ≡ true → OpsLead (fixed w) (check_ops (TakesEntry (free (block scene) 1) (call_entry w.setup call.function) ∷ []) ++ (CallEntry (free (block scene) 1) (call_entry w.setup call.function) (arguments_registers (block scene) 0 call.arguments) result ∷ rest)) (at_registers b words) (Reaches scene)
    dispatches flag =
        let h = world_classes w in
        let k = overrider flag in
        leads_dispatched w s.objects (at_registers b words) (Reaches scene) scene.world scene.begins.stands.columns (shows scene locals) call.function a.aim.part (free (block scene) 1) (arguments_registers (block scene) 0 call.arguments) result k.overrider
        (record {
          made = a.aim.made;
          unclosed = a.aim.is_open;
          ready = a.aim.ready;
          within = a.aim.seen flag;
          is_virtual = test_virtual h call.function (take.typed.dispatched flag).1;
          plain = plain_kind h call.function take.declared take.typed.declared;
          word = a.word;
        })
        k.is
        (λ code. let there = (k.code code).there in ap is_body there)
        (λ pure. refused scene PureCall (at_registers b words) refl (take.refused PureCall (sixth true (k.pure ∙ pure) flag)))
        (λ code full. is_full scene locals call target result take a.aim.part a.aim.is (overriding flag k code) (sixth false (k.pure ∙ code) flag) (at_registers b words) full)
        (λ code room. enters scene locals call target result take a.aim.part a.aim.is (overriding flag k code) (sixth false (k.pure ∙ code) flag) same words room gone_on a.converted)

    -- a call of the function that was found
    abbrev finding : call.is_dispatched ≡ false → IsEntered scene locals call target result a.aim.part
    finding flag = record {
      part = a.aim.part;
      function = call.function;
      runs_is = ap (λ (y : Bool). if y then overrider_in_view (world_classes w) s.objects a.aim.part call.function else Some (a.aim.part, call.function)) flag;
      runs_for = inl refl;
      made = a.aim.made;
      code = defined (world_classes w) scene.world.hierarchy scene.world.faultless w.setup.program scene.world.typed s.objects (running_parts w s.objects (top scene).goings (top scene).planned) (scope scene) call take.declared take.typed flag;
    }

    finds : call.is_dispatched ≡ false → OpsLead (fixed w) (CallCode (scene.at (AtStatement (FunctionCode call.function) 0)) (free (block scene) 1) (arguments_registers (block scene) 0 call.arguments) result ∷ rest) (at_registers b words) (Reaches scene)
    finds flag =
        subst (λ (numbers : PlaceNumbers). OpsLead (fixed w) (CallCode (numbers (AtStatement (FunctionCode call.function) 0)) (free (block scene) 1) (arguments_registers (block scene) 0 call.arguments) result ∷ rest) (at_registers b words) (Reaches scene)) (sym same)
        (leads_found w s.objects (at_registers b words) (Reaches scene) scene.world scene.begins.stands.columns (shows scene locals) call.function a.aim.part (free (block scene) 1) (arguments_registers (block scene) 0 call.arguments) result a.word
        (λ full. is_full scene locals call target result take a.aim.part a.aim.is (finding flag) (not_asked flag) (at_registers b words) full)
        (λ room. enters scene locals call target result take a.aim.part a.aim.is (finding flag) (not_asked flag) same words room gone_on a.converted))

    -- the call itself
    leads_op : OpsLead (fixed w) (call_op (block scene) (λ routine. scene.at (routine_start w.setup routine)) call.is_dispatched call result ++ rest) (at_registers b words) (Reaches scene)
    leads_op = split call.is_dispatched (λ x. call.is_dispatched ≡ x → OpsLead (fixed w) (call_op (block scene) (λ routine. scene.at (routine_start w.setup routine)) x call result ++ rest) (at_registers b words) (Reaches scene))
        (λ flag _. leads_grouped (fixed w) (check_ops (TakesEntry (free (block scene) 1) (call_entry w.setup call.function) ∷ [])) (CallEntry (free (block scene) 1) (call_entry w.setup call.function) (arguments_registers (block scene) 0 call.arguments) result ∷ []) rest (dispatches flag))
        (λ flag _. finds flag) refl

  -- the receiver and the arguments, where no rule of the front refuses the call
  leads_behind : scene.at ≡ scene.world.lowered.at → (old : List (Option ℕ)) → HasVariables w (here scene) (body_on f locals f.next) old → register_of old (operand_register (free (block scene) 0) call.pointer) ≡ register_word w (here scene) (value_of_operand (see scene locals) call.pointer)
      → AreHeld w (here scene) (block scene) (see scene locals) 0 call.arguments old → first_broken (world_classes w) s.objects (sorted (front_uses (see scene locals) call)) ≡ None → ((r : Undefined) → is_broken (world_classes w) s.objects (front_uses (see scene locals) call) r ≡ false)
      → OpsLead (fixed w) (call_ops (block scene) (λ routine. scene.at (routine_start w.setup routine)) call result ++ (Jump (to_next scene statement.next) ∷ [])) (at_registers b old) (Reaches scene)
  leads_behind same old variables word held clear none =
      let h = world_classes w in
      let k = block scene in
      let v = value_of_operand (see scene locals) call.pointer in
      let c = take.typed in
      let jump = Jump (to_next scene statement.next) ∷ [] in
      let op = call_op k (λ routine. scene.at (routine_start w.setup routine)) call.is_dispatched call result in
      let trace = Trace TraceCall ∷ [] in
      let aim = aimed h scene.world.hierarchy (see scene locals) scene.next.settled (scope scene) take.sees call take.declared c clear in
      let count = take.count in
      let enough = registers_enough scene in
      let as_many = take.arguments in
      let size = variables.size in
      let needed = call.is_dispatched || is_shared_way call.qualifier in
      let uses = flat_map (argument_uses (see scene locals)) call.arguments in
      let among = λ (u : StatementUse) (has : Has uses u). has_right (arrow v) (asked_views needed call v ++ uses) u (has_right (asked_views needed call v) uses u has) in
      leads_grouped (fixed w) (ops_of (receiver_ops k call)) (ops_of (arguments_ops k 0 call.arguments) ++ (op ++ trace)) jump
      (leads_receiver w s.objects b (Reaches scene) scene.world scene.begins.stands.columns (shows scene locals) body call c.through v old c.way c.base (operand_typed h (scope scene) (see scene locals) take.sees call.pointer (PointerType call.class) c.pointer) word (omega (arith, enough, size))
      (record { unclosed = aim.open_pointer; ready = aim.ready_pointer; within = aim.seen_pointer }) (record { unclosed = aim.open_way; ready = aim.ready_way; within = aim.seen_way })
      (λ mid wrote is.
      let mid_size = wrote.size in
      let mid_variables = variables_kept w (here scene) (body_on f locals f.next) (free k 1) old mid (omega (arith, count)) variables wrote in
      leads_grouped (fixed w) (ops_of (arguments_ops k 0 call.arguments)) (op ++ trace) jump
      (leads_arguments w s.objects b (Reaches scene) scene.world scene.begins.stands.columns (shows scene locals) body (see scene locals) refl take.sees 0 call.arguments _ mid c.arguments
      (read_again 0 call.arguments _ old mid c.arguments held wrote)
      (fine_arguments call.arguments (λ u has r. unbroken (fixed w) b (Reaches scene) h s.objects (front_uses (see scene locals) call) u r (none r) (among u has)))
      (omega (arith, enough, as_many, size, mid_size))
      (λ last further converted.
      leads_grouped (fixed w) op trace jump
      (leads_op same last
      (record {
        variables = variables_under f.next mid last mid_variables further.size (λ q low. further.other q (λ m less same_register. absurd (omega (arith, low, count, same_register))));
        converted = converted;
        clear = clear;
        aim = aim;
        word = further.other (free k 1) (λ m less same_register. absurd (omega (arith, same_register))) ∙ is ∙ ap (register_word w (here scene)) aim.is;
      }))))))

  -- the whole block, behind what comes before the call
  pub leads_call : scene.at ≡ scene.world.lowered.at → (old : List (Option ℕ)) → HasVariables w (here scene) (body_on f locals f.next) old
      → OpsLead (fixed w) (call_front (block scene) call ++ (check_ops (call_used (block scene) call) ++ (call_ops (block scene) (λ routine. scene.at (routine_start w.setup routine)) call result ++ (Jump (to_next scene statement.next) ∷ [])))) (at_registers b old) (Reaches scene)
  leads_call same old variables =
      let h = world_classes w in
      let k = block scene in
      let r = free k 0 in
      let c = take.typed in
      let on = body_on f locals f.next in
      let count = take.count in
      let enough = registers_enough scene in
      let as_many = take.arguments in
      let size = variables.size in
      leads_grouped (fixed w) (operand_ops r call.pointer) (arguments_front k 0 call.arguments) _
      (leads_operand (fixed w) w (here scene) s on (scope scene) b call.pointer (PointerType call.class) r old take.sees scene.begins.stands.globals variables c.pointer (omega (arith, enough, size))
      (λ mid read.
      let mid_size = read.wrote.size in
      leads_arguments_front (fixed w) w (here scene) s on body b (Reaches scene) take.sees scene.begins.stands.globals count 0 call.arguments _ mid c.arguments
      (variables_kept w (here scene) on r old mid (omega (arith, count)) variables read.wrote) (omega (arith, enough, as_many, size, mid_size))
      (λ new further kept held.
      let word = further.other (operand_register r call.pointer) (λ m less is. operand_apart w s on (scope scene) call.pointer (PointerType call.class) r (argument_read k m) take.sees c.pointer (omega (arith, count)) (λ same_register. absurd (omega (arith, same_register))) is) ∙ read.word in
      leads_checks (fixed w) (at_registers b new) (Reaches scene) h s.objects (front_uses (see scene locals) call) (call_used k call)
      (along_call w (see scene locals) (at_registers b new) (Reaches scene) scene.world scene.begins.stands.columns (front_uses (see scene locals) call) body call take.declared take.sees (tells scene new) scene.next.settled (λ u has. has) c word held)
      (λ clear none. leads_behind same new kept word held clear none)
      (λ rule broken. refused scene rule (at_registers b new) refl (take.refused rule (front_refuses h s.objects (see scene locals) call rule broken))))))
