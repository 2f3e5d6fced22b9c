-- `f(..);`, `T v = f(..);` and `v = f(..);`
use Rattle.agree_calls.proofs.CallBlocks.{leads_call}
use Rattle.agree_calls.proofs.Calling.{Calling}
use Rattle.agree_calls.proofs.StatementMoves.{move_called}
use Rattle.agree_calls.proofs.Kept.{taken_kept, unused_kept}
use Rattle.code_blocks.specs.Blocks.{statement_ops}
use Rattle.agree_relation.specs.Agrees.{Agrees}
use Rattle.agree_relation.specs.Worlds.{world_classes, fixed}
use Rattle.code_statements.specs.Rights.{result_class, result_taken, unused}
use Rattle.agree_statements.proofs.Assignments.{assign_does, count_unset, declare_does, sees_unset}
use Rattle.agree_statements.proofs.Givens.{value_of, way_given}
use Rattle.agree_statements.proofs.Moves.{move_in, move_refused}
use Rattle.agree_statements.proofs.Scenes.{Scene, block, kind_typed, locals_count, scope, sees, top, variables}
use Rattle.agree_statements.specs.Registers.{body_on}
use Rattle.byte_code.specs.declared.op.ResultUse.{ResultUse}
use Rattle.byte_machine.specs.Leads.{LeadsBlock}
use Rattle.cxx_hierarchy.specs.Classes.{Classes}
use Rattle.cxx_hierarchy.specs.declared.records.ClassId.{ClassId}
use Rattle.cxx_hierarchy.specs.declared.records.Function.{Function as FunctionRecord}
use Rattle.cxx_hierarchy.specs.declared.records.ValueType.{ValueType}
use Rattle.cxx_hierarchy.specs.declared.records.ValueType.TheVariants.{Pointer as PointerType}
use Rattle.cxx_overrider.specs.Functions.{return_of, pointee}
use Rattle.cxx_program.specs.Typed.{IsCall, IsConverted, IsTyped, Scope, a_result, a_right, assigns, begins, calls}
use Rattle.cxx_program.specs.declared.operand.Conversion.{Conversion}
use Rattle.cxx_program.specs.declared.operand.Variable.{Variable}
use Rattle.cxx_program.specs.declared.operand.Variable.TheVariants.{Local}
use Rattle.cxx_program.specs.declared.statement.Converted.{Converted}
use Rattle.cxx_program.specs.declared.statement.TypedCall.{TypedCall}
use Rattle.cxx_program.specs.declared.statement.TypedKind.TheVariants.{Assign, Call, Declare}
use Rattle.cxx_program.specs.declared.statement.TypedRight.TheVariants.{Call as CallRight}
use Rattle.cxx_program.specs.declared.statement.TypedStatement.{TypedStatement}
use Rattle.path_model.proofs.TypedValues.{IsTypedSight, operand_typed}
use Rattle.path_model.specs.Effects.{taker}
use Rattle.path_model.specs.States.{sight}
use Rattle.path_model.specs.Typed.{IsCallAt}
use Rattle.path_model.specs.Values.{Sight, Unset, value_of_operand}
use Rattle.std.proofs.Common.{◌≡◌, ℕ, Some, None, refl, set}
use Rattle.std.specs.Prelude.{slice_get}

-- the call that a statement is typed to
call_typed : (h : Classes) (e : Scope) (call : TypedCall) → IsTyped h e (Call call) → (d : FunctionRecord ClassId) × IsCall h e call d
call_typed h e _ (calls call d is) = (d, is)

right_typed : (h : Classes) (e : Scope) (call : TypedCall) (c : Conversion) (t : ValueType ClassId) → IsConverted h e (record { right = CallRight call; conversion = c }) t → (d : FunctionRecord ClassId) × IsCall h e call d
right_typed h e _ c _ (a_right _ _ t (a_result call d _ is ret) to) = (d, is)

call_given : (h : Classes) (e : Scope) (see : Sight) (call : TypedCall) (d : FunctionRecord ClassId) → IsTypedSight h e see → IsCall h e call d → IsCallAt h see call
call_given h e see call d sees c = (value_of h see.objects (value_of_operand see call.pointer) call.class (operand_typed h e see sees call.pointer (PointerType call.class) c.pointer), way_given h call.class c.through call.qualifier c.way)

module _ (call : TypedCall) (line next : ℕ) (scene : Scene (record { kind = Call call; line = line; next = next })) where
  open scene use {w, at, s, f, below, body, b}

  abbrev statement : TypedStatement
  statement = record { kind = Call call; line = line; next = next }

  calling : Calling scene f.locals call None (unused w.setup call.function)
  calling =
      let h = world_classes w in
      let k = call_typed h (scope scene) call (kind_typed scene) in
      let given = call_given h (scope scene) (sight s f) call k.0 (sees scene) k.1 in
      record {
        count = locals_count scene;
        sees = sees scene;
        declared = k.0;
        typed = k.1;
        arguments = refl;
        kept = λ n runs. unused_kept w scene.world n call.function runs body;
        refused = λ rule broken. move_refused w s f below body statement scene.world scene.next rule given broken;
        fine = λ fine. move_called w s f below body statement scene.world scene.next given fine refl;
      }

  pub call_does : scene.at ≡ scene.world.lowered.at → LeadsBlock (fixed w) (statement_ops w.setup at (top scene).on.routine body f.next (record { kind = Call call; line = line; next = next })) b (Agrees w at (move_in w s))
  call_does same = leads_call scene f.locals call None (unused w.setup call.function) calling same b.top.registers (variables scene)

-- a variable takes the result
abbrev pub call_right : TypedCall → Conversion → Converted
call_right call c = record { right = CallRight call; conversion = c }

module _ (variable : Variable) (call : TypedCall) (c : Conversion) (line next : ℕ) (scene : Scene (record { kind = Assign variable (record { right = CallRight call; conversion = c }); line = line; next = next })) where
  open scene use {w, at, s, f, below, body, b}

  abbrev assignment : TypedStatement
  assignment = record { kind = Assign variable (record { right = CallRight call; conversion = c }); line = line; next = next }

  abbrev taken : ResultUse
  taken = result_taken (block scene) variable (pointee (return_of (world_classes w) call.function)) (result_class w.setup call.function) c

  assigned_type : (h : Classes) (e : Scope) (x : Converted) → IsTyped h e (Assign variable x) → (t : ValueType ClassId) × IsConverted h e x t
  assigned_type h e _ (assigns _ x t there typed) = (t, typed)

  assigned_calling : Calling scene f.locals call (taker variable c) taken
  assigned_calling =
      let h = world_classes w in
      let x = assigned_type h (scope scene) (call_right call c) (kind_typed scene) in
      let k = right_typed h (scope scene) call c x.0 x.1 in
      let given = call_given h (scope scene) (sight s f) call k.0 (sees scene) k.1 in
      record {
        count = locals_count scene;
        sees = sees scene;
        declared = k.0;
        typed = k.1;
        arguments = refl;
        kept = λ n runs. taken_kept w scene.world n call.function runs body variable c;
        refused = λ rule broken. move_refused w s f below body assignment scene.world scene.next rule given broken;
        fine = λ fine. move_called w s f below body assignment scene.world scene.next given fine refl;
      }

  pub assigned_call_does : scene.at ≡ scene.world.lowered.at → LeadsBlock (fixed w) (statement_ops w.setup at (top scene).on.routine body f.next (record { kind = Assign variable (record { right = CallRight call; conversion = c }); line = line; next = next })) b (Agrees w at (move_in w s))
  assigned_call_does same = assign_does variable (call_right call c) line next scene (λ old there. leads_call scene f.locals call (taker variable c) taken assigned_calling same old there)

module _ (n : ℕ) (call : TypedCall) (c : Conversion) (line next : ℕ) (scene : Scene (record { kind = Declare n (Some (record { right = CallRight call; conversion = c })); line = line; next = next })) where
  open scene use {w, at, s, f, below, body, b}

  abbrev declaration : TypedStatement
  declaration = record { kind = Declare n (Some (record { right = CallRight call; conversion = c })); line = line; next = next }

  abbrev initial : ResultUse
  initial = result_taken (block scene) (Local n) (pointee (return_of (world_classes w) call.function)) (result_class w.setup call.function) c

  record IsDeclared (h : Classes) (e : Scope) (x : Converted) : Type 0 where
    type : ValueType ClassId
    there : slice_get e.locals n ≡ Some type
    typed : IsConverted h e x type

  declared_type : (h : Classes) (e : Scope) (x : Converted) → IsTyped h e (Declare n (Some x)) → IsDeclared h e x
  declared_type h e _ (begins _ x t there typed) = record { type = t; there = there; typed = typed }

  -- the local is unset before the call
  declared_calling : Calling scene (set f.locals n Unset) call (taker (Local n) c) initial
  declared_calling =
      let h = world_classes w in
      let x = declared_type h (scope scene) (call_right call c) (kind_typed scene) in
      let k = right_typed h (scope scene) call c x.type x.typed in
      let seen = sees_unset scene n x.type x.there in
      let given = call_given h (scope scene) (sight s (body_on f (set f.locals n Unset) f.next)) call k.0 seen k.1 in
      record {
        count = count_unset scene n x.type x.there;
        sees = seen;
        declared = k.0;
        typed = k.1;
        arguments = refl;
        kept = λ m runs. taken_kept w scene.world m call.function runs body (Local n) c;
        refused = λ rule broken. move_refused w s f below body declaration scene.world scene.next rule given broken;
        fine = λ fine. move_called w s f below body declaration scene.world scene.next given fine refl;
      }

  pub declared_call_does : scene.at ≡ scene.world.lowered.at → LeadsBlock (fixed w) (statement_ops w.setup at (top scene).on.routine body f.next (record { kind = Declare n (Some (record { right = CallRight call; conversion = c })); line = line; next = next })) b (Agrees w at (move_in w s))
  declared_call_does same = declare_does n (call_right call c) line next scene (λ old there. leads_call scene (set f.locals n Unset) call (taker (Local n) c) initial declared_calling same old there)
