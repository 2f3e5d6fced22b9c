-- `return x;` and `return;`
use Rattle.agree_calls.proofs.FunctionReturns.{function_returns}
use Rattle.agree_calls.proofs.NothingReturned.{leaves_nothing}
use Rattle.agree_calls.proofs.ReturnGivens.{number_refusal}
use Rattle.agree_calls.proofs.ReturnedFront.{leads_returned}
use Rattle.agree_calls.proofs.StatementMoves.{statement_move}
use Rattle.agree_calls.proofs.Waiting.{is_called}
use Rattle.agree_calls.proofs.Returns.{MovesResult}
use Rattle.code_blocks.specs.Blocks.{statement_ops}
use Rattle.code_ops.specs.Setups.{FunctionCode, MainCode, PlanCode, Routine, routine_owner, plan_owner}
use Rattle.code_ops.specs.Uses.{check_ops}
use Rattle.code_ops.specs.declared.routines.Course.{Course}
use Rattle.code_ops.specs.declared.routines.Course.TheVariants.{Constructs, Deletes, Destroys}
use Rattle.agree_relation.specs.Agrees.{Agrees}
use Rattle.agree_relation.specs.Worlds.{world_classes, fixed}
use Rattle.code_statements.specs.Statements.{returned_front, returned_ops, returned_used}
use Rattle.agree_statements.proofs.Assignments.{none_asked}
use Rattle.agree_statements.proofs.Finish.{Reaches}
use Rattle.agree_statements.proofs.Moves.{effect_here, move_fine, move_in}
use Rattle.agree_statements.proofs.Scenes.{Scene, block, kind_typed, scope, sees, the_body, top}
use Rattle.agree_statements.proofs.Tests.{leads_checks}
use Rattle.agree_statements.specs.Registers.{at_registers}
use Rattle.agree_statements.specs.Tests.{nothing}
use Rattle.byte_machine.proofs.ControlLeads.{leads_stop}
use Rattle.byte_machine.specs.Leads.{OpsLead, LeadsBlock}
use Rattle.byte_machine.specs.declared.turn.MachineTurn.TheVariants.{Ended}
use Rattle.cxx_hierarchy.specs.Classes.{Classes}
use Rattle.cxx_hierarchy.specs.declared.records.ClassId.{ClassId}
use Rattle.cxx_hierarchy.specs.declared.records.ReturnType.{ReturnType}
use Rattle.cxx_hierarchy.specs.declared.records.ReturnType.TheVariants.{Value as ValueReturn, Void}
use Rattle.cxx_hierarchy.specs.declared.records.Scalar.TheVariants.{Int}
use Rattle.cxx_hierarchy.specs.declared.records.ValueType.{ValueType}
use Rattle.cxx_hierarchy.specs.declared.records.ValueType.TheVariants.{Number as NumberType}
use Rattle.cxx_overrider.specs.declared.FunctionId.{FunctionId}
use Rattle.cxx_program.specs.Typed.{IsArgument, IsTyped, Scope, returns_nothing, returns_of, returns_value}
use Rattle.cxx_program.specs.declared.operand.Argument.{Argument}
use Rattle.cxx_program.specs.declared.program.Owner.{Owner}
use Rattle.cxx_program.specs.declared.program.Owner.TheVariants.{Function, Main}
use Rattle.cxx_program.specs.declared.statement.TypedKind.TheVariants.{Return}
use Rattle.cxx_program.specs.declared.statement.TypedStatement.{TypedStatement}
use Rattle.path_model.specs.Effects.{given_to_target, left_by}
use Rattle.path_model.specs.Order.{first_broken, sorted}
use Rattle.path_model.specs.Runs.{Move, move_by}
use Rattle.path_model.specs.States.{sight, wanted_result, with_frames}
use Rattle.path_model.specs.Steps.{unless}
use Rattle.path_model.specs.Uses.{argument_uses}
use Rattle.path_model.specs.Values.{argument_value, converted_to}
use Rattle.path_rules.specs.declared.Undefined.{Undefined}
use Rattle.std.proofs.Common.{◌≡◌, ℕ, Option, Some, None, [], ◌++◌, refl, ap, subst, sym, ◌∙◌}

-- what a return is typed to
record IsReturned (h : Classes) (e : Scope) (a : Argument) : Type 0 where
  type : ValueType ClassId
  returns : e.returns ≡ Some (ValueReturn type)
  typed : IsArgument h e a type

returned_typed : (h : Classes) (e : Scope) (a : Argument) → IsTyped h e (Return (Some a)) → IsReturned h e a
returned_typed h e _ (returns_value a t returns is) = record { type = t; returns = returns; typed = is }

nothing_typed : (h : Classes) (e : Scope) → IsTyped h e (Return None) → e.returns ≡ Some Void
nothing_typed h e (returns_nothing returns) = returns

-- no return stands in the body of a constructor or of a destructor
no_return : (h : Classes) (course : Course) (c : ClassId) (r : ReturnType ClassId) → returns_of h (plan_owner course c) ≡ Some r → ⊥
no_return h Constructs c r e = let f : None ≡ Some r = e in cc
no_return h Destroys c r e = let f : None ≡ Some r = e in cc
no_return h Deletes c r e = let f : None ≡ Some r = e in cc

module _ (a : Argument) (line next : ℕ) (scene : Scene (record { kind = Return (Some a); line = line; next = next })) where
  open scene use {w, at, s, f, below, body, b}

  abbrev statement : TypedStatement
  statement = record { kind = Return (Some a); line = line; next = next }

  abbrev ops : Routine → Type 0
  ops r = OpsLead (fixed w) (returned_front (block scene) (Some a) ++ (check_ops (returned_used (block scene) (Some a)) ++ returned_ops (block scene) r (Some a))) b (Reaches scene)

  is : IsReturned (world_classes w) (scope scene) a
  is = returned_typed (world_classes w) (scope scene) a (kind_typed scene)

  -- what the owner of a routine returns
  owner_returns : (o : Owner) → o ≡ f.owner → returns_of (world_classes w) o ≡ Some (ValueReturn is.type)
  owner_returns o same = ap (returns_of (world_classes w)) (same ∙ sym (the_body scene).0) ∙ is.returns

  -- `main`, whose result is a number
  main_over : IsArgument (world_classes w) (scope scene) a (NumberType Int) → f.owner ≡ Main → (o : Option Undefined) → first_broken (world_classes w) s.objects (sorted (argument_uses (sight s f) a)) ≡ o
      → move_in w s ≡ move_by (unless o line (left_by Main (given_to_target (with_frames s below) (converted_to (argument_value (sight s f) a) f.found) f.target))) None
  main_over typed owned o e =
      let h = world_classes w in
      statement_move w s f below body statement scene.world scene.next
      ∙ ap (λ (x : Option Undefined). move_by (unless x line (effect_here w s f below body statement scene.world scene.next)) None) (number_refusal h (scope scene) (sight s f) (wanted_result f) a Int (sees scene) typed ∙ e)
      ∙ ap (λ (x : Owner). move_by (unless o line (left_by x (given_to_target (with_frames s below) (converted_to (argument_value (sight s f) a) f.found) f.target))) None) owned

  main_returns : f.owner ≡ Main → OpsLead (fixed w) (returned_front (block scene) (Some a) ++ (check_ops (returned_used (block scene) (Some a)) ++ returned_ops (block scene) MainCode (Some a))) b (Reaches scene)
  main_returns owned =
      let returns = owner_returns Main (sym owned) in
      let same : NumberType Int ≡ is.type = cc in
      let typed : IsArgument (world_classes w) (scope scene) a (NumberType Int) = subst (λ (t : ValueType ClassId). IsArgument (world_classes w) (scope scene) a t) (sym same) is.typed in
      leads_returned scene a (NumberType Int) typed
      (λ rule broken. main_over typed owned (Some rule) broken)
      (λ new variables word clear none. leads_stop (fixed w) (subst (λ (m : Move). Agrees w at m (at_registers b new) Ended) (sym (main_over typed owned None clear)) refl))

  value_does : MovesResult f.found → (r : Routine) → routine_owner r ≡ f.owner → OpsLead (fixed w) (returned_front (block scene) (Some a) ++ (check_ops (returned_used (block scene) (Some a)) ++ returned_ops (block scene) r (Some a))) b (Reaches scene)
  value_does moves MainCode owned = main_returns (sym owned)
  value_does moves (FunctionCode n) owned = function_returns a line next scene n (sym owned) moves is.type is.typed (owner_returns (Function n) owned)
  value_does moves (PlanCode course form c) owned = absurd (no_return (world_classes w) course c (ValueReturn is.type) (owner_returns (plan_owner course c) owned))

module _ (line next : ℕ) (scene : Scene (record { kind = Return None; line = line; next = next })) where
  open scene use {w, at, s, f, below, body, b}

  abbrev plain : TypedStatement
  plain = record { kind = Return None; line = line; next = next }

  owner_returns_nothing : (o : Owner) → o ≡ f.owner → returns_of (world_classes w) o ≡ Some Void
  owner_returns_nothing o same = ap (returns_of (world_classes w)) (same ∙ sym (the_body scene).0) ∙ nothing_typed (world_classes w) (scope scene) (kind_typed scene)

  function_leaves : (n : FunctionId) → f.owner ≡ Function n → OpsLead (fixed w) (returned_front (block scene) None ++ (check_ops (returned_used (block scene) None) ++ returned_ops (block scene) (FunctionCode n) None)) b (Reaches scene)
  function_leaves n owned =
      let h = world_classes w in
      let k = is_called w at s f below body b scene.world scene.next.frames scene.next.typed scene.begins n owned in
      let returns = owner_returns_nothing (Function n) (sym owned) in
      let untaken = k.waits.fits_it.nothing (λ t is. let same : Some Void ≡ Some (ValueReturn t) = sym returns ∙ is in cc) in
      leads_checks (fixed w) b (Reaches scene) h s.objects [] [] nothing
      (λ clear none. leaves_nothing w at s f below b scene.next.typed scene.begins n k untaken (move_in w s)
      (move_fine w s f below body plain scene.world scene.next tt refl refl ∙ ap (λ (o : Owner). move_by (left_by o (with_frames s below)) None) owned))
      (λ rule broken. absurd (let no_rule : None ≡ Some rule = sym (none_asked h s.objects) ∙ broken in cc))

  nothing_does : (r : Routine) → routine_owner r ≡ f.owner → OpsLead (fixed w) (returned_front (block scene) None ++ (check_ops (returned_used (block scene) None) ++ returned_ops (block scene) r None)) b (Reaches scene)
  nothing_does MainCode owned = absurd (let e = owner_returns_nothing Main owned in cc)
  nothing_does (FunctionCode n) owned = function_leaves n (sym owned)
  nothing_does (PlanCode course form c) owned = absurd (no_return (world_classes w) course c Void (owner_returns_nothing (plan_owner course c) owned))

pub return_does : (a : Option Argument) (line next : ℕ) (scene : Scene (record { kind = Return a; line = line; next = next })) → MovesResult scene.f.found
    → LeadsBlock (fixed scene.w) (statement_ops scene.w.setup scene.at (top scene).on.routine scene.body scene.f.next (record { kind = Return a; line = line; next = next })) scene.b (Agrees scene.w scene.at (move_in scene.w scene.s))
return_does None line next scene moves = nothing_does line next scene (top scene).on.routine (top scene).on.owner
return_does (Some a) line next scene moves = value_does a line next scene moves (top scene).on.routine (top scene).on.owner
