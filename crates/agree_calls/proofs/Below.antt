-- The frame of a function on top, and the body below that takes its result.
use Rattle.std.proofs.Common.{◌≡◌, ℕ, true, Option, Some, None, List, ◌∷◌, ap, subst, ◌∙◌}
use Rattle.code_ops.specs.Setups.{FunctionCode}
use Rattle.agree_parts.specs.Heaps.{Heap}
use Rattle.agree_relation.specs.Frames.{BodyStandsOver, HasVariables, IsBodyFrame, KeepsCall, PlaceNumbers, StandOver, body_below, call_kept, owner_result}
use Rattle.agree_relation.specs.Goings.{Going}
use Rattle.agree_relation.specs.Worlds.{World, world_classes}
use Rattle.agree_statements.proofs.Tops.{body_on_top}
use Rattle.agree_statements.specs.Registers.{body_on, frame_on}
use Rattle.byte_machine.specs.Frames.{MachineFrame, Kept}
use Rattle.cxx_overrider.specs.Functions.{return_of, pointee}
use Rattle.cxx_overrider.specs.declared.FunctionId.{FunctionId}
use Rattle.cxx_program.specs.declared.program.Owner.{Owner}
use Rattle.cxx_program.specs.declared.program.Owner.TheVariants.{Function}
use Rattle.cxx_program.specs.declared.program.TypedBody.{TypedBody}
use Rattle.path_model.specs.States.{Frame as PathFrame, InBody, RunningBody as Body, owned_body}
use Rattle.path_model.specs.Values.{Value}

module _ (w : World) (at : PlaceNumbers) (g : Heap) where
  -- the frame of a function, and those below it
  pub function_frame : (f : Body) (n : FunctionId) (below : List PathFrame) (gs : List Going) (top : MachineFrame) (rest : List MachineFrame) → f.owner ≡ Function n → StandOver w at g None (InBody f ∷ below) gs (top ∷ rest) → IsBodyFrame w at g (FunctionCode n) true f below top × StandOver w at g None below gs rest
  function_frame f n below gs top rest owned stands = subst (λ (o : Owner). BodyStandsOver w at g f o below (StandOver w at g None below) (StandOver w at g (Some f) below) gs (top ∷ rest)) owned stands

  -- what the frame keeps, where a body waits
  pub function_keeps : (f caller : Body) (caller_body : TypedBody) (n : FunctionId) (below : List PathFrame) (kept : Kept) → f.owner ≡ Function n → owned_body w.setup.program caller.owner ≡ Some caller_body → KeepsCall w f (body_below w (InBody caller ∷ below)) kept
      → kept ≡ call_kept w caller_body (pointee (return_of (world_classes w) n)) f.found f.target
  function_keeps f caller caller_body n below kept owned there keeps =
      let by_body : KeepsCall w f (Some caller_body) kept = subst (λ (o : Option TypedBody). KeepsCall w f o kept) there keeps in
      by_body ∙ ap (λ (o : Owner). call_kept w caller_body (owner_result w o) f.found f.target) owned

  -- the body below goes on where it waits, with other locals and registers
  pub caller_takes : (caller : Body) (below : List PathFrame) (gs : List Going) (under : MachineFrame) (rest : List MachineFrame) (locals : List Value) (registers : List (Option ℕ)) → StandOver w at g None (InBody caller ∷ below) gs (under ∷ rest) → HasVariables w g (body_on caller locals caller.next) registers
      → StandOver w at g None (InBody (body_on caller locals caller.next) ∷ below) gs (frame_on under registers under.block ∷ rest)
  caller_takes caller below gs under rest locals registers stands variables_there =
      let on = body_on_top w at g caller below gs (under ∷ rest) stands in
      let there : under ∷ rest ≡ on.frame ∷ on.rest = on.is in
      let first : on.frame ≡ under = cc in
      let others : on.rest ≡ rest = cc in
      let over = on.goes_on locals caller.next registers on.frame.block (record { variables = variables_there; block = on.body.block }) in
      subst (λ (top : MachineFrame). StandOver w at g None (InBody (body_on caller locals caller.next) ∷ below) gs (frame_on top registers top.block ∷ rest)) first
      (subst (λ (bs : List MachineFrame). StandOver w at g None (InBody (body_on caller locals caller.next) ∷ below) gs (frame_on on.frame registers on.frame.block ∷ bs)) others over)

  -- its variables, as it waits
  pub caller_variables : (caller : Body) (below : List PathFrame) (gs : List Going) (under : MachineFrame) (rest : List MachineFrame) → StandOver w at g None (InBody caller ∷ below) gs (under ∷ rest) → HasVariables w g caller under.registers
  caller_variables caller below gs under rest stands =
      let on = body_on_top w at g caller below gs (under ∷ rest) stands in
      let there : under ∷ rest ≡ on.frame ∷ on.rest = on.is in
      let first : on.frame ≡ under = cc in
      subst (λ (top : MachineFrame). HasVariables w g caller top.registers) first on.body.variables
