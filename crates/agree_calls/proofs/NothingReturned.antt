-- A function is left without a result, and nobody waits for one.
use Rattle.agree_calls.proofs.Left.{nothing_left}
use Rattle.agree_calls.proofs.Waiting.{IsCalled}
use Rattle.agree_calls.proofs.Endings.{leads_nothing}
use Rattle.agree_relation.specs.Agrees.{Agrees}
use Rattle.agree_relation.specs.Frames.{PlaceNumbers, call_kept}
use Rattle.agree_relation.specs.Worlds.{World, world_classes, fixed}
use Rattle.agree_statements.specs.Statements.{BeginsBlock}
use Rattle.byte_code.specs.declared.op.Finish.{Finish}
use Rattle.byte_code.specs.declared.op.Op.TheVariants.{Return as ReturnOp}
use Rattle.byte_machine.proofs.Leads.{leads_end}
use Rattle.byte_machine.specs.Calls.{left_calls}
use Rattle.byte_machine.specs.Frames.{Kept}
use Rattle.byte_machine.specs.Leads.{HoldsOfAnswer, OpsLead}
use Rattle.byte_machine.specs.Running.{Returned, Running}
use Rattle.byte_machine.specs.declared.turn.MachineTurn.TheVariants.{Went}
use Rattle.cxx_overrider.specs.Functions.{return_of, pointee}
use Rattle.cxx_overrider.specs.declared.FunctionId.{FunctionId}
use Rattle.path_model.specs.Runs.{Move, Moves}
use Rattle.path_model.specs.States.{Frame as PathFrame, RunningBody as Body, ProgramState, with_frames}
use Rattle.path_model.specs.TypedStates.{IsTypedState}
use Rattle.std.proofs.Common.{◌≡◌, None, List, [], ◌∷◌, ap, subst, sym, ◌∙◌}

module _ (w : World) (at : PlaceNumbers) (s : ProgramState) (f : Body) (below : List PathFrame) (b : Running) (typed : IsTypedState (world_classes w) w.setup.program s) (begins : BeginsBlock w at s b) (n : FunctionId) (k : IsCalled w at s f below b begins n) where
  pub leaves_nothing : f.target ≡ None → (move : Move) → move ≡ Moves (with_frames s below) [] → OpsLead (fixed w) (ReturnOp None None ∷ []) b (HoldsOfAnswer (fixed w) (Agrees w at move))
  leaves_nothing untaken move moves =
      let kept : b.top.kept ≡ call_kept w k.waits.waiting (pointee (return_of (world_classes w) n)) f.found None = k.kept ∙ ap (call_kept w k.waits.waiting (pointee (return_of (world_classes w) n)) f.found) untaken in
      let after = record b { top = k.waits.under; below = k.waits.rest; calls = left_calls b } in
      let done = subst (λ (m : Move). Agrees w at m after Went) (sym moves) (nothing_left w at s f below b typed begins n k) in
      leads_nothing (fixed w) b (HoldsOfAnswer (fixed w) (Agrees w at move)) k.waits.under k.waits.rest begins.opened k.last k.waits.stack_is (ap (λ (x : Kept). x.to) kept)
      (subst (λ (finish : List Finish). HoldsOfAnswer (fixed w) (Agrees w at move) after (Returned finish)) (sym (ap (λ (x : Kept). x.finish) kept)) (leads_end (fixed w) done))
