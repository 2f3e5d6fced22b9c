-- The end of the body of a function, and of `main`.
use Rattle.agree_calls.proofs.NothingReturned.{leaves_nothing}
use Rattle.agree_calls.proofs.ReturnGivens.{returns_are}
use Rattle.agree_runs.proofs.Bodies.{end_moves}
use Rattle.agree_calls.proofs.Waiting.{is_called}
use Rattle.agree_calls.proofs.Endings.{leads_closing, leads_main_end}
use Rattle.code_blocks.specs.Blocks.{closing_ops}
use Rattle.code_ops.specs.Setups.{FunctionCode, MainCode}
use Rattle.agree_relation.specs.Agrees.{Agrees}
use Rattle.agree_relation.specs.Frames.{PlaceNumbers}
use Rattle.agree_relation.specs.Worlds.{IsProgramWorld, World, world_classes, places_in, fixed}
use Rattle.agree_statements.proofs.Moves.{move_in}
use Rattle.agree_statements.specs.Statements.{BeginsBlock}
use Rattle.byte_machine.specs.Leads.{HoldsOfAnswer, LeadsBlock}
use Rattle.byte_machine.specs.Running.{Running}
use Rattle.byte_machine.specs.declared.turn.MachineTurn.TheVariants.{Ended, Refused}
use Rattle.cxx_hierarchy.specs.declared.records.ClassId.{ClassId}
use Rattle.cxx_hierarchy.specs.declared.records.ReturnType.TheVariants.{Value as ValueReturn}
use Rattle.cxx_hierarchy.specs.declared.records.ValueType.{ValueType}
use Rattle.cxx_overrider.specs.Functions.{return_of}
use Rattle.cxx_overrider.specs.declared.FunctionId.{FunctionId}
use Rattle.cxx_program.specs.Typed.{returns_of}
use Rattle.cxx_program.specs.declared.program.Owner.{Owner}
use Rattle.cxx_program.specs.declared.program.Owner.TheVariants.{Function, Main}
use Rattle.cxx_program.specs.declared.program.TypedBody.{TypedBody}
use Rattle.path_model.proofs.Least.{closing_is}
use Rattle.path_model.specs.Effects.{Goes}
use Rattle.path_model.specs.Rules.{closing_refusal, returns_value}
use Rattle.path_model.specs.Runs.{Move, move_by}
use Rattle.path_model.specs.States.{Frame as PathFrame, InBody, RunningBody as Body, ProgramState, owned_body, with_frames}
use Rattle.path_model.specs.Steps.{body_closed, unless}
use Rattle.path_model.specs.TypedStates.{IsTypedState}
use Rattle.path_rules.specs.declared.Undefined.{Undefined}
use Rattle.path_rules.specs.declared.Undefined.TheVariants.{MissingReturn}
use Rattle.std.proofs.Common.{◌≡◌, Bool, true, Option, Some, None, List, [], ◌∷◌, refl, ap, subst, sym, ◌∙◌}
use Rattle.std.specs.Prelude.{if◌then◌else◌, slice_get}

-- a body of a world is at its end, and a byte state in which its closing block begins stands for that
pub record AtEnd : Type 0 where
  pub w : World
  pub at : PlaceNumbers
  pub s : ProgramState
  pub f : Body
  pub below : List PathFrame
  pub body : TypedBody
  pub b : Running
  pub world : IsProgramWorld w
  pub frames : s.frames ≡ InBody f ∷ below
  pub there : owned_body w.setup.program f.owner ≡ Some body
  pub ended : slice_get body.statements f.next ≡ None
  pub typed : IsTypedState (world_classes w) w.setup.program s
  pub begins : BeginsBlock w at s b
  pub line : b.line ≡ body.close_line

module _ (end : AtEnd) where
  open end use {w, at, s, f, below, body, b}

  -- how the body is closed
  closing : (o : Owner) → f.owner ≡ o → move_in w s ≡ move_by (body_closed (world_classes w) w.setup.program s o body.close_line below) None
  closing o owned = end_moves (world_classes w) (places_in w).size w.setup.program s f below body end.frames end.there end.ended ∙ ap (λ (x : Owner). move_by (body_closed (world_classes w) w.setup.program s x body.close_line below) None) owned

  pub main_closes : f.owner ≡ Main → LeadsBlock (fixed w) (closing_ops w.setup at MainCode) b (Agrees w at (move_in w s))
  main_closes owned = leads_main_end w at b (HoldsOfAnswer (fixed w) (Agrees w at (move_in w s))) (subst (λ (m : Move). Agrees w at m b Ended) (sym (closing Main owned)) refl)

  -- a function without a rule against its end has no result
  no_result : (n : FunctionId) → closing_refusal (world_classes w) s.objects n ≡ None → (t : ValueType ClassId) → returns_of (world_classes w) (Function n) ≡ Some (ValueReturn t) → ⊥
  no_result n clear t returns =
      let value : returns_value (return_of (world_classes w) n) ≡ true = ap returns_value (sym (returns_are (world_classes w) n) ∙ returns) in
      let refused : closing_refusal (world_classes w) s.objects n ≡ Some MissingReturn = closing_is (world_classes w) s.objects n ∙ ap (λ (x : Bool). if x then Some MissingReturn else None) value in
      let same : None ≡ Some MissingReturn = sym clear ∙ refused in
      cc

  pub function_closes : (n : FunctionId) → f.owner ≡ Function n → LeadsBlock (fixed w) (closing_ops w.setup at (FunctionCode n)) b (Agrees w at (move_in w s))
  function_closes n owned =
      let k = is_called w at s f below body b end.world end.frames end.typed end.begins n owned in
      let moves = λ (o : Option Undefined) (e : closing_refusal (world_classes w) s.objects n ≡ o). closing (Function n) owned ∙ ap (λ (x : Option Undefined). move_by (unless x body.close_line (Goes (with_frames s below) [])) None) e in
      leads_closing w at n b (HoldsOfAnswer (fixed w) (Agrees w at (move_in w s))) s.objects
      (λ broken. subst (λ (m : Move). Agrees w at m b (Refused 11 b.line)) (sym (moves (Some MissingReturn) broken)) (ap (Refused 11) end.line))
      (λ clear. leaves_nothing w at s f below b end.typed end.begins n k (k.waits.fits_it.nothing (no_result n clear)) (move_in w s) (moves None clear))
