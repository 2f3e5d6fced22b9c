-- The move of a state whose next statement is known: the staged tests refuse it, or its effect is next.
use Rattle.std.proofs.Common.{◌≡◌, Some, None, List, ◌∷◌, ap, ◌∙◌}
use Rattle.cxx_program.specs.declared.program.TypedBody.{TypedBody}
use Rattle.cxx_program.specs.declared.statement.TypedStatement.{TypedStatement}
use Rattle.path_rules.specs.declared.Undefined.{Undefined}
use Rattle.path_model.specs.States.{ProgramState, RunningBody as Body, Frame as PathFrame, InBody, sight, wanted_result, with_frames}
use Rattle.path_model.specs.Rules.{statement_refusal}
use Rattle.path_model.specs.Order.{staged}
use Rattle.path_model.specs.Typed.{IsStatementAt}
use Rattle.path_model.specs.Effects.{Next, effect}
use Rattle.path_model.specs.Steps.{unless, before_kind, next_in_body, body_step, frame_step, step}
use Rattle.path_model.specs.Runs.{Move, IsRefused, asks_nothing, demand_of, limit_of, statement_limit, body_limit, frame_limit, limit_at, move_by, move}
use Rattle.path_model.proofs.Statements.{staged_refuses}
use Rattle.agree_relation.specs.Worlds.{World, IsProgramWorld, world_classes, places_in}
use Rattle.agree_statements.specs.Statements.{IsNext}

-- the move of a state of this world
abbrev pub move_in : World → ProgramState → Move
move_in w s = move (world_classes w) (places_in w).size w.setup.program s

module _ (w : World) (s : ProgramState) (f : Body) (below : List PathFrame) (body : TypedBody) (statement : TypedStatement) (world : IsProgramWorld w) (next : IsNext w s f below body statement) where
  -- the body as the statement finds it, and what it does
  abbrev pub entry : Body
  entry = before_kind f statement.kind

  abbrev pub effect_here : Next
  effect_here = effect (world_classes w) w.setup.program (with_frames s (InBody entry ∷ below)) entry below f.next statement

  -- its step, its limit, and both
  pub step_is : step (world_classes w) w.setup.program s ≡ unless (statement_refusal (world_classes w) (sight s entry) (wanted_result entry) statement.kind) statement.line effect_here
  step_is = ap (frame_step (world_classes w) w.setup.program s) next.frames ∙ ap (body_step (world_classes w) w.setup.program s f below) next.there ∙ ap (next_in_body (world_classes w) w.setup.program s f below body) next.here

  pub limit_is : limit_at (places_in w).size w.setup.program s ≡ limit_of (places_in w).size s (demand_of (sight s f) statement.kind)
  limit_is = ap (frame_limit (places_in w).size w.setup.program s) next.frames ∙ ap (body_limit (places_in w).size s f) next.there ∙ ap (statement_limit (places_in w).size s f) next.here

  pub move_is : IsStatementAt (world_classes w) (sight s entry) (wanted_result entry) statement.kind → move_in w s ≡ move_by (unless (staged (world_classes w) (sight s entry) (wanted_result entry) statement.kind) statement.line effect_here) (limit_of (places_in w).size s (demand_of (sight s f) statement.kind))
  move_is typed =
      ap (λ o. move_by o (limit_at (places_in w).size w.setup.program s)) step_is ∙ ap (move_by (unless (statement_refusal (world_classes w) (sight s entry) (wanted_result entry) statement.kind) statement.line effect_here)) limit_is
      ∙ ap (λ o. move_by (unless o statement.line effect_here) (limit_of (places_in w).size s (demand_of (sight s f) statement.kind))) (staged_refuses (world_classes w) (sight s entry) (wanted_result entry) statement.kind world.hierarchy next.settled typed)

  -- a rule refuses the statement
  pub move_refused : (rule : Undefined) → IsStatementAt (world_classes w) (sight s entry) (wanted_result entry) statement.kind → staged (world_classes w) (sight s entry) (wanted_result entry) statement.kind ≡ Some rule → move_in w s ≡ IsRefused rule statement.line
  move_refused rule typed e = move_is typed ∙ ap (λ o. move_by (unless o statement.line effect_here) (limit_of (places_in w).size s (demand_of (sight s f) statement.kind))) e

  -- none refuses it
  pub move_asks : IsStatementAt (world_classes w) (sight s entry) (wanted_result entry) statement.kind → staged (world_classes w) (sight s entry) (wanted_result entry) statement.kind ≡ None → move_in w s ≡ move_by effect_here (limit_of (places_in w).size s (demand_of (sight s f) statement.kind))
  move_asks typed e = move_is typed ∙ ap (λ o. move_by (unless o statement.line effect_here) (limit_of (places_in w).size s (demand_of (sight s f) statement.kind))) e

  -- and it asks for nothing
  pub move_fine : IsStatementAt (world_classes w) (sight s entry) (wanted_result entry) statement.kind → staged (world_classes w) (sight s entry) (wanted_result entry) statement.kind ≡ None → demand_of (sight s f) statement.kind ≡ asks_nothing → move_in w s ≡ move_by effect_here None
  move_fine typed e asks = move_asks typed e ∙ ap (λ d. move_by effect_here (limit_of (places_in w).size s d)) asks
