-- The move of a state whose next statement is known, by its rule and its limit; and that of a body that is at its end.
use Rattle.agree_relation.specs.Worlds.{IsProgramWorld, World, world_classes, places_in}
use Rattle.agree_statements.proofs.Moves.{effect_here, entry, limit_is, move_in, move_is, step_is, move_asks}
use Rattle.agree_statements.specs.Statements.{IsNext}
use Rattle.cxx_program.specs.declared.program.TypedBody.{TypedBody}
use Rattle.cxx_program.specs.declared.statement.TypedStatement.{TypedStatement}
use Rattle.path_model.specs.Order.{staged}
use Rattle.path_model.specs.Rules.{statement_refusal}
use Rattle.path_model.specs.Runs.{asks_call, body_limit, call_limit, demand_of, frame_limit, limit_at, limit_of, move_by, statement_limit}
use Rattle.path_model.specs.States.{Frame as PathFrame, InBody, RunningBody as Body, ProgramState, owned_body, sight, wanted_result}
use Rattle.path_model.specs.Steps.{body_step, body_closed, frame_step, next_in_body, unless}
use Rattle.path_model.specs.Typed.{IsStatementAt}
use Rattle.std.proofs.Common.{◌≡◌, None, List, ◌∷◌, Some, ap, ◌∙◌}
use Rattle.std.specs.Prelude.{slice_get}

module _ (w : World) (s : ProgramState) (f : Body) (below : List PathFrame) (body : TypedBody) (statement : TypedStatement) (world : IsProgramWorld w) (next : IsNext w s f below body statement) where
  abbrev on : Body
  on = entry w s f below body statement world next

  -- refused by the rule of its uses, or within its limit
  pub statement_move : move_in w s ≡ move_by (unless (statement_refusal (world_classes w) (sight s (entry w s f below body statement world next)) (wanted_result (entry w s f below body statement world next)) statement.kind) statement.line (effect_here w s f below body statement world next)) (limit_of (places_in w).size s (demand_of (sight s f) statement.kind))
  statement_move =
      ap (λ o. move_by o (limit_at (places_in w).size w.setup.program s)) (step_is w s f below body statement world next)
      ∙ ap (move_by (unless (statement_refusal (world_classes w) (sight s on) (wanted_result on) statement.kind) statement.line (effect_here w s f below body statement world next))) (limit_is w s f below body statement world next)

  -- a call that no rule refuses
  pub move_called : IsStatementAt (world_classes w) (sight s (entry w s f below body statement world next)) (wanted_result (entry w s f below body statement world next)) statement.kind
      → staged (world_classes w) (sight s (entry w s f below body statement world next)) (wanted_result (entry w s f below body statement world next)) statement.kind ≡ None → demand_of (sight s f) statement.kind ≡ asks_call
      → move_in w s ≡ move_by (effect_here w s f below body statement world next) (call_limit s)
  move_called typed fine asks = move_asks w s f below body statement world next typed fine ∙ ap (λ d. move_by (effect_here w s f below body statement world next) (limit_of (places_in w).size s d)) asks
