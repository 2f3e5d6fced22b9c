-- What is next in a state of a run: a statement, the end of a body, or an event of a plan.
use Rattle.std.proofs.Common.{◌≡◌, ℕ, Option, Some, None, List, [], ◌∷◌, refl}
use Rattle.std.specs.Prelude.{slice_get}
use Rattle.cxx_hierarchy.specs.declared.records.ClassId.{ClassId}
use Rattle.cxx_program.specs.declared.program.TypedBody.{TypedBody}
use Rattle.cxx_program.specs.declared.statement.TypedStatement.{TypedStatement}
use Rattle.path_model.specs.Runs.{state_at}
use Rattle.path_model.specs.States.{ProgramState, RunningBody, Frame, InBody, InPlan, owned_body}
use Rattle.agree_relation.specs.Worlds.{World, IsProgramWorld, world_classes}
use Rattle.agree_runs.specs.NextSteps.{IsAhead, a_statement, an_end, an_event}
use Rattle.agree_runs.proofs.Accepted.{world_accepted}
use Rattle.agree_runs.proofs.Events.{next_event}
use Rattle.agree_runs.proofs.Tops.{frames_there, body_on_top, next_statement, next_end}

module _ (w : World) (world : IsProgramWorld w) (sizes : ClassId → ℕ) (n : ℕ) where
  abbrev s : ProgramState
  s = state_at (world_classes w) sizes w.setup.program n

  in_body_ahead : (f : RunningBody) (below : List Frame) (body : TypedBody) → s.frames ≡ InBody f ∷ below → owned_body w.setup.program f.owner ≡ Some body → (o : Option TypedStatement) → slice_get body.statements f.next ≡ o → IsAhead w sizes s
  in_body_ahead f below body top there None over = an_end f below body (next_end w world sizes n f below body top there over)
  in_body_ahead f below body top there (Some statement) here = a_statement f below body statement (next_statement w world sizes n f below body statement top there here)

  by_frames : (frames : List Frame) → s.frames ≡ frames → IsAhead w sizes s
  by_frames [] none = absurd (frames_there (world_classes w) sizes w.setup.program n (world_accepted w world) none)
  by_frames (InBody f ∷ below) top =
      let body = body_on_top (world_classes w) sizes w.setup.program n (world_accepted w world) f below top in
      in_body_ahead f below body.0 top body.1 (slice_get body.0.statements f.next) refl
  by_frames (InPlan p ∷ path) top = an_event p path top (next_event (world_classes w) sizes w.setup.program n (world_accepted w world) p path top)

  pub something_ahead : IsAhead w sizes s
  something_ahead = by_frames s.frames refl
