-- A turn of a plan: what is known of its state, and what is said of its block.
use Rattle.std.specs.Prelude.{◌≡◌, ℕ, false, Some, None, List, ◌∷◌, slice_get}
use Rattle.path_plan.specs.Phases.{PartEvent, part_of}
use Rattle.path_plan.specs.Views.{Fits}
use Rattle.path_model.specs.declared.outs.Out.{Out}
use Rattle.path_model.specs.States.{ProgramState, RunningBody as Body, Planned, Frame as PathFrame, InBody, InPlan}
use Rattle.path_model.specs.Effects.{Goes}
use Rattle.path_model.specs.Steps.{event_step}
use Rattle.path_model.specs.Typed.{AllSettled}
use Rattle.path_model.specs.TypedStates.{IsTypedState}
use Rattle.path_model.specs.Runs.{Move, Moves, move}
use Rattle.byte_code.specs.declared.op.Op.{Op}
use Rattle.byte_machine.specs.Running.{Running}
use Rattle.byte_machine.specs.Leads.{LeadsBlock}
use Rattle.agree_relation.specs.Worlds.{World, world_classes, places_in, fixed}
use Rattle.agree_relation.specs.Frames.{PlaceNumbers}
use Rattle.agree_relation.specs.Agrees.{Agrees}
use Rattle.agree_statements.specs.Statements.{AreSeen}
use Rattle.agree_plans.specs.Courses.{IsClosing}

-- the move of a state is the next event of the plan p, over these frames: the plan is on top, or a body stands on it. The event fits, is of an open object, and has a block of its own where the plan is on top; nobody waits for a destruction; and where a body is on top behind the event, all objects are settled and seen
pub record IsUnderWay (w : World) (s : ProgramState) (p : Planned) (path : List PathFrame) : Type 0 where
  pub event : PartEvent
  pub rest : List PartEvent
  pub is : p.events ≡ event ∷ rest
  pub fits : Fits (world_classes w) s.objects.phases event
  pub open_there : s.objects.is_closed (part_of event).object ≡ false
  pub own : s.frames ≡ InPlan p ∷ path → IsClosing w.setup.program event → ⊥
  pub new : ProgramState
  pub told : List Out
  pub steps : event_step w.setup.program s p path p.events ≡ Goes new told
  pub moves : move (world_classes w) (places_in w).size w.setup.program s ≡ Moves new told
  pub typed : IsTypedState (world_classes w) w.setup.program s
  pub silent : p.is_building ≡ false → p.target ≡ None
  pub settled : (f : Body) (below : List PathFrame) → new.frames ≡ InBody f ∷ below → AllSettled (world_classes w) new.objects
  pub seen : (f : Body) (below : List PathFrame) → new.frames ≡ InBody f ∷ below → AreSeen (world_classes w) new.objects

-- the block of this number stands in the code, and agrees with the move
pub record HasBlock (w : World) (at : PlaceNumbers) (b : Running) (number line : ℕ) (m : Move) : Type 0 where
  pub ops : List Op
  pub there : slice_get w.code.blocks number ≡ Some (record { ops = ops; line = line })
  pub leads : LeadsBlock (fixed w) ops b (Agrees w at m)
