-- What a run does next from a state: a statement, the end of a body, or an event of a plan.
use Rattle.std.specs.Prelude.{◌≡◌, ℕ, true, false, Some, None, List, [], ◌∷◌, slice_get}
use Rattle.cxx_hierarchy.specs.declared.records.ClassId.{ClassId}
use Rattle.cxx_hierarchy.specs.Classes.{Classes}
use Rattle.cxx_program.specs.declared.program.TypedBody.{TypedBody}
use Rattle.cxx_program.specs.declared.program.TypedProgram.{TypedProgram}
use Rattle.cxx_program.specs.declared.statement.TypedStatement.{TypedStatement}
use Rattle.path_plan.specs.Places.{ObjectPart, IsPartWithin}
use Rattle.path_plan.specs.Phases.{PartEvent, Done, part_of}
use Rattle.path_plan.specs.Views.{Fits}
use Rattle.path_plan.specs.Whole.{whole_part}
use Rattle.path_model.specs.declared.outs.Out.{Out}
use Rattle.path_model.specs.Effects.{Goes}
use Rattle.path_model.specs.Runs.{Moves, move}
use Rattle.path_model.specs.States.{ProgramState, RunningBody, Planned, Frame, InBody, InPlan, owned_body, with_frames}
use Rattle.path_model.specs.Steps.{class_of_part, event_step}
use Rattle.path_model.specs.Typed.{AllSettled}
use Rattle.path_model.specs.TypedStates.{IsTypedState}
use Rattle.agree_relation.specs.Worlds.{World, world_classes}
use Rattle.agree_statements.specs.Statements.{AreSeen, IsNext}

-- a plan has an event to come, which fits, to a part of its heap object, which is open; and the event is the step of the run
pub record HappensNext (h : Classes) (sizes : ClassId → ℕ) (program : TypedProgram) (s : ProgramState) (p : Planned) (path : List Frame) : Type 0 where
  pub event : PartEvent
  pub rest : List PartEvent
  pub is : p.events ≡ event ∷ rest
  pub fits : Fits h s.objects.phases event
  pub class : ClassId
  pub made : slice_get s.objects.classes p.object ≡ Some class
  pub inside : IsPartWithin h (part_of event) (whole_part p.object class)
  pub open_there : s.objects.is_closed (part_of event).object ≡ false
  pub new : ProgramState
  pub told : List Out
  pub steps : event_step program s p path p.events ≡ Goes new told
  pub moves : move h sizes program s ≡ Moves new told

-- a body is on top, and at its end
pub record IsAtEnd (w : World) (s : ProgramState) (f : RunningBody) (below : List Frame) (body : TypedBody) : Type 0 where
  pub frames : s.frames ≡ InBody f ∷ below
  pub there : owned_body w.setup.program f.owner ≡ Some body
  pub over : slice_get body.statements f.next ≡ None
  pub typed : IsTypedState (world_classes w) w.setup.program s
  pub settled : AllSettled (world_classes w) s.objects
  pub seen : AreSeen (world_classes w) s.objects

-- behind the body of a constructor of class c on top stands its plan, whose next event says that the part is done: the step at the end of the body
pub record EndsConstructor (h : Classes) (sizes : ClassId → ℕ) (program : TypedProgram) (s : ProgramState) (c : ClassId) (below : List Frame) : Type 0 where
  pub plan : Planned
  pub path : List Frame
  pub is : below ≡ InPlan plan ∷ path
  pub building : plan.is_building ≡ true
  pub part : ObjectPart
  pub of_class : class_of_part part ≡ c
  pub next : HappensNext h sizes program s plan path
  pub done : next.event ≡ Done part

-- behind the body of a destructor on top stands its plan, which goes on in the step at the end of the body
pub record EndsDestructor (h : Classes) (sizes : ClassId → ℕ) (program : TypedProgram) (s : ProgramState) (below : List Frame) : Type 0 where
  pub plan : Planned
  pub path : List Frame
  pub is : below ≡ InPlan plan ∷ path
  pub ending : plan.is_building ≡ false
  pub moves : move h sizes program s ≡ Moves (with_frames s (InPlan plan ∷ path)) []

-- what is next in a state of a world
pub data IsAhead (w : World) (sizes : ClassId → ℕ) (s : ProgramState) : Type 0 where
  a_statement : (f : RunningBody) (below : List Frame) (body : TypedBody) (statement : TypedStatement) → IsNext w s f below body statement → IsAhead w sizes s
  an_end : (f : RunningBody) (below : List Frame) (body : TypedBody) → IsAtEnd w s f below body → IsAhead w sizes s
  an_event : (p : Planned) (path : List Frame) → s.frames ≡ InPlan p ∷ path → HappensNext (world_classes w) sizes w.setup.program s p path → IsAhead w sizes s
