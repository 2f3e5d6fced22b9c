-- What the parts of an event's step do.
use Rattle.std.specs.Prelude.{◌≡◌, ℕ, Option, Some, None, List, [], ◌∷◌}
use Rattle.cxx_hierarchy.specs.declared.records.ClassId.{ClassId}
use Rattle.cxx_hierarchy.specs.Classes.{Classes}
use Rattle.cxx_program.specs.declared.program.TypedProgram.{TypedProgram}
use Rattle.path_plan.specs.Phases.{PartEvent, Body}
use Rattle.path_plan.specs.Places.{ObjectPart}
use Rattle.path_plan.specs.Views.{Fits}
use Rattle.path_plan.specs.Whole.{whole_part}
use Rattle.path_model.specs.declared.outs.Out.{Out}
use Rattle.path_machine.specs.declared.telling.Telling.{Telling}
use Rattle.path_machine.specs.Tellings.{TellsMore}
use Rattle.path_model.specs.Values.{Pointer}
use Rattle.path_model.specs.States.{Planned, Frame, ProgramState, with_objects}
use Rattle.path_model.specs.Steps.{objects_after, event_outs, resumed, event_step}
use Rattle.path_heap.specs.declared.state.NumberedPart.{NumberedPart}
use Rattle.path_heap.specs.Points.{StandsForPart}
use Rattle.path_events.specs.declared.plan.PlanEvent.{PlanEvent}
use Rattle.path_events.specs.declared.plan.PlanEvent.TheVariants.{Begin as BeginCode, Ready as ReadyCode, Init as InitCode, Body as BodyCode, Done as DoneCode, Ending as EndingCode, Bases as BasesCode, End as EndCode}
use Rattle.path_events.specs.Plans.{IsEvent}
use Rattle.path_machine.specs.declared.frames.PlanFrame.{PlanFrame}
use Rattle.path_machine.specs.declared.machine.Machine.{Machine}
use Rattle.path_machine.specs.Machines.{MachineStands}
use Rattle.path_machine.specs.declared.next.Next.{Next as NextCode}
use Rattle.path_machine.specs.invariants.Steps.{StepAgrees, CanGive}
use Rattle.path_machine.specs.invariants.Setups.{IsPlanTaken, IsPlanNext}

-- the part whose body is next
abbrev pub body_part : PlanEvent → Option NumberedPart
body_part (BeginCode part) = None
body_part (ReadyCode part) = None
body_part (InitCode part m) = None
body_part (BodyCode part) = Some part
body_part (DoneCode part) = None
body_part (EndingCode part) = None
body_part (BasesCode part) = None
body_part (EndCode part) = None

-- the event with this name happens to the objects, and nothing else changes
abbrev pub Happens : Classes → TypedProgram → (old new : Machine) → PlanEvent → Type 0
Happens h program old new code = (sizes : ClassId → ℕ) (s : ProgramState) (e : PartEvent) →
    MachineStands h sizes program old s → IsEvent h program s.objects.classes code e → Fits h s.objects.phases e → MachineStands h sizes program new (with_objects s (objects_after program s.objects e))

-- what the event with this name tells stands behind the rest
abbrev pub TellsEvent : Classes → TypedProgram → Machine → PlanEvent → (before after : Telling) → Type 0
TellsEvent h program machine code before after = (sizes : ClassId → ℕ) (s : ProgramState) (e : PartEvent) →
    MachineStands h sizes program machine s → IsEvent h program s.objects.classes code e → TellsMore before after (event_outs s.objects e)

-- the plan with these events left
abbrev pub with_events : Planned → List PartEvent → Planned
with_events f events = record { object = f.object; is_building = f.is_building; events = events; target = f.target }

-- behind the last event the pointer to the object, of class c, can be given
abbrev pub CanEnd : Classes → ProgramState → Planned → List PartEvent → ClassId → Type 0
CanEnd h s f events c = events ≡ [] → CanGive h s (Pointer (whole_part f.object c)) f.target

-- the plan goes on with the events that are left
abbrev pub Resumes : Classes → TypedProgram → (old new : Machine) → PlanFrame → NextCode → Type 0
Resumes h program old new frame next = (sizes : ClassId → ℕ) (s : ProgramState) (f : Planned) (events : List PartEvent) (below : List Frame) (outs : List Out) (before after : Telling) →
    IsPlanTaken h sizes program old frame s (with_events f events) below → CanEnd h s f events frame.whole.class → TellsMore before after outs → StepAgrees h sizes program (resumed program s f below outs events) new before after next

-- the plan goes on with the body of a part
abbrev pub Enters : Classes → TypedProgram → (old new : Machine) → PlanFrame → NumberedPart → NextCode → Type 0
Enters h program old new frame part next = (sizes : ClassId → ℕ) (s : ProgramState) (f : Planned) (p : ObjectPart) (events : List PartEvent) (below : List Frame) (outs : List Out) (before after : Telling) →
    IsPlanTaken h sizes program old frame s (with_events f (Body p ∷ events)) below → StandsForPart h s.objects.classes part p → TellsMore before after outs → StepAgrees h sizes program (resumed program s f below outs (Body p ∷ events)) new before after next

-- the plan on top, which was taken, makes its next step
abbrev pub StepsPlan : Classes → TypedProgram → (old new : Machine) → PlanFrame → (before after : Telling) → NextCode → Type 0
StepsPlan h program old new frame before after next = (sizes : ClassId → ℕ) (s : ProgramState) (f : Planned) (below : List Frame) →
    IsPlanTaken h sizes program old frame s f below → IsPlanNext h s f frame.whole.class → StepAgrees h sizes program (event_step program s f below f.events) new before after next
