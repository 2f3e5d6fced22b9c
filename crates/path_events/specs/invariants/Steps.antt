-- What a part gives next.
use Rattle.std.specs.Prelude.{◌≡◌, ℕ, slice_get, Bool, true, false, Option, Some, None, List, [], ◌∷◌}
use Rattle.cxx_hierarchy.specs.declared.records.ClassId.{ClassId}
use Rattle.cxx_hierarchy.specs.declared.records.Member.{Member}
use Rattle.cxx_hierarchy.specs.Declarations.{elements_of}
use Rattle.cxx_hierarchy.specs.Classes.{Classes, members_of}
use Rattle.cxx_program.specs.declared.program.TypedProgram.{TypedProgram}
use Rattle.path_plan.specs.Places.{ObjectPart}
use Rattle.path_plan.specs.Phases.{PartEvent}
use Rattle.path_plan.specs.Pieces.{Piece, Own, Sub}
use Rattle.path_model.specs.States.{plan_bodies}
use Rattle.path_heap.specs.declared.state.NumberedPart.{NumberedPart}
use Rattle.path_bodies.specs.declared.index.BodyIndex.{BodyIndex}
use Rattle.path_bodies.specs.Places.{IsIndexOf}
use Rattle.path_events.specs.declared.plan.PlanEvent.{PlanEvent}
use Rattle.path_events.specs.declared.plan.PlanEvent.TheVariants.{Begin as BeginCode, Ending as EndingCode}
use Rattle.path_events.specs.declared.course.Course.{Course}
use Rattle.path_plan.specs.declared.form.Form.{Form}
use Rattle.path_events.specs.declared.frame.Stage.{Stage}
use Rattle.path_events.specs.declared.frame.Stage.TheVariants.{Shared as SharedStage, Body as BodyStage}
use Rattle.path_events.specs.declared.frame.Pending.{Pending as Frame}
use Rattle.path_events.specs.declared.frame.Step.{Step}
use Rattle.path_events.specs.declared.frame.Step.TheVariants.{Event as EventStep, Last as LastStep, Open as OpenStep}
use Rattle.path_events.specs.Frames.{StandsAs, left_of}
use Rattle.path_events.specs.Plans.{IsEvent}

-- an event of the part itself, and what is left behind it
pub record IsOwnStep (h : Classes) (program : TypedProgram) (classes : List ClassId) (code : PlanEvent) (left rest : List Piece) : Type 0 where
  pub e : PartEvent
  pub means : IsEvent h program classes code e
  pub is : left ≡ Own e ∷ rest

-- a part inside it, and what is left behind that
pub record IsOpenStep (h : Classes) (classes : List ClassId) (kid : NumberedPart) (form : Form) (left rest : List Piece) : Type 0 where
  pub q : ObjectPart
  pub stands : StandsAs h classes kid form q
  pub is : left ≡ Sub form kid.class q ∷ rest

-- the step is the first of what is left; at names what is left at a stage
abbrev pub IsStep : Classes → TypedProgram → List ClassId → (Stage → List Piece) → List Piece → Step → Type 0
IsStep h program classes at left (EventStep code stage) = IsOwnStep h program classes code left (at stage)
IsStep h program classes at left (LastStep code) = IsOwnStep h program classes code left []
IsStep h program classes at left (OpenStep kid form stage) = IsOpenStep h classes kid form left (at stage)

-- what is left of a frame's part at a stage
abbrev pub left_at : Classes → TypedProgram → Bool → Frame → ObjectPart → Stage → List Piece
left_at h program is_building frame p stage = left_of h (plan_bodies program) is_building frame.form frame.part.class p stage

-- the step is what the frame gives at this stage
abbrev pub GivesStep : Classes → BodyIndex → Bool → Frame → Stage → Step → Type 0
GivesStep h index is_building frame stage step =
    (program : TypedProgram) (classes : List ClassId) (p : ObjectPart) → IsIndexOf program index → StandsAs h classes frame.part frame.form p → IsStep h program classes (left_at h program is_building frame p) (left_at h program is_building frame p stage) step

-- as much is left at one stage as at the other
abbrev pub IsSameLeft : Classes → BodyIndex → Bool → Frame → Stage → Stage → Type 0
IsSameLeft h index is_building frame stage next = (program : TypedProgram) (p : ObjectPart) → IsIndexOf program index → left_at h program is_building frame p stage ≡ left_at h program is_building frame p next

-- the step is what the frame gives at this stage, or it gives nothing before the next
abbrev pub MayGive : Classes → BodyIndex → Bool → Frame → (stage next : Stage) → Option Step → Type 0
MayGive h index is_building frame stage next None = IsSameLeft h index is_building frame stage next
MayGive h index is_building frame stage next (Some step) = GivesStep h index is_building frame stage step

-- the same of the part that is open
abbrev pub GivesNext : Course → Bool → Stage → Step → Type 0
GivesNext course is_building stage step = GivesStep course.h.now course.index.now is_building course.frame stage step

abbrev pub MayGiveNext : Course → Bool → (stage next : Stage) → Option Step → Type 0
MayGiveNext course is_building stage next step = MayGive course.h.now course.index.now is_building course.frame stage next step

-- where a part begins
abbrev pub first_event : Bool → NumberedPart → PlanEvent
first_event true part = BeginCode part
first_event false part = EndingCode part

abbrev pub first_stage : Bool → Stage
first_stage true = SharedStage 0
first_stage false = BodyStage

-- the frame at another stage
abbrev pub at_stage : Frame → Stage → Frame
at_stage frame stage = record { part = frame.part; form = frame.form; stage = stage }

-- the event of a step, and the stack behind it
abbrev pub event_in : Bool → Step → PlanEvent
event_in is_building (EventStep code stage) = code
event_in is_building (LastStep code) = code
event_in is_building (OpenStep kid form stage) = first_event is_building kid

abbrev pub stack_behind : Bool → Frame → Step → List Frame → List Frame
stack_behind is_building frame (EventStep code stage) below = at_stage frame stage ∷ below
stack_behind is_building frame (LastStep code) below = below
stack_behind is_building frame (OpenStep kid form stage) below = record { part = kid; form = form; stage = first_stage is_building } ∷ (at_stage frame stage ∷ below)

-- how many elements a member has, and none past the last
abbrev pub elements_in : Option (Member ClassId) → ℕ
elements_in None = 0
elements_in (Some member) = elements_of member.count

abbrev pub elements_at : Classes → ClassId → ℕ → ℕ
elements_at h c m = elements_in (slice_get (members_of h c) m)
