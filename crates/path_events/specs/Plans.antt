-- When a plan of the code stands for a list of events.
use Rattle.std.specs.Prelude.{◌≡◌, ℕ, Bool, true, false, Option, Some, None, List, [], ◌∷◌, reverse, ◌≤◌, ◌^◌, slice_get, if◌then◌else◌}
use Rattle.cxx_hierarchy.specs.declared.records.ClassId.{ClassId}
use Rattle.cxx_hierarchy.specs.Classes.{Classes}
use Rattle.cxx_program.specs.declared.program.TypedProgram.{TypedProgram}
use Rattle.path_plan.specs.Places.{ObjectPart}
use Rattle.path_plan.specs.Phases.{PartEvent, Begin, Ready, Init, Body, Done, Ending, Bases, End}
use Rattle.path_plan.specs.declared.form.Form.TheVariants.{InFull}
use Rattle.path_plan.specs.Plans.{Bodies, Inner, plan, unplan}
use Rattle.path_plan.specs.Pieces.{Pending, rest_of_plan}
use Rattle.path_model.specs.States.{plan_bodies, member_init, is_init}
use Rattle.path_heap.specs.declared.state.NumberedPart.{NumberedPart}
use Rattle.path_heap.specs.Points.{StandsForPart}
use Rattle.path_events.specs.declared.plan.PlanEvent.{PlanEvent}
use Rattle.path_events.specs.declared.plan.PlanEvent.TheVariants.{Begin as BeginCode, Ready as ReadyCode, Init as InitCode, Body as BodyCode, Done as DoneCode, Ending as EndingCode, Bases as BasesCode, End as EndCode}
use Rattle.path_events.specs.declared.frame.Pending.{Pending as Frame}
use Rattle.path_events.specs.declared.plan.Plan.{Plan}
use Rattle.path_events.specs.Frames.{StandsAs, left_of}
use Rattle.path_plan.specs.Whole.{whole_part, construction, destruction}
use Rattle.path_numbers.specs.Sizes.{sizes_of, total}

-- an event of the code is this one of the model; a member that is set has an initializer
pub data IsEvent (h : Classes) (program : TypedProgram) (classes : List ClassId) : PlanEvent → PartEvent → Type 0 where
  begins_event : (code : NumberedPart) (p : ObjectPart) → StandsForPart h classes code p → IsEvent h program classes (BeginCode code) (Begin p)
  ready_event : (code : NumberedPart) (p : ObjectPart) → StandsForPart h classes code p → IsEvent h program classes (ReadyCode code) (Ready p)
  init_event : (code : NumberedPart) (m : ℕ) (p : ObjectPart) → StandsForPart h classes code p → is_init (member_init program code.class m) ≡ true → IsEvent h program classes (InitCode code m) (Init p m)
  body_event : (code : NumberedPart) (p : ObjectPart) → StandsForPart h classes code p → IsEvent h program classes (BodyCode code) (Body p)
  done_event : (code : NumberedPart) (p : ObjectPart) → StandsForPart h classes code p → IsEvent h program classes (DoneCode code) (Done p)
  ending_event : (code : NumberedPart) (p : ObjectPart) → StandsForPart h classes code p → IsEvent h program classes (EndingCode code) (Ending p)
  bases_event : (code : NumberedPart) (p : ObjectPart) → StandsForPart h classes code p → IsEvent h program classes (BasesCode code) (Bases p)
  end_event : (code : NumberedPart) (p : ObjectPart) → StandsForPart h classes code p → IsEvent h program classes (EndCode code) (End p)

-- the events of each part
abbrev pub inner_of : Classes → Bodies → (is_building : Bool) → Inner
inner_of h bodies true = plan h bodies
inner_of h bodies false = unplan h bodies

-- an entry of the stack is a part with what is left of it
pub record EntryStands (h : Classes) (bodies : Bodies) (is_building : Bool) (classes : List ClassId) (code : Frame) (f : Pending) : Type 0 where
  pub stands : StandsAs h classes code.part code.form f.part
  pub left : f.left ≡ left_of h bodies is_building code.form code.part.class f.part code.stage

-- each of them, the innermost first
abbrev pub EntriesStand : Classes → Bodies → Bool → List ClassId → List Frame → List Pending → Type 0
EntriesStand h bodies is_building classes [] [] = Unit {0}
EntriesStand h bodies is_building classes [] (f ∷ fs) = ⊥
EntriesStand h bodies is_building classes (c ∷ cs) [] = ⊥
EntriesStand h bodies is_building classes (c ∷ cs) (f ∷ fs) = EntryStands h bodies is_building classes c f × EntriesStand h bodies is_building classes cs fs

-- the code has the first of these events, and none exactly where there is none
abbrev pub MeansNext : Classes → TypedProgram → List ClassId → Option PlanEvent → List PartEvent → Type 0
MeansNext h program classes None [] = Unit {0}
MeansNext h program classes None (e ∷ rest) = ⊥
MeansNext h program classes (Some code) [] = ⊥
MeansNext h program classes (Some code) (e ∷ rest) = IsEvent h program classes code e

-- the events that come behind the first
abbrev pub rest_events : List PartEvent → List PartEvent
rest_events [] = []
rest_events (e ∷ rest) = rest

-- the events are the upcoming one and what the stack leaves
pub record PlanStands (h : Classes) (program : TypedProgram) (classes : List ClassId) (code : Plan) (events : List PartEvent) : Type 0 where
  pub frames : List Pending
  pub stand : EntriesStand h (plan_bodies program) code.is_building classes (reverse code.stack.items) frames
  pub first : MeansNext h program classes code.upcoming events
  pub rest : rest_events events ≡ rest_of_plan (inner_of h (plan_bodies program) code.is_building) frames

-- the plan has all events of the construction of this whole heap object, or else of its destruction
abbrev pub IsWholePlan : Classes → (whole : NumberedPart) → (is_building : Bool) → Plan → Type 0
IsWholePlan h whole is_building code = (program : TypedProgram) (classes : List ClassId) (k : ℕ) →
    slice_get classes k ≡ Some whole.class → StandsForPart h classes whole (whole_part k whole.class) → total (sizes_of h InFull) classes ≤ 2 ^ 64 →
    PlanStands h program classes code (if is_building then construction h (plan_bodies program) k whole.class else destruction h (plan_bodies program) k whole.class)
