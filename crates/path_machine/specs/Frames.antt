-- When a frame of the code stands for one of the model.
use Rattle.std.specs.Prelude.{◌≡◌, ℕ, Option, Some, None, List, [], ◌∷◌, slice_get}
use Rattle.std.specs.List.{AllZip}
use Rattle.cxx_hierarchy.specs.declared.records.ClassId.{ClassId}
use Rattle.cxx_hierarchy.specs.Classes.{Classes}
use Rattle.cxx_program.specs.declared.operand.Conversion.TheVariants.{Same as ToSame}
use Rattle.cxx_program.specs.declared.program.Owner.TheVariants.{Main}
use Rattle.cxx_program.specs.declared.program.TypedProgram.{TypedProgram}
use Rattle.path_plan.specs.Places.{ObjectPart}
use Rattle.path_plan.specs.Phases.{PartEvent, part_of}
use Rattle.path_plan.specs.Whole.{whole_part}
use Rattle.path_model.specs.States.{Target, RunningBody, Planned, Frame, InBody, InPlan}
use Rattle.path_model.specs.Runs.{open_count}
use Rattle.path_heap.specs.Points.{StandsForPart}
use Rattle.path_heap.specs.Stands.{Means}
use Rattle.path_events.specs.Plans.{PlanStands}
use Rattle.path_machine.specs.declared.frames.Target.{Target as TargetCode}
use Rattle.path_machine.specs.declared.frames.BodyFrame.{BodyFrame}
use Rattle.path_machine.specs.declared.frames.PlanFrame.{PlanFrame}
use Rattle.path_machine.specs.declared.frames.Frame.{Frame as FrameCode}
use Rattle.path_machine.specs.declared.frames.Frame.TheVariants.{Body, Plan}

-- who takes a result, as the model has it
abbrev pub target_of_code : Option TargetCode → Option Target
target_of_code None = None
target_of_code (Some target) = Some (record { variable = target.variable; conversion = target.conversion })

-- the open calls, `new` and `delete` that a frame of the code counts
abbrev pub depth_in : FrameCode → ℕ
depth_in (Body f) = f.depth
depth_in (Plan f) = f.depth

-- a body
pub record BodyStands (h : Classes) (classes : List ClassId) (code : BodyFrame) (f : RunningBody) : Type 0 where
  pub same_owner : code.owner ≡ f.owner
  pub this_means : Means h classes code.this f.this
  pub locals_mean : AllZip (Means h classes) code.locals.items f.locals
  pub same_next : code.next ≡ f.next
  pub same_found : code.found ≡ f.found
  pub same_target : target_of_code code.target ≡ f.target
  -- nothing waits for what `main` returns, which is not converted
  pub plain_main : f.owner ≡ Main → f.found ≡ ToSame

-- the last event of the list is one of p
abbrev pub IsLastOf : ObjectPart → List PartEvent → Type 0
IsLastOf p [] = Unit {0}
IsLastOf p (e ∷ []) = part_of e ≡ p
IsLastOf p (e ∷ (f ∷ events)) = IsLastOf p (f ∷ events)

-- a plan of a heap object that was made
pub record PlanFrameStands (h : Classes) (program : TypedProgram) (classes : List ClassId) (code : PlanFrame) (f : Planned) : Type 0 where
  pub plan_stands : PlanStands h program classes code.plan f.events
  pub same_kind : code.is_building ≡ f.is_building
  pub made : slice_get classes f.object ≡ Some code.whole.class
  pub whole : StandsForPart h classes code.whole (whole_part f.object code.whole.class)
  pub ends_whole : IsLastOf (whole_part f.object code.whole.class) f.events
  pub same_target : target_of_code code.target ≡ f.target

abbrev pub FrameStands : Classes → TypedProgram → List ClassId → FrameCode → Frame → Type 0
FrameStands h program classes (Body code) (InBody f) = BodyStands h classes code f
FrameStands h program classes (Body code) (InPlan f) = ⊥
FrameStands h program classes (Plan code) (InBody f) = ⊥
FrameStands h program classes (Plan code) (InPlan f) = PlanFrameStands h program classes code f

-- each frame stands for the one at its place and counts what is open from there on
abbrev pub FramesStand : Classes → TypedProgram → List ClassId → List FrameCode → List Frame → Type 0
FramesStand h program classes [] [] = Unit {0}
FramesStand h program classes [] (f ∷ below) = ⊥
FramesStand h program classes (code ∷ under) [] = ⊥
FramesStand h program classes (code ∷ under) (f ∷ below) = FrameStands h program classes code f × (depth_in code ≡ open_count (f ∷ below)) × FramesStand h program classes under below
