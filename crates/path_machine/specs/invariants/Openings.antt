-- The frame that a call opens, beside what the model does.
use Rattle.std.specs.Prelude.{◌≡◌, ℕ, Bool, Option, Some, List, [], ◌∷◌, if◌then◌else◌, ◌<◌, ◌++◌, ◌-◌, length, map, replicate, slice_get}
use Rattle.cxx_hierarchy.specs.declared.records.ClassId.{ClassId}
use Rattle.cxx_hierarchy.specs.Classes.{Classes}
use Rattle.cxx_program.specs.declared.program.TypedProgram.{TypedProgram}
use Rattle.path_plan.specs.Whole.{construction, destruction, whole_part}
use Rattle.path_model.specs.States.{Target, RunningBody, Frame, InBody, InPlan, ProgramState, plan_bodies, with_frames, sight}
use Rattle.path_model.specs.Effects.{Next, Goes, Wrong, called, deleted, new_made, object_ended}
use Rattle.path_model.specs.Runs.{opened_for, asks_call, asks_object, call_limit, delete_demand, move_by, open_count}
use Rattle.path_machine.specs.Frames.{BodyStands}
use Rattle.path_model.specs.declared.outs.Out.{Out}
use Rattle.path_machine.specs.declared.frames.BodyFrame.{BodyFrame}
use Rattle.path_machine.specs.declared.telling.Telling.{Telling}
use Rattle.path_machine.specs.Tellings.{TellsMore}
use Rattle.std.specs.List.{AllZip}
use Rattle.cxx_program.specs.declared.operand.TypedOperand.{TypedOperand}
use Rattle.cxx_program.specs.declared.statement.TypedCall.{TypedCall}
use Rattle.cxx_program.specs.Typed.{Scope}
use Rattle.path_model.specs.Values.{Sight, Unset, argument_value, value_of_operand}
use Rattle.path_heap.specs.declared.heap.Heap.{Heap}
use Rattle.path_heap.specs.declared.state.NumberedPart.{NumberedPart}
use Rattle.path_heap.specs.declared.state.Value.{Value as ValueCode}
use Rattle.path_heap.specs.Points.{StandsForPart}
use Rattle.path_heap.specs.Stands.{Means}
use Rattle.path_values.specs.Scenes.{SceneStands}
use Rattle.path_values.specs.declared.scene.Scene.{Scene}
use Rattle.path_machine.specs.declared.machine.Machine.{Machine}
use Rattle.path_machine.specs.Machines.{MachineStands}
use Rattle.path_machine.specs.declared.next.Next.{Next as NextCode}
use Rattle.path_machine.specs.declared.run.Run.{Run}
use Rattle.path_machine.specs.invariants.Steps.{IsTaken, MoveAgrees, gone_on, limit_met, IsTakenIn, MoveAgreesIn}
use Rattle.path_machine.specs.invariants.Setups.{IsCalling, IsDeleting}

-- the model puts a function's body on these frames, for which the opened frame stands, and tells the same; where it is wrong
-- nothing is said
pub data Opens (h : Classes) (s : ProgramState) (frames : List Frame) (before after : Telling) : Option BodyFrame → Next → Type 0 where
  goes_wrong : (code : Option BodyFrame) → Opens h s frames before after code Wrong
  opens_body : (code : BodyFrame) (g : RunningBody) (out : Out) → BodyStands h s.objects.classes code g → opened_for g.owner ≡ 1 → TellsMore before after (out ∷ [])
      → Opens h s frames before after (Some code) (Goes (with_frames s (InBody g ∷ frames)) (out ∷ []))

-- the plan frame of the construction or the destruction of the heap object k, of class c
abbrev pub planned : Classes → TypedProgram → ℕ → Bool → ClassId → Option Target → Frame
planned h program k is_building c target = InPlan (record { object = k; is_building = is_building; events = if is_building then construction h (plan_bodies program) k c else destruction h (plan_bodies program) k c; target = target })

-- a call that is typed and that no rule refuses opens the body of the function that runs, or a limit is met
abbrev pub OpensBody : Run → (old new : Machine) → BodyFrame → (next : ℕ) → TypedCall → Option Target → (before after : Telling) → NextCode → Type 0
OpensBody run old new frame next call target before after done = (e : Scope) (s : ProgramState) (f : RunningBody) (below : List Frame) →
    IsTakenIn run old frame s f below → IsCalling run.world.h.now e (sight s f) call →
    MoveAgreesIn run (move_by (called run.world.h.now run.program.now (sight s f) (gone_on s f next below) call target) (limit_met run s f below asks_call)) new before after done

-- the construction of a new heap object of the class begins, or a limit is met
abbrev pub OpensNew : Run → (old new : Machine) → BodyFrame → (next : ℕ) → ClassId → Option Target → NextCode → Type 0
OpensNew run old new frame next class target done = (s : ProgramState) (f : RunningBody) (below : List Frame) (outs : Telling) →
    IsTakenIn run old frame s f below → class.0 < length run.world.h.now →
    MoveAgreesIn run (move_by (new_made run.world.h.now run.program.now (gone_on s f next below) class target) (limit_met run s f below (asks_object class))) new outs outs done

-- the destruction of the object to which the operand points begins, by a `delete` that no rule refuses, or a limit is met
abbrev pub OpensDelete : Run → (old new : Machine) → BodyFrame → (next : ℕ) → TypedOperand → NextCode → Type 0
OpensDelete run old new frame next pointer done = (e : Scope) (c : ClassId) (s : ProgramState) (f : RunningBody) (below : List Frame) (outs : Telling) →
    IsTakenIn run old frame s f below → IsDeleting run.world.h.now e (sight s f) pointer c →
    MoveAgreesIn run (move_by (deleted run.world.h.now run.program.now (gone_on s f next below) (value_of_operand (sight s f) pointer)) (limit_met run s f below (delete_demand (value_of_operand (sight s f) pointer)))) new outs outs done

-- the destruction of this whole heap object begins, or a limit is met
abbrev pub EndsWhole : Run → (old new : Machine) → BodyFrame → (next : ℕ) → NumberedPart → NextCode → Type 0
EndsWhole run old new frame next whole done = (sizes : ClassId → ℕ) (s : ProgramState) (f : RunningBody) (below : List Frame) (outs : Telling) (k : ℕ) (c : ClassId) →
    IsTaken run.world.h.now sizes run.program.now old frame s f below → slice_get s.objects.classes k ≡ Some c → StandsForPart run.world.h.now s.objects.classes whole (whole_part k c) →
    MoveAgrees run.world.h.now sizes run.program.now (move_by (object_ended run.world.h.now run.program.now (gone_on s f next below) k (Some c)) (call_limit (with_frames s (InBody f ∷ below)))) new outs outs done

-- the plan of this whole heap object is put on top
abbrev pub BeginsPlan : Run → (old new : Machine) → NumberedPart → Bool → Option Target → (depth : ℕ) → Type 0
BeginsPlan run old new whole is_building target depth = (sizes : ClassId → ℕ) (s : ProgramState) (k : ℕ) (c : ClassId) →
    let plan = planned run.world.h.now run.program.now k is_building c target in
    MachineStands run.world.h.now sizes run.program.now old s → slice_get s.objects.classes k ≡ Some c → StandsForPart run.world.h.now s.objects.classes whole (whole_part k c) → depth ≡ open_count (plan ∷ s.frames) →
    MachineStands run.world.h.now sizes run.program.now new (with_frames s (plan ∷ s.frames))

-- so many locals of a body that a call enters: the values of the arguments, and unset ones behind them
abbrev pub AreCalledLocals : Classes → Heap → Scene → TypedCall → (count : ℕ) → List ValueCode → Type 0
AreCalledLocals h heap scene call count locals = (e : Scope) (s : Sight) → SceneStands h heap scene s → IsCalling h e s call →
    AllZip (Means h s.objects.classes) locals (map (argument_value s) call.arguments ++ replicate (count - length (map (argument_value s) call.arguments)) Unset)

-- a call that is typed and that no rule refuses opens this frame on any others, and is told
abbrev pub OpensCalled : Run → Heap → Scene → TypedCall → Option Target → (before after : Telling) → Option BodyFrame → Type 0
OpensCalled run heap scene call target before after opened = (e : Scope) (s : ProgramState) (f : RunningBody) (frames : List Frame) →
    SceneStands run.world.h.now heap scene (sight s f) → IsCalling run.world.h.now e (sight s f) call →
    Opens run.world.h.now s frames before after opened (called run.world.h.now run.program.now (sight s f) (with_frames s frames) call target)
