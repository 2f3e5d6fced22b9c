-- What taking a frame leaves, and what is changed of one.
use Rattle.std.specs.Prelude.{◌≡◌, ℕ, Option, Some, None, List, [], ◌∷◌}
use Rattle.cxx_hierarchy.specs.declared.records.ClassId.{ClassId}
use Rattle.cxx_hierarchy.specs.Classes.{Classes}
use Rattle.cxx_program.specs.declared.program.TypedProgram.{TypedProgram}
use Rattle.path_model.specs.States.{ProgramState, Frame, with_frames}
use Rattle.path_model.specs.Runs.{open_count}
use Rattle.path_events.specs.declared.plan.Plan.{Plan}
use Rattle.path_machine.specs.declared.frames.BodyFrame.{BodyFrame}
use Rattle.path_machine.specs.declared.frames.PlanFrame.{PlanFrame}
use Rattle.path_machine.specs.declared.frames.Frame.{Frame as FrameCode}
use Rattle.path_machine.specs.declared.machine.Machine.{Machine}
use Rattle.path_machine.specs.Frames.{FrameStands, depth_in}
use Rattle.path_machine.specs.Machines.{MachineStands}

-- the frame that was taken stands for the first of the frames, and the machine for the state with the others
abbrev pub Pops : Classes → (ClassId → ℕ) → TypedProgram → Machine → ProgramState → Option FrameCode → List Frame → Type 0
Pops h sizes program machine s None [] = Unit {0}
Pops h sizes program machine s None (f ∷ below) = ⊥
Pops h sizes program machine s (Some code) [] = ⊥
Pops h sizes program machine s (Some code) (f ∷ below) = FrameStands h program s.objects.classes code f × (depth_in code ≡ open_count (f ∷ below)) × MachineStands h sizes program machine (with_frames s below)

-- control goes on at a statement
abbrev pub at_next : BodyFrame → ℕ → BodyFrame
at_next frame next = record { owner = frame.owner; this = frame.this; locals = frame.locals; next = next; found = frame.found; target = frame.target; depth = frame.depth }

-- only the locals of a body differ
pub record DiffersInLocals (code new : BodyFrame) : Type 0 where
  pub owner : new.owner ≡ code.owner
  pub this : new.this ≡ code.this
  pub next : new.next ≡ code.next
  pub found : new.found ≡ code.found
  pub target : new.target ≡ code.target
  pub depth : new.depth ≡ code.depth

-- the frame with its plan at another event
abbrev pub with_plan : PlanFrame → Plan → PlanFrame
with_plan frame plan = record { whole = frame.whole; is_building = frame.is_building; plan = plan; target = frame.target; depth = frame.depth }
