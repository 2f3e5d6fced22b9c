-- When a machine stands for a state of the model.
use Rattle.std.specs.Prelude.{◌≡◌, ◌≤◌, ℕ, Option, Some, None, List, [], ◌∷◌, reverse}
use Rattle.std.specs.List.{AllZip}
use Rattle.cxx_hierarchy.specs.declared.records.ClassId.{ClassId}
use Rattle.cxx_hierarchy.specs.Classes.{Classes}
use Rattle.cxx_program.specs.declared.program.TypedProgram.{TypedProgram}
use Rattle.path_model.specs.States.{ProgramState, Frame, with_frames}
use Rattle.path_model.specs.Runs.{heap_total, most_heap_bytes, open_count}
use Rattle.path_heap.specs.Stands.{HeapStands, Means}
use Rattle.path_machine.specs.declared.frames.Frame.{Frame as FrameCode}
use Rattle.path_machine.specs.declared.machine.Machine.{Machine}
use Rattle.path_machine.specs.Frames.{FramesStand, FrameStands, depth_in}

-- the frames of the code, the innermost first
abbrev pub stack : Option FrameCode → List FrameCode → List FrameCode
stack None below = []
stack (Some top) below = top ∷ reverse below

-- the heap, the globals and the frames, and the bytes of all objects made; sizes has
-- the bytes of an object of each class
pub record MachineStands (h : Classes) (sizes : ClassId → ℕ) (program : TypedProgram) (machine : Machine) (s : ProgramState) : Type 0 where
  pub heap_stands : HeapStands h machine.heap s.objects
  pub globals_mean : AllZip (Means h s.objects.classes) machine.globals.items s.globals
  pub frames_stand : FramesStand h program s.objects.classes (stack machine.top machine.below.items) s.frames
  pub none_below : machine.top ≡ None → machine.below.items ≡ []
  pub bytes_are : machine.bytes ≡ heap_total sizes s.objects.classes
  pub few_bytes : machine.bytes ≤ most_heap_bytes

-- a frame that counts what is open with it is put on top, whatever it stands for
abbrev pub PushesFrame : (old new : Machine) → FrameCode → Type 0
PushesFrame old new frame = (h : Classes) (sizes : ClassId → ℕ) (program : TypedProgram) (s : ProgramState) (f : Frame) →
    MachineStands h sizes program old s → FrameStands h program s.objects.classes frame f → depth_in frame ≡ open_count (f ∷ s.frames) →
    MachineStands h sizes program new (with_frames s (f ∷ s.frames))
