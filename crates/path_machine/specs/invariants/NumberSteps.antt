-- A variable that takes the result of two numbers, where no rule refuses that.
use Rattle.std.specs.Prelude.{◌≡◌, ℕ, None, List, true}
use Rattle.cxx_hierarchy.specs.declared.records.ClassId.{ClassId}
use Rattle.cxx_hierarchy.specs.Classes.{Classes}
use Rattle.cxx_program.specs.declared.operand.Variable.{Variable}
use Rattle.cxx_program.specs.declared.program.TypedProgram.{TypedProgram}
use Rattle.cxx_program.specs.declared.statement.Converted.{Converted}
use Rattle.cxx_program.specs.declared.statement.TypedKind.{TypedKind}
use Rattle.cxx_program.specs.declared.statement.TypedKind.TheVariants.{Assign}
use Rattle.path_model.specs.Values.{Value, Sight, converted_to}
use Rattle.path_model.specs.Uses.{right_uses}
use Rattle.path_model.specs.Rules.{refused, is_clear}
use Rattle.path_model.specs.States.{RunningBody, Frame, ProgramState, assigned, sight}
use Rattle.path_model.specs.Effects.{right_side_value}
use Rattle.path_heap.specs.declared.heap.Heap.{Heap}
use Rattle.path_heap.specs.declared.state.Value.{Value as ValueCode}
use Rattle.path_heap.specs.Stands.{Means}
use Rattle.path_values.specs.declared.scene.Scene.{Scene}
use Rattle.path_values.specs.Scenes.{SceneStands}
use Rattle.path_machine.specs.declared.frames.BodyFrame.{BodyFrame}
use Rattle.path_machine.specs.declared.machine.Machine.{Machine}
use Rattle.path_machine.specs.declared.next.Next.{Next as NextCode}
use Rattle.path_machine.specs.declared.next.Next.TheVariants.{Goes as GoesCode}
use Rattle.path_machine.specs.Machines.{MachineStands}
use Rattle.path_machine.specs.invariants.Setups.{is_plain}
use Rattle.path_machine.specs.invariants.Steps.{IsTaken, gone_on}

-- the right side is no call and no `new`, no rule refuses it, and the code's value means what it gives, of all that the scene
-- stands for
pub record IsResultOf (scene : Scene) (x : Converted) (code : ValueCode) : Type 0 where
  pub plain : is_plain x.right ≡ true
  pub clear : (h : Classes) (heap : Heap) (s : Sight) → SceneStands h heap scene s → refused h s.objects (right_uses h (is_clear h s.objects) s x.right x.conversion) ≡ None
  pub means : (h : Classes) (heap : Heap) (s : Sight) → SceneStands h heap scene s → Means h s.objects.classes code (converted_to (right_side_value h s x.right) x.conversion)

-- the same of the right side of an assignment to the variable
pub record IsResultFor (scene : Scene) (kind : TypedKind) (variable : Variable) (code : ValueCode) : Type 0 where
  pub side : Converted
  pub is : kind ≡ Assign variable side
  pub number : IsResultOf scene side code

-- the same of what the machine and the frame stand for
pub record TakesResult (machine : Machine) (frame : BodyFrame) (kind : TypedKind) (variable : Variable) (code : ValueCode) : Type 0 where
  pub side : Converted
  pub is : kind ≡ Assign variable side
  pub plain : is_plain side.right ≡ true
  pub clear : (h : Classes) (sizes : ClassId → ℕ) (program : TypedProgram) (s : ProgramState) (f : RunningBody) (below : List Frame) → IsTaken h sizes program machine frame s f below →
      refused h s.objects (right_uses h (is_clear h s.objects) (sight s f) side.right side.conversion) ≡ None
  pub means : (h : Classes) (sizes : ClassId → ℕ) (program : TypedProgram) (s : ProgramState) (f : RunningBody) (below : List Frame) → IsTaken h sizes program machine frame s f below →
      Means h s.objects.classes code (converted_to (right_side_value h (sight s f) side.right) side.conversion)

-- the frame goes on at the next statement, and the variable has the value
pub record PutsValue (old new : Machine) (frame : BodyFrame) (next : ℕ) (variable : Variable) (code : ValueCode) (done : NextCode) : Type 0 where
  pub goes : done ≡ GoesCode
  pub stands : (h : Classes) (sizes : ClassId → ℕ) (program : TypedProgram) (s : ProgramState) (f : RunningBody) (below : List Frame) (v : Value) → IsTaken h sizes program old frame s f below → Means h s.objects.classes code v →
      MachineStands h sizes program new (assigned (gone_on s f next below) variable v)
