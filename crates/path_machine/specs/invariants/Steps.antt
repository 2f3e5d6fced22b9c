-- What a function of the machine does of a step of the model.
use Rattle.std.specs.Prelude.{◌≡◌, ℕ, Option, Some, None, List, ◌∷◌, get_or}
use Rattle.cxx_hierarchy.specs.declared.records.ClassId.{ClassId}
use Rattle.cxx_hierarchy.specs.declared.stop.LimitNo.{LimitNo}
use Rattle.cxx_hierarchy.specs.Classes.{Classes}
use Rattle.cxx_program.specs.declared.statement.TypedKind.{TypedKind}
use Rattle.cxx_program.specs.declared.program.TypedProgram.{TypedProgram}
use Rattle.cxx_program.specs.Typed.{Scope}
use Rattle.path_machine.specs.declared.telling.Telling.{Telling}
use Rattle.path_machine.specs.declared.run.Run.{Run}
use Rattle.path_machine.specs.Tellings.{TellsMore}
use Rattle.path_model.specs.Values.{Value}
use Rattle.path_model.specs.States.{Target, RunningBody, Frame, InBody, ProgramState, at_statement, sight, wanted_result, with_frames}
use Rattle.path_model.specs.Rules.{statement_refusal}
use Rattle.path_model.specs.Effects.{Next, Goes, Refuses, Ends, Wrong}
use Rattle.path_model.specs.Runs.{Demand, limit_of, Move, Moves, IsRefused, IsLimited, IsOver, IsWrong, open_count}
use Rattle.path_values.specs.Given.{IsGiven}
use Rattle.path_values.specs.Conversions.{CanConvert}
use Rattle.path_machine.specs.declared.frames.BodyFrame.{BodyFrame}
use Rattle.path_machine.specs.declared.machine.Machine.{Machine}
use Rattle.path_machine.specs.Frames.{BodyStands}
use Rattle.path_machine.specs.Machines.{MachineStands}
use Rattle.path_machine.specs.declared.next.Next.{Next as NextCode}
use Rattle.path_machine.specs.declared.next.Next.TheVariants.{Goes as GoesCode, Refuses as RefusesCode, Limited, Ends as EndsCode}

-- the size of an object of a class, in bytes
abbrev pub size_in : List ℕ → ClassId → ℕ
size_in sizes c = get_or sizes c.0 0

-- the step of the model was done: the machine stands for the state that it leads to, and what it tells stands behind the rest
abbrev pub StepAgrees : Classes → (ClassId → ℕ) → TypedProgram → Next → Machine → (before after : Telling) → NextCode → Type 0
StepAgrees h sizes program (Goes s outs) machine before after next = (next ≡ GoesCode) × MachineStands h sizes program machine s × (TellsMore before after outs)
StepAgrees h sizes program (Refuses rule line) machine before after next = (next ≡ RefusesCode rule line) × (after ≡ before)
StepAgrees h sizes program Ends machine before after next = (next ≡ EndsCode) × (after ≡ before)
StepAgrees h sizes program Wrong machine before after next = Unit {0}

-- the same of a move, which a limit may end
abbrev pub MoveAgrees : Classes → (ClassId → ℕ) → TypedProgram → Move → Machine → (before after : Telling) → NextCode → Type 0
MoveAgrees h sizes program (Moves s outs) machine before after next = (next ≡ GoesCode) × MachineStands h sizes program machine s × (TellsMore before after outs)
MoveAgrees h sizes program (IsRefused rule line) machine before after next = (next ≡ RefusesCode rule line) × (after ≡ before)
MoveAgrees h sizes program (IsLimited limit) machine before after next = (next ≡ Limited limit) × (after ≡ before)
MoveAgrees h sizes program IsOver machine before after next = (next ≡ EndsCode) × (after ≡ before)
MoveAgrees h sizes program IsWrong machine before after next = Unit {0}

-- the frame f is taken from the top: the machine stands for the state with the frames below it
pub record IsTaken (h : Classes) (sizes : ClassId → ℕ) (program : TypedProgram) (machine : Machine) (frame : BodyFrame) (s : ProgramState) (f : RunningBody) (below : List Frame) : Type 0 where
  pub machine_stands : MachineStands h sizes program machine (with_frames s below)
  pub body_stands : BodyStands h s.objects.classes frame f
  pub counts : frame.depth ≡ open_count (InBody f ∷ below)

-- the state in which a frame goes on at the statement `next`
abbrev pub gone_on : ProgramState → RunningBody → (next : ℕ) → (below : List Frame) → ProgramState
gone_on s f next below = with_frames s (InBody (at_statement f next) ∷ below)

-- the limit that a statement of the frame meets, by what it asks for
abbrev pub limit_met : Run → ProgramState → RunningBody → (below : List Frame) → Demand → Option LimitNo
limit_met run s f below demand = limit_of (size_in run.sizes.now) (with_frames s (InBody f ∷ below)) demand

-- these three in a run
abbrev pub IsTakenIn : Run → Machine → BodyFrame → ProgramState → RunningBody → (below : List Frame) → Type 0
IsTakenIn run = IsTaken run.world.h.now (size_in run.sizes.now) run.program.now

abbrev pub StepAgreesIn : Run → Next → Machine → (before after : Telling) → NextCode → Type 0
StepAgreesIn run = StepAgrees run.world.h.now (size_in run.sizes.now) run.program.now

abbrev pub MoveAgreesIn : Run → Move → Machine → (before after : Telling) → NextCode → Type 0
MoveAgreesIn run = MoveAgrees run.world.h.now (size_in run.sizes.now) run.program.now

-- a statement of the frame that no rule refuses
pub record IsClear (h : Classes) (e : Scope) (s : ProgramState) (f : RunningBody) (kind : TypedKind) : Type 0 where
  pub given : IsGiven h e (sight s f) (wanted_result f) kind
  pub clear : statement_refusal h (sight s f) (wanted_result f) kind ≡ None

-- a value can be converted for who waits for it
abbrev pub CanGive : Classes → ProgramState → Value → Option Target → Type 0
CanGive h s v None = Unit {0}
CanGive h s v (Some target) = CanConvert h s.objects v target.conversion
