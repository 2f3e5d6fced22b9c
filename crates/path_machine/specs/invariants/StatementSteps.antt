-- What the machine does for statements and bodies, said of every state from which the frame was taken.
use Rattle.std.specs.Prelude.{◌≡◌, ℕ, ◌+◌, Option, Some, List, ◌∷◌, true, [], option_map}
use Rattle.std.specs.Option.{option_map_or}
use Rattle.cxx_hierarchy.specs.declared.records.ClassId.{ClassId}
use Rattle.cxx_hierarchy.specs.declared.records.ValueType.{ValueType}
use Rattle.cxx_hierarchy.specs.declared.records.ReturnType.TheVariants.{Value as ValueReturn}
use Rattle.cxx_hierarchy.specs.Classes.{Classes}
use Rattle.cxx_program.specs.declared.operand.Argument.{Argument}
use Rattle.cxx_program.specs.declared.operand.TypedOperand.{TypedOperand}
use Rattle.cxx_program.specs.declared.operand.Variable.{Variable}
use Rattle.cxx_program.specs.declared.program.TypedProgram.{TypedProgram}
use Rattle.cxx_program.specs.declared.statement.Converted.{Converted}
use Rattle.cxx_program.specs.declared.statement.TypedKind.{TypedKind}
use Rattle.cxx_program.specs.declared.statement.TypedKind.TheVariants.{Write, Copy, Return, PrintType, PrintView}
use Rattle.cxx_program.specs.declared.statement.TypedPlace.{TypedPlace}
use Rattle.cxx_program.specs.declared.statement.TypedStatement.{TypedStatement}
use Rattle.cxx_program.specs.Typed.{Scope, IsArgument}
use Rattle.path_model.specs.declared.outs.Out.{Out}
use Rattle.path_model.specs.Values.{Value, value_of_operand, argument_value, converted_to}
use Rattle.path_model.specs.States.{Target, RunningBody, Frame, InBody, ProgramState, assigned, owned_body, sight, wanted_result, with_frames}
use Rattle.path_model.specs.Effects.{Next, Goes, branched, copied_at, local_declared, effect, given_to_target, result_given, returned, right_side_value, taken, telling, type_out, view_out, dump_out, written}
use Rattle.path_model.specs.Steps.{body_step, function_closed, step_of_statement}
use Rattle.path_model.specs.Rules.{statement_refusal}
use Rattle.path_rules.specs.declared.Undefined.{Undefined}
use Rattle.cxx_overrider.specs.declared.FunctionId.{FunctionId}
use Rattle.path_model.specs.Runs.{body_limit, demand_of, move, move_by, right_demand, asks_nothing}
use Rattle.path_heap.specs.declared.state.Value.{Value as ValueCode}
use Rattle.path_heap.specs.Stands.{Means}
use Rattle.path_values.specs.Given.{IsGiven}
use Rattle.path_machine.specs.declared.frames.BodyFrame.{BodyFrame}
use Rattle.path_machine.specs.declared.machine.Machine.{Machine}
use Rattle.path_machine.specs.Machines.{MachineStands}
use Rattle.path_machine.specs.declared.next.Next.{Next as NextCode}
use Rattle.path_machine.specs.declared.next.Next.TheVariants.{Goes as GoesCode}
use Rattle.path_machine.specs.declared.run.Run.{Run}
use Rattle.path_machine.specs.declared.telling.Telling.{Telling}
use Rattle.path_machine.specs.invariants.Steps.{size_in, StepAgrees, IsTaken, gone_on, limit_met, IsTakenIn, StepAgreesIn, MoveAgreesIn, IsClear, CanGive}
use Rattle.path_machine.specs.invariants.Setups.{IsTaking, is_plain, IsStateNext, IsDeclaring, IsBelowNext, IsBodyNext}

-- the frame goes on at one of two statements, by the value that the condition stands for
abbrev pub BranchesOn : (old new : Machine) → BodyFrame → (condition : ValueCode) → (yes_at no_at : ℕ) → NextCode → Type 0
BranchesOn old new frame condition yes_at no_at next = (h : Classes) (sizes : ClassId → ℕ) (program : TypedProgram) (s : ProgramState) (f : RunningBody) (below : List Frame) (n : ℕ) (v : Value) (outs : Telling) →
    IsTaken h sizes program old frame s f below → Means h s.objects.classes condition v →
    StepAgrees h sizes program (branched (gone_on s f n below) v yes_at no_at) new outs outs next

-- the frame goes on at one of two statements, by the value of the operand
abbrev pub ChoosesBetween : (old new : Machine) → BodyFrame → (next : ℕ) → TypedOperand → (yes_at no_at : ℕ) → NextCode → Type 0
ChoosesBetween old new frame next x yes_at no_at done = (h : Classes) (sizes : ClassId → ℕ) (program : TypedProgram) (s : ProgramState) (f : RunningBody) (below : List Frame) (outs : Telling) →
    IsTaken h sizes program old frame s f below →
    StepAgrees h sizes program (branched (gone_on s f next below) (value_of_operand (sight s f) x) yes_at no_at) new outs outs done

-- the frame goes on at the next statement, and this is told
abbrev pub TellsOut : (old new : Machine) → BodyFrame → (next : ℕ) → Option Out → (before after : Telling) → NextCode → Type 0
TellsOut old new frame next out before after done = (h : Classes) (sizes : ClassId → ℕ) (program : TypedProgram) (s : ProgramState) (f : RunningBody) (below : List Frame) →
    IsTaken h sizes program old frame s f below →
    StepAgrees h sizes program (telling (gone_on s f next below) out) new before after done

-- a value comes to who waits for it, where it can be converted
abbrev pub GivesValue : Classes → (old new : Machine) → ValueCode → Option Target → Type 0
GivesValue h old new code target = (sizes : ClassId → ℕ) (program : TypedProgram) (s : ProgramState) (v : Value) →
    MachineStands h sizes program old s → Means h s.objects.classes code v → CanGive h s v target →
    MachineStands h sizes program new (given_to_target s v target)

-- the variable takes a typed right side that is no call and no `new`, and that no rule refuses
abbrev pub TakesPlain : Run → (old new : Machine) → BodyFrame → (next : ℕ) → Variable → Converted → NextCode → Type 0
TakesPlain run old new frame next variable x done = (e : Scope) (s : ProgramState) (f : RunningBody) (below : List Frame) (outs : Telling) →
    IsTakenIn run old frame s f below → IsTaking run.world.h.now e (sight s f) x → is_plain x.right ≡ true →
    StepAgreesIn run (Goes (assigned (gone_on s f next below) variable (converted_to (right_side_value run.world.h.now (sight s f) x.right) x.conversion)) []) new outs outs done

-- the variable takes a typed right side that no rule refuses, or a limit is met
abbrev pub TakesSide : Run → (old new : Machine) → BodyFrame → (next : ℕ) → Variable → Converted → (before after : Telling) → NextCode → Type 0
TakesSide run old new frame next variable x before after done = (e : Scope) (s : ProgramState) (f : RunningBody) (below : List Frame) →
    IsTakenIn run old frame s f below → IsTaking run.world.h.now e (sight s f) x →
    MoveAgreesIn run (move_by (taken run.world.h.now run.program.now (sight s f) (gone_on s f next below) variable x.right x.conversion) (limit_met run s f below (right_demand x.right))) new before after done

-- the local n is declared, with or without a right side, or a limit is met
abbrev pub DeclaresLocal : Run → (old new : Machine) → BodyFrame → (next n : ℕ) → Option Converted → (before after : Telling) → NextCode → Type 0
DeclaresLocal run old new frame next n x before after done = (e : Scope) (s : ProgramState) (f : RunningBody) (below : List Frame) →
    IsTakenIn run old frame s f below → IsDeclaring run.world.h.now e (sight s f) x →
    MoveAgreesIn run (move_by (local_declared run.world.h.now run.program.now (sight s f) (gone_on s f next below) n x) (limit_met run s f below (option_map_or (λ y. right_demand y.right) x asks_nothing))) new before after done

-- a leaf takes a value, by a write that no rule refuses
abbrev pub WritesPlace : Run → (old new : Machine) → BodyFrame → (next : ℕ) → TypedPlace → Argument → NextCode → Type 0
WritesPlace run old new frame next place x done = (e : Scope) (s : ProgramState) (f : RunningBody) (below : List Frame) (outs : Telling) →
    IsTakenIn run old frame s f below → IsClear run.world.h.now e s f (Write place x) →
    StepAgreesIn run (written (gone_on s f next below) place (argument_value (sight s f) x) (value_of_operand (sight s f) place.pointer)) new outs outs done

-- an object of the class is copied, by a copy that no rule refuses
abbrev pub CopiesObject : Run → (old new : Machine) → BodyFrame → (next : ℕ) → (to from : TypedOperand) → ClassId → NextCode → Type 0
CopiesObject run old new frame next to from class done = (e : Scope) (s : ProgramState) (f : RunningBody) (below : List Frame) (outs : Telling) →
    IsTakenIn run old frame s f below → IsClear run.world.h.now e s f (Copy to from class) →
    StepAgreesIn run (copied_at run.world.h.now (gone_on s f next below) class (value_of_operand (sight s f) to) (value_of_operand (sight s f) from)) new outs outs done

-- the typed result of a `return` that no rule refuses comes to who waits for it
abbrev pub GivesResult : Run → (old new : Machine) → BodyFrame → Argument → Type 0
GivesResult run old new frame a = (e : Scope) (s : ProgramState) (f : RunningBody) (below : List Frame) (t : ValueType ClassId) →
    IsTakenIn run old frame s f below → IsClear run.world.h.now e s f (Return (Some a)) → e.returns ≡ Some (ValueReturn t) → IsArgument run.world.h.now e a t →
    MachineStands run.world.h.now (size_in run.sizes.now) run.program.now new (result_given (with_frames s below) f.found f.target (Some (argument_value (sight s f) a)))

-- a `return` that no rule refuses leaves a function, and the frame below takes the result
abbrev pub LeavesFunction : Run → (old new : Machine) → BodyFrame → Option Argument → NextCode → Type 0
LeavesFunction run old new frame x done = (e : Scope) (s : ProgramState) (f : RunningBody) (below : List Frame) →
    IsTakenIn run old frame s f below → IsClear run.world.h.now e s f (Return x) →
    (done ≡ GoesCode) × MachineStands run.world.h.now (size_in run.sizes.now) run.program.now new (result_given (with_frames s below) f.found f.target (option_map (argument_value (sight s f)) x))

-- a `return` that no rule refuses leaves the body, wherever control stood in it
abbrev pub LeavesBody : Run → (old new : Machine) → BodyFrame → Option Argument → NextCode → Type 0
LeavesBody run old new frame x done = (e : Scope) (s : ProgramState) (f : RunningBody) (below : List Frame) (n : ℕ) (outs : Telling) →
    IsTakenIn run old frame s f below → IsClear run.world.h.now e s f (Return x) →
    StepAgreesIn run (returned (gone_on s f n below) f below (option_map (argument_value (sight s f)) x)) new outs outs done

-- the class of the object is printed, where no rule refuses that
abbrev pub PrintsType : Run → (old new : Machine) → BodyFrame → (next : ℕ) → TypedOperand → (before after : Telling) → NextCode → Type 0
PrintsType run old new frame next x before after done = (e : Scope) (c : ClassId) (s : ProgramState) (f : RunningBody) (below : List Frame) →
    IsTakenIn run old frame s f below → IsClear run.world.h.now e s f (PrintType x c) →
    StepAgreesIn run (telling (gone_on s f next below) (type_out run.world.h.now s.objects (value_of_operand (sight s f) x))) new before after done

-- the whole object around the part is printed, where no rule refuses that
abbrev pub PrintsView : Run → (old new : Machine) → BodyFrame → (next : ℕ) → TypedOperand → (before after : Telling) → NextCode → Type 0
PrintsView run old new frame next x before after done = (e : Scope) (c : ClassId) (s : ProgramState) (f : RunningBody) (below : List Frame) →
    IsTakenIn run old frame s f below → IsClear run.world.h.now e s f (PrintView x c) →
    StepAgreesIn run (telling (gone_on s f next below) (view_out run.world.h.now s.objects (value_of_operand (sight s f) x))) new before after done

-- the object that a part lies in is dumped
abbrev pub PrintsDump : Run → (old new : Machine) → BodyFrame → (next : ℕ) → TypedOperand → (before after : Telling) → NextCode → Type 0
PrintsDump run old new frame next x before after done = (s : ProgramState) (f : RunningBody) (below : List Frame) → IsTakenIn run old frame s f below →
    StepAgreesIn run (telling (gone_on s f next below) (dump_out run.world.h.now s.objects (value_of_operand (sight s f) x))) new before after done

-- the rule is the one that refuses the statement of the frame, if one does
abbrev pub RefusesStatement : Run → Machine → BodyFrame → TypedKind → Option Undefined → Type 0
RefusesStatement run machine frame kind rule = (e : Scope) (s : ProgramState) (f : RunningBody) (below : List Frame) →
    IsTakenIn run machine frame s f below → IsGiven run.world.h.now e (sight s f) (wanted_result f) kind → rule ≡ statement_refusal run.world.h.now (sight s f) (wanted_result f) kind

-- the closing step of a function's body, over any state of the machine
abbrev pub ClosesFunction : Classes → FunctionId → (line : ℕ) → NextCode → Type 0
ClosesFunction h g line done = (sizes : ClassId → ℕ) (program : TypedProgram) (machine : Machine) (s : ProgramState) (below : List Frame) (outs : Telling) →
    MachineStands h sizes program machine (with_frames s below) → StepAgrees h sizes program (function_closed h s g line below) machine outs outs done

-- a statement that no rule refuses has its effect, or meets a limit; the statement behind it in the text has the number `after`
abbrev pub DoesEffect : Run → (old new : Machine) → BodyFrame → (after : ℕ) → TypedStatement → (before told : Telling) → NextCode → Type 0
DoesEffect run old new frame after statement before told done = (e : Scope) (s : ProgramState) (f : RunningBody) (below : List Frame) →
    IsTakenIn run old frame s f below → IsClear run.world.h.now e s f statement.kind → after ≡ f.next + 1 →
    MoveAgreesIn run (move_by (effect run.world.h.now run.program.now (with_frames s (InBody f ∷ below)) f below f.next statement) (limit_met run s f below (demand_of (sight s f) statement.kind))) new before told done

-- a typed statement is refused, or has its effect, or meets a limit
abbrev pub DoesStatement : Run → (old new : Machine) → BodyFrame → (after : ℕ) → TypedStatement → (before told : Telling) → NextCode → Type 0
DoesStatement run old new frame after statement before told done = (e : Scope) (s : ProgramState) (f : RunningBody) (below : List Frame) →
    IsTakenIn run old frame s f below → IsGiven run.world.h.now e (sight s f) (wanted_result f) statement.kind → after ≡ f.next + 1 →
    MoveAgreesIn run (move_by (step_of_statement run.world.h.now run.program.now s f below f.next statement) (limit_met run s f below (demand_of (sight s f) statement.kind))) new before told done

-- a body ends with this closing step of the model, where the plan below it can go on
abbrev pub ClosesBy : Run → (old new : Machine) → (closing : ProgramState → List Frame → Next) → (before after : Telling) → NextCode → Type 0
ClosesBy run old new closing before after done = (sizes : ClassId → ℕ) (s : ProgramState) (below : List Frame) →
    MachineStands run.world.h.now sizes run.program.now old (with_frames s below) → IsBelowNext run.world.h.now s below →
    StepAgrees run.world.h.now sizes run.program.now (closing s below) new before after done

-- the body on top makes its next step, or meets a limit
abbrev pub StepsBody : Run → (old new : Machine) → BodyFrame → (before after : Telling) → NextCode → Type 0
StepsBody run old new frame before after done = (s : ProgramState) (f : RunningBody) (below : List Frame) →
    IsTakenIn run old frame s f below → s.frames ≡ InBody f ∷ below → IsBodyNext run.world.h.now run.program.now s f below →
    MoveAgreesIn run (move_by (body_step run.world.h.now run.program.now s f below (owned_body run.program.now f.owner)) (body_limit (size_in run.sizes.now) s f (owned_body run.program.now f.owner))) new before after done

-- the machine makes the move of the model, from every state of a run that it stands for
abbrev pub MovesOn : Run → (old new : Machine) → (before after : Telling) → NextCode → Type 0
MovesOn run old new before after next = (s : ProgramState) →
    MachineStands run.world.h.now (size_in run.sizes.now) run.program.now old s → IsStateNext run.world.h.now run.program.now s →
    MoveAgreesIn run (move run.world.h.now (size_in run.sizes.now) run.program.now s) new before after next
