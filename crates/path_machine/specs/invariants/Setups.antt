-- What belongs to one run, and what is known of a plan that is next.
use Rattle.std.specs.Prelude.{◌≡◌, ℕ, Bool, true, false, Option, Some, None, List, ◌∷◌, slice_get}
use Rattle.cxx_hierarchy.specs.declared.records.ClassId.{ClassId}
use Rattle.cxx_hierarchy.specs.declared.records.ValueType.{ValueType}
use Rattle.cxx_hierarchy.specs.declared.records.ValueType.TheVariants.{Pointer as PointerType}
use Rattle.cxx_hierarchy.specs.declared.records.Function.{Function}
use Rattle.cxx_hierarchy.specs.Classes.{Classes}
use Rattle.cxx_overrider.specs.Faults.{HasNoFault}
use Rattle.cxx_program.specs.declared.program.TypedProgram.{TypedProgram}
use Rattle.cxx_program.specs.declared.operand.TypedOperand.{TypedOperand}
use Rattle.cxx_program.specs.declared.statement.TypedCall.{TypedCall}
use Rattle.cxx_program.specs.declared.statement.TypedKind.TheVariants.{Delete}
use Rattle.cxx_program.specs.declared.statement.Converted.{Converted}
use Rattle.cxx_program.specs.declared.statement.TypedRight.{TypedRight}
use Rattle.cxx_program.specs.declared.statement.TypedRight.TheVariants.{Operand, Arithmetic, SamePointer, Not, Read, Address, Call as CallRight, New, Cast, TypeEqual}
use Rattle.cxx_program.specs.Typed.{Scope, HasType, Converts, IsCall, IsConverted, IsTyped, scope_of, IsTypedProgram}
use Rattle.cxx_program.specs.declared.statement.TypedStatement.{TypedStatement}
use Rattle.cxx_program.specs.declared.program.TypedBody.{TypedBody}
use Rattle.path_plan.specs.Phases.{PartEvent}
use Rattle.path_plan.specs.Views.{Fits}
use Rattle.path_bodies.specs.Places.{IsIndexOf}
use Rattle.path_model.specs.Values.{Sight}
use Rattle.path_model.specs.Uses.{Wanted, call_uses, right_uses, kind_uses}
use Rattle.path_model.specs.Rules.{refused, is_clear}
use Rattle.path_model.specs.States.{Target, RunningBody, Planned, Frame, InBody, InPlan, ProgramState, owned_body, sight, wanted_result, with_frames}
use Rattle.path_model.specs.Typed.{AllSettled}
use Rattle.path_model.specs.TypedStates.{IsTypedState}
use Rattle.path_model.specs.Runs.{open_count}
use Rattle.path_tables.specs.Worlds.{IsWorld}
use Rattle.path_values.specs.Given.{HasTypesOfScope, GivesBack}
use Rattle.path_machine.specs.declared.frames.PlanFrame.{PlanFrame}
use Rattle.path_machine.specs.declared.machine.Machine.{Machine}
use Rattle.path_machine.specs.Frames.{PlanFrameStands}
use Rattle.path_machine.specs.Machines.{MachineStands}
use Rattle.path_machine.specs.declared.run.Run.{Run}

-- what a run looks at belongs to one typed program
pub record IsSetup (run : Run) : Type 0 where
  pub world : IsWorld run.world
  pub are_bodies : IsIndexOf run.program.now run.index.now
  pub typed : IsTypedProgram run.world.h.now run.program.now

-- the plan f is taken from the top: the machine stands for the state with the frames below it
pub record IsPlanTaken (h : Classes) (sizes : ClassId → ℕ) (program : TypedProgram) (machine : Machine) (frame : PlanFrame) (s : ProgramState) (f : Planned) (below : List Frame) : Type 0 where
  pub machine_stands : MachineStands h sizes program machine (with_frames s below)
  pub plan_stands : PlanFrameStands h program s.objects.classes frame f
  pub counts : frame.depth ≡ open_count (InPlan f ∷ below)

-- the next event fits, and a pointer to an object of this class becomes a value of who waits for it
pub record IsPlanNext (h : Classes) (s : ProgramState) (f : Planned) (class : ClassId) : Type 0 where
  pub fits : (e : PartEvent) (events : List PartEvent) → f.events ≡ e ∷ events → Fits h s.objects.phases e
  pub waits : (target : Target) → f.target ≡ Some target → (t : ValueType ClassId) × Converts h (PointerType class) target.conversion t

-- a call that is typed in the scope and that no rule refuses
pub record IsCalling (h : Classes) (e : Scope) (s : Sight) (call : TypedCall) : Type 0 where
  pub seen : HasTypesOfScope h e s
  pub function : Function ClassId
  pub typed : IsCall h e call function
  pub clear : refused h s.objects (call_uses s call) ≡ None

-- a `delete` of a pointer to the class c that no rule refuses
pub record IsDeleting (h : Classes) (e : Scope) (s : Sight) (pointer : TypedOperand) (c : ClassId) : Type 0 where
  pub seen : HasTypesOfScope h e s
  pub typed : HasType e pointer (PointerType c)
  pub clear : (w : Wanted) → refused h s.objects (kind_uses h (λ us. true) s w (Delete pointer c)) ≡ None

-- a right side that is no call and no `new`
abbrev pub is_plain : TypedRight → Bool
is_plain (Operand x) = true
is_plain (Arithmetic op t x y) = true
is_plain (SamePointer differ a b) = true
is_plain (Not x) = true
is_plain (Read place) = true
is_plain (Address place d) = true
is_plain (CallRight call) = false
is_plain (New d) = false
is_plain (Cast cast x) = true
is_plain (TypeEqual x d) = true

-- a right side that is typed in the scope and that no rule refuses
pub record IsTaking (h : Classes) (e : Scope) (s : Sight) (x : Converted) : Type 0 where
  pub seen : HasTypesOfScope h e s
  pub type : ValueType ClassId
  pub typed : IsConverted h e x type
  pub clear : refused h s.objects (right_uses h (is_clear h s.objects) s x.right x.conversion) ≡ None

-- what is known of every state of a run: it is typed, all objects are settled where a body is on top, and the next event of the
-- plan on top, or below that body, fits
pub record IsStateNext (h : Classes) (program : TypedProgram) (s : ProgramState) : Type 0 where
  pub fine : HasNoFault h
  pub typed : IsTypedState h program s
  pub settled : (f : RunningBody) (below : List Frame) → s.frames ≡ InBody f ∷ below → AllSettled h s.objects
  pub fits : (f : Planned) (e : PartEvent) (events : List PartEvent) (below : List Frame) → s.frames ≡ InPlan f ∷ below → f.events ≡ e ∷ events → Fits h s.objects.phases e
  pub behind : (g : RunningBody) (f : Planned) (e : PartEvent) (events : List PartEvent) (below : List Frame) → s.frames ≡ InBody g ∷ (InPlan f ∷ below) → f.events ≡ e ∷ events → Fits h s.objects.phases e

-- a right side that may be there
abbrev pub IsDeclaring : Classes → Scope → Sight → Option Converted → Type 0
IsDeclaring h e s None = Unit {0}
IsDeclaring h e s (Some x) = IsTaking h e s x

-- the plan below a body goes on
abbrev pub IsBelowNext : Classes → ProgramState → List Frame → Type 0
IsBelowNext h s below = (f : Planned) (rest : List Frame) (class : ClassId) → below ≡ InPlan f ∷ rest → slice_get s.objects.classes f.object ≡ Some class → IsPlanNext h s f class

-- what is known of a body on top: all objects are settled, what its statements see is typed, its result fits who waits for it, and
-- the plan below it goes on
pub record IsBodyNext (h : Classes) (program : TypedProgram) (s : ProgramState) (f : RunningBody) (below : List Frame) : Type 0 where
  pub seen : (body : TypedBody) → owned_body program f.owner ≡ Some body → HasTypesOfScope h (scope_of h program.globals body) (sight s f)
  pub typed : (body : TypedBody) (n : ℕ) (statement : TypedStatement) → owned_body program f.owner ≡ Some body → slice_get body.statements n ≡ Some statement → IsTyped h (scope_of h program.globals body) statement.kind
  pub back : (body : TypedBody) → owned_body program f.owner ≡ Some body → GivesBack h (scope_of h program.globals body) (wanted_result f)
  pub behind : IsBelowNext h s below
