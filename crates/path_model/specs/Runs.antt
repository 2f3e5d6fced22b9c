-- A run, from its start to its end, with its limits.
use Rattle.std.specs.Prelude.{◌≡◌, true, Bool, ◌<◌, ℕ, zero, suc, ◌+◌, ◌*◌, ◌/◌, nat_lt, nat_le, false, if◌then◌else◌, pos, Option, Some, None, List, [], ◌∷◌, ◌++◌, map, slice_get, sum_by, option_and_then}
use Rattle.std.specs.Option.{option_map_or}
use Rattle.cxx_hierarchy.specs.declared.records.ClassId.{ClassId}
use Rattle.cxx_hierarchy.specs.declared.records.ValueType.{ValueType}
use Rattle.cxx_hierarchy.specs.declared.records.ValueType.TheVariants.{Number as NumberType, Pointer as PointerType}
use Rattle.cxx_hierarchy.specs.declared.stop.LimitNo.{LimitNo}
use Rattle.cxx_hierarchy.specs.declared.stop.LimitNo.TheVariants.{L8, L10}
use Rattle.cxx_hierarchy.specs.Classes.{Classes}
use Rattle.cxx_program.specs.declared.operand.Conversion.TheVariants.{Same as ToSame}
use Rattle.cxx_program.specs.declared.statement.TypedRight.{TypedRight}
use Rattle.cxx_program.specs.declared.statement.TypedRight.TheVariants.{Call as CallRight, New}
use Rattle.cxx_program.specs.declared.statement.TypedKind.{TypedKind}
use Rattle.cxx_program.specs.declared.statement.TypedKind.TheVariants.{Declare, Assign, Call, Delete}
use Rattle.cxx_program.specs.declared.statement.TypedStatement.{TypedStatement}
use Rattle.cxx_program.specs.declared.program.Owner.{Owner}
use Rattle.cxx_program.specs.declared.program.Owner.TheVariants.{Function}
use Rattle.cxx_program.specs.declared.program.TypedBody.{TypedBody}
use Rattle.cxx_program.specs.declared.program.TypedProgram.{TypedProgram}
use Rattle.path_rules.specs.declared.Undefined.{Undefined}
use Rattle.path_plan.specs.Phases.{Raw}
use Rattle.path_model.specs.declared.outs.Out.{Out}
use Rattle.path_model.specs.Values.{Value, Unset, Number, Null, Pointer, Objects, Sight, value_of_operand}
use Rattle.path_model.specs.States.{RunningBody, Frame, InBody, InPlan, ProgramState, owned_body, entered_body, sight}
use Rattle.path_model.specs.Effects.{Next, Goes, Refuses, Ends, Wrong}
use Rattle.path_model.specs.Steps.{step}

-- the start: no object, numbers 0 and pointers null in the globals, and `main` at its first statement

-- a global starts as 0 or null (ISO C++03 3.6.2)
abbrev pub start_value : ValueType ClassId → Value
start_value (NumberType t) = Number (pos 0)
start_value (PointerType c) = Null

-- no heap object was made
abbrev pub no_objects : Objects
no_objects = record { classes = []; is_closed = λ k. false; phases = record { phase = λ p. Raw; running = λ k o. [] }; leaf = λ l. Unset }

-- `main` at its first statement
abbrev pub main_frames : Option TypedBody → List Frame
main_frames main = option_map_or (λ body. InBody (entered_body body Unset [] ToSame None) ∷ []) main []

-- the state in which a run begins
abbrev pub start : TypedProgram → ProgramState
start program = record { objects = no_objects; globals = map start_value program.globals; frames = main_frames program.main }

-- limits

-- an object's size in the heap, in bytes: the next multiple of 16
abbrev pub size_in_heap : ℕ → ℕ
size_in_heap size = (size + 15) / 16 * 16

-- the sum of the sizes of all objects made
abbrev pub heap_total : (ClassId → ℕ) → List ClassId → ℕ
heap_total sizes classes = sum_by (λ c. size_in_heap (sizes c)) classes

-- 64 MiB
abbrev pub most_heap_bytes : ℕ
most_heap_bytes = 67108864

-- how many calls, `new` and `delete` may be open
abbrev pub most_open : ℕ
most_open = 4096

-- the body of a constructor or destructor belongs to the `new` or `delete` below it
abbrev pub opened_for : Owner → ℕ
opened_for (Function g) = 1
opened_for other = 0

-- what a frame counts as: a plan is a `new` or a `delete`
abbrev pub opened_by : Frame → ℕ
opened_by (InBody f) = opened_for f.owner
opened_by (InPlan f) = 1

-- the calls, `new` and `delete` that are open
abbrev pub open_count : List Frame → ℕ
open_count frames = sum_by opened_by frames

-- what a statement asks for: an object of a class, and to open a call, a `new` or a `delete`
pub data Demand : Type 0 where
  asks_nothing : Demand
  asks_call : Demand
  asks_object : ClassId → Demand

-- what a right side asks for
abbrev pub right_demand : TypedRight → Demand
right_demand (CallRight call) = asks_call
right_demand (New c) = asks_object c
right_demand other = asks_nothing

-- a `delete` of null opens nothing
abbrev pub delete_demand : Value → Demand
delete_demand (Pointer p) = asks_call
delete_demand other = asks_nothing

-- what a statement asks for
abbrev pub demand_of : Sight → TypedKind → Demand
demand_of s (Declare n right) = option_map_or (λ x. right_demand x.right) right asks_nothing
demand_of s (Assign variable x) = right_demand x.right
demand_of s (Call call) = asks_call
demand_of s (Delete x c) = delete_demand (value_of_operand s x)
demand_of s other = asks_nothing

-- one more would be open than may be
abbrev pub call_limit : ProgramState → Option LimitNo
call_limit s = if nat_le most_open (open_count s.frames) then Some L10 else None

-- the heap comes before the count of what is open
abbrev pub limit_of : (ClassId → ℕ) → ProgramState → Demand → Option LimitNo
limit_of sizes s asks_nothing = None
limit_of sizes s asks_call = call_limit s
limit_of sizes s (asks_object c) = if nat_lt most_heap_bytes (heap_total sizes s.objects.classes + size_in_heap (sizes c)) then Some L8 else call_limit s

-- the limit that a statement would pass
abbrev pub statement_limit : (ClassId → ℕ) → ProgramState → RunningBody → Option TypedStatement → Option LimitNo
statement_limit sizes s f next = option_and_then (λ statement. limit_of sizes s (demand_of (sight s f) statement.kind)) next

-- that of the next statement of a body
abbrev pub body_limit : (ClassId → ℕ) → ProgramState → RunningBody → Option TypedBody → Option LimitNo
body_limit sizes s f own = option_and_then (λ body. statement_limit sizes s f (slice_get body.statements f.next)) own

-- that of the frame on top; an event asks for nothing
abbrev pub frame_limit : (ClassId → ℕ) → TypedProgram → ProgramState → List Frame → Option LimitNo
frame_limit sizes program s (InBody f ∷ below) = body_limit sizes s f (owned_body program f.owner)
frame_limit sizes program s other = None

-- the limit that the step would pass, by the size of each class in bytes
abbrev pub limit_at : (ClassId → ℕ) → TypedProgram → ProgramState → Option LimitNo
limit_at sizes program s = frame_limit sizes program s s.frames

-- runs

-- where a run goes from a state: a step that no rule refuses may still pass a limit
pub data Move : Type 0 where
  Moves : ProgramState → List Out → Move
  IsRefused : Undefined → (line : ℕ) → Move
  IsLimited : LimitNo → Move
  IsOver : Move
  IsWrong : Move

-- a step that passes a limit is not taken
abbrev pub within : Option LimitNo → ProgramState → List Out → Move
within passed s outs = option_map_or IsLimited passed (Moves s outs)

-- a refusal and the end of the run come before a limit
abbrev pub move_by : Next → Option LimitNo → Move
move_by (Goes s outs) limit = within limit s outs
move_by (Refuses rule line) limit = IsRefused rule line
move_by Ends limit = IsOver
move_by Wrong limit = IsWrong

-- where a run goes from a state
abbrev pub move : Classes → (ClassId → ℕ) → TypedProgram → ProgramState → Move
move h sizes program s = move_by (step h program s) (limit_at sizes program s)

-- how a run ends
pub data Ending : Type 0 where
  Done : Ending
  UndefinedAt : Undefined → (line : ℕ) → Ending
  OutOfSteps : Ending
  LimitMet : LimitNo → Ending
  WentWrong : Ending

-- what a run told, how it ended, and how many steps it took: a step that is refused or meets a limit is not taken
pub record Ran : Type 0 where
  pub outs : List Out
  pub ending : Ending
  pub steps : ℕ

-- the run from a state, by its first move and the rest
abbrev pub ran_by : Move → (ProgramState → Ran) → Ran
ran_by (Moves s outs) rest = record { outs = outs ++ (rest s).outs; ending = (rest s).ending; steps = 1 + (rest s).steps }
ran_by (IsRefused rule line) rest = record { outs = []; ending = UndefinedAt rule line; steps = 0 }
ran_by (IsLimited limit) rest = record { outs = []; ending = LimitMet limit; steps = 0 }
ran_by IsOver rest = record { outs = []; ending = Done; steps = 1 }
ran_by IsWrong rest = record { outs = []; ending = WentWrong; steps = 0 }

-- what is told from a state with this many steps left, and how it ends
abbrev pub run_from : Classes → (ClassId → ℕ) → TypedProgram → ℕ → ProgramState → Ran
run_from h sizes program zero s = record { outs = []; ending = OutOfSteps; steps = 0 }
run_from h sizes program (suc n) s = ran_by (move h sizes program s) (run_from h sizes program n)

-- the run of a program with a budget of steps
abbrev pub run_of : Classes → (ClassId → ℕ) → TypedProgram → ℕ → Ran
run_of h sizes program steps = run_from h sizes program steps (start program)

-- the state behind a move; without a step it is the same
abbrev pub state_behind : Move → ProgramState → ProgramState
state_behind (Moves new outs) s = new
state_behind other s = s

-- the state after n steps
abbrev pub state_at : Classes → (ClassId → ℕ) → TypedProgram → ℕ → ProgramState
state_at h sizes program zero = start program
state_at h sizes program (suc n) = state_behind (move h sizes program (state_at h sizes program n)) (state_at h sizes program n)

-- what a move tells
abbrev pub outs_in : Move → List Out
outs_in (Moves new outs) = outs
outs_in other = []

-- what the first n steps tell
abbrev pub outs_at : Classes → (ClassId → ℕ) → TypedProgram → ℕ → List Out
outs_at h sizes program zero = []
outs_at h sizes program (suc n) = outs_at h sizes program n ++ outs_in (move h sizes program (state_at h sizes program n))

-- the move is a step, and the run goes on
abbrev pub is_step_taken : Move → Bool
is_step_taken (Moves new outs) = true
is_step_taken other = false

-- the first n steps are taken, and the run has not ended
abbrev pub IsRunning : Classes → (ClassId → ℕ) → TypedProgram → ℕ → Type 0
IsRunning h sizes program n = (k : ℕ) → k < n → is_step_taken (move h sizes program (state_at h sizes program k)) ≡ true

-- a run that is behind its first n steps, with what it does from there
abbrev pub behind : ℕ → List Out → Ran → Ran
behind n outs ran = record { outs = outs ++ ran.outs; ending = ran.ending; steps = n + ran.steps }
