-- The state of a run: objects, globals, and frames of bodies and plans.
use Rattle.std.specs.Prelude.{ℕ, ◌-◌, Bool, false, nat_eq, Option, List, [], ◌∷◌, ◌++◌, find, length, slice_set, replicate, is_some}
use Rattle.std.specs.Option.{option_map_or}
use Rattle.cxx_hierarchy.specs.declared.records.ClassId.{ClassId}
use Rattle.cxx_program.specs.declared.operand.Variable.{Variable}
use Rattle.cxx_program.specs.declared.operand.Variable.TheVariants.{Global, Local}
use Rattle.cxx_program.specs.declared.operand.Conversion.{Conversion}
use Rattle.cxx_program.specs.declared.operand.Conversion.TheVariants.{Same as ToSame}
use Rattle.cxx_program.specs.declared.program.Owner.{Owner}
use Rattle.cxx_program.specs.declared.program.Owner.TheVariants.{Main, Function, Constructor, Destructor}
use Rattle.cxx_program.specs.declared.program.TypedInit.{TypedInit}
use Rattle.cxx_program.specs.declared.program.TypedBody.{TypedBody}
use Rattle.cxx_program.specs.declared.program.TypedProgram.{TypedProgram}
use Rattle.path_plan.specs.Phases.{PartEvent}
use Rattle.path_plan.specs.Plans.{Bodies}
use Rattle.path_model.specs.Values.{Value, Unset, Objects, Sight}
use Rattle.path_model.specs.Uses.{Wanted}
use Rattle.cxx_overrider.specs.Functions.{same_function}

-- the bodies of a program

-- the test that two bodies are those of one function, constructor or destructor
abbrev pub same_owner : Owner → Owner → Bool
same_owner (Function f) (Function g) = same_function f g
same_owner (Constructor c) (Constructor d) = nat_eq c.0 d.0
same_owner (Destructor c) (Destructor d) = nat_eq c.0 d.0
same_owner a b = false

-- the body of an owner
abbrev pub owned_body : TypedProgram → Owner → Option TypedBody
owned_body program Main = program.main
owned_body program owner = find (λ body. same_owner body.owner owner) program.bodies

-- there is a body
abbrev pub is_body : Option TypedBody → Bool
is_body own = is_some own

-- the initializers of a constructor
abbrev pub inits_in : Option TypedBody → List TypedInit
inits_in own = option_map_or (λ body. body.inits) own []

-- the initializer of a member, in the constructor of class c
abbrev pub member_init : TypedProgram → ClassId → ℕ → Option TypedInit
member_init program c m = find (λ init. nat_eq init.member m) (inits_in (owned_body program (Constructor c)))

-- there is an initializer
abbrev pub is_init : Option TypedInit → Bool
is_init own = is_some own

-- what the plans of objects look at
abbrev pub plan_bodies : TypedProgram → Bodies
plan_bodies program = record {
  constructor = λ c. is_body (owned_body program (Constructor c));
  destructor = λ c. is_body (owned_body program (Destructor c));
  initializer = λ c m. is_init (member_init program c m);
}

-- frames

-- the variable of the frame below that takes a result
pub record Target : Type 0 where
  pub variable : Variable
  pub conversion : Conversion

-- a body that runs: whose it is, `this`, the locals, the number of its next statement, how a result becomes one of the class
-- of the declaration that was found, and who takes it
pub record RunningBody : Type 0 where
  pub owner : Owner
  pub this : Value
  pub locals : List Value
  pub next : ℕ
  pub found : Conversion
  pub target : Option Target

-- a heap object under construction or destruction, with the events to come, and who takes the pointer at the end
pub record Planned : Type 0 where
  pub object : ℕ
  pub is_building : Bool
  pub events : List PartEvent
  pub target : Option Target

pub data Frame : Type 0 where
  InBody : RunningBody → Frame
  InPlan : Planned → Frame

-- frames stand with the innermost first
pub record ProgramState : Type 0 where
  pub objects : Objects
  pub globals : List Value
  pub frames : List Frame

-- what the statement of a body sees
abbrev pub sight : ProgramState → RunningBody → Sight
sight s f = record { objects = s.objects; globals = s.globals; this = f.this; locals = f.locals }

-- how a result becomes a value of who takes it
abbrev pub target_conversion : Option Target → Conversion
target_conversion taker = option_map_or (λ target. target.conversion) taker ToSame

-- what a return of the frame does with its result
abbrev pub wanted_result : RunningBody → Wanted
wanted_result f = record { found = f.found; target = target_conversion f.target }

-- changes of a state, one part at a time

-- other objects
abbrev pub with_objects : ProgramState → Objects → ProgramState
with_objects s objects = record { objects = objects; globals = s.globals; frames = s.frames }

-- other frames
abbrev pub with_frames : ProgramState → List Frame → ProgramState
with_frames s frames = record { objects = s.objects; globals = s.globals; frames = frames }

-- the next statement is n
abbrev pub at_statement : RunningBody → ℕ → RunningBody
at_statement f n = record { owner = f.owner; this = f.this; locals = f.locals; next = n; found = f.found; target = f.target }

-- a local takes a value
abbrev pub with_local : RunningBody → ℕ → Value → RunningBody
with_local f n v = record { owner = f.owner; this = f.this; locals = slice_set f.locals n v; next = f.next; found = f.found; target = f.target }

-- a variable of the innermost frame takes a value; a plan has no locals
abbrev pub with_local_in : List Frame → ℕ → Value → List Frame
with_local_in (InBody f ∷ below) n v = InBody (with_local f n v) ∷ below
with_local_in other n v = other

-- a variable takes a value
abbrev pub assigned : ProgramState → Variable → Value → ProgramState
assigned s (Global n) v = record { objects = s.objects; globals = slice_set s.globals n v; frames = s.frames }
assigned s (Local n) v = with_frames s (with_local_in s.frames n v)

-- the arguments, and unset locals behind them
abbrev pub start_locals : TypedBody → List Value → List Value
start_locals body values = values ++ replicate (length body.locals - length values) Unset

-- a body at its first statement: its arguments, and the other locals unset
abbrev pub entered_body : TypedBody → Value → List Value → Conversion → Option Target → RunningBody
entered_body body this values found target = record { owner = body.owner; this = this; locals = start_locals body values; next = 0; found = found; target = target }
