-- What every state of a run keeps of its plans, besides the laws of path_model.
use Rattle.std.specs.Prelude.{◌≡◌, Bool, true, false, None, List, [], ◌∷◌}
use Rattle.cxx_program.specs.declared.program.Owner.{Owner}
use Rattle.cxx_program.specs.declared.program.Owner.TheVariants.{Main, Function, Constructor, Destructor}
use Rattle.cxx_program.specs.declared.program.TypedProgram.{TypedProgram}
use Rattle.path_plan.specs.Phases.{PartEvent, Body, Done}
use Rattle.path_model.specs.States.{Planned, Frame, InBody, InPlan, ProgramState, owned_body, is_body}
use Rattle.path_model.specs.Steps.{class_of_part}

-- the last event of a constructor that has a body: the end of the body does it, and it has no block of its own
abbrev pub IsClosing : TypedProgram → PartEvent → Type 0
IsClosing program (Done p) = is_body (owned_body program (Constructor (class_of_part p))) ≡ true
IsClosing program e = ⊥

-- the next event is no such one
abbrev pub StartsOwn : TypedProgram → List PartEvent → Type 0
StartsOwn program [] = Unit {0}
StartsOwn program (e ∷ es) = IsClosing program e → ⊥

-- no such event comes behind an event, but for a body of a construction
abbrev pub IsNoConstructorBody : Bool → PartEvent → Type 0
IsNoConstructorBody true (Body p) = ⊥
IsNoConstructorBody is_building e = Unit {0}

-- the events of a plan follow one another so
abbrev pub EventsFollow : TypedProgram → Bool → List PartEvent → Type 0
EventsFollow program is_building [] = Unit {0}
EventsFollow program is_building (e ∷ es) = (IsNoConstructorBody is_building e → StartsOwn program es) × EventsFollow program is_building es

-- a plan in order; and nobody waits for a destruction
pub record IsOrderly (program : TypedProgram) (p : Planned) : Type 0 where
  pub follows : EventsFollow program p.is_building p.events
  pub silent : p.is_building ≡ false → p.target ≡ None

-- a plan on top of frames does its next event
abbrev pub MayGo : TypedProgram → List Frame → Type 0
MayGo program [] = Unit {0}
MayGo program (InBody f ∷ below) = Unit {0}
MayGo program (InPlan p ∷ below) = StartsOwn program p.events

-- so does the plan below a body that is left, but for that of a constructor, whose end is the event
abbrev pub MayGoBehind : TypedProgram → Owner → List Frame → Type 0
MayGoBehind program Main below = MayGo program below
MayGoBehind program (Function f) below = MayGo program below
MayGoBehind program (Constructor c) below = Unit {0}
MayGoBehind program (Destructor c) below = MayGo program below

-- all frames are in order
abbrev pub AreOrderly : TypedProgram → List Frame → Type 0
AreOrderly program [] = Unit {0}
AreOrderly program (InBody f ∷ below) = MayGoBehind program f.owner below × AreOrderly program below
AreOrderly program (InPlan p ∷ below) = IsOrderly program p × MayGo program below × AreOrderly program below

-- and so is a state
abbrev pub IsOrderlyState : TypedProgram → ProgramState → Type 0
IsOrderlyState program s = MayGo program s.frames × AreOrderly program s.frames
