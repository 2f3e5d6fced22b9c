-- The frames of a state as those of a run of plans, and what is kept of them.
use Rattle.std.proofs.Common.{◌≡◌, ℕ, Bool, true, false, Option, Some, None, List, [], ◌∷◌, refl, subst, sym}
use Rattle.std.specs.Prelude.{find, if◌then◌else◌}
use Rattle.std.proofs.lemmas.Bool.{eqb-true}
use Rattle.cxx_hierarchy.specs.declared.records.ClassId.{ClassId}
use Rattle.cxx_hierarchy.specs.Classes.{Classes}
use Rattle.cxx_hierarchy.specs.Hierarchies.{IsHierarchy}
use Rattle.cxx_subobject.proofs.PathLemmas.{same_id}
use Rattle.cxx_overrider.specs.declared.FunctionId.{FunctionId}
use Rattle.foundation.proofs.Truth.{split}
use Rattle.cxx_program.specs.declared.operand.Variable.{Variable}
use Rattle.cxx_program.specs.declared.operand.Variable.TheVariants.{Global, Local}
use Rattle.cxx_program.specs.declared.program.Owner.{Owner}
use Rattle.cxx_program.specs.declared.program.Owner.TheVariants.{Main, Function, Constructor, Destructor}
use Rattle.cxx_program.specs.declared.program.TypedBody.{TypedBody}
use Rattle.cxx_program.specs.declared.program.TypedProgram.{TypedProgram}
use Rattle.path_plan.specs.Places.{ObjectPart}
use Rattle.path_plan.specs.Phases.{PartEvent, Done}
use Rattle.path_plan.specs.Runs.{EventFrame as RunFrame, InBody as BodyFrame, InPlan as PlanFrame, Run, call, leave, Reached, moves}
use Rattle.path_model.specs.Values.{Value, Objects, converted_to}
use Rattle.path_model.specs.States.{Target, RunningBody, Planned, Frame, InBody, InPlan, ProgramState, same_owner, owned_body, plan_bodies, is_body, with_local_in, assigned}
use Rattle.path_model.specs.Effects.{Next, Goes, Refuses, Ends, Wrong, given_to_target}
use Rattle.path_model.specs.Steps.{body_owner, class_of_part}
use Rattle.path_model.proofs.KeptClosed.{AreClosed}
use Rattle.path_model.proofs.KeptPaces.{StartsPlain, Paced, GoesOn}

-- the frames of a run of plans
abbrev pub shapes : List Frame → List RunFrame
shapes [] = []
shapes (InBody f ∷ frames) = BodyFrame ∷ shapes frames
shapes (InPlan f ∷ frames) = PlanFrame f.object f.events ∷ shapes frames

-- where the run of plans stands
abbrev pub run_at : Objects → List Frame → Run
run_at x frames = record { classes = x.classes; phases = x.phases; frames = shapes frames }

-- the next event is the last one of this part
abbrev pub StartsDone : ObjectPart → List PartEvent → Type 0
StartsDone p [] = ⊥
StartsDone p (e ∷ es) = e ≡ Done p

-- behind a body event: the body is declared, and what comes next is no body, in a construction the part's last event
abbrev pub Behind : TypedProgram → Bool → ObjectPart → List PartEvent → Type 0
Behind program true p es = (is_body (owned_body program (Constructor (class_of_part p))) ≡ true) × StartsDone p es
Behind program false p es = (is_body (owned_body program (Destructor (class_of_part p))) ≡ true) × StartsPlain es

-- a plan goes on with an event that is no body
pub record IsGoing (program : TypedProgram) (f : Planned) : Type 0 where
  pub starts : StartsPlain f.events
  pub paced : Paced (Behind program f.is_building) f.events

-- the body of `main` is said to be that of `main`
abbrev pub OwnsMain : TypedProgram → Type 0
OwnsMain program = (body : TypedBody) → program.main ≡ Some body → body.owner ≡ Main

-- the plan whose body this is: a construction with the last event of the part next, or a destruction
abbrev pub Serves : Bool → ClassId → Planned → Type 0
Serves true c f = (f.is_building ≡ true) × ((p : ObjectPart) × (class_of_part p ≡ c) × StartsDone p f.events)
Serves false c f = f.is_building ≡ false

abbrev pub StandsOnPlan : TypedProgram → Bool → ClassId → List Frame → Type 0
StandsOnPlan program building c [] = OwnsMain program → ⊥
StandsOnPlan program building c (InBody f ∷ below) = ⊥
StandsOnPlan program building c (InPlan f ∷ below) = Serves building c f

-- the body of a constructor or of a destructor stands on its plan
abbrev pub StandsOn : TypedProgram → Owner → List Frame → Type 0
StandsOn program Main below = Unit {0}
StandsOn program (Function g) below = Unit {0}
StandsOn program (Constructor c) below = StandsOnPlan program true c below
StandsOn program (Destructor c) below = StandsOnPlan program false c below

abbrev pub AreGoing : TypedProgram → List Frame → Type 0
AreGoing program [] = Unit {0}
AreGoing program (InBody f ∷ frames) = StandsOn program f.owner frames × AreGoing program frames
AreGoing program (InPlan f ∷ frames) = IsGoing program f × AreGoing program frames

-- what every state of a run keeps
pub record IsKeptAt (h : Classes) (program : TypedProgram) (x : Objects) (frames : List Frame) : Type 0 where
  pub reached : Reached h (plan_bodies program) (run_at x frames)
  pub going : AreGoing program frames
  pub closed : IsHierarchy h → AreClosed x

abbrev pub IsKept : Classes → TypedProgram → ProgramState → Type 0
IsKept h program s = IsKeptAt h program s.objects s.frames

abbrev pub IfGoes : (ProgramState → Type 0) → Next → Type 0
IfGoes P (Goes s outs) = P s
IfGoes P (Refuses rule line) = Unit {0}
IfGoes P Ends = Unit {0}
IfGoes P Wrong = Unit {0}

-- what stands behind a body

pub goes_on : (program : TypedProgram) (building : Bool) → GoesOn (Behind program building)
goes_on program true p [] fs a = absurd a.1
goes_on program true p (e ∷ es) fs a = a
goes_on program false p [] fs a = absurd a.1
goes_on program false p (e ∷ es) fs a = a

-- changes of frames that leave the plans as they are

local_shapes : (frames : List Frame) (n : ℕ) (v : Value) → shapes frames ≡ shapes (with_local_in frames n v)
local_shapes [] n v = refl
local_shapes (InBody f ∷ frames) n v = refl
local_shapes (InPlan f ∷ frames) n v = refl

local_going : (program : TypedProgram) (frames : List Frame) (n : ℕ) (v : Value) → AreGoing program frames → AreGoing program (with_local_in frames n v)
local_going program [] n v a = a
local_going program (InBody f ∷ frames) n v a = a
local_going program (InPlan f ∷ frames) n v a = a

pub kept_assigned : (h : Classes) (program : TypedProgram) (s : ProgramState) (x : Variable) (v : Value) → IsKept h program s → IsKept h program (assigned s x v)
kept_assigned h program s (Global n) v a = a
kept_assigned h program s (Local n) v a = record {
  reached = subst (λ (fs : List RunFrame). Reached h (plan_bodies program) (record { classes = s.objects.classes; phases = s.objects.phases; frames = fs })) (local_shapes s.frames n v) a.reached;
  going = local_going program s.frames n v a.going;
  closed = a.closed;
}

pub kept_given : (h : Classes) (program : TypedProgram) (s : ProgramState) (v : Value) (target : Option Target) → IsKept h program s → IsKept h program (given_to_target s v target)
kept_given h program s v None a = a
kept_given h program s v (Some target) a = kept_assigned h program s target.variable (converted_to v target.conversion) a

-- the body on top is left
pub kept_left : (h : Classes) (program : TypedProgram) (x : Objects) (f : RunningBody) (below : List Frame) → IsKeptAt h program x (InBody f ∷ below) → IsKeptAt h program x below
kept_left h program x f below a = record {
  reached = moves (run_at x (InBody f ∷ below)) (run_at x below) a.reached (leave x.classes x.phases (shapes below));
  going = a.going.1;
  closed = a.closed;
}

-- a body is called from one
pub kept_called : (h : Classes) (program : TypedProgram) (x : Objects) (f g : RunningBody) (below : List Frame) → IsKeptAt h program x (InBody f ∷ below) → StandsOn program g.owner (InBody f ∷ below) → IsKeptAt h program x (InBody g ∷ (InBody f ∷ below))
kept_called h program x f g below a stands = record {
  reached = moves (run_at x (InBody f ∷ below)) (run_at x (InBody g ∷ (InBody f ∷ below))) a.reached (call x.classes x.phases (shapes below));
  going = (stands, a.going);
  closed = a.closed;
}

-- whose body is found

found_owner : (find_by : TypedBody → Bool) (bodies : List TypedBody) (body : TypedBody) → find find_by bodies ≡ Some body → find_by body ≡ true
found_owner find_by [] body e = absurd (let f : None ≡ Some body = e in cc)
found_owner find_by (x ∷ bodies) body e = split (find_by x) (λ b. find_by x ≡ b → (if b then Some x else find find_by bodies) ≡ Some body → find_by body ≡ true)
    (λ t _ f. let same : x ≡ body = cc in subst (λ (y : TypedBody). find_by y ≡ true) same t)
    (λ t _ f. found_owner find_by bodies body f) refl e

function_stands : (program : TypedProgram) (g : FunctionId) (below : List Frame) (o : Owner) → same_owner o (Function g) ≡ true → StandsOn program o below
function_stands program g below Main e = tt
function_stands program g below (Function f) e = tt
function_stands program g below (Constructor c) e = absurd (cc)
function_stands program g below (Destructor c) e = absurd (cc)

-- the body of a function stands anywhere
pub found_function : (program : TypedProgram) (g : FunctionId) (body : TypedBody) (below : List Frame) → owned_body program (Function g) ≡ Some body → StandsOn program body.owner below
found_function program g body below e = function_stands program g below body.owner (found_owner (λ b. same_owner b.owner (Function g)) program.bodies body e)

constructor_stands : (program : TypedProgram) (f : Planned) (below : List Frame) (c : ClassId) (o : Owner) → same_owner o (Constructor c) ≡ true → ((d : ClassId) → c ≡ d → Serves true d f) → StandsOn program o (InPlan f ∷ below)
constructor_stands program f below c Main e serves = tt
constructor_stands program f below c (Function g) e serves = tt
constructor_stands program f below c (Constructor d) e serves = serves d (sym (same_id d c (eqb-true d.0 c.0 e)))
constructor_stands program f below c (Destructor d) e serves = absurd (cc)

destructor_stands : (program : TypedProgram) (f : Planned) (below : List Frame) (c : ClassId) (o : Owner) → same_owner o (Destructor c) ≡ true → f.is_building ≡ false → StandsOn program o (InPlan f ∷ below)
destructor_stands program f below c Main e serves = tt
destructor_stands program f below c (Function g) e serves = tt
destructor_stands program f below c (Constructor d) e serves = absurd (cc)
destructor_stands program f below c (Destructor d) e serves = serves

-- the body that an event of a plan opens stands on the plan
pub found_body : (program : TypedProgram) (f : Planned) (below : List Frame) (p : ObjectPart) (building : Bool) → f.is_building ≡ building → Behind program building p f.events → (body : TypedBody)
    → owned_body program (body_owner building (class_of_part p)) ≡ Some body → StandsOn program body.owner (InPlan f ∷ below)
found_body program f below p true is behind body e = constructor_stands program f below (class_of_part p) body.owner (found_owner (λ b. same_owner b.owner (Constructor (class_of_part p))) program.bodies body e)
    (λ d same. (is, (p, same, behind.1)))
found_body program f below p false is behind body e = destructor_stands program f below (class_of_part p) body.owner (found_owner (λ b. same_owner b.owner (Destructor (class_of_part p))) program.bodies body e) is

main_stands : (program : TypedProgram) (o : Owner) → (OwnsMain program → o ≡ Main) → StandsOn program o []
main_stands program Main own = tt
main_stands program (Function g) own = tt
main_stands program (Constructor c) own = λ owns. let e = own owns in absurd (cc)
main_stands program (Destructor c) own = λ owns. let e = own owns in absurd (cc)

pub main_body : (program : TypedProgram) (body : TypedBody) → program.main ≡ Some body → StandsOn program body.owner []
main_body program body e = main_stands program body.owner (λ owns. owns body e)
