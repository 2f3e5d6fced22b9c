-- A run, as far as plans go: objects are made and deleted in bodies, and a plan waits while a body of it runs.
use Rattle.std.specs.Prelude.{◌≡◌, ℕ, nat_eq, if◌then◌else◌, Some, List, [], ◌∷◌, ◌++◌, length, slice_get}
use Rattle.cxx_hierarchy.specs.declared.records.ClassId.{ClassId}
use Rattle.cxx_hierarchy.specs.Classes.{Classes}
use Rattle.path_plan.specs.Phases.{Raw, Complete, Phases, PartEvent, Body, phases_after}
use Rattle.path_plan.specs.Plans.{Bodies}
use Rattle.path_plan.specs.Views.{Settled, Fits}
use Rattle.path_plan.specs.Whole.{whole_part, construction, destruction}

-- a body that runs, or a plan of a heap object with what is left of it
pub data EventFrame : Type 0 where
  InBody : EventFrame
  InPlan : (object : ℕ) → (rest : List PartEvent) → EventFrame

pub record Run : Type 0 where
  pub classes : List ClassId
  pub phases : Phases
  pub frames : List EventFrame

-- the object k as new
abbrev pub renewed : ℕ → Phases → Phases
renewed k s = record { phase = λ q. if nat_eq q.object k then Raw else s.phase q; running = λ j o. if nat_eq j k then [] else s.running j o }

-- an event that is a body begins it
abbrev pub entered : PartEvent → List EventFrame → List EventFrame
entered (Body p) frames = InBody ∷ frames
entered other frames = frames

-- where the plan with these events left stands, and what is below it
abbrev pub in_plan : List ClassId → Phases → ℕ → List PartEvent → List EventFrame → Run
in_plan classes s k es below = record { classes = classes; phases = s; frames = InPlan k es ∷ below }

abbrev pub in_body : List ClassId → Phases → List EventFrame → Run
in_body classes s below = record { classes = classes; phases = s; frames = InBody ∷ below }

pub data Moves (h : Classes) (bodies : Bodies) : Run → Run → Type 0 where
  event : (cs : List ClassId) (s : Phases) (k : ℕ) (e : PartEvent) (es : List PartEvent) (below : List EventFrame) → Moves h bodies (in_plan cs s k (e ∷ es) below) (record { classes = cs; phases = phases_after s e; frames = entered e (InPlan k es ∷ below) })
  finish : (cs : List ClassId) (s : Phases) (k : ℕ) (below : List EventFrame) → Moves h bodies (in_plan cs s k [] below) (record { classes = cs; phases = s; frames = below })
  call : (cs : List ClassId) (s : Phases) (below : List EventFrame) → Moves h bodies (in_body cs s below) (in_body cs s (InBody ∷ below))
  leave : (cs : List ClassId) (s : Phases) (below : List EventFrame) → Moves h bodies (in_body cs s below) (record { classes = cs; phases = s; frames = below })
  make : (cs : List ClassId) (s : Phases) (below : List EventFrame) (c : ClassId) → Moves h bodies (in_body cs s below) (in_plan (cs ++ c ∷ []) (renewed (length cs) s) (length cs) (construction h bodies (length cs) c) (InBody ∷ below))
  -- U10: the whole of a heap object is complete
  delete : (cs : List ClassId) (s : Phases) (below : List EventFrame) (k : ℕ) (c : ClassId) → slice_get cs k ≡ Some c → s.phase (whole_part k c) ≡ Complete → Moves h bodies (in_body cs s below) (in_plan cs s k (destruction h bodies k c) (InBody ∷ below))

-- at a statement every object that was made is settled
abbrev pub SettledAt : Classes → Run → List EventFrame → Type 0
SettledAt h r [] = Unit {0}
SettledAt h r (InBody ∷ below) = (k : ℕ) (c : ClassId) → slice_get r.classes k ≡ Some c → Settled h k r.phases
SettledAt h r (InPlan k es ∷ below) = Unit {0}

-- the next event of the top plan fits
abbrev pub FitsAt : Classes → Run → List EventFrame → Type 0
FitsAt h r [] = Unit {0}
FitsAt h r (InBody ∷ below) = Unit {0}
FitsAt h r (InPlan k [] ∷ below) = Unit {0}
FitsAt h r (InPlan k (e ∷ es) ∷ below) = Fits h r.phases e

-- the runs from `main`
pub data Reached (h : Classes) (bodies : Bodies) : Run → Type 0 where
  starts : (s : Phases) → Reached h bodies (in_body [] s [])
  moves : (r r' : Run) → Reached h bodies r → Moves h bodies r r' → Reached h bodies r'
