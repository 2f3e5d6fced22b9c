-- The frames of plans: parts whose plans go on, and what is left of the items of their classes.
use Rattle.std.specs.Prelude.{◌≡◌, ◌⊎◌, ℕ, Bool, true, false, not, ◌&&◌, if◌then◌else◌, Some, List, [], ◌∷◌, ◌++◌, map, Contains, slice_get}
use Rattle.std.specs.List.{flat_map}
use Rattle.cxx_hierarchy.specs.declared.records.ClassId.{ClassId}
use Rattle.cxx_subobject.specs.declared.Subobject.{Subobject}
use Rattle.cxx_subobject.specs.Subobjects.{whole_of}
use Rattle.cxx_subobject.specs.Locations.{Step, ObjectPart}
use Rattle.path_plan.specs.Places.{part, base_part, shared_part, element, same_complete_object}
use Rattle.path_plan.specs.Phases.{Phases, PartEvent, is_in_bases, is_running}
use Rattle.path_plan.specs.declared.form.Form.{Form}
use Rattle.path_plan.specs.declared.form.Form.TheVariants.{InFull, AsBase}
use Rattle.path_plan.specs.Plans.{Inner, plan, unplan}
use Rattle.path_plan.specs.Pieces.{expand}
use Rattle.path_model.specs.States.{plan_bodies}
use Rattle.path_model.specs.TypedStates.{IsPartMade}
use Rattle.code_blocks.specs.Blocks.{items, base_course}
use Rattle.code_blocks.specs.Items.{indices, Item, Does, Shares, Inherits, Holds, pieces_of}
use Rattle.code_blocks.specs.Lowered.{IsEnd}
use Rattle.code_blocks.specs.declared.items.Kind.{Kind}
use Rattle.code_blocks.specs.declared.items.Kind.TheVariants.{AtBegin, AtReady, AtInit, AtBody, AtDone, AtEnding, AtBases, AtEnd}
use Rattle.code_ops.specs.Routines.{IsCourse}
use Rattle.code_ops.specs.declared.routines.Course.{Course}
use Rattle.code_ops.specs.declared.routines.Course.TheVariants.{Constructs, Destroys, Deletes}
use Rattle.agree_relation.specs.Worlds.{World, world_classes}

-- a part of a class whose plan goes on, and what is left of it, its next own event first
pub record Going : Type 0 where
  pub course : Course
  pub form : Form
  pub class : ClassId
  pub part : ObjectPart
  pub left : List Item

-- a part at the start of its plan
abbrev pub going : World → Course → Form → ClassId → ObjectPart → Going
going w course form c p = record { course = course; form = form; class = c; part = p; left = items w.setup course form c }

abbrev pub at_left : Going → List Item → Going
at_left f left = record { course = f.course; form = f.form; class = f.class; part = f.part; left = left }

-- an element of a member of a part, at the start of its plan
abbrev pub element_going : World → Going → ℕ → ClassId → ℕ → Going
element_going w f m d i = going w (base_course f.course) InFull d (element f.part m i d)

-- the parts up to the next own event are opened, the first of them on top
abbrev pub opened_goings : World → Going → List Item → List Going → List Going
opened_goings w f [] below = below
opened_goings w f (Does k ∷ left) below = at_left f (Does k ∷ left) ∷ below
opened_goings w f (Shares v ∷ left) below = going w (base_course f.course) AsBase v (shared_part f.part v) ∷ opened_goings w f left below
opened_goings w f (Inherits b ∷ left) below = going w (base_course f.course) AsBase b.class (base_part f.part b) ∷ opened_goings w f left below
opened_goings w f (Holds way m d n ∷ left) below = map (element_going w f m d) (indices way n) ++ opened_goings w f left below

-- the events of a plan

abbrev pub course_events : World → Course → Inner
course_events w Constructs = plan (world_classes w) (plan_bodies w.setup.program)
course_events w Destroys = unplan (world_classes w) (plan_bodies w.setup.program)
course_events w Deletes = unplan (world_classes w) (plan_bodies w.setup.program)

-- a course is one of a construction, or of a destruction
abbrev pub builds : Course → Bool
builds Constructs = true
builds Destroys = false
builds Deletes = false

abbrev pub AreOf : Bool → List Going → Type 0
AreOf is_building [] = Unit {0}
AreOf is_building (f ∷ fs) = (builds f.course ≡ is_building) × AreOf is_building fs

-- the events that are left of a part's plan
abbrev pub events_of : World → Going → List PartEvent
events_of w f = flat_map (expand (course_events w f.course)) (flat_map (pieces_of f.part) f.left)

-- and of a stack of them
abbrev pub events_left : World → List Going → List PartEvent
events_left w fs = flat_map (events_of w) fs

-- stacks

-- the first event of a plan
abbrev pub is_first_event : Kind → Bool
is_first_event AtBegin = true
is_first_event AtReady = false
is_first_event (AtInit m) = false
is_first_event AtBody = false
is_first_event AtDone = false
is_first_event AtEnding = true
is_first_event AtBases = false
is_first_event AtEnd = false

-- the last one
abbrev pub stops : Kind → Bool
stops AtBegin = false
stops AtReady = false
stops (AtInit m) = false
stops AtBody = false
stops AtDone = true
stops AtEnding = false
stops AtBases = false
stops AtEnd = true

-- a part that waits at its first event has not begun
abbrev pub has_begun : List Item → Bool
has_begun [] = true
has_begun (Does k ∷ left) = not (is_first_event k)
has_begun (Shares v ∷ left) = true
has_begun (Inherits b ∷ left) = true
has_begun (Holds way m d n ∷ left) = true

-- the stack of a complete object: its parts that have begun
abbrev pub stack_in : List Going → ℕ → List Step → List Subobject
stack_in [] k o = []
stack_in (f ∷ fs) k o = if has_begun f.left && same_complete_object f.part.object f.part.owner k o then f.part.at ∷ stack_in fs k o else stack_in fs k o

-- a complete object inside a member of a part of another
abbrev pub IsDeeper : List Step → List Step → Type 0
IsDeeper [] o = ⊥
IsDeeper (step ∷ rest) o = (rest ≡ o) ⊎ IsDeeper rest o

-- a complete object has nothing on its stack below, and is a whole; a base has the whole of its complete object there
abbrev pub StandsOnStack : Form → ClassId → ClassId → ObjectPart → List Subobject → Type 0
StandsOnStack InFull c d p stack = (stack ≡ []) × (p.at ≡ whole_of c) × (d ≡ c)
StandsOnStack AsBase c d p stack = Contains stack (whole_of d)

-- a frame of a plan, over those below: nothing of it depends on phases. It waits at an own event, which is one of its class's; d is the class of its complete object
pub record IsGoing (w : World) (classes : List ClassId) (f : Going) (below : List Going) : Type 0 where
  pub made : IsPartMade (world_classes w) classes f.part f.class
  pub complete : ClassId
  pub whole : IsPartMade (world_classes w) classes (part f.part.object f.part.owner (whole_of complete)) complete
  pub course : IsCourse f.course f.form
  pub kind : Kind
  pub rest : List Item
  pub is : f.left ≡ Does kind ∷ rest
  pub ends : IsEnd w.setup f.course f.form f.class f.left
  pub deep : (o : List Step) → IsDeeper o f.part.owner → stack_in below f.part.object o ≡ []
  pub stands : StandsOnStack f.form f.class complete f.part (stack_in below f.part.object f.part.owner)

abbrev pub AreGoing : World → List ClassId → List Going → Type 0
AreGoing w classes [] = Unit {0}
AreGoing w classes (f ∷ fs) = IsGoing w classes f fs × AreGoing w classes fs

-- the subobject around a base that waits is among its bases: the one fact of a waiting frame that looks at phases
abbrev pub WaitsIn : Phases → Form → ObjectPart → List Subobject → Type 0
WaitsIn s InFull p stack = Unit {0}
WaitsIn s AsBase p [] = ⊥
WaitsIn s AsBase p (y ∷ rest) = is_in_bases (s.phase (part p.object p.owner y)) ≡ true

abbrev pub AllWaitIn : Phases → List Going → Type 0
AllWaitIn s [] = Unit {0}
AllWaitIn s (f ∷ fs) = WaitsIn s f.form f.part (stack_in fs f.part.object f.part.owner) × AllWaitIn s fs

-- what stands on a stack runs, and stands there once
pub record IsInStep (s : Phases) : Type 0 where
  pub runs : (k : ℕ) (o : List Step) (y : Subobject) → Contains (s.running k o) y → is_running (s.phase (part k o y)) ≡ true
  pub once : (k : ℕ) (o : List Step) (i j : ℕ) (y : Subobject) → slice_get (s.running k o) i ≡ Some y → slice_get (s.running k o) j ≡ Some y → i ≡ j

-- all frames of plans stand for the phases and the stacks of a state
pub record ArePlanned (w : World) (classes : List ClassId) (s : Phases) (fs : List Going) : Type 0 where
  pub going : AreGoing w classes fs
  pub waits : AllWaitIn s fs
  pub stack : (k : ℕ) (o : List Step) → s.running k o ≡ stack_in fs k o
  pub in_step : IsInStep s
