-- A plan as a stack of what is left: each frame is one part with its own events and the parts between them.
use Rattle.std.specs.Prelude.{◌≡◌, ℕ, Bool, true, false, not, ◌&&◌, if◌then◌else◌, Option, Some, None, List, [], ◌∷◌, ◌++◌, map, length, slice_get}
use Rattle.std.specs.List.{flat_map}
use Rattle.cxx_hierarchy.specs.declared.records.ClassId.{ClassId}
use Rattle.cxx_hierarchy.specs.declared.records.Base.{Base}
use Rattle.cxx_hierarchy.specs.declared.records.Member.{Member}
use Rattle.cxx_hierarchy.specs.declared.records.FieldType.{FieldType}
use Rattle.cxx_hierarchy.specs.declared.records.FieldType.TheVariants.{Value, Object}
use Rattle.cxx_hierarchy.specs.Classes.{Classes, bases_of, members_of}
use Rattle.cxx_subobject.specs.declared.Subobject.{Subobject}
use Rattle.cxx_hierarchy.specs.Declarations.{elements_of}
use Rattle.path_plan.specs.Places.{Step, ObjectPart, base_part, shared_part, element, same_complete_object}
use Rattle.path_plan.specs.Phases.{Phases, PartEvent, Begin, Ready, Init, Body, Done, Ending, Bases, End, part_of, phases_after}
use Rattle.path_plan.specs.declared.form.Form.{Form}
use Rattle.path_plan.specs.declared.form.Form.TheVariants.{InFull, AsBase}
use Rattle.path_plan.specs.Plans.{Bodies, Inner, upto, backwards, virtual_order}

-- an event of the part itself, or the plan of another part
pub data Piece : Type 0 where
  Own : PartEvent → Piece
  Sub : Form → ClassId → ObjectPart → Piece

-- the events of a piece, where inner is the plan of each part
abbrev pub expand : Inner → Piece → List PartEvent
expand inner (Own e) = e ∷ []
expand inner (Sub form c p) = inner form c p

-- the pieces of construction and destruction follow the plans, point by point
abbrev pub shared_pieces : Form → ObjectPart → List ClassId → List Piece
shared_pieces AsBase p order = []
shared_pieces InFull p order = map (λ v. Sub AsBase v (shared_part p v)) order

-- a direct base that is not virtual
abbrev pub base_pieces : ObjectPart → Base ClassId → List Piece
base_pieces p b = if b.is_virtual then [] else Sub AsBase b.class (base_part p b) ∷ []

-- the setting of a member
abbrev pub init_pieces : Bool → ObjectPart → ℕ → List Piece
init_pieces true p m = Own (Init p m) ∷ []
init_pieces false p m = []

-- the body, where it is declared
abbrev pub body_pieces : Bool → ObjectPart → List Piece
body_pieces true p = Own (Body p) ∷ []
body_pieces false p = []

-- a member by its type
abbrev pub typed_pieces : Bool → ObjectPart → ℕ → List ℕ → FieldType ClassId → List Piece
typed_pieces initialized p m indices (Value type) = init_pieces initialized p m
typed_pieces initialized p m indices (Object d) = map (λ i. Sub InFull d (element p m i d)) indices

-- member number m, its elements in the order that turn gives
abbrev pub member_pieces : Bool → (List ℕ → List ℕ) → ObjectPart → ℕ → Option (Member ClassId) → List Piece
member_pieces initialized turn p m None = []
member_pieces initialized turn p m (Some member) = typed_pieces initialized p m (turn (upto (elements_of member.count))) member.ty

-- a part of class c under construction
abbrev pub built_pieces : Classes → Bodies → Form → ClassId → ObjectPart → List Piece
built_pieces h bodies form c p =
    Own (Begin p) ∷ (shared_pieces form p (virtual_order h c)
    ++ (flat_map (base_pieces p) (bases_of h c)
    ++ (Own (Ready p) ∷ (flat_map (λ m. member_pieces (bodies.initializer c m) (λ is. is) p m (slice_get (members_of h c) m)) (upto (length (members_of h c)))
    ++ (body_pieces (bodies.constructor c) p ++ Own (Done p) ∷ [])))))

-- a part of class c under destruction
abbrev pub ended_pieces : Classes → Bodies → Form → ClassId → ObjectPart → List Piece
ended_pieces h bodies form c p =
    Own (Ending p) ∷ (body_pieces (bodies.destructor c) p
    ++ (flat_map (λ m. member_pieces false backwards p m (slice_get (members_of h c) m)) (backwards (upto (length (members_of h c))))
    ++ (Own (Bases p) ∷ (flat_map (base_pieces p) (backwards (bases_of h c))
    ++ (shared_pieces form p (backwards (virtual_order h c)) ++ Own (End p) ∷ [])))))

-- a part, and what is left of its pieces
pub record Pending : Type 0 where
  pub part : ObjectPart
  pub left : List Piece

-- the frame of p with these pieces left
abbrev pub pending : ObjectPart → List Piece → Pending
pending p left = record { part = p; left = left }

-- the frame of p, whose own event e is next, on the frames below
abbrev pub own_next : ObjectPart → PartEvent → List Piece → (below : List Pending) → List Pending
own_next p e left below = pending p (Own e ∷ left) ∷ below

-- what is left of the plan
abbrev pub rest_of_plan : Inner → List Pending → List PartEvent
rest_of_plan inner frames = flat_map (λ f. flat_map (expand inner) f.left) frames

-- the parts up to the next own event are opened, the first of them on top
abbrev pub opened_pieces : (Form → ClassId → ObjectPart → List Piece) → ObjectPart → List Piece → List Pending → List Pending
opened_pieces pieces p [] below = below
opened_pieces pieces p (Own e ∷ left) below = pending p (Own e ∷ left) ∷ below
opened_pieces pieces p (Sub form c q ∷ left) below = pending q (pieces form c q) ∷ opened_pieces pieces p left below

-- the first event of a part
abbrev pub begins_part : PartEvent → Bool
begins_part (Begin p) = true
begins_part (Ending p) = true
begins_part other = false

-- its last event
abbrev pub ends : PartEvent → Bool
ends (Done p) = true
ends (End p) = true
ends other = false

-- a frame that waits at its first event does not run yet
abbrev pub is_begun : List Piece → Bool
is_begun [] = true
is_begun (Sub form c q ∷ left) = true
is_begun (Own e ∷ left) = not (begins_part e)

-- the stack of a complete object: its frames that run
abbrev pub stack_of : List Pending → ℕ → List Step → List Subobject
stack_of [] k o = []
stack_of (f ∷ frames) k o = if is_begun f.left && same_complete_object f.part.object f.part.owner k o then f.part.at ∷ stack_of frames k o else stack_of frames k o

-- A where the flag is set, else B
abbrev pub Choice : Bool → Type 0 → Type 0 → Type 0
Choice true A B = A
Choice false A B = B

-- what is left of p once it has begun: its own events are of p, none of them is a first event, and the last piece is its last event
abbrev pub IsTail : ObjectPart → List Piece → Type 0
IsTail p [] = ⊥
IsTail p (Sub form c q ∷ left) = IsTail p left
IsTail p (Own e ∷ left) = (part_of e ≡ p) × (begins_part e ≡ false) × Choice (ends e) (left ≡ []) (IsTail p left)

-- what is left of p between two steps: an own event is next
abbrev pub IsWaiting : ObjectPart → List Piece → Type 0
IsWaiting p [] = ⊥
IsWaiting p (Sub form c q ∷ left) = ⊥
IsWaiting p (Own e ∷ left) = (part_of e ≡ p) × Choice (ends e) (left ≡ []) (IsTail p left)

-- each frame is so
abbrev pub AreWaiting : List Pending → Type 0
AreWaiting [] = Unit {0}
AreWaiting (f ∷ frames) = IsWaiting f.part f.left × AreWaiting frames

-- the stacks of all complete objects are the frames that run
abbrev pub IsStackOf : List Pending → Phases → Type 0
IsStackOf frames s = (k : ℕ) (o : List Step) → s.running k o ≡ stack_of frames k o

-- Where the pieces of e's part wait above those below, and the frames that run are the stacks: they are so again after e,
-- when the pieces behind it are opened.
abbrev pub StackGoesOn : (Form → ClassId → ObjectPart → List Piece) → ObjectPart → PartEvent → List Piece → List Pending → Phases → Type 0
StackGoesOn pieces p e left below s =
    AreWaiting (own_next p e left below) → IsStackOf (own_next p e left below) s → IsStackOf (opened_pieces pieces p left below) (phases_after s e)
