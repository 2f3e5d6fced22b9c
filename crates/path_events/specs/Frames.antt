-- Parts and events as the code names them, and what is left of a part at a stage.
use Rattle.std.specs.Prelude.{◌≡◌, ℕ, ◌+◌, ◌≤◌, ◌^◌, Bool, true, false, List, [], ◌∷◌, ◌++◌, length, slice_get, take, drop}
use Rattle.std.specs.List.{flat_map}
use Rattle.cxx_hierarchy.specs.declared.records.ClassId.{ClassId}
use Rattle.cxx_hierarchy.specs.Classes.{Classes, bases_of, members_of}
use Rattle.path_plan.specs.Places.{ObjectPart}
use Rattle.path_plan.specs.Phases.{Ready, Done, Bases, End}
use Rattle.path_plan.specs.declared.form.Form.{Form}
use Rattle.path_plan.specs.Plans.{Bodies, upto, backwards, virtual_order}
use Rattle.path_plan.specs.Pieces.{Piece, Own, shared_pieces, base_pieces, body_pieces, member_pieces}
use Rattle.path_numbers.specs.Sizes.{sizes_of}
use Rattle.path_numbers.specs.Nodes.{Node}
use Rattle.path_numbers.specs.Heap.{IsAt}
use Rattle.path_heap.specs.declared.state.NumberedPart.{NumberedPart}
use Rattle.path_heap.specs.Points.{HasOwner}
use Rattle.path_events.specs.declared.frame.Stage.{Stage}
use Rattle.path_events.specs.declared.frame.Stage.TheVariants.{Shared as SharedStage, Bases as BasesStage, Members as MembersStage, Body as BodyStage, Last as LastStage}

-- a part as the code names it is the part p, of this form, and all its numbers are below 2 ^ 64
pub record StandsAs (h : Classes) (classes : List ClassId) (code : NumberedPart) (form : Form) (p : ObjectPart) : Type 0 where
  pub node : Node
  pub at : IsAt h (sizes_of h) classes node
  pub is_form : node.form ≡ form
  pub is_part : node.part ≡ p
  pub is_number : node.number ≡ code.number
  pub is_class : node.class ≡ code.class
  pub owned : HasOwner h classes node code.whole code.owner
  pub room : node.number + sizes_of h node.form node.class ≤ 2 ^ 64

-- a construction from each of its points on: the body, the members from m on (the first from its element i on), the bases, the
-- virtual bases
abbrev pub built_body : Bodies → ClassId → ObjectPart → List Piece
built_body bodies c p = body_pieces (bodies.constructor c) p ++ Own (Done p) ∷ []

abbrev pub built_members : Classes → Bodies → ClassId → ObjectPart → (m i : ℕ) → List Piece
built_members h bodies c p m i =
    member_pieces (bodies.initializer c m) (drop i) p m (slice_get (members_of h c) m)
    ++ (flat_map (λ k. member_pieces (bodies.initializer c k) (λ is. is) p k (slice_get (members_of h c) k)) (drop (m + 1) (upto (length (members_of h c)))) ++ built_body bodies c p)

abbrev pub built_bases : Classes → Bodies → ClassId → ObjectPart → ℕ → List Piece
built_bases h bodies c p i = flat_map (base_pieces p) (drop i (bases_of h c)) ++ Own (Ready p) ∷ built_members h bodies c p 0 0

-- a destruction with so much left: j virtual bases, i bases, m members behind i elements of member number m
abbrev pub ended_shared : Classes → Form → ClassId → ObjectPart → ℕ → List Piece
ended_shared h form c p j = shared_pieces form p (backwards (take j (virtual_order h c))) ++ Own (End p) ∷ []

abbrev pub ended_bases : Classes → Form → ClassId → ObjectPart → ℕ → List Piece
ended_bases h form c p i = flat_map (base_pieces p) (backwards (take i (bases_of h c))) ++ ended_shared h form c p (length (virtual_order h c))

abbrev pub ended_members : Classes → Form → ClassId → ObjectPart → (m i : ℕ) → List Piece
ended_members h form c p m i =
    member_pieces false (λ is. backwards (take i is)) p m (slice_get (members_of h c) m)
    ++ (flat_map (λ k. member_pieces false backwards p k (slice_get (members_of h c) k)) (backwards (upto m)) ++ Own (Bases p) ∷ ended_bases h form c p (length (bases_of h c)))

-- what is left of a part at a stage, of its construction or of its destruction
abbrev pub left_of : Classes → Bodies → (is_building : Bool) → Form → ClassId → ObjectPart → Stage → List Piece
left_of h bodies true form c p (SharedStage j) = shared_pieces form p (drop j (virtual_order h c)) ++ built_bases h bodies c p 0
left_of h bodies true form c p (BasesStage i) = built_bases h bodies c p i
left_of h bodies true form c p (MembersStage m i) = built_members h bodies c p m i
left_of h bodies true form c p BodyStage = built_body bodies c p
left_of h bodies true form c p LastStage = Own (Done p) ∷ []
left_of h bodies false form c p (SharedStage j) = ended_shared h form c p j
left_of h bodies false form c p (BasesStage i) = ended_bases h form c p i
left_of h bodies false form c p (MembersStage m i) = ended_members h form c p m i
left_of h bodies false form c p BodyStage = body_pieces (bodies.destructor c) p ++ ended_members h form c p (length (members_of h c)) 0
left_of h bodies false form c p LastStage = Own (End p) ∷ []
