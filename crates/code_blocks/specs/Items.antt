-- The plan of a class as a list: its own events, and between them the parts whose plans are run there. It depends on the class alone (ISO C++03 12.6.2 p5, 12.4 p6).
use Rattle.std.specs.Prelude.{ℕ, zero, suc, Bool, true, false, if◌then◌else◌, Option, Some, None, List, [], ◌∷◌, ◌++◌, length, slice_get, map}
use Rattle.std.specs.List.{flat_map}
use Rattle.cxx_hierarchy.specs.declared.records.ClassId.{ClassId}
use Rattle.cxx_hierarchy.specs.declared.records.Base.{Base}
use Rattle.cxx_hierarchy.specs.declared.records.Member.{Member}
use Rattle.cxx_hierarchy.specs.declared.records.FieldType.{FieldType}
use Rattle.cxx_hierarchy.specs.declared.records.FieldType.TheVariants.{Value, Object}
use Rattle.cxx_hierarchy.specs.Classes.{Classes, bases_of, members_of}
use Rattle.cxx_hierarchy.specs.Declarations.{elements_of}
use Rattle.path_plan.specs.Places.{ObjectPart, base_part, shared_part, element}
use Rattle.path_plan.specs.Phases.{PartEvent, Begin, Ready, Init, Body, Done, Ending, Bases, End}
use Rattle.path_plan.specs.declared.form.Form.{Form}
use Rattle.path_plan.specs.declared.form.Form.TheVariants.{InFull, AsBase}
use Rattle.path_plan.specs.Plans.{Bodies, virtual_order, upto, backwards}
use Rattle.path_plan.specs.Pieces.{Piece, Own, Sub}
use Rattle.code_ops.specs.declared.routines.Course.{Course}
use Rattle.code_ops.specs.declared.routines.Course.TheVariants.{Constructs, Destroys, Deletes}
pub use Rattle.code_blocks.specs.declared.items.Kind.{Kind}
pub use Rattle.code_blocks.specs.declared.items.Kind.TheVariants.{AtBegin, AtReady, AtInit, AtBody, AtDone, AtEnding, AtBases, AtEnd}
pub use Rattle.code_blocks.specs.declared.items.Way.{Way}
pub use Rattle.code_blocks.specs.declared.items.Way.TheVariants.{Forwards, Backwards}

-- an own event, a virtual base, a direct base that is not virtual, or all elements of a member
pub data Item : Type 0 where
  Does : Kind → Item
  Shares : ClassId → Item
  Inherits : Base ClassId → Item
  Holds : (way : Way) (member : ℕ) (class : ClassId) (count : ℕ) → Item

-- the event that happens to a part
abbrev pub event_of : Kind → ObjectPart → PartEvent
event_of AtBegin p = Begin p
event_of AtReady p = Ready p
event_of (AtInit m) p = Init p m
event_of AtBody p = Body p
event_of AtDone p = Done p
event_of AtEnding p = Ending p
event_of AtBases p = Bases p
event_of AtEnd p = End p

-- the numbers of so many elements, in their order
abbrev pub indices : Way → ℕ → List ℕ
indices Forwards n = upto n
indices Backwards n = backwards (upto n)

abbrev pub first_index : Way → ℕ → ℕ
first_index Forwards n = 0
first_index Backwards zero = 0
first_index Backwards (suc n) = n

-- the pieces of the plan of a part, by an item of its class
abbrev pub pieces_of : ObjectPart → Item → List Piece
pieces_of p (Does k) = Own (event_of k p) ∷ []
pieces_of p (Shares v) = Sub AsBase v (shared_part p v) ∷ []
pieces_of p (Inherits b) = Sub AsBase b.class (base_part p b) ∷ []
pieces_of p (Holds way m d n) = map (λ i. Sub InFull d (element p m i d)) (indices way n)

abbrev pub shared_base_items : Form → List ClassId → List Item
shared_base_items AsBase order = []
shared_base_items InFull order = map Shares order

abbrev pub base_items : Base ClassId → List Item
base_items b = if b.is_virtual then [] else Inherits b ∷ []

abbrev pub init_items : Bool → ℕ → List Item
init_items true m = Does (AtInit m) ∷ []
init_items false m = []

abbrev pub body_items : Bool → List Item
body_items true = Does AtBody ∷ []
body_items false = []

abbrev pub typed_items : Bool → Way → ℕ → ℕ → FieldType ClassId → List Item
typed_items is_set way m n (Value type) = init_items is_set m
typed_items is_set way m n (Object d) = Holds way m d n ∷ []

abbrev pub member_items : Bool → Way → ℕ → Option (Member ClassId) → List Item
member_items is_set way m None = []
member_items is_set way m (Some member) = typed_items is_set way m (elements_of member.count) member.ty

-- the construction of a class, point by point
abbrev pub built_items : Classes → Bodies → Form → ClassId → List Item
built_items h bodies form c =
    Does AtBegin ∷ (shared_base_items form (virtual_order h c)
    ++ (flat_map base_items (bases_of h c)
    ++ (Does AtReady ∷ (flat_map (λ m. member_items (bodies.initializer c m) Forwards m (slice_get (members_of h c) m)) (upto (length (members_of h c)))
    ++ (body_items (bodies.constructor c) ++ Does AtDone ∷ [])))))

-- its destruction
abbrev pub ended_items : Classes → Bodies → Form → ClassId → List Item
ended_items h bodies form c =
    Does AtEnding ∷ (body_items (bodies.destructor c)
    ++ (flat_map (λ m. member_items false Backwards m (slice_get (members_of h c) m)) (backwards (upto (length (members_of h c))))
    ++ (Does AtBases ∷ (flat_map base_items (backwards (bases_of h c))
    ++ (shared_base_items form (backwards (virtual_order h c)) ++ Does AtEnd ∷ [])))))

abbrev pub items_of : Classes → Bodies → Course → Form → ClassId → List Item
items_of h bodies Constructs form c = built_items h bodies form c
items_of h bodies Destroys form c = ended_items h bodies form c
items_of h bodies Deletes form c = ended_items h bodies form c

-- what is left from the next own event on
abbrev pub next_own : List Item → List Item
next_own [] = []
next_own (Does k ∷ left) = Does k ∷ left
next_own (Shares v ∷ left) = next_own left
next_own (Inherits b ∷ left) = next_own left
next_own (Holds way m d n ∷ left) = next_own left
