-- An object as a tree of placed parts: a node is a list of placements, each of a part with placements of its own.
use Rattle.std.proofs.Common.{◌≡◌, ℕ, suc, ◌+◌, ◌*◌, ◌<◌, ◌≤◌, ◌⊎◌, Bool, true, false, Option, Some, None, List, [], ◌∷◌, ◌++◌, map}
use Rattle.std.specs.Prelude.{◌&&◌, ◌||◌, if◌then◌else◌, max, filter}
use Rattle.std.specs.List.{slice_get, list_any}
use Rattle.cxx_hierarchy.specs.declared.records.ClassId.{ClassId}
use Rattle.cxx_hierarchy.specs.declared.records.Base.{Base}
use Rattle.cxx_hierarchy.specs.declared.records.Member.{Member}
use Rattle.cxx_hierarchy.specs.declared.records.ValueType.{ValueType}
use Rattle.cxx_hierarchy.specs.declared.records.FieldType.{FieldType}
use Rattle.cxx_hierarchy.specs.declared.records.FieldType.TheVariants.{Value, Object}
use Rattle.cxx_hierarchy.specs.Classes.{Class, Classes, class_at, bases_of, members_of}
use Rattle.cxx_subobject.specs.declared.Subobject.{Subobject}
use Rattle.cxx_subobject.specs.Subobjects.{subobject, shared_base}
use Rattle.abi_emptybase.specs.declared.Part.{Part}
use Rattle.abi_emptybase.specs.Table.{moved_part}
use Rattle.abi_primary.specs.declared.Primary.{Primary}
use Rattle.abi_primary.specs.declared.Primary.TheVariants.{None as NoPrimary, Direct, Virtual}
use Rattle.abi_sound.specs.declared.class_layout.ClassLayout.{ClassLayout}
use Rattle.abi_layout.specs.declared.placed_bases.PlacedBase.{PlacedBase}
use Rattle.cxx_hierarchy.specs.Declarations.{is_plain_base}
use Rattle.abi_sound.specs.Places.{size_of_value, size_in_row, align_in, nvalign_in, member_places_in, direct_base_place, first_bit}
use Rattle.abi_sound.specs.Locations.{bits_of_value}
use Rattle.abi_layout.specs.Placements.{nvsize_in, elements_of, size_of_member_type, copies}
use Rattle.abi_sound.specs.Sound.{Divides}
use Rattle.abi_layout.specs.Kinds.{Kind, is_kind, has_virtual_function, is_empty}
use Rattle.abi_layout.specs.Holding.{virtual_primary_base, holds_base}
use Rattle.abi_layout.specs.PlacedBases.{class_of_placed, subobject_of, free_bases}
use Rattle.abi_layout.specs.Brought.{brought_by}
use Rattle.abi_layout.specs.Layouts.{primary_of, fronts, placed_place, object_parts}

-- a complete object of a class; a subobject, of a class, of a complete object of a class, with the virtual bases that it
-- holds and without the others; a number or a pointer, by the class that has it as a member, its number there, how wide it is where
-- it is a bit-field, and its type; a virtual pointer
pub data Node : Type 0 where
  Complete : ClassId → Node
  Within : ClassId → Subobject → ClassId → Node
  Leaf : ClassId → ℕ → Option ℕ → ValueType ClassId → Node
  Pointer : Node

-- so many copies of a node, the first at a place, each next one a stride further; of a member its number in its class
pub record Placement : Type 0 where
  pub node : Node
  pub place : ℕ
  pub count : ℕ
  pub stride : ℕ
  pub member : ℕ

-- the number of a placement, and of a copy
pub record Step : Type 0 where
  pub number : ℕ
  pub copy : ℕ

-- the placements of a node
abbrev pub Contents : Type 0
Contents = Node → List Placement

-- where a copy begins
abbrev pub start_of : Placement → ℕ → ℕ
start_of k e = k.place + e * k.stride

-- the step leads from n to the placement k
pub record StepsTo (contents : Contents) (n : Node) (s : Step) (k : Placement) : Type 0 where
  pub there : slice_get (contents n) s.number ≡ Some k
  pub within : s.copy < k.count

-- the steps lead from n to m, which begins q bytes behind n
pub data Reaches (contents : Contents) : Node → List Step → ℕ → Node → Type 0 where
  here : (n : Node) → Reaches contents n [] 0 n
  down : (n m : Node) (s : Step) (p : List Step) (q : ℕ) (k : Placement) → StepsTo contents n s k → Reaches contents k.node p q m → Reaches contents n (s ∷ p) (start_of k s.copy + q) m

-- a number that falls with each step; how many bytes a node reaches; with which bit its data begins and ends, counted from the first
-- bit of its place; its alignment
pub record Measures : Type 0 where
  pub rank : Node → ℕ
  pub span : Node → ℕ
  pub data_start : Node → ℕ
  pub data_end : Node → ℕ
  pub align : Node → ℕ

-- a placement of the node n
pub record IsInPlace (m : Measures) (n : Node) (k : Placement) : Type 0 where
  pub falls : m.rank k.node < m.rank n
  pub spans : (e : ℕ) → e < k.count → start_of k e + m.span k.node ≤ m.span n
  pub begins : m.data_start n ≡ 0
  pub low : m.data_start k.node < 8
  pub ends : 0 < m.data_end k.node → (e : ℕ) → e < k.count → 8 * start_of k e + m.data_end k.node ≤ m.data_end n
  pub data_fits : m.data_end k.node ≤ 8 * k.stride
  pub copies : (e f : ℕ) → e < f → f < k.count → m.span k.node ≤ k.stride
  pub aligned : (e : ℕ) → e < k.count → Divides (m.align k.node) (start_of k e)
  pub coarser : Divides (m.align k.node) (m.align n)

-- of two nodes at these places, the data of one ends before that of the other begins
abbrev pub LieApart : Measures → ℕ → Node → ℕ → Node → Type 0
LieApart m q k r j = (8 * q + m.data_end k ≤ 8 * r + m.data_start j) ⊎ (8 * r + m.data_end j ≤ 8 * q + m.data_start k)

-- the copies of two placements of one node lie apart, where they have data
abbrev pub AreClear : Measures → Placement → Placement → Type 0
AreClear m k l = 0 < m.data_end k.node → 0 < m.data_end l.node → (e f : ℕ) → e < k.count → f < l.count → LieApart m (start_of k e) k.node (start_of l f) l.node

-- all placements of a node
pub record IsArranged (contents : Contents) (m : Measures) (n : Node) : Type 0 where
  pub each : (i : ℕ) (k : Placement) → slice_get (contents n) i ≡ Some k → IsInPlace m n k
  pub two : (i j : ℕ) (k l : Placement) → i < j → slice_get (contents n) i ≡ Some k → slice_get (contents n) j ≡ Some l → AreClear m k l

-- all nodes
pub record AreArranged (contents : Contents) (m : Measures) : Type 0 where
  pub node : (n : Node) → IsArranged contents m n
  pub positive : (n : Node) → 0 < m.span n

-- what holds at every depth; two nodes without placements, as numbers and virtual pointers are, lie apart
pub record IsSoundTree (contents : Contents) (m : Measures) : Type 0 where
  pub inside : (n k : Node) (p : List Step) (q : ℕ) → Reaches contents n p q k → q + m.span k ≤ m.span n
  pub aligned : (n k : Node) (p : List Step) (q : ℕ) → Reaches contents n p q k → Divides (m.align k) q
  pub coarser : (n k : Node) (p : List Step) (q : ℕ) → Reaches contents n p q k → Divides (m.align k) (m.align n)
  pub ends : (n k : Node) (p : List Step) (q : ℕ) → Reaches contents n p q k → 0 < m.data_end k → 8 * q + m.data_end k ≤ m.data_end n
  pub apart : (n k j : Node) (p o : List Step) (q r : ℕ) → Reaches contents n p q k → Reaches contents n o r j → contents k ≡ [] → contents j ≡ [] → (p ≡ o → ⊥) → 0 < m.data_end k → 0 < m.data_end j → LieApart m q k r j

-- the class of a node, if it is a class subobject
abbrev pub class_of_node : Node → Option ClassId
class_of_node (Complete c) = Some c
class_of_node (Within c s d) = Some d
class_of_node (Leaf d m w t) = None
class_of_node Pointer = None

-- what a placement lists, where `parts` tells what a node does
abbrev pub placed_parts : (Node → List Part) → Placement → List Part
placed_parts parts k = map (moved_part k.place) (copies k.count k.stride (parts k.node))

-- a class of the hierarchy is dynamic: it declares a virtual function, has a virtual base, or a dynamic base
abbrev pub dynamic_kind : Kind
dynamic_kind is_dynamic class = has_virtual_function class || list_any (λ (base : Base ClassId). base.is_virtual || is_dynamic base.class) class.bases

abbrev pub is_no_primary : Primary → Bool
is_no_primary NoPrimary = true
is_no_primary (Direct b) = false
is_no_primary (Virtual v) = false

-- the class has a virtual pointer that no base of it has
abbrev pub owns_pointer : Classes → List Primary → ClassId → Bool
owns_pointer h primaries d = is_kind dynamic_kind h d && is_no_primary (primary_of primaries d)

abbrev pub one_at : Node → ℕ → ℕ → Placement
one_at node place stride = record { node = node; place = place; count = 1; stride = stride; member = 0 }

abbrev pub own_pointer : Classes → List Primary → ClassId → List Placement
own_pointer h primaries d = if owns_pointer h primaries d then one_at Pointer 0 8 ∷ [] else []

-- a base that is placed in its class
abbrev pub placed_base : Classes → List ClassLayout → ClassId → PlacedBase → Placement
placed_base h rows c base = one_at (Within c (subobject_of c base) (class_of_placed base)) (placed_place h rows c base) (nvsize_in (slice_get rows (class_of_placed base).0))

-- a direct non-virtual base of the subobject s of class d
abbrev pub inner_base : Classes → List ClassLayout → ClassId → Subobject → ClassId → Base ClassId → Placement
inner_base h rows c s d base = one_at (Within c (subobject s.root (s.path ++ base.class ∷ [])) base.class) (direct_base_place h rows d base.class) (nvsize_in (slice_get rows base.class.0))

-- an element of the member m of class d
abbrev pub node_of_member : ClassId → ℕ → Option ℕ → FieldType ClassId → Node
node_of_member d m width (Value type) = Leaf d m width type
node_of_member d m width (Object e) = Complete e

-- the members of class d from the n-th on, at these places
abbrev pub placed_members : List ClassLayout → ClassId → ℕ → List (Member ClassId) → List ℕ → List Placement
placed_members rows d n [] places = []
placed_members rows d n (member ∷ members) [] = []
placed_members rows d n (member ∷ members) (place ∷ places) =
    record { node = node_of_member d n member.width member.ty; place = place; count = elements_of member.count; stride = size_of_member_type rows member.ty; member = n } ∷ placed_members rows d (suc n) members places

abbrev pub members_at : Classes → List ClassLayout → ClassId → List Placement
members_at h rows d = placed_members rows d 0 (members_of h d) (member_places_in (slice_get rows d.0))

-- at the start of s: the virtual primary base of its class, where s holds it, and else a virtual pointer in its place
abbrev pub virtual_start : Classes → List ClassLayout → List Primary → ClassId → Subobject → Option ClassId → List Placement
virtual_start h rows primaries c s None = []
virtual_start h rows primaries c s (Some v) = one_at (if holds_base h primaries c s v then Within c (shared_base v) v else Pointer) 0 (nvsize_in (slice_get rows v.0)) ∷ []

abbrev pub contents_of_object : Classes → List ClassLayout → List Primary → ClassId → Option Class → List Placement
contents_of_object h rows primaries c None = []
contents_of_object h rows primaries c (Some class) =
    map (placed_base h rows c) (fronts primaries c class)
    ++ (members_at h rows c
    ++ (map (placed_base h rows c) (free_bases h primaries c)
    ++ own_pointer h primaries c))

abbrev pub contents_of : Classes → List ClassLayout → List Primary → Contents
contents_of h rows primaries (Complete c) = contents_of_object h rows primaries c (class_at h c)
contents_of h rows primaries (Within c s d) =
    members_at h rows d
    ++ (map (inner_base h rows c s d) (filter is_plain_base (bases_of h d))
    ++ (virtual_start h rows primaries c s (virtual_primary_base primaries d)
    ++ own_pointer h primaries d))
contents_of h rows primaries (Leaf d m w t) = []
contents_of h rows primaries Pointer = []

abbrev pub rank_of : Node → ℕ
rank_of (Complete c) = 2 * c.0 + 2
rank_of (Within c s d) = 2 * d.0 + 1
rank_of (Leaf d m w t) = 0
rank_of Pointer = 0

-- of a bit-field the byte in which it begins counts alone
abbrev pub span_of_value : Option ℕ → ValueType ClassId → ℕ
span_of_value None type = max 1 (size_of_value type)
span_of_value (Some n) type = 1

abbrev pub align_of_value : Option ℕ → ValueType ClassId → ℕ
align_of_value None type = size_of_value type
align_of_value (Some n) type = 1

abbrev pub span_of : List ClassLayout → Node → ℕ
span_of rows (Complete c) = max 1 (size_in_row (slice_get rows c.0))
span_of rows (Within c s d) = max 1 (nvsize_in (slice_get rows d.0))
span_of rows (Leaf d m w t) = span_of_value w t
span_of rows Pointer = 8

abbrev pub data_start_of : List ClassLayout → Node → ℕ
data_start_of rows (Complete c) = 0
data_start_of rows (Within c s d) = 0
data_start_of rows (Leaf d m w t) = first_bit rows d m
data_start_of rows Pointer = 0

abbrev pub data_end_of : Classes → List ClassLayout → Node → ℕ
data_end_of h rows (Complete c) = 8 * (if is_empty h c then 0 else size_in_row (slice_get rows c.0))
data_end_of h rows (Within c s d) = 8 * (if is_empty h d then 0 else nvsize_in (slice_get rows d.0))
data_end_of h rows (Leaf d m w t) = first_bit rows d m + bits_of_value w t
data_end_of h rows Pointer = 64

abbrev pub align_of : List ClassLayout → Node → ℕ
align_of rows (Complete c) = align_in (slice_get rows c.0)
align_of rows (Within c s d) = nvalign_in (slice_get rows d.0)
align_of rows (Leaf d m w t) = align_of_value w t
align_of rows Pointer = 8

abbrev pub measures_of : Classes → List ClassLayout → Measures
measures_of h rows = record { rank = rank_of; span = span_of rows; data_start = data_start_of rows; data_end = data_end_of h rows; align = align_of rows }

-- what a node lists: a class subobject lists itself and those in it, with their places
abbrev pub node_parts : Classes → List ClassLayout → List Primary → Node → List Part
node_parts h rows primaries (Complete c) = object_parts h rows primaries c
node_parts h rows primaries (Within c s d) = brought_by h rows primaries (object_parts h rows primaries) c s d
node_parts h rows primaries (Leaf d m w t) = []
node_parts h rows primaries Pointer = []
