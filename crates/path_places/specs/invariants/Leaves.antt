-- The numbers of leaves that a call puts behind others.
use Rattle.std.specs.Prelude.{◌≡◌, ℕ, ◌+◌, ◌%◌, ◌^◌, ◌≤◌, Some, List, ◌++◌, length, slice_get}
use Rattle.std.specs.List.{AllZip, flat_map}
use Rattle.cxx_hierarchy.specs.declared.records.ClassId.{ClassId}
use Rattle.cxx_hierarchy.specs.declared.records.Member.{Member}
use Rattle.cxx_hierarchy.specs.declared.records.FieldType.TheVariants.{Object}
use Rattle.cxx_hierarchy.specs.Classes.{Classes, members_of}
use Rattle.cxx_hierarchy.specs.Declarations.{elements_of}
use Rattle.cxx_subobject.specs.declared.Subobject.{Subobject}
use Rattle.cxx_subobject.specs.Subobjects.{class_of}
use Rattle.cxx_subobject.specs.Preorder.{preorder}
use Rattle.path_plan.specs.Places.{ObjectPart, element}
use Rattle.path_plan.specs.declared.form.Form.TheVariants.{InFull}
use Rattle.path_plan.specs.Plans.{upto}
use Rattle.path_numbers.specs.Sizes.{sizes_of, total, member_offset}
use Rattle.path_numbers.specs.Nodes.{Node}
use Rattle.path_numbers.specs.Heap.{IsAt}
use Rattle.path_model.specs.Values.{Leaf, Objects, inner_part}
use Rattle.path_model.specs.Places.{typed_leaves, member_leaves, own_leaves, leaves_of}
use Rattle.path_heap.specs.declared.heap.Heap.{Heap}
use Rattle.path_heap.specs.Points.{Points, PointsLeaf}
use Rattle.path_heap.specs.Stands.{HeapStands, HasBegun}

-- the items behind the old ones go along with these
abbrev pub Grows : {A B : Type 0} → (A → B → Type 0) → List A → List A → List B → Type 0
Grows {A} {B} R old new more = (before : List B) → AllZip R old before → AllZip R new (before ++ more)

-- the leaves of the class that a part's subobject has, from its own members
abbrev pub base_leaves : Classes → ObjectPart → Subobject → List Leaf
base_leaves h p i = own_leaves h (leaves_of h) (class_of i) (inner_part p i)

-- the leaves of an element of a member of class d
abbrev pub element_leaves : Classes → ObjectPart → ℕ → ClassId → ℕ → List Leaf
element_leaves h p m d i = leaves_of h d (element p m i d)

-- those of the member m of class c
abbrev pub leaves_in : Classes → ClassId → ObjectPart → ℕ → List Leaf
leaves_in h c p m = member_leaves (leaves_of h) p m (slice_get (members_of h c) m)

-- a part of class c with the number k, over objects whose numbers have 64 bits
pub record IsNumberedPart (h : Classes) (classes : List ClassId) (c : ClassId) (k : ℕ) (y : Node) : Type 0 where
  pub few : total (sizes_of h InFull) classes ≤ 2 ^ 64
  pub at : IsAt h (sizes_of h) classes y
  pub class : y.class ≡ c
  pub number : y.number ≡ k

-- those of some subobjects of a complete object
pub record ListsBases (h : Classes) (c : ClassId) (k : ℕ) (bases : List Subobject) (old new : List ℕ) : Type 0 where
  pub lists : (classes : List ClassId) (y : Node) → IsNumberedPart h classes c k y → y.form ≡ InFull → Grows (PointsLeaf h classes) old new (flat_map (base_leaves h y.part) bases)

-- those of the first n members
pub record ListsMembers (h : Classes) (c : ClassId) (k n : ℕ) (old new : List ℕ) : Type 0 where
  pub lists : (classes : List ClassId) (y : Node) → IsNumberedPart h classes c k y → Grows (PointsLeaf h classes) old new (flat_map (leaves_in h c y.part) (upto n))

-- the member m of a part of class c, whose element 0 has the number k
pub record IsMemberAt (h : Classes) (classes : List ClassId) (c : ClassId) (k m : ℕ) (member : Member ClassId) (y : Node) : Type 0 where
  pub few : total (sizes_of h InFull) classes ≤ 2 ^ 64
  pub at : IsAt h (sizes_of h) classes y
  pub class : y.class ≡ c
  pub listed : slice_get (members_of h c) m ≡ Some member
  pub number : k ≡ (y.number + member_offset h (sizes_of h) c m) % 2 ^ 64

-- those of a member
pub record ListsMember (h : Classes) (c : ClassId) (member : Member ClassId) (k : ℕ) (old new : List ℕ) : Type 0 where
  pub lists : (classes : List ClassId) (y : Node) (m : ℕ) → IsMemberAt h classes c k m member y → Grows (PointsLeaf h classes) old new (typed_leaves (leaves_of h) y.part m (upto (elements_of member.count)) member.ty)

-- those of the first n elements of a member of class d
pub record ListsElements (h : Classes) (d : ClassId) (k count n : ℕ) (old new : List ℕ) : Type 0 where
  pub lists : (classes : List ClassId) (y : Node) (c : ClassId) (m : ℕ) (member : Member ClassId) → IsMemberAt h classes c k m member y → member.ty ≡ Object d → count ≡ elements_of member.count → Grows (PointsLeaf h classes) old new (flat_map (element_leaves h y.part m d) (upto n))

-- those of a complete object
abbrev pub ListsWhole : Classes → ClassId → ℕ → List ℕ → List ℕ → Type 0
ListsWhole h c k old new = ListsBases h c k (preorder h c) old new

-- those of all members that the class declares
abbrev pub ListsOwn : Classes → ClassId → ℕ → List ℕ → List ℕ → Type 0
ListsOwn h c k old new = ListsMembers h c k (length (members_of h c)) old new

-- those of some subobjects of a part that has begun
pub record ListsPart (h : Classes) (heap : Heap) (n : ℕ) (c : ClassId) (bases : List Subobject) (leaves : List ℕ) : Type 0 where
  pub lists : (s : Objects) (p : ObjectPart) → HeapStands h heap s → Points h s.classes n p → HasBegun s p → class_of p.at ≡ Some c → AllZip (PointsLeaf h s.classes) leaves (flat_map (base_leaves h p) bases)
