-- The leaves that a call puts behind others, as a dump tells them.
use Rattle.std.specs.Prelude.{◌≡◌, ℕ, ◌+◌, List, length, map}
use Rattle.std.specs.List.{flat_map}
use Rattle.cxx_hierarchy.specs.declared.records.ClassId.{ClassId}
use Rattle.cxx_hierarchy.specs.declared.records.Member.{Member}
use Rattle.cxx_hierarchy.specs.declared.records.ValueType.{ValueType}
use Rattle.cxx_hierarchy.specs.declared.records.FieldType.TheVariants.{Value, Object}
use Rattle.cxx_hierarchy.specs.Classes.{Classes, members_of}
use Rattle.cxx_hierarchy.specs.Declarations.{elements_of}
use Rattle.cxx_subobject.specs.declared.Subobject.{Subobject}
use Rattle.cxx_subobject.specs.declared.locations.Hop.{Hop}
use Rattle.cxx_subobject.specs.Locations.{ObjectPart, hops_of_steps}
use Rattle.cxx_subobject.specs.Preorder.{preorder}
use Rattle.path_plan.specs.declared.form.Form.TheVariants.{InFull}
use Rattle.path_plan.specs.Plans.{upto}
use Rattle.path_numbers.specs.Nodes.{Node}
use Rattle.path_model.specs.declared.outs.DumpLeaf.{DumpLeaf}
use Rattle.path_model.specs.Values.{Leaf, Objects}
use Rattle.path_model.specs.Places.{leaf, typed_leaves, leaves_of}
use Rattle.path_model.specs.Outs.{object_class, dump_leaf}
use Rattle.path_heap.specs.declared.heap.Heap.{Heap}
use Rattle.path_heap.specs.Points.{PointsLeaf}
use Rattle.path_heap.specs.Stands.{HeapStands}
use Rattle.path_places.specs.invariants.Leaves.{Grows, base_leaves, element_leaves, leaves_in, IsNumberedPart, IsMemberAt}

-- what a dump looks at, and the number from 1 and the class of the heap object
pub record DumpedObject : Type 0 where
  pub classes : Classes
  pub heap : Heap
  pub object : ℕ
  pub class : ClassId

abbrev pub dumped_object : Classes → Heap → ℕ → ClassId → DumpedObject
dumped_object h heap object class = record { classes = h; heap = heap; object = object; class = class }

-- the heap stands for these objects, and the part is one of the heap object
pub record IsDumpSite (g : DumpedObject) (s : Objects) (p : ObjectPart) : Type 0 where
  pub stands : HeapStands g.classes g.heap s
  pub object : g.object ≡ p.object + 1
  pub class : g.class ≡ object_class s p.object

-- the hops lead to the complete object of the part, which is this subobject of it
pub record LeadsToPart (hops : List Hop) (base : Subobject) (p : ObjectPart) : Type 0 where
  pub hops_are : hops ≡ hops_of_steps p.owner
  pub base_is : base ≡ p.at

-- a leaf as a dump tells it
abbrev pub IsDumped : Objects → DumpLeaf → Leaf → Type 0
IsDumped s told l = told ≡ dump_leaf s l

pub record DumpsLeaf (g : DumpedObject) (hops : List Hop) (base : Subobject) (m i k : ℕ) (told : DumpLeaf) : Type 0 where
  pub tells : (s : Objects) (p : ObjectPart) → IsDumpSite g s p → LeadsToPart hops base p → PointsLeaf g.classes s.classes k (leaf p m i) → told ≡ dump_leaf s (leaf p m i)

-- the first n elements of a member that is a number or a pointer
pub record DumpsValues (g : DumpedObject) (hops : List Hop) (base : Subobject) (m k count n : ℕ) (old new : List DumpLeaf) : Type 0 where
  pub tells : (s : Objects) (y : Node) (c : ClassId) (member : Member ClassId) (t : ValueType ClassId) → IsDumpSite g s y.part → LeadsToPart hops base y.part → IsMemberAt g.classes s.classes c k m member y → member.ty ≡ Value t → count ≡ elements_of member.count
      → Grows (IsDumped s) old new (map (leaf y.part m) (upto n))

-- those of a member of class d
pub record DumpsElements (g : DumpedObject) (hops : List Hop) (base : Subobject) (m : ℕ) (d : ClassId) (k count n : ℕ) (old new : List DumpLeaf) : Type 0 where
  pub tells : (s : Objects) (y : Node) (c : ClassId) (member : Member ClassId) → IsDumpSite g s y.part → LeadsToPart hops base y.part → IsMemberAt g.classes s.classes c k m member y → member.ty ≡ Object d → count ≡ elements_of member.count
      → Grows (IsDumped s) old new (flat_map (element_leaves g.classes y.part m d) (upto n))

-- a member
pub record DumpsMember (g : DumpedObject) (hops : List Hop) (base : Subobject) (c : ClassId) (m : ℕ) (member : Member ClassId) (k : ℕ) (old new : List DumpLeaf) : Type 0 where
  pub tells : (s : Objects) (y : Node) → IsDumpSite g s y.part → LeadsToPart hops base y.part → IsMemberAt g.classes s.classes c k m member y → Grows (IsDumped s) old new (typed_leaves (leaves_of g.classes) y.part m (upto (elements_of member.count)) member.ty)

-- the first n members of class c
pub record DumpsMembers (g : DumpedObject) (hops : List Hop) (base : Subobject) (c : ClassId) (k n : ℕ) (old new : List DumpLeaf) : Type 0 where
  pub tells : (s : Objects) (y : Node) → IsDumpSite g s y.part → LeadsToPart hops base y.part → IsNumberedPart g.classes s.classes c k y → Grows (IsDumped s) old new (flat_map (leaves_in g.classes c y.part) (upto n))

-- all of them
abbrev pub DumpsOwn : DumpedObject → List Hop → Subobject → ClassId → ℕ → List DumpLeaf → List DumpLeaf → Type 0
DumpsOwn g hops base c k old new = DumpsMembers g hops base c k (length (members_of g.classes c)) old new

-- some subobjects of a complete object
pub record DumpsBases (g : DumpedObject) (hops : List Hop) (c : ClassId) (k : ℕ) (bases : List Subobject) (old new : List DumpLeaf) : Type 0 where
  pub tells : (s : Objects) (y : Node) → IsDumpSite g s y.part → hops ≡ hops_of_steps y.part.owner → IsNumberedPart g.classes s.classes c k y → y.form ≡ InFull → Grows (IsDumped s) old new (flat_map (base_leaves g.classes y.part) bases)

-- all of them
abbrev pub DumpsWhole : DumpedObject → List Hop → ClassId → ℕ → List DumpLeaf → List DumpLeaf → Type 0
DumpsWhole g hops c k old new = DumpsBases g hops c k (preorder g.classes c) old new
