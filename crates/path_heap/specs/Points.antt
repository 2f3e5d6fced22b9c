-- Which part, leaf or complete object a number is, over all objects of a run.
use Rattle.std.specs.Prelude.{◌≡◌, ℕ, Option, Some, None, List}
use Rattle.cxx_hierarchy.specs.declared.records.ClassId.{ClassId}
use Rattle.cxx_hierarchy.specs.Classes.{Classes}
use Rattle.cxx_subobject.specs.declared.Subobject.{Subobject}
use Rattle.cxx_subobject.specs.Subobjects.{IsSubobject}
use Rattle.path_plan.specs.Places.{ObjectPart, part}
use Rattle.path_plan.specs.declared.form.Form.TheVariants.{InFull}
use Rattle.path_numbers.specs.Sizes.{sizes_of}
use Rattle.path_numbers.specs.Nodes.{Node, LeafAt}
use Rattle.path_numbers.specs.Heap.{IsAt}
use Rattle.path_model.specs.Values.{Leaf}
use Rattle.path_heap.specs.declared.state.NumberedPart.{NumberedPart}

-- n is the number of the part p
pub record Points (h : Classes) (classes : List ClassId) (n : ℕ) (p : ObjectPart) : Type 0 where
  pub node : Node
  pub at : IsAt h (sizes_of h) classes node
  pub is_part : node.part ≡ p
  pub is_number : node.number ≡ n

-- n is the number of the leaf l
pub record PointsLeaf (h : Classes) (classes : List ClassId) (n : ℕ) (l : Leaf) : Type 0 where
  pub node : Node
  pub at : IsAt h (sizes_of h) classes node
  pub is_part : node.part ≡ l.part
  pub leaf : LeafAt h (sizes_of h) node l.member l.index n

-- n is the number of the complete object that p belongs to
pub record PointsWhole (h : Classes) (classes : List ClassId) (n : ℕ) (p : ObjectPart) : Type 0 where
  pub node : Node
  pub at : IsAt h (sizes_of h) classes node
  pub full : node.form ≡ InFull
  pub object : node.part.object ≡ p.object
  pub owner : node.part.owner ≡ p.owner
  pub is_number : node.number ≡ n

-- a number that may be there is that of the subobject, of the complete object that p belongs to, that may be there
abbrev pub PointsView : Classes → List ClassId → ObjectPart → Option ℕ → Option Subobject → Type 0
PointsView h classes p None None = Unit {0}
PointsView h classes p None (Some x) = ⊥
PointsView h classes p (Some n) None = ⊥
PointsView h classes p (Some n) (Some x) = Points h classes n (part p.object p.owner x)

-- whole and owner are the number and the class of the complete object that the part y belongs to
pub record HasOwner (h : Classes) (classes : List ClassId) (y : Node) (whole : ℕ) (owner : ClassId) : Type 0 where
  pub node : Node
  pub at : IsAt h (sizes_of h) classes node
  pub full : node.form ≡ InFull
  pub same_object : node.part.object ≡ y.part.object
  pub same_owner : node.part.owner ≡ y.part.owner
  pub is_number : node.number ≡ whole
  pub is_class : node.class ≡ owner
  pub valid : IsSubobject h node.class y.part.at
  pub itself : y.form ≡ InFull → node ≡ y

-- a part as the code names it is the part p
pub record StandsForPart (h : Classes) (classes : List ClassId) (code : NumberedPart) (p : ObjectPart) : Type 0 where
  pub node : Node
  pub at : IsAt h (sizes_of h) classes node
  pub is_part : node.part ≡ p
  pub is_number : node.number ≡ code.number
  pub is_class : node.class ≡ code.class
  pub owned : HasOwner h classes node code.whole code.owner
