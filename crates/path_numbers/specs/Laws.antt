-- What the laws of the numbering speak of: a leaf, where a way arrives, and the complete object of a part.
use Rattle.std.specs.Prelude.{◌≡◌, ℕ, ◌+◌, List}
use Rattle.cxx_hierarchy.specs.declared.records.ClassId.{ClassId}
use Rattle.cxx_hierarchy.specs.Classes.{Classes}
use Rattle.cxx_subobject.specs.Subobjects.{IsSubobject}
use Rattle.path_plan.specs.Places.{ObjectPart}
use Rattle.path_plan.specs.declared.form.Form.TheVariants.{InFull}
use Rattle.path_numbers.specs.Sizes.{sizes_of}
use Rattle.path_numbers.specs.Nodes.{Node, Under, IsGood, LeafAt}
use Rattle.path_numbers.specs.Heap.{IsAt}

-- a leaf of a part of an object of the run: an element of a member that is a number or a pointer
pub record IsLeafOf (h : Classes) (classes : List ClassId) : Type 0 where
  pub node : Node
  pub member : ℕ
  pub element : ℕ
  pub number : ℕ
  pub there : IsAt h (sizes_of h) classes node
  pub leaf : LeafAt h (sizes_of h) node member element number

-- a part q of class e stands under x, n numbers on
pub record Arrives (h : Classes) (x : Node) (q : ObjectPart) (n : ℕ) (e : ClassId) : Type 0 where
  pub end : Node
  pub under : Under h (sizes_of h) end x
  pub is_part : end.part ≡ q
  pub is_number : end.number ≡ x.number + n
  pub is_class : end.class ≡ e

-- the complete object in x to which y belongs, with y a subobject of it
pub record IsOwnedBy (h : Classes) (x y : Node) : Type 0 where
  pub whole : Node
  pub under : Under h (sizes_of h) whole x
  pub full : whole.form ≡ InFull
  pub good : IsGood whole
  pub object : whole.part.object ≡ y.part.object
  pub owner : whole.part.owner ≡ y.part.owner
  pub valid : IsSubobject h whole.class y.part.at
