-- Numbers over all objects of a run: each object's numbers stand behind those of the objects before it.
use Rattle.std.specs.Prelude.{◌≡◌, ℕ, Some, List, slice_get}
use Rattle.cxx_hierarchy.specs.declared.records.ClassId.{ClassId}
use Rattle.cxx_hierarchy.specs.Classes.{Classes}
use Rattle.path_plan.specs.declared.form.Form.TheVariants.{InFull}
use Rattle.path_plan.specs.Whole.{whole_part}
use Rattle.path_numbers.specs.Sizes.{Sizes, before}
use Rattle.path_numbers.specs.Nodes.{Node, node, Under}

abbrev pub start_of : Sizes → List ClassId → ℕ → ℕ
start_of size classes k = before (size InFull) k classes

abbrev pub root_at : Sizes → List ClassId → ℕ → ClassId → Node
root_at size classes k c = node InFull c (whole_part k c) (start_of size classes k)

-- the node is a part of one of the objects
pub record IsAt (h : Classes) (size : Sizes) (classes : List ClassId) (y : Node) : Type 0 where
  pub object : ℕ
  pub class : ClassId
  pub listed : slice_get classes object ≡ Some class
  pub under : Under h size y (root_at size classes object class)
