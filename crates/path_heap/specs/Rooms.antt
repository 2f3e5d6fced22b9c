-- How many heap objects there may be, so that all their parts and leaves have numbers.
use Rattle.std.specs.Prelude.{ℕ, ◌*◌, ◌≤◌, List, length}
use Rattle.cxx_hierarchy.specs.declared.records.ClassId.{ClassId}
use Rattle.cxx_hierarchy.specs.Classes.{Classes}
use Rattle.cxx_subobject.specs.Parts.{most_parts}
use Rattle.path_columns.specs.Columns.{Column}
use Rattle.path_plan.specs.declared.form.Form.TheVariants.{InFull}
use Rattle.path_numbers.specs.declared.numbers.ClassNumbers.{ClassNumbers}
use Rattle.path_numbers.specs.Sizes.{sizes_of}
use Rattle.path_numbers.specs.Numbers.{AreClassNumbers}
use Rattle.path_heap.specs.declared.state.Value.{Value}
use Rattle.path_heap.specs.PartLists.{PartLists}
use Rattle.path_heap.specs.declared.state.ObjectRow.{ObjectRow}

-- the heap objects of a run: 2 ^ 22, more than it has steps
abbrev pub most_objects : ℕ
most_objects = 4194304

-- the table is that of a hierarchy, in which an object of the class has no more parts than the limit on them
pub record HasFewParts (numbers : List ClassNumbers) (c : ClassId) : Type 0 where
  pub classes : Classes
  pub are_numbers : AreClassNumbers classes numbers
  pub few : sizes_of classes InFull c ≤ most_parts

-- no object takes more numbers than that
pub record FitInColumns (objects : List ObjectRow) (parts : PartLists) (leaves : Column Value) : Type 0 where
  pub cells_fit : length parts.cells ≤ length objects * most_parts
  pub leaves_fit : length leaves.items ≤ length objects * most_parts
  pub tops_fit : length parts.tops ≤ length objects * most_parts
  pub around_fit : length parts.around ≤ length objects * most_parts
