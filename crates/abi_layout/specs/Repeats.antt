-- Lists in which some class subobject of one class lies twice at one place.
use Rattle.std.specs.Prelude.{◌≡◌, ℕ, ◌<◌, Some, List, slice_get}
use Rattle.abi_emptybase.specs.declared.Part.{Part}
use Rattle.abi_layout.specs.declared.component.Component.{Component}

-- some part stands twice in the list
pub record HasRepeat (parts : List Part) : Type 0 where
  pub first : ℕ
  pub second : ℕ
  pub part : Part
  pub ordered : first < second
  pub at_first : slice_get parts first ≡ Some part
  pub at_second : slice_get parts second ≡ Some part

-- some component brings one pair of class and place twice
pub record SomeRepeats (components : List Component) : Type 0 where
  pub number : ℕ
  pub component : Component
  pub there : slice_get components number ≡ Some component
  pub repeated : HasRepeat component.parts
