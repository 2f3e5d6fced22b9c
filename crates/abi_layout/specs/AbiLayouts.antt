-- The layouts that the rules of the ABI give, as layouts that code over any layout takes.
use Rattle.std.specs.Prelude.{◌≡◌, ℕ, Some, List, length, slice_get}
use Rattle.cxx_hierarchy.specs.Classes.{Classes}
use Rattle.abi_sound.specs.declared.class_layout.ClassLayout.{ClassLayout}
use Rattle.abi_sound.specs.Sound.{IsSoundLayout}
use Rattle.abi_layout.specs.Limits.{IsAlignment}
use Rattle.abi_layout.specs.Refusals.{IsWellLaid}

-- a class, whole and as a base, lies at multiples of 1, 2, 4 or 8 bytes
pub record IsAlignedRow (row : ClassLayout) : Type 0 where
  pub align : IsAlignment row.align
  pub nvalign : IsAlignment row.nvalign

-- the rows are the layout of all classes by the rules, none of which is refused; so it is sound
pub record IsAbiLayout (h : Classes) (rows : List ClassLayout) : Type 0 where
  pub laid : IsWellLaid h (length h) rows
  pub sound : IsSoundLayout h rows
  pub aligned : (number : ℕ) (row : ClassLayout) → slice_get rows number ≡ Some row → IsAlignedRow row
