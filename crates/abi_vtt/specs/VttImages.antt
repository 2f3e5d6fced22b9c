-- The words of a VTT in an image: each is the address point of a table, and sub-VTTs stand at constant distances (Itanium C++
-- ABI 2.6.2).
use Rattle.std.specs.Prelude.{◌≡◌, ℕ, ◌+◌, ◌*◌, Some, List, slice_get}
use Rattle.cxx_hierarchy.specs.declared.records.ClassId.{ClassId}
use Rattle.cxx_hierarchy.specs.Classes.{Classes}
use Rattle.cxx_subobject.specs.declared.Subobject.{Subobject}
use Rattle.cxx_subobject.specs.Subobjects.{class_of}
use Rattle.abi_sound.specs.Places.{Places}
use Rattle.abi_slots.specs.declared.code_numbers.CodeRow.{CodeRow}
use Rattle.abi_slots.specs.declared.words.Group.{Group}
use Rattle.abi_slots.specs.Images.{Image, Addresses}
use Rattle.abi_slots.specs.Seen.{PlacedTables, IsPointOf}
use Rattle.abi_vtt.specs.Vtts.{VttEntry}
use Rattle.abi_vtt.specs.Blocks.{block}

-- groups that stand in an image, with the numbers of code
pub record PlacedGroups : Type 0 where
  pub image : Image
  pub codes : List CodeRow
  pub groups : List Group
  pub addresses : Addresses

-- the tables of one of the groups, which stands at its address
abbrev pub tables_of : PlacedGroups → ℕ → Group → PlacedTables
tables_of p number group = record { image = p.image; codes = p.codes; info = p.addresses.info; tables = group.tables; at = p.addresses.group number }

-- the word at an address is the one of an item of the VTT of class c: the address point of the table that serves the item's
-- subobject, in the group of the item's view
pub record HasItem (h : Classes) (l : Places) (p : PlacedGroups) (c : ClassId) (it : VttEntry) (at : ℕ) : Type 0 where
  pub number : ℕ
  pub group : Group
  pub there : slice_get p.groups number ≡ Some group
  pub named : group.name ≡ record { complete = c; view = it.view }
  pub class : ClassId
  pub of_class : class_of it.view ≡ Some class
  pub point : ℕ
  pub at_point : p.image at ≡ Some point
  pub is_point : IsPointOf h l (record { complete = c; at_sub = it.view; class = class }) (tables_of p number group) it.served point

-- the sub-VTT of the view x, of class d, of an object of class c stands at an address
pub record HasSubVtt (h : Classes) (l : Places) (p : PlacedGroups) (c : ClassId) (x : Subobject) (d : ClassId) (at : ℕ) : Type 0 where
  pub each : (i : ℕ) (it : VttEntry) → slice_get (block h l x d) i ≡ Some it → HasItem h l p c it (at + 8 * i)
