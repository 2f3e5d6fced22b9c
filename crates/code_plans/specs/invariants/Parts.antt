-- Where the items of a plan may stand: each is a part of its class.
use Rattle.std.specs.Prelude.{Bool, true, false}
use Rattle.cxx_hierarchy.specs.declared.records.ClassId.{ClassId}
use Rattle.cxx_hierarchy.specs.declared.records.FieldType.TheVariants.{Object}
use Rattle.cxx_hierarchy.specs.Classes.{Classes}
use Rattle.cxx_hierarchy.specs.VirtualBases.{IsDirectBase, HasVirtualBase}
use Rattle.cxx_subobject.specs.Locations.{IsElement}
use Rattle.code_blocks.specs.declared.items.Item.{Item as ItemCode}
use Rattle.code_blocks.specs.declared.items.Item.TheVariants.{Does as DoesCode, Shares as SharesCode, Inherits as InheritsCode, Holds as HoldsCode}
use Rattle.code_blocks.specs.Items.{first_index}

-- the item is an own event
abbrev pub is_event_code : ItemCode → Bool
is_event_code (DoesCode k) = true
is_event_code (SharesCode v) = false
is_event_code (InheritsCode b) = false
is_event_code (HoldsCode way m d n) = false

-- a part is a virtual base, a direct base that is not virtual, or a class member of class c, whose first element is there
abbrev pub IsItemOfClass : Classes → ClassId → ItemCode → Type 0
IsItemOfClass h c (DoesCode k) = Unit {0}
IsItemOfClass h c (SharesCode v) = HasVirtualBase h c v
IsItemOfClass h c (InheritsCode b) = IsDirectBase h c false b
IsItemOfClass h c (HoldsCode way m d n) = IsElement h c m (first_index way n) (Object d)
