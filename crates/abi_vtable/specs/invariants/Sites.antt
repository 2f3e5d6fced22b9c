-- What the words of tables are found by.
use Rattle.std.specs.Prelude.{List}
use Rattle.cxx_hierarchy.specs.Classes.{Classes}
use Rattle.cxx_overrider.specs.declared.pass.Overriders.{Overriders}
use Rattle.cxx_overrider.specs.Overriders.{AreOverriders}
use Rattle.abi_sound.specs.declared.class_layout.ClassLayout.{ClassLayout}
use Rattle.abi_sound.specs.Places.{places_of}
use Rattle.abi_slots.specs.declared.slots.Slots.{Slots}
use Rattle.abi_slots.specs.Slots.{AreSlots}

-- the final overriders are those of the classes, and the slots those of the classes as they are laid out
pub record IsTableSite (h : Classes) (rows : List ClassLayout) (overriders : Overriders) (slots : Slots) : Type 0 where
  pub are_overriders : AreOverriders h overriders
  pub are_slots : AreSlots h (places_of h rows) slots
