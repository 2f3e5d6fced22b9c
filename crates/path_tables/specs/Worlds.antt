-- When what a run looks at belongs to one hierarchy, which no condition refuses.
use Rattle.std.specs.Prelude.{◌<◌, length}
use Rattle.cxx_hierarchy.specs.declared.records.ClassId.{ClassId}
use Rattle.cxx_hierarchy.specs.Hierarchies.{IsHierarchy}
use Rattle.cxx_subobject.specs.Parts.{IsWithinLimits}
use Rattle.cxx_overrider.specs.Overriders.{AreOverriders}
use Rattle.path_numbers.specs.Numbers.{AreClassNumbers}
use Rattle.path_tables.specs.declared.world.World.{World}

-- the numbers and the overriders are those of the hierarchy, each class of which is within the limits on parts
pub record IsWorld (world : World) : Type 0 where
  pub hierarchy : IsHierarchy world.h.now
  pub limits : (c : ClassId) → c.0 < length world.h.now → IsWithinLimits world.h.now c
  pub are_numbers : AreClassNumbers world.h.now world.numbers.now
  pub are_overriders : AreOverriders world.h.now world.overriders.now
