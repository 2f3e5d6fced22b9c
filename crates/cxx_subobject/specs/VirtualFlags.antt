-- Which classes have virtual bases (ISO C++03 10.1).
use Rattle.std.specs.Prelude.{◌≡◌, ◌<◌, ◌↔◌, Bool, true, false, List, length, slice_index_or}
use Rattle.cxx_hierarchy.specs.declared.records.ClassId.{ClassId}
use Rattle.cxx_hierarchy.specs.Classes.{Classes}
use Rattle.cxx_hierarchy.specs.VirtualBases.{HasVirtualBase}

-- c has a virtual base
pub record HasVirtualBases (h : Classes) (c : ClassId) : Type 0 where
  pub base : ClassId
  pub has : HasVirtualBase h c base

-- the flags of the classes in their order, so far as there are flags
pub record TellsVirtualBases (h : Classes) (flags : List Bool) : Type 0 where
  pub each : (c : ClassId) → c.0 < length flags → ((slice_index_or flags c.0 false ≡ true) ↔ HasVirtualBases h c)
