-- A class has a virtual base where a direct base is one, or has one.
use Rattle.std.specs.Prelude.{◌≡◌, ◌⊎◌, Bool, true, false, List, Contains, slice_index_or}
use Rattle.cxx_hierarchy.specs.declared.records.ClassId.{ClassId}
use Rattle.cxx_hierarchy.specs.declared.records.Base.{Base}
use Rattle.cxx_hierarchy.specs.Classes.{Classes, bases_of}

-- a direct base is virtual, or flagged
pub record GetsVirtualBase (h : Classes) (flags : List Bool) (c : ClassId) : Type 0 where
  pub base : Base ClassId
  pub listed : Contains (bases_of h c) base
  pub shares : (base.is_virtual ≡ true) ⊎ (slice_index_or flags base.class.0 false ≡ true)
