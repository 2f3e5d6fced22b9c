-- The walk over the bases that a class names.
use Rattle.std.proofs.Common.{◌≡◌, false}
use Rattle.cxx_hierarchy.specs.declared.records.ClassId.{ClassId}
use Rattle.cxx_hierarchy.specs.declared.records.Base.{Base}

-- a base is not that one, named as not virtual
pub record IsOther (b : ClassId) (base : Base ClassId) : Type 0 where
  pub other : base.is_virtual ≡ false → base.class.0 ≡ b.0 → ⊥
