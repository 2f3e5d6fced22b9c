-- The first base of a class, where it is not virtual: in preorder it stands next to its subobject.
use Rattle.std.specs.Prelude.{Bool, false, nat_eq, ◌&&◌, not, List, [], ◌∷◌}
use Rattle.cxx_hierarchy.specs.declared.records.Base.{Base}
use Rattle.cxx_hierarchy.specs.declared.records.ClassId.{ClassId}

-- the first of these bases is of this class and not virtual
abbrev pub begins_with_base : List (Base ClassId) → ClassId → Bool
begins_with_base [] b = false
begins_with_base (base ∷ rest) b = not base.is_virtual && nat_eq base.class.0 b.0
