-- The list of subobjects by which the virtual bases of a class are known.
use Rattle.std.specs.Prelude.{◌≡◌, List, []}
use Rattle.cxx_hierarchy.specs.declared.records.ClassId.{ClassId}
use Rattle.cxx_hierarchy.specs.Classes.{Classes}
use Rattle.cxx_hierarchy.specs.VirtualBases.{HasVirtualBase}
use Rattle.cxx_subobject.specs.declared.Subobject.{Subobject}
use Rattle.cxx_subobject.specs.Preorder.{preorder}

-- the subobjects of c in preorder, which may be left out where c has no virtual base
pub data ListsVirtual (h : Classes) (c : ClassId) (list : List Subobject) : Type 0 where
  has_all : list ≡ preorder h c → ListsVirtual h c list
  left_out : ((v : ClassId) → HasVirtualBase h c v → ⊥) → list ≡ [] → ListsVirtual h c list
