-- A virtual function that is called on a subobject in a view.
use Rattle.std.specs.Prelude.{◌≡◌, ◌<◌, Some, length}
use Rattle.cxx_hierarchy.specs.declared.records.ClassId.{ClassId}
use Rattle.cxx_hierarchy.specs.Classes.{Classes}
use Rattle.cxx_subobject.specs.declared.Subobject.{Subobject}
use Rattle.cxx_subobject.specs.Subobjects.{IsSubobject, class_of}
use Rattle.cxx_overrider.specs.declared.FunctionId.{FunctionId}
use Rattle.cxx_overrider.specs.Overriding.{IsVirtual}

-- the view x and the source y are subobjects of class c, and f is a virtual function of the class of y
pub record IsVirtualCall (h : Classes) (c : ClassId) (x y : Subobject) (f : FunctionId) : Type 0 where
  pub known : c.0 < length h
  pub view : IsSubobject h c x
  pub source : IsSubobject h c y
  pub of_class : class_of y ≡ Some f.class
  pub is_virtual : IsVirtual h f
