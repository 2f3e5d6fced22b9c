-- Abstract classes, by the roots of their subobjects (ISO C++03 10.4).
use Rattle.std.specs.Prelude.{◌≡◌, true, Some}
use Rattle.cxx_hierarchy.specs.declared.records.ClassId.{ClassId}
use Rattle.cxx_hierarchy.specs.Classes.{Classes}
use Rattle.cxx_subobject.specs.declared.Root.{Root}
use Rattle.cxx_subobject.specs.declared.Subobject.{Subobject}
use Rattle.cxx_overrider.specs.declared.FunctionId.{FunctionId}
use Rattle.cxx_overrider.specs.declared.Overrider.{Overrider}
use Rattle.cxx_overrider.specs.Functions.{Signature, signature_of, is_pure}
use Rattle.cxx_overrider.specs.Overriding.{IsVirtualIn, IsFinalOverrider}

-- the final overrider of some virtual function of the signature, in a subobject with this root, is pure
pub record HasPureAt (h : Classes) (c : ClassId) (root : Root) (signature : Signature) : Type 0 where
  pub subobject : Subobject
  pub at_root : subobject.root ≡ root
  pub function : FunctionId
  pub same : signature_of h function ≡ Some signature
  pub of_class : IsVirtualIn h c subobject function
  pub overrider : Overrider
  pub final : IsFinalOverrider h c subobject function overrider
  pub pure : is_pure h overrider.function ≡ true
