-- Pure functions that the non-virtual part of a class leaves without an overrider (ISO C++03 10.4).
use Rattle.std.specs.Prelude.{◌≡◌, true, false, Some, List, [], ◌∷◌}
use Rattle.cxx_hierarchy.specs.declared.records.ClassId.{ClassId}
use Rattle.cxx_hierarchy.specs.Classes.{Classes}
use Rattle.cxx_hierarchy.specs.VirtualBases.{IsDirectBase}
use Rattle.cxx_overrider.specs.declared.FunctionId.{FunctionId}
use Rattle.cxx_overrider.specs.Functions.{Signature, signature_of, is_pure}
use Rattle.cxx_overrider.specs.Overriding.{IsVirtual}

-- the class declares no function of the signature
pub record DeclaresNone (h : Classes) (c : ClassId) (signature : Signature) : Type 0 where
  pub none : (f : FunctionId) → f.class ≡ c → signature_of h f ≡ Some signature → ⊥

-- f stands first of its signature on the path of non-virtual bases from c on, and in its last class
pub data StandsFirst (h : Classes) (signature : Signature) : ClassId → List ClassId → FunctionId → Type 0 where
  here : (f : FunctionId) → signature_of h f ≡ Some signature → StandsFirst h signature f.class [] f
  below : (c b : ClassId) (path : List ClassId) (f : FunctionId) → DeclaresNone h c signature → IsDirectBase h c false b → StandsFirst h signature b path f → StandsFirst h signature c (b ∷ path) f

-- a virtual pure function stands first on some path from c on
pub record LeavesPure (h : Classes) (c : ClassId) (signature : Signature) : Type 0 where
  pub path : List ClassId
  pub function : FunctionId
  pub first : StandsFirst h signature c path function
  pub pure : is_pure h function ≡ true
  pub is_virtual : IsVirtual h function
