-- What the code finds out of the returns of a function, by flags.
use Rattle.std.specs.Prelude.{◌≡◌, ◌↔◌, ◌||◌, true, false}
use Rattle.cxx_hierarchy.specs.declared.records.ClassId.{ClassId}
use Rattle.cxx_hierarchy.specs.declared.records.ReturnType.{ReturnType}
use Rattle.cxx_hierarchy.specs.declared.stop.Rule.{Rule}
use Rattle.cxx_hierarchy.specs.declared.stop.Rule.TheVariants.{ReturnMismatch, IncompleteClass, AmbiguousCovariant}
use Rattle.cxx_hierarchy.specs.Classes.{Classes}
use Rattle.cxx_overrider.specs.declared.FunctionId.{FunctionId}
use Rattle.cxx_overrider.specs.declared.covariance.ReturnFaults.{ReturnFaults}
use Rattle.cxx_overrider.specs.Covariance.{HasOverridden, IsMismatch, IsIncompleteReturn, IsAmbiguousReturn, HasMismatch, HasIncompleteReturn, HasAmbiguousReturn}

-- no return of an overridden function refuses f
pub record HasFineReturn (h : Classes) (f : FunctionId) : Type 0 where
  pub no_mismatch : HasMismatch h f → ⊥
  pub complete : HasIncompleteReturn h f → ⊥
  pub unambiguous : HasAmbiguousReturn h f → ⊥

-- the rule that refuses f: a mismatch with any overridden function comes before a return class that is not
-- complete, and this before an ambiguous base
pub data IsReturnFault (h : Classes) (f : FunctionId) : Rule → Type 0 where
  mismatch : HasMismatch h f → IsReturnFault h f ReturnMismatch
  incomplete : (HasMismatch h f → ⊥) → HasIncompleteReturn h f → IsReturnFault h f IncompleteClass
  ambiguous : (HasMismatch h f → ⊥) → (HasIncompleteReturn h f → ⊥) → HasAmbiguousReturn h f → IsReturnFault h f AmbiguousCovariant

abbrev pub no_faults : ReturnFaults
no_faults = record { mismatch = false; incomplete = false; ambiguous = false }

abbrev pub merged_faults : ReturnFaults → ReturnFaults → ReturnFaults
merged_faults a b = record { mismatch = a.mismatch || b.mismatch; incomplete = a.incomplete || b.incomplete; ambiguous = a.ambiguous || b.ambiguous }

-- the flags say how two returns fail to fit, in a class c
pub record AreFaultsBetween (h : Classes) (c : ClassId) (t u : ReturnType ClassId) (faults : ReturnFaults) : Type 0 where
  pub mismatch : (faults.mismatch ≡ true) ↔ IsMismatch h t u
  pub incomplete : (faults.incomplete ≡ true) ↔ IsIncompleteReturn h c t u
  pub ambiguous : (faults.ambiguous ≡ true) ↔ IsAmbiguousReturn h t u

-- f overrides a function of such a class, and the returns are as P says
pub record HasOverriddenIn (h : Classes) (f : FunctionId) (Among : ClassId → Type 0) (P : ReturnType ClassId → ReturnType ClassId → Type 0) : Type 0 where
  pub has : HasOverridden h f P
  pub among : Among has.overridden.class

-- the flags say how the return of f fails to fit those of the functions of such classes that it overrides
pub record AreFaults (h : Classes) (f : FunctionId) (Among : ClassId → Type 0) (faults : ReturnFaults) : Type 0 where
  pub mismatch : (faults.mismatch ≡ true) ↔ HasOverriddenIn h f Among (IsMismatch h)
  pub incomplete : (faults.incomplete ≡ true) ↔ HasOverriddenIn h f Among (IsIncompleteReturn h f.class)
  pub ambiguous : (faults.ambiguous ≡ true) ↔ HasOverriddenIn h f Among (IsAmbiguousReturn h)
