-- The return types of overriding functions (ISO C++03 10.3 p5).
use Rattle.std.specs.Prelude.{◌≡◌, ◌≢◌, ◌<◌, ◌≤◌, ◌⊎◌, Some}
use Rattle.cxx_hierarchy.specs.declared.records.ClassId.{ClassId}
use Rattle.cxx_hierarchy.specs.declared.records.ValueType.TheVariants.{Pointer}
use Rattle.cxx_hierarchy.specs.declared.records.ReturnType.{ReturnType}
use Rattle.cxx_hierarchy.specs.declared.records.ReturnType.TheVariants.{Value}
use Rattle.cxx_hierarchy.specs.Classes.{Classes}
use Rattle.cxx_subobject.specs.declared.Subobject.{Subobject}
use Rattle.cxx_subobject.specs.Subobjects.{IsSubobject, class_of}
use Rattle.cxx_overrider.specs.declared.FunctionId.{FunctionId}
use Rattle.cxx_overrider.specs.Functions.{Signature, signature_of, return_of}
use Rattle.cxx_overrider.specs.Overriding.{HasPart, IsVirtual}

-- f overrides g, a virtual function of a proper base of its class, direct or not
pub record Overrides (h : Classes) (f g : FunctionId) : Type 0 where
  pub signature : Signature
  pub of_f : signature_of h f ≡ Some signature
  pub of_g : signature_of h g ≡ Some signature
  pub base : HasPart h f.class g.class
  pub proper : g.class ≢ f.class
  pub is_virtual : IsVirtual h g

abbrev pub pointer_to : ClassId → ReturnType ClassId
pointer_to x = Value (Pointer x)

-- one returns a pointer to a class, the other one to a base of it
pub record IsCovariant (h : Classes) (t u : ReturnType ClassId) (x y : ClassId) : Type 0 where
  pub derived : t ≡ pointer_to x
  pub base : u ≡ pointer_to y
  pub differ : x ≢ y
  pub is_base : HasPart h x y

-- the return t of an overriding function and the return u of the overridden one are two types, and not covariant
pub record IsMismatch (h : Classes) (t u : ReturnType ClassId) : Type 0 where
  pub differ : t ≢ u
  pub unrelated : (x y : ClassId) → IsCovariant h t u x y → ⊥

-- the class of a covariant return is not complete in c: it is neither defined before c nor c itself
pub record IsIncompleteReturn (h : Classes) (c : ClassId) (t u : ReturnType ClassId) : Type 0 where
  pub x : ClassId
  pub y : ClassId
  pub covariant : IsCovariant h t u x y
  pub late : c.0 < x.0

-- x has two subobjects of the class y
pub record IsAmbiguousBase (h : Classes) (x y : ClassId) : Type 0 where
  pub one : Subobject
  pub other : Subobject
  pub one_valid : IsSubobject h x one
  pub other_valid : IsSubobject h x other
  pub one_class : class_of one ≡ Some y
  pub other_class : class_of other ≡ Some y
  pub differ : one ≢ other

-- the class of an overridden return is an ambiguous base of the covariant one's
pub record IsAmbiguousReturn (h : Classes) (t u : ReturnType ClassId) : Type 0 where
  pub x : ClassId
  pub y : ClassId
  pub covariant : IsCovariant h t u x y
  pub ambiguous : IsAmbiguousBase h x y

-- f overrides a function, and what the two return is as P says
pub record HasOverridden (h : Classes) (f : FunctionId) (P : ReturnType ClassId → ReturnType ClassId → Type 0) : Type 0 where
  pub overridden : FunctionId
  pub overrides : Overrides h f overridden
  pub t : ReturnType ClassId
  pub u : ReturnType ClassId
  pub returns : return_of h f ≡ Some t
  pub returned : return_of h overridden ≡ Some u
  pub is : P t u

-- the three ways in which the return of f does not fit
abbrev pub HasMismatch : Classes → FunctionId → Type 0
HasMismatch h f = HasOverridden h f (IsMismatch h)

abbrev pub HasIncompleteReturn : Classes → FunctionId → Type 0
HasIncompleteReturn h f = HasOverridden h f (IsIncompleteReturn h f.class)

abbrev pub HasAmbiguousReturn : Classes → FunctionId → Type 0
HasAmbiguousReturn h f = HasOverridden h f (IsAmbiguousReturn h)

-- s is the one subobject of x that is of class y
pub record IsOnlyBase (h : Classes) (x y : ClassId) (s : Subobject) : Type 0 where
  pub valid : IsSubobject h x s
  pub class : class_of s ≡ Some y
  pub only : (t : Subobject) → IsSubobject h x t → class_of t ≡ Some y → t ≡ s

-- the returns are covariant, the class of t is complete in c, and it has one subobject of the class of u
pub record PointsToDerived (h : Classes) (c : ClassId) (t u : ReturnType ClassId) : Type 0 where
  pub x : ClassId
  pub y : ClassId
  pub covariant : IsCovariant h t u x y
  pub complete : x.0 ≤ c.0
  pub base : Subobject
  pub only : IsOnlyBase h x y base

-- the return t of an overriding function in class c fits the return u of the overridden one (p5)
abbrev pub FitsReturn : Classes → ClassId → (t u : ReturnType ClassId) → Type 0
FitsReturn h c t u = (t ≡ u) ⊎ PointsToDerived h c t u
