-- Virtual functions, final overriders and abstract classes (ISO C++03 10.3, 10.4; Rossie and Friedman).
use Rattle.std.specs.Prelude.{◌≡◌, ◌≢◌, true, Some}
use Rattle.cxx_hierarchy.specs.declared.records.ClassId.{ClassId}
use Rattle.cxx_hierarchy.specs.Classes.{Classes}
use Rattle.cxx_subobject.specs.declared.Subobject.{Subobject}
use Rattle.cxx_subobject.specs.Subobjects.{IsSubobject, class_of}
use Rattle.cxx_subobject.specs.Inside.{IsInside}
use Rattle.cxx_overrider.specs.declared.FunctionId.{FunctionId}
use Rattle.cxx_overrider.specs.declared.Overrider.{Overrider}
use Rattle.cxx_overrider.specs.Functions.{Signature, signature_of, says_virtual, is_pure}

-- d is c, or a base of c, direct or not
pub record HasPart (h : Classes) (c d : ClassId) : Type 0 where
  pub part : Subobject
  pub valid : IsSubobject h c part
  pub class : class_of part ≡ Some d

-- c or a base of it declares a function of this signature with the word `virtual`
pub record HasVirtual (h : Classes) (c : ClassId) (signature : Signature) : Type 0 where
  pub source : FunctionId
  pub same : signature_of h source ≡ Some signature
  pub says : says_virtual h source ≡ true
  pub base : HasPart h c source.class

-- f is virtual: declared so, or in its class a function of the same signature as a virtual one of a base
pub record IsVirtual (h : Classes) (f : FunctionId) : Type 0 where
  pub signature : Signature
  pub is : signature_of h f ≡ Some signature
  pub source : HasVirtual h f.class signature

-- t is a subobject of c that contains s, and g, of t's class, has the signature
pub record IsCandidate (h : Classes) (c : ClassId) (s : Subobject) (signature : Signature) (o : Overrider) : Type 0 where
  pub valid : IsSubobject h c o.at
  pub contains : IsInside h o.at s
  pub class : class_of o.at ≡ Some o.function.class
  pub same : signature_of h o.function ≡ Some signature

-- a candidate whose subobject no other candidate's subobject contains
pub record IsLeft (h : Classes) (c : ClassId) (s : Subobject) (signature : Signature) (o : Overrider) : Type 0 where
  pub candidate : IsCandidate h c s signature o
  pub uncontained : (p : Overrider) → IsCandidate h c s signature p → IsInside h p.at o.at → p ≡ o

-- f is a virtual function of the class of the subobject s of c
pub record IsVirtualIn (h : Classes) (c : ClassId) (s : Subobject) (f : FunctionId) : Type 0 where
  pub valid : IsSubobject h c s
  pub class : class_of s ≡ Some f.class
  pub is_virtual : IsVirtual h f

-- the final overrider of f in s: the one candidate that is left
pub record IsFinalOverrider (h : Classes) (c : ClassId) (s : Subobject) (f : FunctionId) (o : Overrider) : Type 0 where
  pub signature : Signature
  pub is : signature_of h f ≡ Some signature
  pub left : IsLeft h c s signature o
  pub only : (p : Overrider) → IsLeft h c s signature p → p ≡ o

-- a candidate that lies in the subobject x
pub record IsCandidateIn (h : Classes) (c : ClassId) (x s : Subobject) (signature : Signature) (o : Overrider) : Type 0 where
  pub candidate : IsCandidate h c s signature o
  pub inside : IsInside h x o.at

-- the final overrider of f in s by a table for the subobject x of c, which is used while x is under construction (ISO
-- C++03 12.7 p3): of the candidates in x the one that contains all others
pub record IsFinalIn (h : Classes) (c : ClassId) (x s : Subobject) (f : FunctionId) (o : Overrider) : Type 0 where
  pub signature : Signature
  pub is : signature_of h f ≡ Some signature
  pub candidate : IsCandidateIn h c x s signature o
  pub all : (p : Overrider) → IsCandidateIn h c x s signature p → IsInside h o.at p.at

-- a virtual function of some subobject of c has two candidates left
pub record HasTwoFinalOverriders (h : Classes) (c : ClassId) : Type 0 where
  pub subobject : Subobject
  pub function : FunctionId
  pub of_class : IsVirtualIn h c subobject function
  pub signature : Signature
  pub is : signature_of h function ≡ Some signature
  pub one : Overrider
  pub other : Overrider
  pub one_left : IsLeft h c subobject signature one
  pub other_left : IsLeft h c subobject signature other
  pub differ : one ≢ other

-- the final overrider of some virtual function of c is pure
pub record IsAbstract (h : Classes) (c : ClassId) : Type 0 where
  pub subobject : Subobject
  pub function : FunctionId
  pub of_class : IsVirtualIn h c subobject function
  pub overrider : Overrider
  pub final : IsFinalOverrider h c subobject function overrider
  pub pure : is_pure h overrider.function ≡ true
