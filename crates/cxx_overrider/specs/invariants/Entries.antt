-- What overrides the functions of a virtual base.
use Rattle.std.specs.Prelude.{◌≡◌, Option, Some, None}
use Rattle.cxx_hierarchy.specs.declared.records.ClassId.{ClassId}
use Rattle.cxx_hierarchy.specs.Classes.{Classes}
use Rattle.cxx_hierarchy.specs.VirtualBases.{HasVirtualBase}
use Rattle.cxx_subobject.specs.declared.Subobject.{Subobject}
use Rattle.cxx_subobject.specs.Subobjects.{IsSubobject, class_of}
use Rattle.cxx_subobject.specs.Inside.{IsInside}
use Rattle.cxx_overrider.specs.declared.Overrider.{Overrider}
use Rattle.cxx_overrider.specs.declared.entries.Entry.{Entry}
use Rattle.cxx_overrider.specs.Functions.{Signature, signature_of}
use Rattle.cxx_overrider.specs.invariants.Places.{place_of_subobject}

-- a subobject of c, of a class that has the virtual base v and declares a function of the signature
pub record Declares (h : Classes) (c v : ClassId) (signature : Signature) (o : Overrider) : Type 0 where
  pub valid : IsSubobject h c o.at
  pub class : class_of o.at ≡ Some o.function.class
  pub has : HasVirtualBase h o.function.class v
  pub same : signature_of h o.function ≡ Some signature

-- one of them that contains all of them
pub record IsGreatest (h : Classes) (c v : ClassId) (signature : Signature) (o : Overrider) : Type 0 where
  pub declares : Declares h c v signature o
  pub all : (p : Overrider) → Declares h c v signature p → IsInside h o.at p.at

-- the entry names the function of the greatest one, and where it lies
pub record Tells (h : Classes) (c v : ClassId) (signature : Signature) (e : Entry) : Type 0 where
  pub subobject : Subobject
  pub greatest : IsGreatest h c v signature (record { at = subobject; function = e.function })
  pub place : place_of_subobject subobject ≡ e.place

-- no entry: none declares one
abbrev pub TellsOf : Classes → (c v : ClassId) → Signature → Option Entry → Type 0
TellsOf h c v signature None = (p : Overrider) → Declares h c v signature p → ⊥
TellsOf h c v signature (Some e) = Tells h c v signature e
