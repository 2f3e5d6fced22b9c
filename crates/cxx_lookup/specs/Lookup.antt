-- Which declaration a member's name finds (ISO C++03 10.2; Rossie and Friedman).
use Rattle.std.specs.Prelude.{◌≡◌, ℕ, Option, Some, None, List, slice_get}
use Rattle.std.specs.Option.{option_map}
use Rattle.cxx_hierarchy.specs.declared.records.ClassId.{ClassId}
use Rattle.cxx_hierarchy.specs.declared.records.Member.{Member as MemberRecord}
use Rattle.cxx_hierarchy.specs.declared.records.Function.{Function as FunctionRecord}
use Rattle.cxx_hierarchy.specs.Classes.{Classes, members_of, functions_of}
use Rattle.cxx_subobject.specs.declared.Subobject.{Subobject}
use Rattle.cxx_subobject.specs.Subobjects.{IsSubobject, class_of}
use Rattle.cxx_subobject.specs.Inside.{IsInside}
use Rattle.cxx_lookup.specs.declared.Found.{Found}
use Rattle.cxx_lookup.specs.declared.Found.TheVariants.{Member, Function}
use Rattle.cxx_lookup.specs.declared.LookupFault.{LookupFault}
use Rattle.cxx_lookup.specs.declared.LookupFault.TheVariants.{AmbiguousName, NoSuchMember, NoMemory}

-- the subobject that has the declaration
abbrev pub place_of_found : Found → Subobject
place_of_found (Member s number) = s
place_of_found (Function s number) = s

abbrev pub name_in : Classes → Option ClassId → Found → Option (List ℕ)
name_in h None found = None
name_in h (Some c) (Member s number) = option_map (λ (m : MemberRecord ClassId). m.name) (slice_get (members_of h c) number)
name_in h (Some c) (Function s number) = option_map (λ (f : FunctionRecord ClassId). f.name) (slice_get (functions_of h c) number)

-- the name that is declared: that of the member or function of the number in the subobject's class
abbrev pub name_of : Classes → Found → Option (List ℕ)
name_of h found = name_in h (class_of (place_of_found found)) found

-- the name is declared there, in a subobject of c
pub record IsDeclared (h : Classes) (c : ClassId) (name : List ℕ) (found : Found) : Type 0 where
  pub valid : IsSubobject h c (place_of_found found)
  pub named : name_of h found ≡ Some name

-- no other declaration hides it: one hides those in subobjects that lie in its own
pub record Remains (h : Classes) (c : ClassId) (name : List ℕ) (found : Found) : Type 0 where
  pub declared : IsDeclared h c name found
  pub unhidden : (other : Found) → IsDeclared h c name other → IsInside h (place_of_found other) (place_of_found found) → other ≡ found

-- it is what the name finds: the one declaration that remains
pub record IsFound (h : Classes) (c : ClassId) (name : List ℕ) (found : Found) : Type 0 where
  pub remains : Remains h c name found
  pub only : (other : Found) → Remains h c name other → other ≡ found

-- two declarations remain
pub record TwoRemain (h : Classes) (c : ClassId) (name : List ℕ) : Type 0 where
  pub one : Found
  pub other : Found
  pub one_remains : Remains h c name one
  pub other_remains : Remains h c name other
  pub differ : one ≡ other → ⊥

-- the fault that stands in place of an answer; want of memory is free
abbrev pub IsLookupFault : Classes → ClassId → List ℕ → LookupFault → Type 0
IsLookupFault h c name AmbiguousName = TwoRemain h c name
IsLookupFault h c name NoSuchMember = (found : Found) → IsDeclared h c name found → ⊥
IsLookupFault h c name NoMemory = Unit {0}
