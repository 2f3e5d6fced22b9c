-- Two worked hierarchies and the plans of their objects, in the words of ISO C++03 12.6.2 p5, 12.6 p3 and 12.4 p6.
use Rattle.std.specs.Prelude.{ℕ, zero, suc, Bool, true, false, Some, None, List, [], ◌∷◌}
use Rattle.cxx_hierarchy.specs.declared.records.ClassId.{ClassId}
use Rattle.cxx_hierarchy.specs.declared.records.Base.{Base}
use Rattle.cxx_hierarchy.specs.declared.records.Member.{Member}
use Rattle.cxx_hierarchy.specs.declared.records.FieldType.TheVariants.{Value, Object}
use Rattle.cxx_hierarchy.specs.declared.records.ValueType.TheVariants.{Number}
use Rattle.cxx_hierarchy.specs.declared.records.Scalar.TheVariants.{Int}
use Rattle.cxx_hierarchy.specs.declared.records.Destructor.TheVariants.{Implicit}
use Rattle.cxx_hierarchy.specs.Classes.{Class, Classes, class_by_number}
use Rattle.cxx_subobject.specs.declared.Root.TheVariants.{Whole}
use Rattle.cxx_subobject.specs.Subobjects.{subobject, whole_of, shared_base}
use Rattle.path_plan.specs.Places.{ObjectPart, part, element}
use Rattle.path_plan.specs.Phases.{PartEvent, Begin, Ready, Init, Body, Done, Ending, Bases, End}
use Rattle.path_plan.specs.Plans.{Bodies}

-- a public direct base
abbrev pub public_base : (is_virtual : Bool) → ℕ → Base ClassId
public_base is_virtual n = record { class = class_by_number n; is_virtual = is_virtual; is_public = true; at = 0 }

-- a class of bases and members alone
abbrev pub class_with : List (Base ClassId) → List (Member ClassId) → Class
class_with bases members = record { name = []; at = 0; bases = bases; members = members; functions = []; order = []; has_constructor = true; destructor = Implicit }

-- a member of type int
abbrev pub number_member : Member ClassId
number_member = record { name = []; ty = Value (Number Int); count = None; width = None; width_at = 0; is_public = true; at = 0 }

-- a member that is an array of count elements of a class
abbrev pub array_member : (class count : ℕ) → Member ClassId
array_member class count = record { name = []; ty = Object (class_by_number class); count = Some count; width = None; width_at = 0; is_public = true; at = 0 }

-- the number of the class whose object is made below
abbrev pub is_three : ℕ → Bool
is_three (suc (suc (suc zero))) = true
is_three n = false

-- constructors and destructors are declared in class 3 alone, and each member of a value has an initializer
abbrev pub declared_in_three : Bodies
declared_in_three = record { constructor = λ c. is_three c.0; destructor = λ c. is_three c.0; initializer = λ c m. true }

-- the heap object 7, of class 3
abbrev pub whole : ObjectPart
whole = part 7 [] (whole_of (class_by_number 3))

-- struct V {}; struct A : virtual V {}; struct B : virtual V {}; struct D : A, B { D() {} ~D() {} };
abbrev pub diamond : Classes
diamond = class_with [] [] ∷ class_with (public_base true 0 ∷ []) [] ∷ class_with (public_base true 0 ∷ []) [] ∷ class_with (public_base false 1 ∷ public_base false 2 ∷ []) [] ∷ []

-- the V of the diamond, which its A and its B share
abbrev pub diamond_v : ObjectPart
diamond_v = part 7 [] (shared_base (class_by_number 0))

-- its A
abbrev pub diamond_a : ObjectPart
diamond_a = part 7 [] (subobject Whole (class_by_number 3 ∷ class_by_number 1 ∷ []))

-- its B
abbrev pub diamond_b : ObjectPart
diamond_b = part 7 [] (subobject Whole (class_by_number 3 ∷ class_by_number 2 ∷ []))

-- V once and first, then A, then B, then the body of D
abbrev pub diamond_built : List PartEvent
diamond_built = Begin whole ∷ Begin diamond_v ∷ Ready diamond_v ∷ Done diamond_v ∷ Begin diamond_a ∷ Ready diamond_a ∷ Done diamond_a
    ∷ Begin diamond_b ∷ Ready diamond_b ∷ Done diamond_b ∷ Ready whole ∷ Body whole ∷ Done whole ∷ []

-- the body of D, then B, then A, and V last
abbrev pub diamond_ended : List PartEvent
diamond_ended = Ending whole ∷ Body whole ∷ Bases whole ∷ Ending diamond_b ∷ Bases diamond_b ∷ End diamond_b
    ∷ Ending diamond_a ∷ Bases diamond_a ∷ End diamond_a ∷ Ending diamond_v ∷ Bases diamond_v ∷ End diamond_v ∷ End whole ∷ []

-- struct V {}; struct A : virtual V {}; struct M : A, virtual V {}; struct E { int n; M m[2]; E() : n(0) {} ~E() {} };
abbrev pub holder : Classes
holder = class_with [] [] ∷ class_with (public_base true 0 ∷ []) [] ∷ class_with (public_base false 1 ∷ public_base true 0 ∷ []) [] ∷ class_with [] (number_member ∷ array_member 2 2 ∷ []) ∷ []

-- the element i of m
abbrev pub holder_m : ℕ → ObjectPart
holder_m i = element whole 1 i (class_by_number 2)

-- its V, which is no other element's
abbrev pub holder_v : ℕ → ObjectPart
holder_v i = part 7 (record { base = whole_of (class_by_number 3); member = 1; index = i } ∷ []) (shared_base (class_by_number 0))

-- its A
abbrev pub holder_a : ℕ → ObjectPart
holder_a i = part 7 (record { base = whole_of (class_by_number 3); member = 1; index = i } ∷ []) (subobject Whole (class_by_number 2 ∷ class_by_number 1 ∷ []))

-- in an element V comes before A, and what follows comes behind it
abbrev pub element_built : ℕ → List PartEvent → List PartEvent
element_built i rest = Begin (holder_m i) ∷ Begin (holder_v i) ∷ Ready (holder_v i) ∷ Done (holder_v i) ∷ Begin (holder_a i) ∷ Ready (holder_a i) ∷ Done (holder_a i)
    ∷ Ready (holder_m i) ∷ Done (holder_m i) ∷ rest

-- and goes after it
abbrev pub element_ended : ℕ → List PartEvent → List PartEvent
element_ended i rest = Ending (holder_m i) ∷ Bases (holder_m i) ∷ Ending (holder_a i) ∷ Bases (holder_a i) ∷ End (holder_a i)
    ∷ Ending (holder_v i) ∷ Bases (holder_v i) ∷ End (holder_v i) ∷ End (holder_m i) ∷ rest

-- n is set, then the elements are built from the first on, then the body of E runs
abbrev pub holder_built : List PartEvent
holder_built = Begin whole ∷ Ready whole ∷ Init whole 0 ∷ element_built 0 (element_built 1 (Body whole ∷ Done whole ∷ []))

-- the body of E runs, then the elements end from the last on
abbrev pub holder_ended : List PartEvent
holder_ended = Ending whole ∷ Body whole ∷ element_ended 1 (element_ended 0 (Bases whole ∷ End whole ∷ []))
