-- Look-up and the choice of a base as functions (ISO C++03 4.10, 10.2; Rossie and Friedman).
use Rattle.std.specs.Prelude.{ℕ, Bool, false, Option, Some, None, List, [], ◌∷◌, filter, position}
use Rattle.std.specs.List.{filter_map, list_any, list_all}
use Rattle.std.specs.Str.{bytes_eq}
use Rattle.cxx_hierarchy.specs.declared.records.ClassId.{ClassId}
use Rattle.cxx_hierarchy.specs.declared.records.Member.{Member as MemberRecord}
use Rattle.cxx_hierarchy.specs.declared.records.Function.{Function as FunctionRecord}
use Rattle.cxx_hierarchy.specs.Classes.{Classes, members_of, functions_of}
use Rattle.cxx_subobject.specs.declared.Subobject.{Subobject}
use Rattle.cxx_subobject.specs.Subobjects.{class_of, is_of_class, join, same_subobject}
use Rattle.cxx_subobject.specs.Preorder.{preorder}
use Rattle.cxx_lookup.specs.declared.Found.{Found}
use Rattle.cxx_lookup.specs.declared.Found.TheVariants.{Member, Function}
use Rattle.cxx_lookup.specs.declared.LookupFault.TheVariants.{NoSuchMember}
use Rattle.cxx_lookup.specs.declared.BaseFault.TheVariants.{NotBase}
use Rattle.cxx_lookup.specs.Lookup.{place_of_found, IsFound, TwoRemain, IsLookupFault}
use Rattle.cxx_lookup.specs.UniqueBase.{IsUniqueBase, HasTwoBases, IsBaseFault}

-- what is found: nothing, one thing, or more than one
pub data Finding (X : Type 0) : Type 0 where
  finds_none : Finding X
  finds_one : X → Finding X
  finds_more : Finding X

-- a member of the class of s, or a function of it
abbrev pub declared_as : Subobject → Option ℕ → Option ℕ → Option Found
declared_as s (Some m) function = Some (Member s m)
declared_as s None (Some f) = Some (Function s f)
declared_as s None None = None

abbrev pub declared_in : Classes → List ℕ → Subobject → Option ClassId → Option Found
declared_in h name s None = None
declared_in h name s (Some d) =
    declared_as s (position (λ (m : MemberRecord ClassId). bytes_eq m.name name) (members_of h d)) (position (λ (f : FunctionRecord ClassId). bytes_eq f.name name) (functions_of h d))

-- what the class of a subobject declares under a name
abbrev pub declaration_at : Classes → List ℕ → Subobject → Option Found
declaration_at h name s = declared_in h name s (class_of s)

-- the declarations of a name in the subobjects of c, in preorder
abbrev pub declarations_of : Classes → ClassId → List ℕ → List Found
declarations_of h c name = filter_map (declaration_at h name) (preorder h c)

abbrev pub is_joined : Classes → Subobject → Subobject → Option ClassId → Bool
is_joined h outer inner None = false
is_joined h outer inner (Some d) = list_any (λ part. same_subobject inner (join outer part)) (preorder h d)

-- the test that one subobject lies in another: it is one of the subobjects of its class
abbrev pub is_inside : Classes → Subobject → Subobject → Bool
is_inside h outer inner = is_joined h outer inner (class_of outer)

-- the subobject of a declaration contains those of all
abbrev pub contains_all_found : Classes → List Found → Found → Bool
contains_all_found h all found = list_all (λ other. is_inside h (place_of_found found) (place_of_found other)) all

abbrev pub among : List Found → List Found → Finding Found
among [] tops = finds_none
among (one ∷ all) [] = finds_more
among (one ∷ all) (top ∷ tops) = finds_one top

abbrev pub found_among : Classes → List Found → Finding Found
found_among h all = among all (filter (contains_all_found h all) all)

-- what a name finds in class c: the declaration whose subobject contains those of all others
abbrev pub found_by : Classes → ClassId → List ℕ → Finding Found
found_by h c name = found_among h (declarations_of h c name)

abbrev pub the_only_found : List Subobject → Finding Subobject
the_only_found [] = finds_none
the_only_found (one ∷ []) = finds_one one
the_only_found (one ∷ other ∷ rest) = finds_more

-- the base of class d that c has
abbrev pub base_by : Classes → ClassId → ClassId → Finding Subobject
base_by h c d = the_only_found (filter (is_of_class d) (preorder h c))

-- what a finding says of a name
abbrev pub IsNameFinding : Classes → ClassId → List ℕ → Finding Found → Type 0
IsNameFinding h c name finds_none = IsLookupFault h c name NoSuchMember
IsNameFinding h c name (finds_one found) = IsFound h c name found
IsNameFinding h c name finds_more = TwoRemain h c name

-- and of a base
abbrev pub IsBaseFinding : Classes → (c d : ClassId) → Finding Subobject → Type 0
IsBaseFinding h c d finds_none = IsBaseFault h c d NotBase
IsBaseFinding h c d (finds_one s) = IsUniqueBase h c d s
IsBaseFinding h c d finds_more = HasTwoBases h c d
