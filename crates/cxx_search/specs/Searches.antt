-- Searches over the subobjects of a class: what lies in what, by any edges or by public ones; final overriders; casts.
use Rattle.std.specs.Prelude.{ℕ, zero, suc, ◌+◌, Bool, true, false, if◌then◌else◌, Option, Some, None, List, [], ◌∷◌, filter, find, map, length}
use Rattle.std.specs.List.{flat_map, list_any, list_all}
use Rattle.cxx_hierarchy.specs.declared.records.ClassId.{ClassId}
use Rattle.cxx_hierarchy.specs.declared.records.Base.{Base}
use Rattle.cxx_hierarchy.specs.Classes.{Classes, bases_of, functions_of}
use Rattle.cxx_subobject.specs.declared.Subobject.{Subobject}
use Rattle.cxx_subobject.specs.Subobjects.{class_of, is_of_class, join, base_subobject, same_subobject, whole_of}
use Rattle.cxx_subobject.specs.Preorder.{preorder}
use Rattle.cxx_subobject.specs.VirtualBases.{virtual_bases}
use Rattle.cxx_overrider.specs.declared.FunctionId.{FunctionId}
use Rattle.cxx_overrider.specs.declared.Overrider.{Overrider}
use Rattle.cxx_overrider.specs.Functions.{is_pure, overrider}
use Rattle.cxx_overrider.specs.Virtuals.{same_name, declared, own}

-- the subobjects of a class that is known
abbrev pub preorder_of : Classes → Option ClassId → List Subobject
preorder_of h None = []
preorder_of h (Some c) = preorder h c

-- the subobjects of x, each as a subobject of the object that x is one of
abbrev pub subobjects_under : Classes → Subobject → List Subobject
subobjects_under h x = map (join x) (preorder_of h (class_of x))

-- y is x or a base subobject of it, direct or not
abbrev pub is_within : Classes → Subobject → Subobject → Bool
is_within h x y = list_any (same_subobject y) (subobjects_under h x)

-- what is found behind a direct base of the class of s, if the base is public
abbrev pub public_tree_of : (ClassId → Subobject → List Subobject) → Subobject → Base ClassId → List Subobject
public_tree_of inside s base = if base.is_public then inside base.class (base_subobject s base) else []

-- s, of class c, and all that public edges lead to from it. A base has a smaller number than its class, so that a walk down
-- takes at most as many steps as the number of the class
abbrev pub public_tree : Classes → ℕ → ClassId → Subobject → List Subobject
public_tree h zero c s = []
public_tree h (suc n) c s = s ∷ flat_map (public_tree_of (public_tree h n) s) (bases_of h c)

-- what public edges lead to from x
abbrev pub public_parts : Classes → Subobject → Option ClassId → List Subobject
public_parts h x None = []
public_parts h x (Some c) = public_tree h (c.0 + 1) c x

-- public edges alone lead from x to y (ISO C++03 11.2)
abbrev pub is_public_in : Classes → Subobject → Subobject → Bool
is_public_in h x y = list_any (same_subobject y) (public_parts h x (class_of x))

-- the functions of the name and parameters of f that the class of t declares
abbrev pub overriders_in : Classes → FunctionId → Subobject → Option ClassId → List Overrider
overriders_in h f t None = []
overriders_in h f t (Some c) = map (overrider t) (filter (same_name h f) (declared h c))

-- the functions of the name and parameters of f in the subobjects of x that contain y
abbrev pub candidates : Classes → Subobject → Subobject → FunctionId → List Overrider
candidates h x y f = flat_map (λ t. overriders_in h f t (class_of t)) (filter (λ t. is_within h t y) (subobjects_under h x))

-- the subobject of o contains that of each other candidate
abbrev pub contains_all : Classes → List Overrider → Overrider → Bool
contains_all h others o = list_all (λ other. is_within h o.at other.at) others

-- the final overrider of f, a function of the class of y, in the view x: the candidate whose subobject contains those of
-- all candidates (ISO C++03 10.3 p2, 12.7 p3)
abbrev pub final_in : Classes → Subobject → Subobject → FunctionId → Option Overrider
final_in h x y f = find (contains_all h (candidates h x y f)) (candidates h x y f)

-- there is a final overrider, and it is pure
abbrev pub is_pure_overrider : Classes → Option Overrider → Bool
is_pure_overrider h None = false
is_pure_overrider h (Some o) = is_pure h o.function

-- the final overrider of some virtual function of the class of s is pure, in an object of class c
abbrev pub has_pure_in : Classes → ClassId → Subobject → Option ClassId → Bool
has_pure_in h c s None = false
has_pure_in h c s (Some d) = list_any (λ f. is_pure_overrider h (final_in h (whole_of c) s f)) (own h d)

-- the final overrider of some virtual function, of c or of a base of it, is pure (ISO C++03 10.4 p2)
abbrev pub is_abstract : Classes → ClassId → Bool
is_abstract h c = list_any (λ s. has_pure_in h c s (class_of s)) (preorder h c)

-- the destructor of c; it stands under the index after the last function
abbrev pub destructor_of : Classes → ClassId → FunctionId
destructor_of h c = record { class = c; index = length (functions_of h c) }

abbrev pub has_some : {X : Type 0} → List X → Bool
has_some [] = false
has_some (x ∷ xs) = true

-- c has a virtual base
abbrev pub has_virtual_base : Classes → ClassId → Bool
has_virtual_base h c = has_some (virtual_bases h c)

-- the one item of a list that has no other
abbrev pub the_only : List Subobject → Option Subobject
the_only [] = None
the_only (s ∷ []) = Some s
the_only (s ∷ t ∷ rest) = None

-- the subobject, where the test holds of it
abbrev pub where_it : (Subobject → Bool) → Option Subobject → Option Subobject
where_it f None = None
where_it f (Some s) = if f s then Some s else None

-- the subobjects of class `target` in the view x
abbrev pub targets : Classes → ClassId → Subobject → List Subobject
targets h target x = filter (is_of_class target) (subobjects_under h x)

-- a cast down: exactly one of the targets contains y, and y is a public base of it (ISO C++03 5.2.7 p8, first clause)
abbrev pub cast_down : Classes → ClassId → Subobject → Subobject → Option Subobject
cast_down h target x y = where_it (λ t. is_public_in h t y) (the_only (filter (λ t. is_within h t y) (targets h target x)))

-- a cast across: y is a public base of the view, which has exactly one target, and that is a public base too (second clause)
abbrev pub cast_across : Classes → ClassId → Subobject → Subobject → Option Subobject
cast_across h target x y = if is_public_in h x y then where_it (is_public_in h x) (the_only (targets h target x)) else None

abbrev pub or_else : {X : Type 0} → Option X → Option X → Option X
or_else None other = other
or_else (Some s) other = Some s

-- where a dynamic_cast from y to the class `target` leads in the view x, if anywhere: down, else across (ISO C++03 5.2.7 p8)
abbrev pub cast_in : Classes → ClassId → Subobject → Subobject → Option Subobject
cast_in h target x y = or_else (cast_down h target x y) (cast_across h target x y)
