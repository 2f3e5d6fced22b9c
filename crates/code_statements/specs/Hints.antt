-- The hint of a `dynamic_cast`: where the source lies in an object of the target's class, as far as the classes alone tell (Itanium C++
-- ABI 2.9.7).
use Rattle.std.specs.Prelude.{ℕ, ℤ, pos, negsuc, Bool, nat_eq, nat_le, not, ◌&&◌, if◌then◌else◌, Option, Some, None, List, filter, length}
use Rattle.std.specs.List.{list_any}
use Rattle.cxx_hierarchy.specs.declared.records.ClassId.{ClassId}
use Rattle.cxx_hierarchy.specs.Classes.{Classes}
use Rattle.cxx_subobject.specs.declared.Subobject.{Subobject}
use Rattle.cxx_subobject.specs.Subobjects.{whole_of, is_of_class}
use Rattle.cxx_subobject.specs.Preorder.{preorder}
use Rattle.cxx_search.specs.Searches.{is_public_in, the_only}
use Rattle.path_model.specs.Uses.{is_shared}
use Rattle.abi_sound.specs.Places.{Places}

-- the sources: the subobjects of class `from` in an object of class `to`
abbrev pub sources : Classes → (from to : ClassId) → List Subobject
sources h from to = filter (is_of_class from) (preorder h to)

-- those that are public bases of it
abbrev pub public_sources : Classes → (from to : ClassId) → List Subobject
public_sources h from to = filter (is_public_in h (whole_of to)) (sources h from to)

-- the place of a subobject that lies in no virtual base
abbrev pub plain_place : (Subobject → ℕ) → Option Subobject → Option ℕ
plain_place place None = None
plain_place place (Some s) = if is_shared s then None else Some (place s)

-- the hints that are no place: nothing is said; no source is a public base; two are at least, and none lies in a virtual base
abbrev pub no_hint : ℤ
no_hint = negsuc 0

abbrev pub not_public : ℤ
not_public = negsuc 1

abbrev pub several : ℤ
several = negsuc 2

-- a place, where there is one
abbrev pub place_or : ℤ → Option ℕ → ℤ
place_or other None = other
place_or other (Some place) = pos place

-- the hint by how many sources are public bases, by the place of the only source, where that lies in no virtual base, and by whether
-- some source lies in a virtual base
abbrev pub hint_by : (public : ℕ) → (place : Option ℕ) → (shared : Bool) → ℤ
hint_by public place shared = if nat_eq public 0 then not_public else place_or (if nat_le 2 public && not shared then several else no_hint) place

-- the hint of a cast from class `from` to class `to`
abbrev pub hint_of : Classes → Places → (from to : ClassId) → ℤ
hint_of h l from to = hint_by (length (public_sources h from to)) (plain_place (l.place to) (the_only (sources h from to))) (list_any is_shared (sources h from to))
