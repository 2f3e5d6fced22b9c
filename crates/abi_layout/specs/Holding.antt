-- Which subobjects of a class hold its virtual bases (Itanium C++ ABI 2.4, II.1).
use Rattle.std.specs.Prelude.{◌≡◌, ℕ, ◌<◌, Bool, nat_lt, if◌then◌else◌, ◌&&◌, Option, Some, None, List, length, get_or, slice_get, slice_set, position}
use Rattle.std.specs.Option.{is_none}
use Rattle.cxx_hierarchy.specs.declared.records.ClassId.{ClassId}
use Rattle.cxx_hierarchy.specs.Classes.{Classes}
use Rattle.cxx_subobject.specs.declared.Subobject.{Subobject}
use Rattle.cxx_subobject.specs.Subobjects.{class_of}
use Rattle.abi_primary.specs.declared.Primary.{Primary}
use Rattle.abi_primary.specs.declared.Primary.TheVariants.{None as NoPrimary, Direct, Virtual}
use Rattle.abi_primary.specs.PrimaryBase.{has_primary}
use Rattle.abi_primary.specs.Holder.{holder_of}
use Rattle.abi_sound.specs.Chains.{is_subobject_in}

abbrev pub virtual_in : Option Primary → Option ClassId
virtual_in None = None
virtual_in (Some NoPrimary) = None
virtual_in (Some (Direct b)) = None
virtual_in (Some (Virtual v)) = Some v

-- the virtual base that is the primary base of class d
abbrev pub virtual_primary_base : List Primary → ClassId → Option ClassId
virtual_primary_base primaries d = virtual_in (slice_get primaries d.0)

-- the subobject s of an object of class c holds the virtual base v
abbrev pub holds_base : Classes → List Primary → ClassId → Subobject → ClassId → Bool
holds_base h primaries c s v = is_subobject_in (holder_of h primaries c v) s

abbrev pub kept_if : (ClassId → Bool) → Option ClassId → Option ClassId
kept_if test None = None
kept_if test (Some v) = if test v then Some v else None

-- the virtual base that the subobject s, of class d, of an object of class c holds: its primary base, where it lies
-- there and not at another subobject
abbrev pub held_base : Classes → List Primary → ClassId → Subobject → ClassId → Option ClassId
held_base h primaries c s d = kept_if (holds_base h primaries c s) (virtual_primary_base primaries d)

abbrev pub primary_in_class : List Primary → Option ClassId → Option ClassId
primary_in_class primaries None = None
primary_in_class primaries (Some d) = virtual_primary_base primaries d

-- the virtual base that is the primary base of the class of a subobject
abbrev pub virtual_primary_of : List Primary → Subobject → Option ClassId
virtual_primary_of primaries s = primary_in_class primaries (class_of s)

-- the table tells, for each of the first `count` classes, the number of the first subobject whose primary base it is
pub record AreHolders (primaries : List Primary) (list : List Subobject) (count : ℕ) (holders : List (Option ℕ)) : Type 0 where
  pub one_each : length holders ≡ count
  pub first : (v : ClassId) → v.0 < count → get_or holders v.0 None ≡ position (has_primary primaries v) list

-- the table with the number of a subobject as that of the holder of a virtual base, where this has none yet
abbrev pub with_holder : List (Option ℕ) → Option ClassId → ℕ → List (Option ℕ)
with_holder holders None n = holders
with_holder holders (Some v) n = if nat_lt v.0 (length holders) && is_none (get_or holders v.0 None) then slice_set holders v.0 (Some n) else holders
