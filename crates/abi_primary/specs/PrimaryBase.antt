-- The primary base of a class, whose virtual pointer it shares (Itanium C++ ABI 2.4, II.1).
use Rattle.std.specs.Prelude.{◌≡◌, ℕ, ◌<◌, Bool, false, not, ◌&&◌, ◌==◌, nat_eq, Option, Some, None, List, Contains, slice_get, get_or, length}
use Rattle.std.specs.List.{list_any, find}
use Rattle.cxx_hierarchy.specs.declared.records.ClassId.{ClassId}
use Rattle.cxx_hierarchy.specs.declared.records.Base.{Base}
use Rattle.cxx_hierarchy.specs.Classes.{Classes, bases_of}
use Rattle.cxx_subobject.specs.declared.Root.{Root}
use Rattle.cxx_subobject.specs.declared.Root.TheVariants.{Whole, Shared}
use Rattle.cxx_subobject.specs.declared.Subobject.{Subobject}
use Rattle.cxx_subobject.specs.Subobjects.{class_of}
use Rattle.cxx_subobject.specs.Preorder.{preorder}
use Rattle.abi_primary.specs.declared.Primary.{Primary}
use Rattle.abi_primary.specs.declared.Primary.TheVariants.{None as NoPrimary, Direct, Virtual}
use Rattle.abi_primary.specs.Kinds.{IsDynamic}
use Rattle.abi_primary.specs.NearlyEmpty.{is_nearly}

-- a base that is not virtual, of a dynamic class
pub record IsDynamicBase (h : Classes) (base : Base ClassId) : Type 0 where
  pub way : base.is_virtual ≡ false
  pub dynamic : IsDynamic h base.class

abbrev pub HasNoDynamicBase : Classes → List (Base ClassId) → Type 0
HasNoDynamicBase h bases = (base : Base ClassId) → Contains bases base → IsDynamicBase h base → ⊥

-- b is the class of the first base that is not virtual and dynamic
pub record IsFirstDynamic (h : Classes) (bases : List (Base ClassId)) (b : ClassId) : Type 0 where
  pub number : ℕ
  pub base : Base ClassId
  pub there : slice_get bases number ≡ Some base
  pub class : base.class ≡ b
  pub dynamic : IsDynamicBase h base
  pub before : (i : ℕ) (other : Base ClassId) → i < number → slice_get bases i ≡ Some other → IsDynamicBase h other → ⊥

abbrev pub is_direct_primary : Primary → ClassId → Bool
is_direct_primary NoPrimary b = false
is_direct_primary (Direct d) b = nat_eq d.0 b.0
is_direct_primary (Virtual v) b = false

abbrev pub is_virtual_primary : Primary → ClassId → Bool
is_virtual_primary NoPrimary v = false
is_virtual_primary (Direct b) v = false
is_virtual_primary (Virtual w) v = nat_eq w.0 v.0

abbrev pub has_primary_in : List Primary → ClassId → Option ClassId → Bool
has_primary_in primaries v None = false
has_primary_in primaries v (Some d) = is_virtual_primary (get_or primaries d.0 NoPrimary) v

-- the virtual base v is the primary base of the class of s, by the list of primary bases
abbrev pub has_primary : List Primary → ClassId → Subobject → Bool
has_primary primaries v s = has_primary_in primaries v (class_of s)

-- a subobject that is a nearly empty virtual base, itself
abbrev pub is_nearly_root : List Bool → Root → Bool
is_nearly_root nearly Whole = false
is_nearly_root nearly (Shared v) = is_nearly nearly v

abbrev pub is_nearly_base : List Bool → Subobject → Bool
is_nearly_base nearly s = (length s.path == 1) && is_nearly_root nearly s.root

-- a virtual base that is the primary base of some base; the list of primary bases is that of the classes before
abbrev pub is_taken_root : List Primary → List Subobject → Root → Bool
is_taken_root earlier list Whole = false
is_taken_root earlier list (Shared v) = list_any (has_primary earlier v) list

-- a nearly empty virtual base that is the primary base of no base
abbrev pub is_free_base : List Bool → List Primary → List Subobject → Subobject → Bool
is_free_base nearly earlier list s = is_nearly_base nearly s && not (is_taken_root earlier list s.root)

abbrev pub as_primary : Root → Primary
as_primary Whole = NoPrimary
as_primary (Shared v) = Virtual v

abbrev pub choice : Option Subobject → Option Subobject → Primary
choice (Some s) other = as_primary s.root
choice None (Some s) = as_primary s.root
choice None None = NoPrimary

-- the first nearly empty virtual base in preorder that is the primary base of no base, or the first of all where each
-- is one, or none
abbrev pub virtual_primary : List Bool → List Primary → List Subobject → Primary
virtual_primary nearly earlier list = choice (find (is_free_base nearly earlier list) list) (find (is_nearly_base nearly) list)

-- the primary base of c, where the lists tell which classes before c are nearly empty and which are their primary
-- bases: the first direct base that is not virtual and dynamic, or else a virtual one
pub data IsPrimary (h : Classes) (nearly : List Bool) (earlier : List Primary) (c : ClassId) : Primary → Type 0 where
  of_direct : (b : ClassId) → IsFirstDynamic h (bases_of h c) b → IsPrimary h nearly earlier c (Direct b)
  of_virtual : HasNoDynamicBase h (bases_of h c) → IsPrimary h nearly earlier c (virtual_primary nearly earlier (preorder h c))
