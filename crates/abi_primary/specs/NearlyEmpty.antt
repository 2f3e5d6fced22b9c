-- Nearly empty classes: those that have a virtual pointer and nothing else (Itanium C++ ABI 1.1).
use Rattle.std.specs.Prelude.{◌≡◌, ◌≤◌, Bool, true, false, not, ◌&&◌, List, [], Contains, get_or, count_by}
use Rattle.cxx_hierarchy.specs.declared.records.ClassId.{ClassId}
use Rattle.cxx_hierarchy.specs.declared.records.Base.{Base}
use Rattle.cxx_hierarchy.specs.Classes.{Classes, bases_of, members_of}
use Rattle.abi_primary.specs.Kinds.{IsDynamic, is_empty as has_no_data}

-- whether the list says of a class that it is nearly empty
abbrev pub is_nearly : List Bool → ClassId → Bool
is_nearly nearly c = get_or nearly c.0 false

-- a base that adds no data to its class
pub data IsLight (h : Classes) (nearly : List Bool) (base : Base ClassId) : Type 0 where
  is_virtual : base.is_virtual ≡ true → IsLight h nearly base
  is_empty : has_no_data h base.class ≡ true → IsLight h nearly base
  is_nearly_empty : is_nearly nearly base.class ≡ true → IsLight h nearly base

-- a base that is not virtual and nearly empty
abbrev pub is_pointer_base : List Bool → Base ClassId → Bool
is_pointer_base nearly base = not base.is_virtual && is_nearly nearly base.class

-- c is nearly empty, where the list says which classes before it are, and `shifted` whether an empty base of it that
-- lies in no virtual base lies elsewhere than at its start
pub record IsNearlyEmpty (h : Classes) (nearly : List Bool) (shifted : Bool) (c : ClassId) : Type 0 where
  pub dynamic : IsDynamic h c
  pub no_member : members_of h c ≡ []
  pub light : (base : Base ClassId) → Contains (bases_of h c) base → IsLight h nearly base
  pub one : count_by (is_pointer_base nearly) (bases_of h c) ≤ 1
  pub unshifted : shifted ≡ false
