-- What is known while a class is laid out.
use Rattle.std.specs.List.{filter_map, find}
use Rattle.std.specs.Prelude.{◌≡◌, ℕ, ◌+◌, ◌<◌, ◌≤◌, false, Option, Some, List, Contains, length, slice_get}
use Rattle.cxx_hierarchy.specs.declared.records.ClassId.{ClassId}
use Rattle.cxx_hierarchy.specs.declared.records.Base.{Base}
use Rattle.cxx_hierarchy.specs.Classes.{Classes, bases_of}
use Rattle.cxx_subobject.specs.declared.Subobject.{Subobject}
use Rattle.cxx_subobject.specs.Subobjects.{IsSubobject}
use Rattle.abi_emptybase.specs.declared.Part.{Part}
use Rattle.abi_primary.specs.declared.Primary.{Primary}
use Rattle.abi_sound.specs.declared.class_layout.ClassLayout.{ClassLayout}
use Rattle.abi_layout.specs.declared.known.Known.{Known}
use Rattle.abi_sound.specs.Places.{direct_base_place}
use Rattle.abi_layout.specs.Placements.{nvsize_in}
use Rattle.abi_layout.specs.invariants.Alignments.{LieUpTo}
use Rattle.abi_layout.specs.invariants.Known.{known_parts_of}
use Rattle.abi_primary.specs.PrimaryBase.{has_primary}
use Rattle.abi_primary.specs.Holder.{holder_of}
use Rattle.cxx_subobject.specs.VirtualBases.{shared_class, virtual_bases}
use Rattle.abi_layout.specs.Holding.{virtual_primary_base, AreHolders}
use Rattle.abi_layout.specs.Brought.{parts_in_members}

-- a virtual base that is a primary base stands before its class
pub record AreBefore (primaries : List Primary) : Type 0 where
  pub falls : (d v : ClassId) → virtual_primary_base primaries d ≡ Some v → v.0 < d.0

-- what each class before c brings by itself lies within it: its members, its non-virtual bases, and its primary base
pub record ContainTheirOwn (h : Classes) (c : ClassId) (rows : List ClassLayout) (primaries : List Primary) (members : List (List Part)) : Type 0 where
  pub by_members : (d : ClassId) (parts : List Part) → slice_get members d.0 ≡ Some parts → LieUpTo (nvsize_in (slice_get rows d.0)) parts
  pub by_bases : (d : ClassId) (base : Base ClassId) → d.0 < c.0 → Contains (bases_of h d) base → base.is_virtual ≡ false → direct_base_place h rows d base.class + nvsize_in (slice_get rows base.class.0) ≤ nvsize_in (slice_get rows d.0)
  pub by_primary : (d v : ClassId) → d.0 < c.0 → virtual_primary_base primaries d ≡ Some v → nvsize_in (slice_get rows v.0) ≤ nvsize_in (slice_get rows d.0)

-- the list tells which virtual bases c has, and which of its subobjects hold them: it is the preorder, or is empty where c
-- has no virtual base
pub record TellsHolders (h : Classes) (primaries : List Primary) (c : ClassId) (list : List Subobject) : Type 0 where
  pub virtuals : filter_map shared_class list ≡ virtual_bases h c
  pub holder : (v : ClassId) → find (has_primary primaries v) list ≡ holder_of h primaries c v
  pub valid : (s : Subobject) → Contains list s → IsSubobject h c s

-- the lists tell, of the classes before c, their rows, what else is known of them, and what their members bring; of these
-- and of c itself the primary bases; and of c the subobjects that may hold virtual bases, and which of them do
pub record IsLayoutScene (h : Classes) (c : ClassId) (rows : List ClassLayout) (known : List Known) (members : List (List Part)) (primaries : List Primary) (list : List Subobject) (holders : List (Option ℕ)) : Type 0 where
  pub class : c.0 < length h
  pub row_each : length rows ≡ c.0
  pub known_each : length known ≡ c.0
  pub member_each : length members ≡ c.0
  pub brings : (d : ClassId) (parts : List Part) → slice_get members d.0 ≡ Some parts → parts ≡ parts_in_members h rows (known_parts_of known) d
  pub before : AreBefore primaries
  pub inside : ContainTheirOwn h c rows primaries members
  pub tells : TellsHolders h primaries c list
  pub holders_are : AreHolders primaries list c.0 holders
