-- The finished row of one class, by what is known of the classes before it (Itanium C++ ABI 2.4).
use Rattle.std.specs.Prelude.{◌≡◌, ℕ, ◌<◌, Bool, false, Option, Some, None, List, [], ◌∷◌, ◌++◌, Contains, filter, get_or, length, map, slice_get, slice_set}
use Rattle.cxx_hierarchy.specs.declared.records.ClassId.{ClassId}
use Rattle.cxx_hierarchy.specs.declared.stop.Stop.{Stop}
use Rattle.cxx_hierarchy.specs.Classes.{Class, Classes}
use Rattle.cxx_subobject.specs.declared.Subobject.{Subobject}
use Rattle.abi_emptybase.specs.declared.Part.{Part}
use Rattle.abi_primary.specs.declared.Primary.{Primary}
use Rattle.abi_primary.specs.declared.Primary.TheVariants.{Virtual}
use Rattle.abi_primary.specs.Holder.{holder_of}
use Rattle.abi_sound.specs.declared.class_layout.ClassLayout.{ClassLayout}
use Rattle.abi_layout.specs.declared.known.Known.{Known}
use Rattle.abi_layout.specs.declared.component.Component.{Component}
use Rattle.abi_layout.specs.declared.arrangement.Arrangement.{Arrangement}
use Rattle.abi_layout.specs.declared.scene.Scene.{Scene}
use Rattle.abi_layout.specs.declared.virtual_places.VirtualScene.{VirtualScene}
use Rattle.abi_layout.specs.declared.placed_bases.PlacedBase.{PlacedBase}
use Rattle.abi_layout.specs.declared.laid_row.ClassFacts.{ClassFacts}
use Rattle.cxx_hierarchy.specs.Declarations.{is_plain_base}
use Rattle.abi_layout.specs.Kinds.{empty_kind, pod_kind}
use Rattle.abi_layout.specs.Placements.{placed_part, parts_at}
use Rattle.abi_layout.specs.invariants.Alignments.{LieUpTo}
use Rattle.abi_layout.specs.invariants.Known.{empties_in, pods_in, known_parts_of, members_by, IsSized}
use Rattle.cxx_subobject.specs.VirtualBases.{virtual_bases}
use Rattle.abi_layout.specs.PlacedBases.{free_bases}
use Rattle.abi_layout.specs.invariants.OwnPlaces.{own_places}
use Rattle.abi_layout.specs.Repeats.{SomeRepeats}
use Rattle.abi_layout.specs.invariants.Settled.{AreVirtualPlaces, free_table, held_at}
use Rattle.abi_layout.specs.invariants.Arrangements.{IsArranged, IsRefusal, components_by}
use Rattle.abi_layout.specs.Layouts.{place_in_class, placed_place, virtual_place, primary_of, fronts, start_stage, IsLayoutBy}

-- the row with these virtual bases, their places, and what holds each
abbrev pub filled_row : ClassLayout → (virtual_bases : List ClassId) (virtual_places : List ℕ) (holders : List (Option Subobject)) → ClassLayout
filled_row row virtual_bases virtual_places holders = record { size = row.size; align = row.align; dsize = row.dsize; nvsize = row.nvsize; nvalign = row.nvalign; primary = row.primary; base_places = row.base_places; virtual_bases = virtual_bases; virtual_places = virtual_places; holders = holders; member_places = row.member_places; member_bits = row.member_bits }

-- all that objects of the classes before c bring is of classes before c
pub record AreSmaller (c : ClassId) (known : List Known) : Type 0 where
  pub smaller : (d : ClassId) (part : Part) → d.0 < c.0 → Contains (known_parts_of known d) part → part.class < c.0

-- a class whose primary base is virtual has no virtual pointer of its own
pub record IsOneOrOther (primary : Primary) (has_pointer : Bool) : Type 0 where
  pub without : (v : ClassId) → primary ≡ Virtual v → has_pointer ≡ false

-- the components of class c lie where its row says, and the row has what the rules say besides: the rows of the classes
-- before are `before`, and what else is known of them is `known`; of these and of c itself the primary bases
pub record IsClassRow (h : Classes) (c : ClassId) (before : List ClassLayout) (known : List Known) (primaries : List Primary) (class : Class) (has_pointer : Bool) (row : ClassLayout) : Type 0 where
  pub primary : row.primary ≡ primary_of primaries c
  pub placed : IsLayoutBy (start_stage c has_pointer) (components_by h before known primaries c (fronts primaries c class)) (members_by before known class) (components_by h before known primaries c (free_bases h primaries c))
      (map (placed_place h (before ++ row ∷ []) c) (fronts primaries c class)) (map (placed_place h (before ++ row ∷ []) c) (free_bases h primaries c)) (pod_kind (pods_in known) class) row
  pub bases : row.base_places ≡ own_places (fronts primaries c class) (map (placed_place h (before ++ row ∷ []) c) (fronts primaries c class)) class.bases
  pub each_base : length row.base_places ≡ length (filter is_plain_base class.bases)
  pub virtuals : row.virtual_bases ≡ virtual_bases h c
  pub each_virtual : length row.virtual_places ≡ length (virtual_bases h c)
  pub holders : row.holders ≡ map (holder_of h primaries c) (virtual_bases h c)
  pub held : (v : ClassId) (holder : Subobject) → Contains (virtual_bases h c) v → holder_of h primaries c v ≡ Some holder → virtual_place (before ++ row ∷ []) c v ≡ place_in_class h (before ++ row ∷ []) c holder

-- the class subobjects of an object of class c with this row: itself, and what its components bring
abbrev pub row_parts : Classes → ClassId → List ClassLayout → List Known → List Primary → Class → ClassLayout → List Part
row_parts h c before known primaries class row =
    placed_part c 0
    ∷ (parts_at (components_by h before known primaries c (fronts primaries c class)) (map (placed_place h (before ++ row ∷ []) c) (fronts primaries c class))
    ++ (parts_at (members_by before known class) row.member_places
    ++ parts_at (components_by h before known primaries c (free_bases h primaries c)) (map (placed_place h (before ++ row ∷ []) c) (free_bases h primaries c))))

-- what an error tells of class c, which has these bases before its members and these virtual bases behind them
abbrev pub IsRefusedWith : Classes → ClassId → List ClassLayout → List Known → List Primary → Class → (front free : List PlacedBase) → (has_pointer is_pod : Bool) → Stop → Type 0
IsRefusedWith h c before known primaries class front free has_pointer is_pod stop =
    IsRefusal (start_stage c has_pointer) (components_by h before known primaries c front) (members_by before known class) (components_by h before known primaries c free) is_pod class.at stop

-- the components that these bases of the class of a scene are
abbrev pub components_in : Scene → List PlacedBase → List Component
components_in x bases = components_by x.h.now x.rows.now x.known.now x.primaries.now x.c bases

-- the virtual bases of that class which no subobject holds
abbrev pub frees_in : Scene → List PlacedBase
frees_in x = free_bases x.h.now x.primaries.now x.c

-- that class, which has these bases before its members and these virtual bases behind them, is arranged so
abbrev pub IsArrangedIn : Scene → Class → (has_pointer : Bool) → (front free : List PlacedBase) → (is_pod : Bool) → Arrangement → Type 0
IsArrangedIn x class has_pointer front free is_pod a =
    IsArranged (start_stage x.c has_pointer) (components_in x front) (members_by x.rows.now x.known.now class) (components_in x free) is_pod a

-- what an error tells of that class, which has these bases before its members and these virtual bases behind them
abbrev pub IsRefusedIn : Scene → Class → (has_pointer : Bool) → (front free : List PlacedBase) → (is_pod : Bool) → Stop → Type 0
IsRefusedIn x class has_pointer front free is_pod stop = IsRefusedWith x.h.now x.c x.rows.now x.known.now x.primaries.now class front free has_pointer is_pod stop

-- what an error tells of class c
abbrev pub IsRefusedBy : Classes → ClassId → List ClassLayout → List Known → List Primary → Class → Bool → Stop → Type 0
IsRefusedBy h c before known primaries class has_pointer stop = IsRefusedWith h c before known primaries class (fronts primaries c class) (free_bases h primaries c) has_pointer (pod_kind (pods_in known) class) stop

-- the rows with one more, that of class c, and what else is known of it then
pub record IsRowAdded (h : Classes) (c : ClassId) (before : List ClassLayout) (known : List Known) (primaries : List Primary) (class : Class) (has_pointer : Bool) (rows : List ClassLayout) (facts : ClassFacts) : Type 0 where
  pub row : ClassLayout
  pub rows_are : rows ≡ before ++ row ∷ []
  pub is : IsClassRow h c before known primaries class has_pointer row
  pub is_empty : facts.known.is_empty ≡ empty_kind (empties_in known) class
  pub is_pod : facts.known.is_pod ≡ pod_kind (pods_in known) class
  pub parts : facts.known.parts ≡ row_parts h c before known primaries class row
  pub members : facts.members ≡ parts_at (members_by before known class) row.member_places
  pub sized : IsSized row facts.known.parts
  pub within : LieUpTo row.nvsize facts.members
  pub fronts_apart : SomeRepeats (components_by h before known primaries c (fronts primaries c class)) → ⊥
  pub frees_apart : SomeRepeats (components_by h before known primaries c (free_bases h primaries c)) → ⊥

-- the places of these virtual bases, where a scene tells which subobjects hold any, and where the others lie
abbrev pub AreVirtualPlacesIn : VirtualScene → List ClassLayout → (virtuals : List ClassId) → (places : List ℕ) → Type 0
AreVirtualPlacesIn x rows virtuals places = AreVirtualPlaces x.h.now rows x.list.now x.holders.now (free_table x.c.0 x.free.now x.free_places.now) virtuals places

-- the row of the class of the scene gets these virtual bases and places, and what holds each
abbrev pub FillsRow : VirtualScene → (virtuals : List ClassId) → (places : List ℕ) → (old new : List ClassLayout) → Type 0
FillsRow x virtuals places old new = (row : ClassLayout) → slice_get old x.c.0 ≡ Some row →
    new ≡ slice_set old x.c.0 (filled_row row virtuals places (map (λ (v : ClassId). held_at x.list.now (get_or x.holders.now v.0 None)) virtuals))
