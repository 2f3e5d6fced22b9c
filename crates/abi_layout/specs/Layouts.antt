-- Which layout the rules of the ABI give to any hierarchy (Itanium C++ ABI 2.4, and 2.2 for a class that is POD).
use Rattle.std.specs.Prelude.{◌≡◌, ℕ, zero, suc, ◌+◌, ◌<◌, ◌↔◌, IsTrue, Bool, true, false, not, ◌&&◌, ◌==◌, if◌then◌else◌, max, Option, Some, None, List, [], ◌∷◌, ◌++◌, map, filter, length, take, get_or, slice_get, Contains}
use Rattle.std.specs.List.{list_any}
use Rattle.cxx_hierarchy.specs.declared.records.ClassId.{ClassId}
use Rattle.cxx_hierarchy.specs.Classes.{Class, Classes, class_at}
use Rattle.cxx_subobject.specs.declared.Root.{Root}
use Rattle.cxx_subobject.specs.declared.Root.TheVariants.{Whole, Shared}
use Rattle.cxx_subobject.specs.declared.Subobject.{Subobject}
use Rattle.cxx_subobject.specs.Subobjects.{class_of}
use Rattle.cxx_subobject.specs.Preorder.{preorder}
use Rattle.abi_emptybase.specs.declared.Part.{Part}
use Rattle.abi_primary.specs.declared.Primary.{Primary}
use Rattle.abi_primary.specs.declared.Primary.TheVariants.{None as NoPrimary}
use Rattle.abi_primary.specs.Kinds.{IsDynamic}
use Rattle.abi_primary.specs.NearlyEmpty.{IsNearlyEmpty}
use Rattle.abi_primary.specs.PrimaryBase.{IsPrimary}
use Rattle.abi_primary.specs.Holder.{holder_of}
use Rattle.abi_layout.specs.declared.component.Component.{Component}
use Rattle.abi_layout.specs.declared.component.Stage.{Stage}
use Rattle.abi_sound.specs.declared.class_layout.ClassLayout.{ClassLayout}
use Rattle.abi_layout.specs.declared.placed_bases.PlacedBase.{PlacedBase}
use Rattle.abi_layout.specs.Kinds.{is_empty, is_pod}
use Rattle.cxx_hierarchy.specs.Declarations.{is_plain_base}
use Rattle.abi_sound.specs.Places.{member_places_in}
pub use Rattle.abi_sound.specs.Places.{virtual_places_in, virtual_bases_in, virtual_place, place_from, root_place, place_in_class}
use Rattle.abi_layout.specs.Placements.{IsNextMultiple, ArePlaced, stage_after_all, bits_at, placed_part, parts_at, member_component}
use Rattle.cxx_subobject.specs.VirtualBases.{virtual_bases}
use Rattle.abi_layout.specs.Brought.{brought_by}
use Rattle.abi_layout.specs.Repeats.{HasRepeat}
use Rattle.abi_layout.specs.PlacedBases.{class_of_placed, subobject_of, front_bases, free_bases, placed_component}

abbrev pub placed_place : Classes → List ClassLayout → ClassId → PlacedBase → ℕ
placed_place h rows c base = place_in_class h rows c (subobject_of c base)

abbrev pub primary_of : List Primary → ClassId → Primary
primary_of primaries c = get_or primaries c.0 NoPrimary

abbrev pub fronts : List Primary → ClassId → Class → List PlacedBase
fronts primaries c class = front_bases (primary_of primaries c) class.bases

-- the components of a class: bases before the members, members, and virtual bases behind them
abbrev pub front_components : Classes → List ClassLayout → List Primary → (ClassId → List Part) → ClassId → Class → List Component
front_components h rows primaries parts c class = map (placed_component (is_empty h) h rows primaries parts c) (fronts primaries c class)

abbrev pub free_components : Classes → List ClassLayout → List Primary → (ClassId → List Part) → ClassId → List Component
free_components h rows primaries parts c = map (placed_component (is_empty h) h rows primaries parts c) (free_bases h primaries c)

abbrev pub object_parts_in : Classes → List ClassLayout → List Primary → (ClassId → List Part) → ClassId → Option Class → List Part
object_parts_in h rows primaries parts c None = []
object_parts_in h rows primaries parts c (Some class) =
    placed_part c 0
    ∷ (parts_at (front_components h rows primaries parts c class) (map (placed_place h rows c) (fronts primaries c class))
    ++ (parts_at (map (member_component rows parts) class.members) (member_places_in (slice_get rows c.0))
    ++ parts_at (free_components h rows primaries parts c) (map (placed_place h rows c) (free_bases h primaries c))))

-- the class subobjects of a complete object of class c, with their places: itself, and what its components bring. Each
-- step goes down to a class of a smaller number
abbrev pub object_parts_within : Classes → List ClassLayout → List Primary → ℕ → ClassId → List Part
object_parts_within h rows primaries zero c = []
object_parts_within h rows primaries (suc steps) c = object_parts_in h rows primaries (object_parts_within h rows primaries steps) c (class_at h c)

abbrev pub object_parts : Classes → List ClassLayout → List Primary → ClassId → List Part
object_parts h rows primaries c = object_parts_within h rows primaries (c.0 + 1) c

-- before the first component: the class itself is at 0, and so is its own virtual pointer, if it has one
abbrev pub start_stage : ClassId → Bool → Stage
start_stage c has_pointer = record { dsize = if has_pointer then 8 else 0; free_bit = if has_pointer then 64 else 0; size = if has_pointer then 8 else 0; align = if has_pointer then 8 else 1; parts = placed_part c 0 ∷ [] }

-- the layout of class c by its components: they lie one after the other, and the size is the least multiple of the
-- alignment that they fit in and that is not 0. Without the virtual bases that no subobject holds, the class ends where
-- its last member ends; a POD class keeps its tail padding
pub record IsLayoutBy (first : Stage) (fronts members frees : List Component) (front_places free_places : List ℕ) (is_pod : Bool) (row : ClassLayout) : Type 0 where
  pub fronts_placed : ArePlaced first fronts front_places
  pub members_placed : ArePlaced (stage_after_all first fronts front_places) members row.member_places
  pub bits : row.member_bits ≡ bits_at (stage_after_all first fronts front_places) members row.member_places
  pub frees_placed : ArePlaced (stage_after_all (stage_after_all first fronts front_places) members row.member_places) frees free_places
  pub nvalign : row.nvalign ≡ (stage_after_all (stage_after_all first fronts front_places) members row.member_places).align
  pub nvsize : row.nvsize ≡ (if is_pod then row.size else (stage_after_all (stage_after_all first fronts front_places) members row.member_places).size)
  pub align : row.align ≡ (stage_after_all (stage_after_all (stage_after_all first fronts front_places) members row.member_places) frees free_places).align
  pub size : IsNextMultiple (max 1 (stage_after_all (stage_after_all (stage_after_all first fronts front_places) members row.member_places) frees free_places).size) row.align row.size
  pub dsize : row.dsize ≡ (if is_pod then row.size else (stage_after_all (stage_after_all (stage_after_all first fronts front_places) members row.member_places) frees free_places).dsize)

-- the components of class c lie at these places, and the sizes of its row come of it; it has a virtual pointer of its own,
-- or none
abbrev pub IsArrangedBy : Classes → List ClassLayout → List Primary → ClassId → Class → Bool → (front_places free_places : List ℕ) → ClassLayout → Type 0
IsArrangedBy h rows primaries c class has_pointer front_places free_places row =
    IsLayoutBy (start_stage c has_pointer) (front_components h rows primaries (object_parts h rows primaries) c class) (map (member_component rows (object_parts h rows primaries)) class.members)
    (free_components h rows primaries (object_parts h rows primaries) c) front_places free_places (is_pod h c) row

-- a class has a virtual pointer of its own where it is dynamic and has no primary base
abbrev pub HasPointer : Classes → List Primary → ClassId → Bool → Type 0
HasPointer h primaries c has_pointer = IsTrue has_pointer ↔ (IsDynamic h c × (primary_of primaries c ≡ NoPrimary))

-- the row is the layout of the class, by the rows and the primary bases of the classes up to it
pub record IsLaidRow (h : Classes) (rows : List ClassLayout) (nearly : List Bool) (primaries : List Primary) (c : ClassId) (class : Class) (row : ClassLayout) : Type 0 where
  pub is_primary : IsPrimary h nearly (take c.0 primaries) c (primary_of primaries c)
  pub primary : row.primary ≡ primary_of primaries c
  pub has_pointer : Bool
  pub pointer : HasPointer h primaries c has_pointer
  pub placed : IsArrangedBy h rows primaries c class has_pointer (map (placed_place h rows c) (fronts primaries c class)) (map (placed_place h rows c) (free_bases h primaries c)) row
  -- a place for each direct non-virtual base and each virtual base; one that is held lies at its holder
  pub each_base : length row.base_places ≡ length (filter is_plain_base class.bases)
  pub virtuals : row.virtual_bases ≡ virtual_bases h c
  pub each_virtual : length row.virtual_places ≡ length (virtual_bases h c)
  pub holders : row.holders ≡ map (holder_of h primaries c) (virtual_bases h c)
  pub held : (v : ClassId) (holder : Subobject) → Contains (virtual_bases h c) v → holder_of h primaries c v ≡ Some holder → virtual_place rows c v ≡ place_in_class h rows c holder

abbrev pub is_whole : Root → Bool
is_whole Whole = true
is_whole (Shared v) = false

abbrev pub is_empty_in : Classes → Option ClassId → Bool
is_empty_in h None = false
is_empty_in h (Some d) = is_empty h d

-- an empty base of c that lies in no virtual base lies elsewhere than at its start
abbrev pub is_shifted : Classes → List ClassLayout → ClassId → Bool
is_shifted h rows c = list_any (λ (s : Subobject). is_whole s.root && (is_empty_in h (class_of s) && not (place_in_class h rows c s == 0))) (preorder h c)

-- the list tells which of the first `count` classes are nearly empty
pub record TellsNearly (h : Classes) (rows : List ClassLayout) (count : ℕ) (nearly : List Bool) : Type 0 where
  pub one_each : length nearly ≡ count
  pub each : (c : ClassId) → c.0 < count → IsTrue (get_or nearly c.0 false) ↔ IsNearlyEmpty h nearly (is_shifted h rows c) c

-- the rows are the layout of the first `count` classes, where the lists tell which of these are nearly empty, and which
-- their primary bases are
pub record IsLaidBy (h : Classes) (count : ℕ) (rows : List ClassLayout) (nearly : List Bool) (primaries : List Primary) : Type 0 where
  pub one_each : length rows ≡ count
  pub tells : TellsNearly h rows count nearly
  pub primary_each : length primaries ≡ count
  pub row : (c : ClassId) (class : Class) (row : ClassLayout) → class_at h c ≡ Some class → slice_get rows c.0 ≡ Some row → IsLaidRow h rows nearly primaries c class row

-- the rows are the layout of the first `count` classes, whichever they are
pub record AreFirstLaid (h : Classes) (count : ℕ) (rows : List ClassLayout) : Type 0 where
  pub nearly : List Bool
  pub primaries : List Primary
  pub by : IsLaidBy h count rows nearly primaries

-- the rows are the layout of all classes
abbrev pub IsLaid : Classes → List ClassLayout → Type 0
IsLaid h rows = AreFirstLaid h (length h) rows

-- a base of class c brings one pair of class and place twice, so that no place helps
pub record BringsTwice (h : Classes) (rows : List ClassLayout) (primaries : List Primary) (c : ClassId) (class : Class) : Type 0 where
  pub base : PlacedBase
  pub placed : Contains (fronts primaries c class ++ free_bases h primaries c) base
  pub repeated : HasRepeat (brought_by h rows primaries (object_parts h rows primaries) c (subobject_of c base) (class_of_placed base))
