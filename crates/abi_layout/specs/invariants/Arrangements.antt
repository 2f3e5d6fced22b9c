-- A class whose components are placed, and its row (Itanium C++ ABI 2.4).
use Rattle.std.specs.Prelude.{◌≡◌, ℕ, ◌<◌, ◌≤◌, Bool, if◌then◌else◌, ◌⊎◌, Option, List, map}
use Rattle.abi_emptybase.specs.declared.Part.{Part}
use Rattle.cxx_hierarchy.specs.declared.stop.Stop.{Stop}
use Rattle.cxx_hierarchy.specs.declared.stop.Stop.TheVariants.{NoMemory, Refused, Limit}
use Rattle.cxx_hierarchy.specs.declared.stop.Rule.TheVariants.{SharedPlace}
use Rattle.cxx_hierarchy.specs.declared.stop.LimitNo.TheVariants.{L6}
use Rattle.abi_layout.specs.Limits.{size_limit}
use Rattle.abi_layout.specs.declared.component.Component.{Component}
use Rattle.abi_layout.specs.declared.component.Stage.{Stage}
use Rattle.cxx_subobject.specs.declared.Subobject.{Subobject}
use Rattle.abi_sound.specs.declared.class_layout.ClassLayout.{ClassLayout}
use Rattle.abi_layout.specs.declared.arrangement.Arrangement.{Arrangement}
use Rattle.abi_layout.specs.Placements.{stage_after_all}
use Rattle.abi_layout.specs.invariants.Alignments.{IsAlignment, LieUpTo}
use Rattle.abi_layout.specs.Layouts.{IsLayoutBy}
use Rattle.cxx_hierarchy.specs.declared.records.ClassId.{ClassId}
use Rattle.cxx_hierarchy.specs.Classes.{Classes}
use Rattle.abi_primary.specs.declared.Primary.{Primary}
use Rattle.abi_layout.specs.declared.known.Known.{Known}
use Rattle.abi_layout.specs.declared.placed_bases.PlacedBase.{PlacedBase}
use Rattle.abi_layout.specs.invariants.Known.{empties_in, known_parts_of}
use Rattle.abi_layout.specs.PlacedBases.{placed_component}
use Rattle.abi_layout.specs.Repeats.{SomeRepeats}

-- the stage behind a virtual pointer, if there is one, with these class subobjects
abbrev pub stage_with : Bool → List Part → Stage
stage_with has_pointer parts = record { dsize = if has_pointer then 8 else 0; free_bit = if has_pointer then 64 else 0; size = if has_pointer then 8 else 0; align = if has_pointer then 8 else 1; parts = parts }

-- the row of a class that is arranged so, with its primary base, its virtual bases, and the places of its bases
abbrev pub row_from : Arrangement → Primary → (base_places : List ℕ) (virtual_bases : List ClassId) (virtual_places : List ℕ) (holders : List (Option Subobject)) → ClassLayout
row_from a primary base_places virtual_bases virtual_places holders = record { size = a.size; align = a.align; dsize = a.dsize; nvsize = a.nvsize; nvalign = a.nvalign; primary = primary; base_places = base_places; virtual_bases = virtual_bases; virtual_places = virtual_places; holders = holders; member_places = a.member_places; member_bits = a.member_bits }

-- the row is the layout by these components, whichever the primary base is and wherever the bases lie; and the class
-- subobjects are those of the last stage
pub record IsArranged (first : Stage) (fronts members frees : List Component) (is_pod : Bool) (a : Arrangement) : Type 0 where
  pub laid : (primary : Primary) (base_places : List ℕ) (virtual_bases : List ClassId) (virtual_places : List ℕ) (holders : List (Option Subobject)) → IsLayoutBy first fronts members frees a.front_places a.free_places is_pod (row_from a primary base_places virtual_bases virtual_places holders)
  pub parts : a.parts ≡ (stage_after_all (stage_after_all (stage_after_all first fronts a.front_places) members a.member_places) frees a.free_places).parts

-- within the limit of sizes
pub record IsWithinLimit (a : Arrangement) : Type 0 where
  pub align : IsAlignment a.align
  pub nvalign : IsAlignment a.nvalign
  pub nvsize : a.nvsize ≤ a.size
  pub size : a.size ≤ size_limit
  pub parts : LieUpTo a.size a.parts
  pub members : LieUpTo a.nvsize a.member_parts

-- each row that is the layout by these components passes the limit of sizes
pub record IsTooLargeBy (first : Stage) (fronts members frees : List Component) (is_pod : Bool) : Type 0 where
  pub large : (front_places free_places : List ℕ) (row : ClassLayout) → IsLayoutBy first fronts members frees front_places free_places is_pod row → size_limit < row.size

-- the class is within the limit of sizes, and some base of it brings one pair of class and place twice, so that no place
-- helps
pub record LeavesNoPlace (first : Stage) (fronts members frees : List Component) (is_pod : Bool) : Type 0 where
  pub arrangement : Arrangement
  pub arranged : IsArranged first fronts members frees is_pod arrangement
  pub small : arrangement.size ≤ size_limit
  pub repeats : SomeRepeats fronts ⊎ SomeRepeats frees

-- what an error tells of a class with these components, whose name stands at this place: want of memory, or its size, or else a
-- shared place
abbrev pub IsRefusal : Stage → (fronts members frees : List Component) → (is_pod : Bool) (place : ℕ) → Stop → Type 0
IsRefusal first fronts members frees is_pod place stop =
    (stop ≡ NoMemory)
    ⊎ (((stop ≡ Limit L6) × IsTooLargeBy first fronts members frees is_pod)
    ⊎ ((stop ≡ Refused SharedPlace place) × LeavesNoPlace first fronts members frees is_pod))

-- what placed bases are to their class, by what is known of the classes before it
abbrev pub components_by : Classes → List ClassLayout → List Known → List Primary → ClassId → List PlacedBase → List Component
components_by h rows known primaries c bases = map (placed_component (empties_in known) h rows primaries (known_parts_of known) c) bases
