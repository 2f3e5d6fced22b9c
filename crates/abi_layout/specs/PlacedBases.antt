-- Which bases of a class are placed in it, in which order, and what each is to it (Itanium C++ ABI 2.4).
use Rattle.std.specs.Prelude.{Bool, true, false, not, ◌&&◌, nat_eq, if◌then◌else◌, Option, Some, None, List, [], ◌∷◌, ◌++◌, map, filter, slice_get}
use Rattle.cxx_hierarchy.specs.declared.records.ClassId.{ClassId}
use Rattle.cxx_hierarchy.specs.declared.records.Base.{Base}
use Rattle.cxx_hierarchy.specs.Classes.{Classes}
use Rattle.cxx_hierarchy.specs.VirtualBases.{IsDirectBase, HasVirtualBase}
use Rattle.cxx_subobject.specs.declared.Root.TheVariants.{Whole}
use Rattle.cxx_subobject.specs.declared.Subobject.{Subobject}
use Rattle.cxx_subobject.specs.Subobjects.{subobject, shared_base}
use Rattle.abi_emptybase.specs.declared.Part.{Part}
use Rattle.abi_primary.specs.declared.Primary.{Primary}
use Rattle.abi_primary.specs.declared.Primary.TheVariants.{None as NoPrimary, Direct, Virtual}
use Rattle.abi_primary.specs.Holder.{holder_of}
use Rattle.abi_layout.specs.declared.component.Component.{Component}
use Rattle.abi_sound.specs.declared.class_layout.ClassLayout.{ClassLayout}
use Rattle.abi_layout.specs.declared.placed_bases.PlacedBase.{PlacedBase}
use Rattle.abi_layout.specs.declared.placed_bases.PlacedBase.TheVariants.{Own, VirtualBase}
use Rattle.abi_sound.specs.Places.{size_in_row, nvalign_in}
use Rattle.abi_layout.specs.Placements.{nvsize_in}
use Rattle.cxx_subobject.specs.VirtualBases.{virtual_bases}
use Rattle.abi_layout.specs.Brought.{brought_by}

-- the class of a base that is placed in its class, and the subobject that it is
abbrev pub class_of_placed : PlacedBase → ClassId
class_of_placed (Own b) = b
class_of_placed (VirtualBase v) = v

abbrev pub subobject_of : ClassId → PlacedBase → Subobject
subobject_of c (Own b) = subobject Whole (c ∷ b ∷ [])
subobject_of c (VirtualBase v) = shared_base v

abbrev pub first_base : Primary → List PlacedBase
first_base NoPrimary = []
first_base (Direct b) = Own b ∷ []
first_base (Virtual v) = VirtualBase v ∷ []

abbrev pub is_first_base : Primary → Base ClassId → Bool
is_first_base NoPrimary base = false
is_first_base (Direct b) base = nat_eq b.0 base.class.0
is_first_base (Virtual v) base = false

-- a direct non-virtual base that is not the primary one
abbrev pub is_other_base : Primary → Base ClassId → Bool
is_other_base primary base = not base.is_virtual && not (is_first_base primary base)

-- the bases that are placed before the members: the primary base, then the other direct non-virtual ones in the order of
-- the class head
abbrev pub front_bases : Primary → List (Base ClassId) → List PlacedBase
front_bases primary bases = first_base primary ++ map (λ (base : Base ClassId). Own base.class) (filter (is_other_base primary) bases)

abbrev pub is_free : Option Subobject → Bool
is_free None = true
is_free (Some holder) = false

-- those that are placed behind the members: the virtual bases in preorder that no subobject holds
abbrev pub free_bases : Classes → List Primary → ClassId → List PlacedBase
free_bases h primaries c = map (λ v. VirtualBase v) (filter (λ v. is_free (holder_of h primaries c v)) (virtual_bases h c))

-- what a base is to its class, by its row: it takes its size without virtual bases, and an empty one its size
abbrev pub component_of_row : ClassLayout → Bool → List Part → Component
component_of_row row is_empty parts = record { is_empty = is_empty; align = row.nvalign; takes = if is_empty then row.size else row.nvsize; width = None; parts = parts }

-- what a placed base is to its class c, where `empties` and `parts` tell which earlier classes are empty and which class
-- subobjects a complete object has: it takes its size without virtual bases, and an empty one its size
abbrev pub placed_component : (ClassId → Bool) → Classes → List ClassLayout → List Primary → (ClassId → List Part) → ClassId → PlacedBase → Component
placed_component empties h rows primaries parts c base = record {
  is_empty = empties (class_of_placed base);
  align = nvalign_in (slice_get rows (class_of_placed base).0);
  takes = if empties (class_of_placed base) then size_in_row (slice_get rows (class_of_placed base).0) else nvsize_in (slice_get rows (class_of_placed base).0);
  width = None;
  parts = brought_by h rows primaries parts c (subobject_of c base) (class_of_placed base);
}

-- a primary base is a base: a direct non-virtual one, or a virtual one
abbrev pub IsPossible : Classes → ClassId → Primary → Type 0
IsPossible h c NoPrimary = Unit {0}
IsPossible h c (Direct b) = IsDirectBase h c false b
IsPossible h c (Virtual v) = HasVirtualBase h c v
