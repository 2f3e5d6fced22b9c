-- What a base brings where it is placed: class subobjects, by their places from its start (Itanium C++ ABI 2.4).
use Rattle.std.specs.Prelude.{ℕ, zero, suc, ◌+◌, if◌then◌else◌, Option, Some, None, List, [], ◌∷◌, ◌++◌, map, slice_get}
use Rattle.std.specs.List.{flat_map}
use Rattle.cxx_hierarchy.specs.declared.records.ClassId.{ClassId}
use Rattle.cxx_hierarchy.specs.declared.records.Base.{Base}
use Rattle.cxx_hierarchy.specs.Classes.{Classes, bases_of, members_of}
use Rattle.cxx_subobject.specs.declared.Subobject.{Subobject}
use Rattle.cxx_subobject.specs.Subobjects.{base_subobject, shared_base}
use Rattle.abi_emptybase.specs.declared.Part.{Part}
use Rattle.abi_emptybase.specs.Table.{moved_part}
use Rattle.abi_primary.specs.declared.Primary.{Primary}
use Rattle.abi_sound.specs.declared.class_layout.ClassLayout.{ClassLayout}
use Rattle.abi_sound.specs.Places.{member_places_in, direct_base_place}
use Rattle.abi_layout.specs.Placements.{placed_part, parts_at, member_component}
use Rattle.abi_layout.specs.Holding.{held_base}

-- the class subobjects of the objects in the members that d declares, where `parts` tells those of a complete object
abbrev pub parts_in_members : Classes → List ClassLayout → (ClassId → List Part) → ClassId → List Part
parts_in_members h rows parts d = parts_at (map (member_component rows parts) (members_of h d)) (member_places_in (slice_get rows d.0))

-- what s brings by a direct base of its class d, where `next` tells what a subobject of a class before brings: nothing by
-- a virtual one
abbrev pub base_brings : Classes → List ClassLayout → (Subobject → ClassId → List Part) → Subobject → ClassId → Base ClassId → List Part
base_brings h rows next s d base = if base.is_virtual then [] else map (moved_part (direct_base_place h rows d base.class)) (next (base_subobject s base) base.class)

abbrev pub virtual_brings : (Subobject → ClassId → List Part) → Option ClassId → List Part
virtual_brings next None = []
virtual_brings next (Some v) = next (shared_base v) v

-- what the subobject s, of class d, of an object of class c brings: itself, the objects in its members, its non-virtual
-- bases with what they bring, and the virtual base that it holds with what that brings. Each step goes to a class of a
-- smaller number
abbrev pub brought : Classes → List ClassLayout → List Primary → (ClassId → List Part) → ClassId → ℕ → Subobject → ClassId → List Part
brought h rows primaries parts c zero s d = []
brought h rows primaries parts c (suc steps) s d =
    (placed_part d 0 ∷ parts_in_members h rows parts d)
    ++ (flat_map (base_brings h rows (brought h rows primaries parts c steps) s d) (bases_of h d)
    ++ virtual_brings (brought h rows primaries parts c steps) (held_base h primaries c s d))

abbrev pub brought_by : Classes → List ClassLayout → List Primary → (ClassId → List Part) → ClassId → Subobject → ClassId → List Part
brought_by h rows primaries parts c s d = brought h rows primaries parts c (d.0 + 1) s d
