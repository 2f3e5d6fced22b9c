-- The type information of a class (Itanium C++ ABI 2.9.5).
use Rattle.std.specs.Prelude.{ℕ, ◌+◌, Bool, not, nat_eq, ◌&&◌, if◌then◌else◌, List, [], ◌∷◌, map, filter, ℤ, pos, ◌+ℤ◌, ◌*ℤ◌}
use Rattle.std.specs.List.{filter_map, flat_map}
use Rattle.cxx_hierarchy.specs.declared.records.ClassId.{ClassId}
use Rattle.cxx_hierarchy.specs.declared.records.Base.{Base}
use Rattle.cxx_hierarchy.specs.Classes.{Classes, bases_of}
use Rattle.cxx_subobject.specs.declared.Root.TheVariants.{Whole}
use Rattle.cxx_subobject.specs.Subobjects.{subobject, class_of}
use Rattle.cxx_subobject.specs.Preorder.{preorder}
use Rattle.abi_sound.specs.Places.{Places}
use Rattle.abi_slots.specs.Listing.{vbase_number}
use Rattle.abi_slots.specs.Slots.{word_number}
use Rattle.abi_slots.specs.declared.words.InfoBase.{InfoBase}
use Rattle.abi_slots.specs.declared.words.TypeInfo.{TypeInfo}
use Rattle.abi_slots.specs.declared.words.TypeInfo.TheVariants.{Plain, Single, Many}
use Rattle.abi_rtti.specs.Repeats.{has_repeat}
use Rattle.abi_slots.specs.Rows.{class_of_base}

-- the classes of the subobjects of a class
abbrev pub classes_in : Classes → ClassId → List ClassId
classes_in h c = filter_map class_of (preorder h c)

abbrev pub is_virtual_base : Base ClassId → Bool
is_virtual_base base = base.is_virtual

-- the virtual bases that the head of a class names
abbrev pub named_virtual : Classes → ClassId → List ClassId
named_virtual h d = map class_of_base (filter is_virtual_base (bases_of h d))

-- the ends of all edges to virtual bases, on a walk over all subobjects
abbrev pub virtual_edges : Classes → ClassId → List ClassId
virtual_edges h c = flat_map (named_virtual h) (classes_in h c)

abbrev pub bit : Bool → ℕ → ℕ
bit b n = if b then n else 0

-- 1 where some class has two of the subobjects, and 2 where two edges lead to one virtual base
abbrev pub shape_flags : Classes → ClassId → ℕ
shape_flags h c = bit (has_repeat (classes_in h c)) 1 + bit (has_repeat (virtual_edges h c)) 2

-- the place of a direct non-virtual base in its class
abbrev pub place_of_base : Places → ClassId → Base ClassId → ℕ
place_of_base l c base = l.place c (subobject Whole (c ∷ base.class ∷ []))

-- it is the only base, public, not virtual, and lies at the start
abbrev pub is_simple : Places → ClassId → Base ClassId → Bool
is_simple l c base = base.is_public && (not base.is_virtual && nat_eq (place_of_base l c base) 0)

-- 1 for a virtual base plus 2 for a public one
abbrev pub base_flags : Base ClassId → ℕ
base_flags base = bit base.is_virtual 1 + bit base.is_public 2

-- the place of a base; of a virtual base how far the word that leads to it lies from the address point, in bytes
abbrev pub recorded_offset : Classes → Places → ClassId → Base ClassId → ℤ
recorded_offset h l c base = if base.is_virtual then pos 8 *ℤ word_number (vbase_number h l c base.class) else pos (place_of_base l c base)

abbrev pub offset_flags : Classes → Places → ClassId → Base ClassId → ℤ
offset_flags h l c base = pos (base_flags base) +ℤ pos 256 *ℤ recorded_offset h l c base

abbrev pub info_base : Classes → Places → ClassId → Base ClassId → InfoBase
info_base h l c base = record { class = base.class; offset_flags = offset_flags h l c base }

abbrev pub all_bases : Classes → Places → ClassId → TypeInfo
all_bases h l c = Many (shape_flags h c) (map (info_base h l c) (bases_of h c))

abbrev pub info_by : Classes → Places → ClassId → List (Base ClassId) → TypeInfo
info_by h l c [] = Plain
info_by h l c (base ∷ []) = if is_simple l c base then Single base.class else all_bases h l c
info_by h l c (base ∷ other ∷ rest) = all_bases h l c

-- the type information of a class
abbrev pub type_info : Classes → Places → ClassId → TypeInfo
type_info h l c = info_by h l c (bases_of h c)
