-- The lines of a dump of an object, by its class and a layout alone: what each says but the value of a leaf.
use Rattle.std.specs.Prelude.{ℕ, ◌+◌, ◌-◌, ◌*◌, max, Bool, nat_eq, nat_lt, if◌then◌else◌, Option, Some, None, List, [], ◌∷◌, ◌++◌, codes, filter, map}
use Rattle.std.specs.List.{flat_map, range_with_len}
use Rattle.std.specs.Fmt.{decimal}
use Rattle.cxx_hierarchy.specs.declared.records.ClassId.{ClassId}
use Rattle.cxx_hierarchy.specs.declared.records.ValueType.{ValueType}
use Rattle.cxx_hierarchy.specs.Classes.{Classes, width_of_member, element_type}
use Rattle.abi_sound.specs.Places.{Places}
use Rattle.abi_sound.specs.Locations.{bits_of_value}
use Rattle.text_told.specs.declared.items.Item.{Item}
use Rattle.text_told.specs.Fields.{member_at}
use Rattle.text_told.specs.Pointers.{pointers_of}
use Rattle.text_told.specs.Dumps.{bytes_touched, pointer_item}
use Rattle.text_bytes.specs.declared.rows.LeafRow.{LeafRow}
use Rattle.text_bytes.specs.LeafRows.{leaf_rows}
use Rattle.abi_inspect.specs.declared.slots.Slot.{Slot}
use Rattle.abi_inspect.specs.declared.slots.Row.{Row}
use Rattle.abi_inspect.specs.declared.slots.Row.TheVariants.{Fixed, Leaf}

-- what lies in an object

-- a virtual pointer, of which the whole line is known
abbrev pub pointer_slot : Item → Slot
pointer_slot item = record { place = item.place; first = item.first; size = item.size; row = Fixed (decimal item.place ++ codes " " ++ item.text) }

-- a leaf, by its width and its type
abbrev pub typed_leaf_slot : LeafRow → Option ℕ → Option (ValueType ClassId) → Slot
typed_leaf_slot row width None = record { place = row.place; first = 0; size = 0; row = Fixed [] }
typed_leaf_slot row width (Some type) = record {
  place = row.place;
  first = row.first;
  size = bytes_touched row.first (bits_of_value width type);
  row = Leaf (record { place = row.place; bits = record { first = row.first; width = width }; ty = type; name = row.name });
}

abbrev pub leaf_slot : Classes → LeafRow → Slot
leaf_slot h row = typed_leaf_slot row (width_of_member h row.class row.number) (element_type (member_at h (Some row.class) row.number))

-- the virtual pointers and leaves of an object of class c (Itanium C++ ABI 2.4, 2.5)
abbrev pub slots_of : Classes → Places → ClassId → List Slot
slots_of h l c = map pointer_slot (map (pointer_item h) (pointers_of h l c)) ++ map (leaf_slot h) (leaf_rows h l c)

-- their order

-- the bit at which a slot begins, counted from the first bit of the object
abbrev pub slot_bit : Slot → ℕ
slot_bit slot = 8 * slot.place + slot.first

abbrev pub slot_starts_at : ℕ → Slot → Bool
slot_starts_at bit slot = nat_eq (slot_bit slot) bit

-- the slots of an object of this size by place, and at one place by their first bits: for each bit those that begin there
abbrev pub slots_by_place : ℕ → List Slot → List Slot
slots_by_place size slots = flat_map (λ bit. filter (slot_starts_at bit) slots) (range_with_len 0 (8 * size))

-- the bytes from a place to another, if there are any, have nothing in them
abbrev pub gap_rows : ℕ → ℕ → List Row
gap_rows from to = if nat_lt from to then Fixed (decimal from ++ codes " pad " ++ decimal (to - from)) ∷ [] else []

-- the lines from a place to the end: before each slot the gap between that place and the slot, and behind the last one the rest. What
-- is before the place is no gap any more, so that a byte which two bit-fields share is counted once
abbrev pub rows_from : ℕ → ℕ → List Slot → List Row
rows_from end at [] = gap_rows at end
rows_from end at (slot ∷ slots) = gap_rows at slot.place ++ slot.row ∷ rows_from end (max at (slot.place + slot.size)) slots

-- the lines of an object of class c behind the first line of its dump
abbrev pub rows_of : Classes → Places → ClassId → List Row
rows_of h l c = rows_from (l.size c) 0 (slots_by_place (l.size c) (slots_of h l c))
