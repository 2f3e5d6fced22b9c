-- The text of a dump: what lies in a heap object, by place.
use Rattle.std.specs.Prelude.{◌≡◌, ◌<◌, ℕ, zero, suc, ◌+◌, ◌-◌, ◌*◌, ◌/◌, ◌%◌, max, Bool, nat_eq, nat_lt, if◌then◌else◌, Option, Some, None, List, [], ◌∷◌, ◌++◌, codes, filter, map, take, length, Contains}
use Rattle.std.specs.List.{flat_map, range_with_len}
use Rattle.std.specs.Fmt.{decimal, signed_decimal}
use Rattle.std.specs.Int.{w64, to_le_bytes}
use Rattle.cxx_hierarchy.specs.declared.records.ClassId.{ClassId}
use Rattle.cxx_hierarchy.specs.declared.records.ValueType.{ValueType}
use Rattle.cxx_hierarchy.specs.declared.records.FieldType.TheVariants.{Value as ValueField}
use Rattle.cxx_hierarchy.specs.Classes.{Classes}
use Rattle.path_model.specs.declared.outs.Value.{Value}
use Rattle.path_model.specs.declared.outs.Value.TheVariants.{Unset, Number, Null, Pointer}
use Rattle.path_model.specs.declared.outs.DumpLeaf.{DumpLeaf}
use Rattle.byte_code.specs.Numbers.{word_of}
use Rattle.abi_sound.specs.Places.{Places, size_of_value}
use Rattle.abi_sound.specs.Locations.{bits_of_value, last_member}
use Rattle.abi_print.specs.LayoutTexts.{bits_text, declared_class_name, value_type_text}
use Rattle.abi_print.specs.TableTexts.{optional_class_name}
use Rattle.text_told.specs.declared.pointers.TablePointer.{TablePointer}
use Rattle.text_told.specs.declared.items.Item.{Item}
use Rattle.text_told.specs.Fields.{Names, NamesPart, location_place, part_text, field_name_text, first_value_bit, type_behind, bit_field_width}
use Rattle.text_told.specs.Pointers.{pointers_of}

abbrev pub NamesValue : Classes → Value → Type 0
NamesValue h Unset = Unit {0}
NamesValue h (Number z) = Unit {0}
NamesValue h Null = Unit {0}
NamesValue h (Pointer at) = NamesPart h at

-- the leaves that a dump tells are numbers and pointers of an object of class c, and a pointer names a class subobject
pub record IsDumpedLeaf (h : Classes) (c : ClassId) (leaf : DumpLeaf) : Type 0 where
  pub class : leaf.at.class ≡ c
  pub type : ValueType ClassId
  pub names : Names h (ValueField type) leaf.at
  pub value : NamesValue h leaf.value

pub record AreDumpedLeaves (h : Classes) (c : ClassId) (leaves : List DumpLeaf) : Type 0 where
  pub known : c.0 < length h
  pub each : (leaf : DumpLeaf) → Contains leaves leaf → IsDumpedLeaf h c leaf

-- bytes

abbrev pub hex_digit : ℕ → ℕ
hex_digit n = if nat_lt n 10 then 48 + n else 87 + n

-- a byte as two hexadecimal digits
abbrev pub byte_text : ℕ → List ℕ
byte_text byte = hex_digit (byte / 16) ∷ hex_digit (byte % 16) ∷ []

-- as many unset bytes
abbrev pub unset_text : ℕ → List ℕ
unset_text zero = []
unset_text (suc n) = unset_text n ++ codes "--"

-- the bytes of a leaf: none of an unset one is known, those of a number are its two's complement from the low one on, and a
-- pointer is said by its object and place
abbrev pub stored_text : Classes → Places → ℕ → Value → List ℕ
stored_text h l size Unset = unset_text size
stored_text h l size (Number z) = flat_map byte_text (take size (to_le_bytes w64 (word_of z)))
stored_text h l size Null = codes "null"
stored_text h l size (Pointer at) = part_text h l at

-- the number of a bit-field, or that it is unset
abbrev pub kept_text : Value → List ℕ
kept_text Unset = codes "--"
kept_text (Number z) = signed_decimal z
kept_text other = []

-- how a leaf is shown: its bytes, and of a bit-field its first bit, its width and its number (ISO C++03 9.6)
abbrev pub held_text : Classes → Places → Option ℕ → ℕ → ValueType ClassId → Value → List ℕ
held_text h l None first type value = stored_text h l (size_of_value type) value
held_text h l (Some width) first type value = bits_text first width ++ codes " " ++ kept_text value

-- items

-- how many bytes hold one of so many bits, from a bit of the first of them on
abbrev pub bytes_touched : ℕ → ℕ → ℕ
bytes_touched first bits = (first + bits + 7) / 8

-- what a leaf holds, its type and its name
abbrev pub leaf_text : Classes → Places → Option ℕ → ℕ → ValueType ClassId → DumpLeaf → List ℕ
leaf_text h l width first type leaf = held_text h l width first type leaf.value ++ codes " " ++ value_type_text h type ++ codes " " ++ field_name_text h leaf.at.hops

abbrev pub leaf_by_type : Classes → Places → DumpLeaf → Option ℕ → ℕ → Option (ValueType ClassId) → Item
leaf_by_type h l leaf width first None = record { place = location_place h l leaf.at; first = 0; size = 0; text = [] }
leaf_by_type h l leaf width first (Some type) = record { place = location_place h l leaf.at; first = first; size = bytes_touched first (bits_of_value width type); text = leaf_text h l width first type leaf }

-- a leaf that is an element of a member
abbrev pub member_leaf_item : Classes → Places → DumpLeaf → Option (ClassId × ℕ) → Item
member_leaf_item h l leaf member = leaf_by_type h l leaf (bit_field_width h member) (first_value_bit l member) (type_behind h (Some leaf.at.class) leaf.at.hops)

abbrev pub leaf_item : Classes → Places → DumpLeaf → Item
leaf_item h l leaf = member_leaf_item h l leaf (last_member h (Some leaf.at.class) leaf.at.hops)

-- the table to which a virtual pointer points
abbrev pub table_pointer_text : Classes → TablePointer → List ℕ
table_pointer_text h p = codes "vptr " ++ optional_class_name h p.class ++ codes "@" ++ decimal p.in_object ++ codes " of " ++ declared_class_name h p.object

abbrev pub pointer_item : Classes → TablePointer → Item
pointer_item h p = record { place = p.place; first = 0; size = 8; text = table_pointer_text h p }

abbrev pub dump_items : Classes → Places → ClassId → List DumpLeaf → List Item
dump_items h l c leaves = map (pointer_item h) (pointers_of h l c) ++ map (leaf_item h l) leaves

-- lines: each begins with the line feed that ends the one before it

-- the bit at which an item begins, counted from the first bit of the object
abbrev pub bit_of : Item → ℕ
bit_of item = 8 * item.place + item.first

abbrev pub begins_at : ℕ → Item → Bool
begins_at bit item = nat_eq (bit_of item) bit

-- the items of an object of this size by place, and at one place by their first bits: for each bit those that begin there
abbrev pub by_place : ℕ → List Item → List Item
by_place size items = flat_map (λ bit. filter (begins_at bit) items) (range_with_len 0 (8 * size))

-- the bytes from a place to another, if there are any, have nothing in them
abbrev pub gap_text : ℕ → ℕ → List ℕ
gap_text from to = if nat_lt from to then codes "\n" ++ decimal from ++ codes " pad " ++ decimal (to - from) else []

abbrev pub item_text : Item → List ℕ
item_text item = codes "\n" ++ decimal item.place ++ codes " " ++ item.text

-- the lines from a place to the end: before each item the gap between that place and the item, and behind the last one the rest. What
-- is before the place is no gap any more, so that a byte which two bit-fields share is counted once
abbrev pub lines_from : ℕ → ℕ → List Item → List ℕ
lines_from end at [] = gap_text at end
lines_from end at (item ∷ items) = gap_text at item.place ++ item_text item ++ lines_from end (max at (item.place + item.size)) items

-- the virtual pointers and leaves of an object of class c by place, and the gaps
abbrev pub object_lines : Classes → Places → ClassId → List DumpLeaf → List ℕ
object_lines h l c leaves = lines_from (l.size c) 0 (by_place (l.size c) (dump_items h l c leaves))

-- the dump of the heap object of a number: its class and size, and what lies in it
abbrev pub dump_text : Classes → Places → ℕ → ClassId → List DumpLeaf → List ℕ
dump_text h l n c leaves = codes "dump #" ++ decimal n ++ codes " " ++ declared_class_name h c ++ codes " " ++ decimal (l.size c) ++ object_lines h l c leaves
