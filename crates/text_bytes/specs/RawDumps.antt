-- The text of a dump, read from memory.
use Rattle.std.specs.Prelude.{ℕ, ◌-◌, ◌^◌, Bool, false, nat_eq, if◌then◌else◌, Option, Some, None, Result, Ok, Err, List, [], ◌++◌, codes, map, take}
use Rattle.std.specs.List.{flat_map}
use Rattle.std.specs.Fmt.{decimal, signed_decimal}
use Rattle.std.specs.Int.{w64, to_le_bytes}
use Rattle.cxx_hierarchy.specs.declared.records.ClassId.{ClassId}
use Rattle.cxx_hierarchy.specs.declared.records.ValueType.{ValueType}
use Rattle.cxx_hierarchy.specs.declared.records.ValueType.TheVariants.{Number, Pointer}
use Rattle.cxx_hierarchy.specs.Classes.{Classes, width_of_member, element_type}
use Rattle.cxx_hierarchy.specs.Scalars.{size_of, is_signed}
use Rattle.abi_sound.specs.Places.{Places, size_of_value}
use Rattle.abi_sound.specs.Locations.{bits_of_value}
use Rattle.byte_memory.specs.Store.{Store, load_of, load_bits_of}
use Rattle.byte_memory.specs.declared.memory.MemoryFault.{MemoryFault}
use Rattle.byte_code.specs.declared.code.ImageBytes.{ImageBytes}
use Rattle.byte_code.specs.Images.{word_at}
use Rattle.byte_code.specs.Numbers.{signed_in}
use Rattle.byte_machine.specs.declared.heap.Opened.{Opened}
use Rattle.byte_machine.specs.Heap.{object_at}
use Rattle.byte_machine.specs.Effects.{bytes_before}
use Rattle.byte_machine.specs.Running.{moved, table_word}
use Rattle.abi_print.specs.Texts.{location_text}
use Rattle.abi_print.specs.LayoutTexts.{bits_text, declared_class_name, value_type_text}
use Rattle.abi_print.specs.TableTexts.{optional_class_name}
use Rattle.text_told.specs.declared.items.Item.{Item}
use Rattle.text_told.specs.declared.pointers.TablePointer.{TablePointer}
use Rattle.text_told.specs.Fields.{member_at}
use Rattle.text_told.specs.Pointers.{pointers_of}
use Rattle.text_told.specs.Dumps.{by_place, byte_text, bytes_touched, lines_from, unset_text}
use Rattle.text_bytes.specs.declared.rows.LeafRow.{LeafRow}
use Rattle.text_bytes.specs.LeafRows.{leaf_rows}

-- addresses

-- the number of the heap object that has an address, and how far behind the start of that it is; nothing where none has it
abbrev pub place_text : ℕ → Option Opened → List ℕ
place_text at None = []
place_text at (Some object) = location_text object.number (at - object.start)

-- an address: `null` for 0, else its object and the place there
abbrev pub address_text : List Opened → ℕ → List ℕ
address_text objects at = if nat_eq at 0 then codes "null" else place_text at (object_at objects at)

-- virtual pointers

-- how far an address lies behind the complete object to which the offset to top in its table leads; `?` where no table is read (Itanium C++ ABI 2.5.2)
abbrev pub behind_top : ℕ → Option ℕ → List ℕ
behind_top at None = codes "?"
behind_top at (Some top) = decimal (at - moved at top)

-- the number of a class, with which its type information begins (Itanium C++ ABI 2.9.5)
abbrev pub class_of_info : ImageBytes → Option ℕ → Option ℕ
class_of_info image None = None
class_of_info image (Some info) = word_at image info

abbrev pub class_name_text : Classes → Option ℕ → List ℕ
class_name_text h None = codes "?"
class_name_text h (Some c) = declared_class_name h (record { 0 = c })

-- the virtual pointer at an address, in a subobject of a class: where that lies in its complete object, and the class of this are read in the table
abbrev pub led_text : Classes → ImageBytes → Store → ℕ → Option ClassId → List ℕ
led_text h image memory at class = codes "vptr " ++ optional_class_name h class ++ codes "@" ++ behind_top at (table_word image memory at (bytes_before 16)) ++ codes " of " ++ class_name_text h (class_of_info image (table_word image memory at (bytes_before 8)))

-- a virtual pointer of an object that starts there
abbrev pub led_item : Classes → ImageBytes → Store → ℕ → TablePointer → Item
led_item h image memory start p = record { place = p.place; first = 0; size = 8; text = led_text h image memory (moved start p.place) p.class }

-- leaves

-- the low bytes of a word as hexadecimal digits, from the lowest on
abbrev pub bytes_text : ℕ → ℕ → List ℕ
bytes_text size word = flat_map byte_text (take size (to_le_bytes w64 word))

-- a word of a leaf: the bytes of a number, and a pointer as an address
abbrev pub leaf_word_text : List Opened → ValueType ClassId → ℕ → List ℕ
leaf_word_text objects (Number t) word = bytes_text (size_of t) word
leaf_word_text objects (Pointer c) word = address_text objects word

-- what a load of a leaf of this type answers; bytes that it cannot read are shown as unset
abbrev pub loaded_text : List Opened → ValueType ClassId → Result ℕ MemoryFault → List ℕ
loaded_text objects type (Ok word) = leaf_word_text objects type word
loaded_text objects type (Err fault) = unset_text (size_of_value type)

-- the bits of a type are read as two's complement
abbrev pub is_signed_value : ValueType ClassId → Bool
is_signed_value (Number t) = is_signed t
is_signed_value (Pointer c) = false

-- what a load of so many bits of this type answers: their number; bits that it cannot read are shown as unset
abbrev pub number_text : ValueType ClassId → ℕ → Result ℕ MemoryFault → List ℕ
number_text type width (Ok low) = signed_decimal (signed_in (2 ^ width) (is_signed_value type) low)
number_text type width (Err fault) = codes "--"

-- what stands in the leaf at an address: its bytes, and of a bit-field its first bit, its width and its number (ISO C++03 9.6)
abbrev pub read_text : Store → List Opened → ℕ → Option ℕ → ℕ → ValueType ClassId → List ℕ
read_text memory objects at None first type = loaded_text objects type (load_of memory at (size_of_value type))
read_text memory objects at (Some width) first type = bits_text first width ++ codes " " ++ number_text type width (load_bits_of memory at first width)

-- the leaf at an address: what stands there, its type and its name
abbrev pub raw_leaf_text : Classes → Store → List Opened → ℕ → Option ℕ → ℕ → ValueType ClassId → List ℕ → List ℕ
raw_leaf_text h memory objects at width first type name = read_text memory objects at width first type ++ codes " " ++ value_type_text h type ++ codes " " ++ name

-- objects

abbrev pub row_by_type : Classes → Store → List Opened → ℕ → LeafRow → Option ℕ → Option (ValueType ClassId) → Item
row_by_type h memory objects start row width None = record { place = row.place; first = 0; size = 0; text = [] }
row_by_type h memory objects start row width (Some type) = record {
  place = row.place;
  first = row.first;
  size = bytes_touched row.first (bits_of_value width type);
  text = raw_leaf_text h memory objects (moved start row.place) width row.first type row.name;
}

-- a leaf of an object that starts there
abbrev pub row_item : Classes → Store → List Opened → ℕ → LeafRow → Item
row_item h memory objects start row = row_by_type h memory objects start row (width_of_member h row.class row.number) (element_type (member_at h (Some row.class) row.number))

-- what lies in an object of class c, as it stands in memory: its virtual pointers, and its leaves
abbrev pub raw_items : Classes → Places → ImageBytes → Store → List Opened → ℕ → ClassId → List Item
raw_items h l image memory objects start c = map (led_item h image memory start) (pointers_of h l c) ++ map (row_item h memory objects start) (leaf_rows h l c)

-- its lines by place, with the gaps
abbrev pub contents_lines : Classes → Places → ImageBytes → Store → List Opened → ℕ → ClassId → List ℕ
contents_lines h l image memory objects start c = lines_from (l.size c) 0 (by_place (l.size c) (raw_items h l image memory objects start c))

abbrev pub class_of_object : Opened → ClassId
class_of_object object = record { 0 = object.class }

-- the dump of a heap object: its number, class and size, and what lies in it by place, with the gaps
abbrev pub object_text : Classes → Places → ImageBytes → Store → List Opened → Opened → List ℕ
object_text h l image memory objects object = codes "dump #" ++ decimal object.number ++ codes " " ++ declared_class_name h (class_of_object object) ++ codes " " ++ decimal (l.size (class_of_object object))
    ++ lines_from (l.size (class_of_object object)) 0 (by_place (l.size (class_of_object object)) (raw_items h l image memory objects object.start (class_of_object object)))

abbrev pub dump_by : Classes → Places → ImageBytes → Store → List Opened → Option Opened → List ℕ
dump_by h l image memory objects None = []
dump_by h l image memory objects (Some object) = object_text h l image memory objects object

-- the dump of the heap object that has an address
abbrev pub raw_dump : Classes → Places → ImageBytes → Store → List Opened → ℕ → List ℕ
raw_dump h l image memory objects at = dump_by h l image memory objects (object_at objects at)
