-- What a dump says of one leaf: which values it can have, and the text of each.
use Rattle.std.specs.Prelude.{ℕ, ◌≤◌, Option, Some, None, List, codes, take, ℤ}
use Rattle.std.specs.List.{flat_map}
use Rattle.std.specs.Fmt.{signed_decimal}
use Rattle.std.specs.Int.{w64, to_le_bytes}
use Rattle.cxx_hierarchy.specs.declared.records.ClassId.{ClassId}
use Rattle.cxx_hierarchy.specs.declared.records.Scalar.{Scalar}
use Rattle.cxx_hierarchy.specs.declared.records.ValueType.{ValueType}
use Rattle.cxx_hierarchy.specs.declared.records.ValueType.TheVariants.{Number as NumberType, Pointer as PointerType}
use Rattle.cxx_hierarchy.specs.Scalars.{IsInRange, IsInWidth}
use Rattle.byte_code.specs.Numbers.{word_of}
use Rattle.abi_sound.specs.Places.{size_of_value}
use Rattle.abi_print.specs.Texts.{location_text}
use Rattle.text_told.specs.Dumps.{byte_text, unset_text}
use Rattle.abi_inspect.specs.declared.seen.SeenValue.{SeenValue}
use Rattle.abi_inspect.specs.declared.seen.SeenValue.TheVariants.{Unset, Number, Null, Place}

-- the greatest number of an object, and the greatest place, that a dump can name
abbrev pub most_dumped_number : ℕ
most_dumped_number = 4294967295

-- a number that a leaf can hold: one of its type, or of the width of a bit-field (ISO C++03 3.9.1, 9.6)
abbrev pub IsNumberOfLeaf : Option ℕ → Scalar → ℤ → Type 0
IsNumberOfLeaf None t z = IsInRange t z
IsNumberOfLeaf (Some n) t z = IsInWidth t n z

-- a place in a heap object; objects count from 1
pub record IsHeapPlace (number place : ℕ) : Type 0 where
  pub low : 1 ≤ number
  pub high : number ≤ most_dumped_number
  pub near : place ≤ most_dumped_number

-- a value that a leaf of a type, and of a width where it is a bit-field, can have
abbrev pub IsValueOf : Option ℕ → ValueType ClassId → SeenValue → Type 0
IsValueOf width (NumberType t) Unset = Unit {0}
IsValueOf width (NumberType t) (Number z) = IsNumberOfLeaf width t z
IsValueOf width (NumberType t) Null = ⊥
IsValueOf width (NumberType t) (Place number place) = ⊥
IsValueOf width (PointerType c) Unset = Unit {0}
IsValueOf width (PointerType c) (Number z) = ⊥
IsValueOf width (PointerType c) Null = Unit {0}
IsValueOf width (PointerType c) (Place number place) = IsHeapPlace number place

-- an unset leaf: `--` for each of its bytes, and for all bits of a bit-field
abbrev pub unset_value : Option ℕ → ValueType ClassId → List ℕ
unset_value None type = unset_text (size_of_value type)
unset_value (Some n) type = codes "--"

-- a number: its bytes from the low one on, in two's complement, and the number itself in a bit-field
abbrev pub number_value_text : Option ℕ → ValueType ClassId → ℤ → List ℕ
number_value_text None type z = flat_map byte_text (take (size_of_value type) (to_le_bytes w64 (word_of z)))
number_value_text (Some n) type z = signed_decimal z

-- the text of a value of a leaf
abbrev pub value_text : Option ℕ → ValueType ClassId → SeenValue → List ℕ
value_text width type Unset = unset_value width type
value_text width type (Number z) = number_value_text width type z
value_text width type Null = codes "null"
value_text width type (Place number place) = location_text number place
