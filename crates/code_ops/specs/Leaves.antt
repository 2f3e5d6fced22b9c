-- How the value of a leaf stands in memory, and the ops on it.
use Rattle.std.specs.Prelude.{ℕ, Option, Some, None}
use Rattle.cxx_hierarchy.specs.declared.records.ClassId.{ClassId}
use Rattle.cxx_hierarchy.specs.declared.records.ValueType.{ValueType}
use Rattle.cxx_hierarchy.specs.Classes.{width_of_member}
use Rattle.cxx_subobject.specs.Subobjects.{class_of}
use Rattle.cxx_program.specs.declared.statement.TypedPlace.{TypedPlace}
use Rattle.path_model.specs.Outs.{class_or_first}
use Rattle.byte_code.specs.declared.op.Check.{Check}
use Rattle.byte_code.specs.declared.op.Check.TheVariants.{SetLeaf, SetBits}
use Rattle.byte_code.specs.declared.op.Op.{Op}
use Rattle.byte_code.specs.declared.op.Op.TheVariants.{Load, LoadBits, Store, StoreBits, Copy, CopyBits}
use Rattle.code_ops.specs.declared.widths.LeafWidth.{LeafWidth}
use Rattle.code_ops.specs.declared.widths.LeafWidth.TheVariants.{Bytes as InBytes, Bits as InBits}
use Rattle.code_ops.specs.Setups.{Setup, places, value_width}
use Rattle.code_ops.specs.PlaceOps.{type_or_int, element_type_at}

-- a value fills its bytes; in a bit-field it has so many bits, from a first one of the byte at its place on (Itanium C++ ABI 2.4)
abbrev pub filled_width : (first : ℕ) → Option ℕ → ValueType ClassId → LeafWidth
filled_width first None type = InBytes (value_width type)
filled_width first (Some n) type = InBits first (record { bits = n; signed = (value_width type).signed })

-- how the elements of the member m of class d stand, where they are numbers or pointers
abbrev pub leaf_width : Setup → ClassId → ℕ → LeafWidth
leaf_width x d m = filled_width ((places x).first d m) (width_of_member x.h d m) (type_or_int (element_type_at x.h d m))

-- how the leaf stands that a place leads to
abbrev pub place_leaf : Setup → TypedPlace → LeafWidth
place_leaf x place = leaf_width x (class_or_first (class_of place.base)) place.member

-- the test that a leaf is set, at the address in a register
abbrev pub set_check : LeafWidth → (base : ℕ) → Check
set_check (InBytes width) base = SetLeaf base 0 width
set_check (InBits first width) base = SetBits base 0 first width

-- its value goes into a register
abbrev pub load_op : LeafWidth → (to base : ℕ) → Op
load_op (InBytes width) to base = Load to base 0 width
load_op (InBits first width) to base = LoadBits to base 0 first width

-- it takes the value of a register
abbrev pub store_op : LeafWidth → (from base offset : ℕ) → Op
store_op (InBytes width) from base offset = Store from base offset width
store_op (InBits first width) from base offset = StoreBits from base offset first width

-- it becomes what the leaf at the same distance from another address is, set or not
abbrev pub copy_op : LeafWidth → (to from offset : ℕ) → Op
copy_op (InBytes width) to from offset = Copy to from offset width.bytes
copy_op (InBits first width) to from offset = CopyBits to from offset first width.bits
