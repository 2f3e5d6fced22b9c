-- What the dump of a run shows of an object: the values of its leaves, in the order of its lines.
use Rattle.std.specs.Prelude.{◌≡◌, ℕ, ◌*◌, Bool, Some, List, Contains, filter, map}
use Rattle.std.specs.List.{flat_map, range_with_len}
use Rattle.cxx_hierarchy.specs.declared.records.ClassId.{ClassId}
use Rattle.cxx_hierarchy.specs.declared.records.ValueType.{ValueType}
use Rattle.cxx_hierarchy.specs.Classes.{Classes}
use Rattle.path_model.specs.declared.outs.Value.{Value}
use Rattle.path_model.specs.declared.outs.Value.TheVariants.{Unset, Number, Null, Pointer}
use Rattle.path_model.specs.declared.outs.DumpLeaf.{DumpLeaf}
use Rattle.abi_sound.specs.Places.{Places}
use Rattle.abi_sound.specs.Locations.{last_member}
use Rattle.text_told.specs.Fields.{location_place, type_behind, bit_field_width}
use Rattle.text_told.specs.Dumps.{begins_at, leaf_item}
use Rattle.abi_inspect.specs.declared.seen.SeenValue.{SeenValue}
use Rattle.abi_inspect.specs.declared.seen.SeenValue.TheVariants.{Unset as SeenUnset, Number as SeenNumber, Null as SeenNull, Place}
use Rattle.abi_inspect.specs.declared.seen.Seen.{Seen}
use Rattle.abi_inspect.specs.Values.{IsValueOf}

-- what is shown of a value: a pointer by the number of its object, and by the place there in bytes
abbrev pub seen_value : Classes → Places → Value → SeenValue
seen_value h l Unset = SeenUnset
seen_value h l (Number z) = SeenNumber z
seen_value h l Null = SeenNull
seen_value h l (Pointer at) = Place at.object (location_place h l at)

-- the line of a leaf begins at this bit of the object
abbrev pub leaf_begins_at : Classes → Places → ℕ → DumpLeaf → Bool
leaf_begins_at h l bit leaf = begins_at bit (leaf_item h l leaf)

-- the leaves of an object of this size by place, and at one place by their first bits: for each bit those that begin there
abbrev pub leaves_by_place : Classes → Places → ℕ → List DumpLeaf → List DumpLeaf
leaves_by_place h l size leaves = flat_map (λ bit. filter (leaf_begins_at h l bit) leaves) (range_with_len 0 (8 * size))

-- what the dump of the heap object of a number shows: its class, and the value of each leaf, in the order of the lines
abbrev pub seen_of : Classes → Places → ℕ → ClassId → List DumpLeaf → Seen
seen_of h l n c leaves = record { object = n; class = c; leaves = map (λ leaf. seen_value h l leaf.value) (leaves_by_place h l (l.size c) leaves) }

-- the value of a leaf is one that it can have: none yet, a number that its type can hold, or its width where it is a bit-field, null, or
-- a place that a dump can name (ISO C++03 3.9.1, 9.6)
pub record ValueFits (h : Classes) (l : Places) (leaf : DumpLeaf) : Type 0 where
  pub type : ValueType ClassId
  pub leads : type_behind h (Some leaf.at.class) leaf.at.hops ≡ Some type
  pub value : IsValueOf (bit_field_width h (last_member h (Some leaf.at.class) leaf.at.hops)) type (seen_value h l leaf.value)

-- so are the values of all
abbrev pub ValuesFit : Classes → Places → List DumpLeaf → Type 0
ValuesFit h l leaves = (leaf : DumpLeaf) → Contains leaves leaf → ValueFits h l leaf
