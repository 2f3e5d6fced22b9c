-- Which layout the rules of the ABI give (Itanium C++ ABI 2.4, and 2.2 for a class that is POD).
use Rattle.std.specs.Prelude.{◌≡◌, ℕ, zero, suc, ◌+◌, ◌-◌, ◌*◌, ◌/◌, ◌≤◌, ◌<◌, true, false, if◌then◌else◌, max, Option, Some, None, List, [], ◌∷◌, ◌++◌, map, slice_get}
use Rattle.cxx_hierarchy.specs.declared.records.ClassId.{ClassId}
use Rattle.cxx_hierarchy.specs.declared.records.Member.{Member}
use Rattle.cxx_hierarchy.specs.declared.records.FieldType.{FieldType}
use Rattle.cxx_hierarchy.specs.declared.records.FieldType.TheVariants.{Value, Object}
use Rattle.cxx_hierarchy.specs.Classes.{Class}
use Rattle.abi_emptybase.specs.declared.Part.{Part}
use Rattle.abi_emptybase.specs.Table.{moved_part, has_conflict}
use Rattle.abi_layout.specs.Limits.{size_limit}
use Rattle.abi_layout.specs.declared.component.Component.{Component}
use Rattle.abi_layout.specs.declared.component.Stage.{Stage}
use Rattle.abi_sound.specs.declared.class_layout.Bits.{Bits}
use Rattle.abi_sound.specs.declared.class_layout.ClassLayout.{ClassLayout}
use Rattle.abi_sound.specs.Places.{size_of_value, size_in_row, align_in}
use Rattle.abi_sound.specs.Sound.{Divides}
pub use Rattle.abi_sound.specs.Places.{nvalign_in}
pub use Rattle.cxx_hierarchy.specs.Declarations.{elements_of}

-- place is the least multiple of align at or behind start
pub record IsNextMultiple (start align place : ℕ) : Type 0 where
  pub behind : start ≤ place
  pub multiple : Divides align place
  pub least : (other : ℕ) → start ≤ other → Divides align other → place ≤ other

-- where a component is tried: an empty base at 0, and each component at the multiples of its alignment behind the data
pub data IsCandidatePlace (stage : Stage) (component : Component) : ℕ → Type 0 where
  at_start : component.is_empty ≡ true → IsCandidatePlace stage component 0
  behind : (place : ℕ) → stage.dsize ≤ place → Divides component.align place → IsCandidatePlace stage component place

-- the component's place is the least candidate at which it brings no subobject of a class to where one of that class is
-- already
pub record IsLeastFreePlace (stage : Stage) (component : Component) (place : ℕ) : Type 0 where
  pub candidate : IsCandidatePlace stage component place
  pub free : has_conflict stage.parts component.parts place ≡ false
  pub least : (other : ℕ) → IsCandidatePlace stage component other → has_conflict stage.parts component.parts other ≡ false → place ≤ other

-- so many bits from one on lie in one unit: the bits of so many bytes, at a multiple of these
pub record IsInUnit (bytes width bit : ℕ) : Type 0 where
  pub unit : ℕ
  pub behind : unit * (8 * bytes) ≤ bit
  pub before : bit + width ≤ (unit + 1) * (8 * bytes)

-- the first free bit in the byte at a place
abbrev pub bit_in : Stage → ℕ → ℕ
bit_in stage place = max stage.free_bit (8 * place)

-- a bit-field begins at the least free bit from which on it lies in one unit of its type, and the place is that of this bit's byte
-- (Itanium C++ ABI 2.4, II.1)
pub record IsBitPlace (stage : Stage) (bytes width place : ℕ) : Type 0 where
  pub byte : stage.free_bit < 8 * place + 8
  pub fits : IsInUnit bytes width (bit_in stage place)
  pub least : (other : ℕ) → stage.free_bit ≤ other → IsInUnit bytes width other → bit_in stage place ≤ other

abbrev pub IsPlacedBy : Option ℕ → Stage → Component → ℕ → Type 0
IsPlacedBy None stage component place = IsLeastFreePlace stage component place
IsPlacedBy (Some width) stage component place = IsBitPlace stage component.align width place

-- the component lies at this place: a bit-field by bits, each other one by bytes
abbrev pub IsComponentAt : Stage → Component → ℕ → Type 0
IsComponentAt stage component place = IsPlacedBy component.width stage component place

-- how many bytes hold so many bits
abbrev pub bytes_for_bits : ℕ → ℕ
bytes_for_bits bits = (bits + 7) / 8

-- where the component ends: a bit-field with the byte of its last bit
abbrev pub end_by : Option ℕ → Stage → Component → ℕ → ℕ
end_by None stage component place = place + component.takes
end_by (Some width) stage component place = bytes_for_bits (bit_in stage place + width)

abbrev pub component_end : Stage → Component → ℕ → ℕ
component_end stage component place = end_by component.width stage component place

-- the free bit behind the component: a bit-field alone leaves the rest of its last byte free
abbrev pub free_bit_by : Option ℕ → Stage → Component → ℕ → ℕ
free_bit_by None stage component place = 8 * (if component.is_empty then stage.dsize else place + component.takes)
free_bit_by (Some width) stage component place = bit_in stage place + width

-- what the stage is once the component is placed: an empty base takes no data
abbrev pub stage_after : Stage → Component → ℕ → Stage
stage_after stage component place = record {
  dsize = if component.is_empty then stage.dsize else component_end stage component place;
  free_bit = free_bit_by component.width stage component place;
  size = max stage.size (component_end stage component place);
  align = max stage.align component.align;
  parts = stage.parts ++ map (moved_part place) component.parts;
}

-- the components lie, one after the other, at these places
abbrev pub ArePlaced : Stage → List Component → List ℕ → Type 0
ArePlaced stage [] [] = Unit {0}
ArePlaced stage [] (place ∷ places) = ⊥
ArePlaced stage (component ∷ components) [] = ⊥
ArePlaced stage (component ∷ components) (place ∷ places) = IsComponentAt stage component place × ArePlaced (stage_after stage component place) components places

-- which bits of the bytes at its place hold the component: all that it takes, or those of a bit-field
abbrev pub bits_by : Option ℕ → Stage → Component → ℕ → Bits
bits_by None stage component place = record { first = 0; width = 8 * component.takes }
bits_by (Some width) stage component place = record { first = bit_in stage place - 8 * place; width = width }

-- the bits of components that lie one after the other
abbrev pub bits_at : Stage → List Component → List ℕ → List Bits
bits_at stage [] places = []
bits_at stage (component ∷ components) [] = []
bits_at stage (component ∷ components) (place ∷ places) = bits_by component.width stage component place ∷ bits_at (stage_after stage component place) components places

-- the stage once all of them are placed
abbrev pub stage_after_all : Stage → List Component → List ℕ → Stage
stage_after_all stage [] places = stage
stage_after_all stage (component ∷ components) [] = stage
stage_after_all stage (component ∷ components) (place ∷ places) = stage_after_all (stage_after stage component place) components places

abbrev pub placed_part : ClassId → ℕ → Part
placed_part c place = record { class = c.0; place = place }

-- so many copies, each a stride further
abbrev pub copies : ℕ → ℕ → List Part → List Part
copies zero stride parts = []
copies (suc n) stride parts = copies n stride parts ++ map (moved_part (n * stride)) parts

abbrev pub nvsize_in : Option ClassLayout → ℕ
nvsize_in None = 0
nvsize_in (Some row) = row.nvsize

-- the size and the alignment of a member, or of an array's element
abbrev pub size_of_member_type : List ClassLayout → FieldType ClassId → ℕ
size_of_member_type rows (Value type) = size_of_value type
size_of_member_type rows (Object d) = size_in_row (slice_get rows d.0)

abbrev pub align_of_type : List ClassLayout → FieldType ClassId → ℕ
align_of_type rows (Value type) = size_of_value type
align_of_type rows (Object d) = align_in (slice_get rows d.0)

-- the class subobjects of a member or of an element
abbrev pub parts_of_type : (ClassId → List Part) → FieldType ClassId → List Part
parts_of_type parts (Value type) = []
parts_of_type parts (Object d) = parts d

-- what a member is to its class: it takes its whole size, an array that of all elements, and a bit-field has a width
abbrev pub member_component : List ClassLayout → (ClassId → List Part) → Member ClassId → Component
member_component rows parts member = record {
  is_empty = false;
  align = align_of_type rows member.ty;
  takes = elements_of member.count * size_of_member_type rows member.ty;
  width = member.width;
  parts = copies (elements_of member.count) (size_of_member_type rows member.ty) (parts_of_type parts member.ty);
}

abbrev pub member_components : List ClassLayout → (ClassId → List Part) → Class → List Component
member_components rows parts class = map (member_component rows parts) class.members

-- what components bring at their places
abbrev pub parts_at : List Component → List ℕ → List Part
parts_at [] places = []
parts_at (component ∷ components) [] = []
parts_at (component ∷ components) (place ∷ places) = map (moved_part place) component.parts ++ parts_at components places

-- before the first component: the class itself is at 0
abbrev pub stage_before_all : ClassId → Stage
stage_before_all c = record { dsize = 0; free_bit = 0; size = 0; align = 1; parts = placed_part c 0 ∷ [] }

-- no size of the rows is above the limit
pub record AreSmall (rows : List ClassLayout) : Type 0 where
  pub each : (number : ℕ) (row : ClassLayout) → slice_get rows number ≡ Some row → row.size ≤ size_limit
