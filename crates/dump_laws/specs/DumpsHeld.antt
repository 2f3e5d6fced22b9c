-- When the memory of a byte machine holds what a run tells as a dump.
use Rattle.std.specs.Prelude.{◌≡◌, ℕ, ◌+◌, ◌*◌, ◌^◌, ◌<◌, Option, Some, None, List, [], ◌∷◌, Contains, slice_get}
use Rattle.cxx_hierarchy.specs.declared.records.ClassId.{ClassId}
use Rattle.cxx_hierarchy.specs.declared.records.ValueType.{ValueType}
use Rattle.cxx_hierarchy.specs.Classes.{Classes}
use Rattle.cxx_subobject.specs.declared.locations.Location.{Location}
use Rattle.path_model.specs.declared.outs.DumpLeaf.{DumpLeaf}
use Rattle.path_model.specs.declared.outs.Out.{Out}
use Rattle.path_model.specs.declared.outs.Out.TheVariants.{Dump}
use Rattle.path_model.specs.declared.outs.Value.{Value}
use Rattle.path_model.specs.declared.outs.Value.TheVariants.{Unset, Number, Null, Pointer}
use Rattle.abi_sound.specs.Places.{Places}
use Rattle.abi_sound.specs.Locations.{leaf_span}
use Rattle.byte_memory.specs.Bits.{number_from}
use Rattle.byte_code.specs.Numbers.{low_in}
use Rattle.byte_machine.specs.declared.heap.Opened.{Opened}
use Rattle.byte_machine.specs.declared.turn.RawOut.{RawOut}
use Rattle.byte_machine.specs.declared.turn.RawOut.TheVariants.{Dump as RawDump}
use Rattle.byte_machine.specs.Heap.{object_at}
use Rattle.byte_machine.specs.Turn.{ByteState}
use Rattle.code_ops.specs.Setups.{Setup, places}
use Rattle.text_told.specs.Fields.{location_place, type_behind}

-- the address of a part that a pointer names: where the heap object of its number starts, and its place there
pub record IsAddressOf (h : Classes) (l : Places) (objects : List Opened) (at : Location) (address : ℕ) : Type 0 where
  pub index : ℕ
  pub number : at.object ≡ index + 1
  pub object : Opened
  pub listed : slice_get objects index ≡ Some object
  pub named : object.number ≡ at.object
  pub class : object.class ≡ at.class.0
  pub is : address ≡ object.start + location_place h l at

-- what so many bits read as is a value: nothing where it is unset, a number modulo how many there are, null is 0, and a pointer the address of its part
abbrev pub HoldsValue : Classes → Places → List Opened → ℕ → Value → Option ℕ → Type 0
HoldsValue h l objects bits Unset word = word ≡ None
HoldsValue h l objects bits (Number z) word = word ≡ Some (low_in (2 ^ bits) z)
HoldsValue h l objects bits Null word = word ≡ Some 0
HoldsValue h l objects bits (Pointer at) word = (address : ℕ) × (word ≡ Some address) × IsAddressOf h l objects at address

-- the bits of a leaf, at its place by a layout in an object of class c that starts there, are its value; where it is unset, so is each of them
pub record HoldsLeaf (h : Classes) (l : Places) (b : ByteState) (start : ℕ) (c : ClassId) (leaf : DumpLeaf) : Type 0 where
  pub type : ValueType ClassId
  pub leads : type_behind h (Some c) leaf.at.hops ≡ Some type
  pub value : HoldsValue h l b.objects (leaf_span h l c leaf.at.hops).length leaf.value
      (number_from b.memory.bit (8 * start + (leaf_span h l c leaf.at.hops).start) (leaf_span h l c leaf.at.hops).length)
  pub unset : leaf.value ≡ Unset → (i : ℕ) → i < (leaf_span h l c leaf.at.hops).length → b.memory.bit (8 * start + (leaf_span h l c leaf.at.hops).start + i) ≡ None

-- the machine told one address and nothing else; the heap object that has it is that of the dump, and each leaf stands there in memory
pub record HoldsDump (h : Classes) (l : Places) (b : ByteState) (told : List RawOut) (number : ℕ) (c : ClassId) (leaves : List DumpLeaf) : Type 0 where
  pub at : ℕ
  pub alone : told ≡ RawDump at ∷ []
  pub object : Opened
  pub found : object_at b.objects at ≡ Some object
  pub number_is : object.number ≡ number
  pub class : object.class ≡ c.0
  pub leaf : (leaf : DumpLeaf) → Contains leaves leaf → (leaf.at.object ≡ number) × (leaf.at.class ≡ c) × HoldsLeaf h l b object.start c leaf

-- each dump of the step is told by the machine and stands in its memory, and the machine tells no other
pub record AgreeOnDumps (x : Setup) (b : ByteState) (told : List RawOut) (outs : List Out) : Type 0 where
  pub holds : (number : ℕ) (c : ClassId) (leaves : List DumpLeaf) → Contains outs (Dump number c leaves) → HoldsDump x.h (places x) b told number c leaves
  pub no_more : (at : ℕ) → Contains told (RawDump at) → (number : ℕ) × (c : ClassId) × (leaves : List DumpLeaf) × Contains outs (Dump number c leaves)
