-- How values stand in registers and in bits.
use Rattle.std.specs.Prelude.{◌≡◌, ℕ, ◌+◌, ◌<◌, ◌^◌, Bool, Option, Some, None, List, map}
use Rattle.cxx_hierarchy.specs.declared.records.ClassId.{ClassId}
use Rattle.path_model.specs.Values.{Value, Unset, Number, Null, Pointer}
use Rattle.byte_memory.specs.Bits.{number_from}
use Rattle.byte_memory.specs.declared.memory.Region.{Region}
use Rattle.byte_code.specs.Numbers.{low_in}
use Rattle.abi_sound.specs.Locations.{Span}
use Rattle.agree_parts.specs.Heaps.{Heap}
use Rattle.agree_parts.specs.Addresses.{address}
use Rattle.agree_relation.specs.Worlds.{World, world_classes, places_in}

-- the heap objects of a state, each where its region starts
abbrev pub start_in : Region → ℕ
start_in region = region.start

abbrev pub heap_of : List ClassId → List Region → Heap
heap_of classes regions = record { classes = classes; starts = map start_in regions }

-- a value as a number: a number stands modulo how many there are, and a pointer is the address of its part; unset is none
abbrev pub word_modulo : World → Heap → ℕ → Value → Option ℕ
word_modulo w g count Unset = None
word_modulo w g count (Number z) = Some (low_in count z)
word_modulo w g count Null = Some 0
word_modulo w g count (Pointer p) = Some (address (world_classes w) (places_in w) g p)

-- in so many bits
abbrev pub word_of_value : World → Heap → ℕ → Value → Option ℕ
word_of_value w g n v = word_modulo w g (2 ^ n) v

-- in a register
abbrev pub register_word : World → Heap → Value → Option ℕ
register_word w g v = word_modulo w g (256 ^ 8) v

-- bits are a value, and each of them is unset where it has none
pub record AreBitsOf (w : World) (g : Heap) (v : Value) (bit : ℕ → Option Bool) (span : Span) : Type 0 where
  pub is : number_from bit span.start span.length ≡ word_of_value w g span.length v
  pub unset : v ≡ Unset → (i : ℕ) → i < span.length → bit (span.start + i) ≡ None
