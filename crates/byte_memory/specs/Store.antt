use Rattle.std.specs.Prelude.{◌≡◌, ℕ, ◌+◌, ◌*◌, ◌/◌, ◌%◌, ◌<◌, ◌≤◌, ◌^◌, Bool, true, false, Option, Some, None, Result, Ok, Err, List, [], ◌∷◌, ◌++◌, All, map, MatchResult}
use Rattle.std.specs.List.{find}
use Rattle.byte_memory.specs.declared.memory.Region.{Region}
use Rattle.byte_memory.specs.declared.memory.MemoryFault.{MemoryFault}
use Rattle.byte_memory.specs.declared.memory.MemoryFault.TheVariants.{Unset, Closed, Range, NoMemory}
use Rattle.byte_memory.specs.Bits.{number_from, stored, cleared, with_bits_copied}
use Rattle.byte_memory.specs.Regions.{fault_at, starts, shut}

-- what a memory is, however it is kept: its regions, in the order in which they were opened, and its bits, None where one is unset; bit i of the byte at an address a has the place 8 * a + i
pub record Store : Type 0 where
  pub regions : List Region
  pub bit : ℕ → Option Bool

-- a memory in which no region was ever opened
abbrev pub empty : Store
empty = record { regions = []; bit = λ place. None }

-- the byte at an address, None where a bit of it is unset
unfoldable pub byte_at : Store → ℕ → Option ℕ
byte_at memory at = number_from memory.bit (8 * at) 8

-- how many bytes hold one of so many bits, from a bit of the first of them on
abbrev pub byte_span : ℕ → ℕ → ℕ
byte_span first bits = (first + bits + 7) / 8

-- what a load answers, by why its bytes can't be reached and by the number that stands there
abbrev pub answer : ℕ → Option MemoryFault → Option ℕ → Result ℕ MemoryFault
answer at (Some fault) number = Err fault
answer at None (Some number) = Ok number
answer at None None = Err (Unset at)

-- whether bits are set, by what a load of them answers
abbrev pub set_of : Result ℕ MemoryFault → Result Bool MemoryFault
set_of (Ok number) = Ok true
set_of (Err (Unset at)) = Ok false
set_of (Err (Closed at)) = Err (Closed at)
set_of (Err (Range at)) = Err (Range at)
set_of (Err NoMemory) = Err NoMemory

-- what a load of so many bits answers, from a bit of the byte at an address on
abbrev pub load_bits_of : Store → ℕ → ℕ → ℕ → Result ℕ MemoryFault
load_bits_of memory at first bits = answer at (fault_at memory.regions at (byte_span first bits)) (number_from memory.bit (8 * at + first) bits)

-- what a load of n bytes answers
abbrev pub load_of : Store → ℕ → ℕ → Result ℕ MemoryFault
load_of memory at n = answer at (fault_at memory.regions at n) (number_from memory.bit (8 * at) (8 * n))

-- the memory after the low bits of a value were stored, from a bit of the byte at an address on
abbrev pub store_bits_of : Store → ℕ → ℕ → ℕ → ℕ → Store
store_bits_of memory at first bits value = record memory { bit = stored memory.bit (8 * at + first) bits value }

-- the memory after the low n bytes of a value were stored
abbrev pub store_of : Store → ℕ → ℕ → ℕ → Store
store_of memory at n value = record memory { bit = stored memory.bit (8 * at) (8 * n) value }

-- the memory after so many bits were copied, from the same bit of both bytes on
abbrev pub copy_bits_of : Store → ℕ → ℕ → ℕ → ℕ → Store
copy_bits_of memory from to first bits = record memory { bit = with_bits_copied memory.bit (8 * from + first) (8 * to + first) bits }

-- the memory after n bytes were copied
abbrev pub copied_store : Store → ℕ → ℕ → ℕ → Store
copied_store memory from to n = record memory { bit = with_bits_copied memory.bit (8 * from) (8 * to) (8 * n) }

-- an address at which a new region of this size may be opened: each earlier region ends before it, and no bit from it on is set
pub record IsRoom (memory : Store) (at size : ℕ) : Type 0 where
  pub aligned : at % 16 ≡ 0
  pub positive : 0 < at
  pub limit : at + size < 2 ^ 41
  pub above : All (λ region. region.start + region.size ≤ at) memory.regions
  pub fresh : (place : ℕ) → 8 * at ≤ place → memory.bit place ≡ None

-- the memory after a region was opened there
abbrev pub open_of : Store → ℕ → ℕ → Store
open_of memory at size = record memory { regions = memory.regions ++ (record { start = at; size = size; is_open = true }) ∷ [] }

-- the memory after the region that starts there, of this size, was closed
abbrev pub close_of : Store → ℕ → ℕ → Store
close_of memory at size = record { regions = map (shut at) memory.regions; bit = cleared memory.bit (8 * at) (8 * size) }

-- the region that starts there was open, and is closed now
pub record Closes (old new : Store) (at : ℕ) : Type 0 where
  pub region : Region
  pub there : find (starts at) old.regions ≡ Some region
  pub is_open : region.is_open ≡ true
  pub new_is : new ≡ close_of old at region.size

-- a call that changes a memory answers why its bytes can't be reached, and leaves all as it was; where they can, it leaves the changed memory
abbrev pub IsChanged : {X : Type 0} → Result X MemoryFault → (fault : Option MemoryFault) → (old new changed : Store) → Type 0
IsChanged result found old new changed = MatchResult result (λ _. (found ≡ None) × (new ≡ changed)) (λ fault. (found ≡ Some fault) × (new ≡ old))
