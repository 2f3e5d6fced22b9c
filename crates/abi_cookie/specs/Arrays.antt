-- Arrays in a memory, and how `new[]` makes and `delete[]` ends them (Itanium C++ ABI 2.7; ISO C++03 5.3.4, 5.3.5).
use Rattle.std.specs.Prelude.{◌≡◌, ℕ, ◌+◌, ◌-◌, ◌*◌, ◌<◌, ◌≤◌, ◌^◌, ◌⊎◌, true, nat_eq, if◌then◌else◌, Some, None, Ok, List, [], All, map, reverse}
use Rattle.std.specs.List.{find, range_with_len}
use Rattle.byte_memory.specs.declared.memory.Region.{Region}
use Rattle.byte_memory.specs.declared.memory.MemoryFault.{MemoryFault}
use Rattle.byte_memory.specs.declared.memory.MemoryFault.TheVariants.{NoMemory}
use Rattle.byte_memory.specs.Regions.{starts, close_fault}
use Rattle.byte_memory.specs.Store.{Store, IsRoom, load_of, store_of, open_of}
use Rattle.abi_cookie.specs.Cookies.{array_bytes}

-- where element i lies, behind element 0
abbrev pub element_at : ℕ → ℕ → ℕ → ℕ
element_at first size i = first + i * size

-- where the n elements lie, in their order
abbrev pub elements : ℕ → ℕ → ℕ → List ℕ
elements first size n = map (element_at first size) (range_with_len 0 n)

-- the elements that are ended, in their order: from the last to the first behind a cookie, and none without one
abbrev pub ended_elements : ℕ → ℕ → ℕ → ℕ → List ℕ
ended_elements first size cookie n = if nat_eq cookie 0 then [] else reverse (elements first size n)

-- each region has a byte at least, as `open` asks
pub record AreOpened (memory : Store) : Type 0 where
  pub sizes : All (λ (region : Region). 0 < region.size) memory.regions

-- n elements lie from `first` on in the region that starts a cookie before; where it is open and there is a cookie, the 8 bytes before
-- `first` hold n
pub record IsArray (memory : Store) (size cookie n first : ℕ) : Type 0 where
  pub some : 1 ≤ n
  pub region : Region
  pub there : find (starts region.start) memory.regions ≡ Some region
  pub behind : first ≡ region.start + cookie
  pub length : region.size ≡ array_bytes size cookie n
  pub below : first + n * size < 2 ^ 41
  pub count : 0 < cookie → region.is_open ≡ true → load_of memory (first - 8) 8 ≡ Ok n

-- the memory after the count was stored before `first`, where there is a cookie
abbrev pub count_stored : Store → ℕ → ℕ → ℕ → Store
count_stored memory cookie n first = if nat_eq cookie 0 then memory else store_of memory (first - 8) 8 n

-- a region was opened for n elements, element 0 lies behind its cookie, and the count was stored; nothing else changed
pub record MakesArray (old new : Store) (size cookie n first : ℕ) : Type 0 where
  pub start : ℕ
  pub room : IsRoom old start (array_bytes size cookie n)
  pub behind : first ≡ start + cookie
  pub new_is : new ≡ count_stored (open_of old start (array_bytes size cookie n)) cookie n first

-- why a region that starts there is not closed: it is closed already, or else there was no memory for the addresses
abbrev pub IsCloseRefusal : Store → ℕ → MemoryFault → Type 0
IsCloseRefusal memory start fault = (close_fault memory.regions start ≡ Some fault) ⊎ ((close_fault memory.regions start ≡ None) × (fault ≡ NoMemory))

-- nothing but bits behind `first` differs
pub record DiffersBehind (old new : Store) (first : ℕ) : Type 0 where
  pub regions : new.regions ≡ old.regions
  pub before : (place : ℕ) → place < 8 * first → new.bit place ≡ old.bit place
