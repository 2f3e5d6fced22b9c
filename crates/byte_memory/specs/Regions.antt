use Rattle.std.specs.Prelude.{◌≡◌, ℕ, ◌+◌, ◌*◌, ◌/◌, ◌<◌, ◌≤◌, Bool, false, nat_le, nat_eq, ◌&&◌, if◌then◌else◌, Option, Some, None, List, sum_by, slice_get}
use Rattle.std.specs.List.{find}
use Rattle.std.specs.Option.{option_or}
use Rattle.byte_memory.specs.declared.memory.Region.{Region}
use Rattle.byte_memory.specs.declared.memory.MemoryFault.{MemoryFault}
use Rattle.byte_memory.specs.declared.memory.MemoryFault.TheVariants.{Closed, Range}

-- the n bytes from an address on all lie in the region
abbrev pub holds_bytes : ℕ → ℕ → Region → Bool
holds_bytes at n region = nat_le region.start at && nat_le (at + n) (region.start + region.size)

-- the region starts there
abbrev pub starts : ℕ → Region → Bool
starts at region = nat_eq region.start at

-- why a region that was looked for can't be used, if so: there is none, or it is closed
abbrev pub fault_in : ℕ → Option Region → Option MemoryFault
fault_in at None = Some (Range at)
fault_in at (Some region) = if region.is_open then None else Some (Closed at)

-- why the n bytes from an address on can't be reached, if so
abbrev pub fault_at : List Region → ℕ → ℕ → Option MemoryFault
fault_at regions at n = fault_in at (find (holds_bytes at n) regions)

-- why n bytes can't be copied from one address to another, if so: the first reason is that of what is read
abbrev pub copy_fault : List Region → ℕ → ℕ → ℕ → Option MemoryFault
copy_fault regions from to n = option_or (fault_at regions from n) (fault_at regions to n)

-- why the region that starts there can't be closed, if so
abbrev pub close_fault : List Region → ℕ → Option MemoryFault
close_fault regions at = fault_in at (find (starts at) regions)

-- the region as closed, where it starts there
abbrev pub shut : ℕ → Region → Region
shut at region = if nat_eq region.start at then record region { is_open = false } else region

-- a size rounded up to a multiple of 16
abbrev pub rounded : ℕ → ℕ
rounded size = (size + 15) / 16 * 16

-- what the regions take together, each rounded up
abbrev pub total_of : List Region → ℕ
total_of regions = sum_by (λ region. rounded region.size) regions

-- each item ends before the later ones start
abbrev pub IsAscendingBy : {X : Type 0} → (X → ℕ) → (X → ℕ) → List X → Type 0
IsAscendingBy {X} start size xs = (i j : ℕ) (x y : X) → i < j → slice_get xs i ≡ Some x → slice_get xs j ≡ Some y → start x + size x ≤ start y

-- each region ends before the later ones start, so no address is in two of them
abbrev pub IsAscending : List Region → Type 0
IsAscending regions = IsAscendingBy (λ region. region.start) (λ region. region.size) regions

-- so many items start there or below, and the later ones start above
pub record CountsStarts {X : Type 0} (start : X → ℕ) (xs : List X) (at count : ℕ) : Type 0 where
  pub below : (k : ℕ) (x : X) → k < count → slice_get xs k ≡ Some x → start x ≤ at
  pub above : (k : ℕ) (x : X) → count ≤ k → slice_get xs k ≡ Some x → at < start x
