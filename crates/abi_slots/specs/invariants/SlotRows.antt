-- The rows of the classes before one.
use Rattle.std.specs.Prelude.{◌≡◌, ℕ, ◌<◌, ◌≤◌, true, Some, List, length, slice_get, ℤ}
use Rattle.cxx_hierarchy.specs.declared.records.ClassId.{ClassId}
use Rattle.cxx_hierarchy.specs.Classes.{Classes}
use Rattle.abi_primary.specs.declared.Primary.{Primary}
use Rattle.abi_primary.specs.declared.Primary.TheVariants.{None as NoPrimary, Direct, Virtual}
use Rattle.abi_sound.specs.Places.{Places}
use Rattle.abi_slots.specs.declared.rows.SlotRow.{SlotRow}
use Rattle.abi_slots.specs.declared.words.Offset.{Offset}
use Rattle.abi_slots.specs.Limits.{most_offsets}
use Rattle.abi_slots.specs.Listing.{offsets}
use Rattle.abi_slots.specs.invariants.OffsetWords.{name_number, AreWords}
use Rattle.abi_slots.specs.Slots.{IsVirtualBase, IsSlotRow}

-- each row has what its class lists, where numbers are those of the functions by their signatures
pub record AreSlotRows (h : Classes) (l : Places) (numbers : List (List ℕ)) (rows : List SlotRow) : Type 0 where
  pub each : (c : ClassId) (row : SlotRow) → slice_get rows c.0 ≡ Some row → IsSlotRow h l numbers c row

-- the primary base is one of the first n classes
abbrev pub IsPrimaryBefore : ℕ → Primary → Type 0
IsPrimaryBefore n NoPrimary = Unit {0}
IsPrimaryBefore n (Direct b) = b.0 < n
IsPrimaryBefore n (Virtual v) = v.0 < n

-- a virtual primary base is a virtual base
abbrev pub IsShared : Classes → Primary → Type 0
IsShared h NoPrimary = Unit {0}
IsShared h (Direct b) = Unit {0}
IsShared h (Virtual v) = IsVirtualBase h v

-- what a class lists as a virtual base, where it is one, with the numbers of its vcall words
pub record ListsShared (h : Classes) (l : Places) (numbers : List (List ℕ)) (count : ℕ) (c : ClassId) (xs : List Offset) (words : List ℤ) : Type 0 where
  pub few : length xs ≤ most_offsets
  pub listed : IsVirtualBase h c → xs ≡ offsets h l true c
  pub size : IsVirtualBase h c → length words ≡ count
  pub words_are : IsVirtualBase h c → AreWords (name_number numbers) xs words
