-- Places that are listed by address and class.
use Rattle.std.specs.Prelude.{◌≡◌, ℕ, ◌+◌, ◌-◌, ◌*◌, ◌^◌, ◌<◌, Bool, nat_eq, ◌&&◌, if◌then◌else◌, Some, List, slice_get}
use Rattle.std.specs.List.{find}
use Rattle.byte_memory.specs.Regions.{IsAscendingBy}
use Rattle.byte_shadow.specs.declared.near_list.NearPlace.{NearPlace}

-- the order of places: by the address, and at one address the higher class first
abbrev pub rank_of_place : ℕ → ℕ → ℕ
rank_of_place at class = at * 65536 + (65535 - class)

abbrev pub near_rank : {T : Type 0} → NearPlace T → ℕ
near_rank item = rank_of_place item.at item.class

-- the place of a class at an address
abbrev pub is_near_at : {T : Type 0} → ℕ → ℕ → NearPlace T → Bool
is_near_at at class item = nat_eq item.at at && nat_eq item.class class

-- each place ranks above the earlier ones
abbrev pub AscendingNear : {T : Type 0} → List (NearPlace T) → Type 0
AscendingNear items = IsAscendingBy near_rank (λ item. 1) items

-- each place has an address of 32 bits, and the number of a class of 16
abbrev pub AreNarrow : {T : Type 0} → List (NearPlace T) → Type 0
AreNarrow {T} items = (k : ℕ) (item : NearPlace T) → slice_get items k ≡ Some item → (item.at < 2 ^ 32) × (item.class < 2 ^ 16)

-- this is what is listed of its place now, and of all other places it stays, as what is found tells
abbrev pub IsNearListed : {T : Type 0} → (old new : List (NearPlace T)) → NearPlace T → Type 0
IsNearListed old new item = (at class : ℕ) → find (is_near_at at class) new ≡ (if nat_eq item.at at && nat_eq item.class class then Some item else find (is_near_at at class) old)

-- a place after another one was put near it, with something else beside
abbrev pub with_other : {T : Type 0} → NearPlace T → ℕ → ℕ → T → NearPlace T
with_other item class distance what = record item { other_class = class; distance = distance; what = what }
