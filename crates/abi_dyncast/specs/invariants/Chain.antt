-- How the entry of a part is found: from its bucket, along links to smaller places.
use Rattle.std.specs.Prelude.{◌≡◌, ℕ, ◌+◌, ◌/◌, ◌%◌, ◌<◌, ◌≤◌, nat_eq, nat_le, ◌&&◌, if◌then◌else◌, Bool, false, Some, List, length, get_or, slice_get, Contains}
use Rattle.abi_dyncast.specs.declared.parts.TypedPart.{TypedPart}
use Rattle.abi_dyncast.specs.declared.work.Found.{Found}
use Rattle.abi_dyncast.specs.declared.work.Entry.{Entry}

abbrev pub bucket : TypedPart → ℕ → ℕ
bucket part count = (part.at / 8 + part.info / 8) % count

abbrev pub part_entry : TypedPart → ℕ → Found → ℕ → Entry
part_entry part class found next = record { part = part; class = class; found = found; next = next }

abbrev pub is_at : TypedPart → Entry → Bool
is_at part e = nat_eq e.part.at part.at && nat_eq e.part.info part.info

abbrev pub no_entry : Entry
no_entry = part_entry (record { at = 0; info = 0 }) 0 (record { source = false; public_source = false; public_target = false }) 0

abbrev pub part_entry_at : List Entry → ℕ → Entry
part_entry_at entries j = get_or entries j no_entry

-- an entry is that of the part
pub record IsMet (entries : List Entry) (part : TypedPart) : Type 0 where
  pub entry : Entry
  pub has : Contains entries entry
  pub is : entry.part ≡ part

-- no part has two entries
abbrev pub IsEachOnce : List Entry → Type 0
IsEachOnce entries = (i j : ℕ) (x y : Entry) → slice_get entries i ≡ Some x → slice_get entries j ≡ Some y → x.part ≡ y.part → i ≡ j

-- links lead from a number to another; a number is one more than a place, and 0 ends
pub data Reach (entries : List Entry) : ℕ → ℕ → Type 0 where
  here : (to : ℕ) → Reach entries to to
  on : (from i to : ℕ) → from ≡ i + 1 → i < length entries → Reach entries (part_entry_at entries i).next to → Reach entries from to

-- the bucket of each entry leads to it, said so that it is a proposition. What a bucket without entries holds does not matter
pub record IsChained (heads : List ℕ) (entries : List Entry) : Type 0 where
  pub some : 0 < length heads
  pub falls : (j : ℕ) → j < length entries → (part_entry_at entries j).next ≤ j
  pub reached : (j : ℕ) → j < length entries → (Reach entries (get_or heads (bucket (part_entry_at entries j).part (length heads)) 0) (j + 1) → ⊥) → ⊥

-- the link of a new entry
abbrev pub link_for : List ℕ → List Entry → TypedPart → ℕ
link_for heads entries part = if nat_le (get_or heads (bucket part (length heads)) 0) (length entries) then get_or heads (bucket part (length heads)) 0 else 0
