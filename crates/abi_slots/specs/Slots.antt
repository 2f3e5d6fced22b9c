-- The numbers of the words of virtual tables, by class and function, and the tables in which they are kept.
use Rattle.std.specs.Prelude.{◌≡◌, ℕ, ◌+◌, true, false, ◌&&◌, Option, Some, None, List, map, length, slice_get, Contains, ℤ, pos, ◌-ℤ◌}
use Rattle.std.specs.List.{list_any, find}
use Rattle.cxx_hierarchy.specs.declared.records.ClassId.{ClassId}
use Rattle.cxx_hierarchy.specs.Classes.{Classes}
use Rattle.cxx_hierarchy.specs.Hierarchies.{IsHierarchy}
use Rattle.cxx_hierarchy.specs.VirtualBases.{HasVirtualBase}
use Rattle.cxx_overrider.specs.declared.FunctionId.{FunctionId}
use Rattle.cxx_overrider.specs.Functions.{Signature, named, destructor, signature_of}
use Rattle.cxx_overrider.specs.invariants.Numbers.{number_of, IsNumbering}
use Rattle.abi_sound.specs.Places.{Places}
use Rattle.abi_slots.specs.declared.words.CodeKind.{CodeKind}
use Rattle.abi_slots.specs.declared.words.CodeKind.TheVariants.{Plain, Complete}
use Rattle.abi_slots.specs.declared.words.EntryKey.{EntryKey}
use Rattle.abi_slots.specs.declared.rows.SlotRow.{SlotRow}
use Rattle.abi_slots.specs.declared.slots.Slots.{Slots}
use Rattle.cxx_overrider.specs.Virtuals.{same_name, own}
use Rattle.abi_slots.specs.Listing.{entry_key, same_entry_key, listing, entries, offsets, is_offset_of_name, entry_number, vbase_number, vcall_number}

-- the number of a word from the address point, where offsets are counted from the third word before it downwards
abbrev pub word_number : ℕ → ℤ
word_number n = pos 0 -ℤ pos (n + 3)

abbrev pub first_kind : Option Signature → CodeKind
first_kind None = Plain
first_kind (Some (named n types)) = Plain
first_kind (Some destructor) = Complete

-- the key of a function's entry; of a destructor the complete one's
abbrev pub first_key : Classes → FunctionId → EntryKey
first_key h f = entry_key f (first_kind (signature_of h f))

-- some class has it as a virtual base
pub record IsVirtualBase (h : Classes) (v : ClassId) : Type 0 where
  pub of : ClassId
  pub has : HasVirtualBase h of v

-- the first virtual function that class c declares which has this entry in the tables of c
abbrev pub declared_at : Classes → Places → ClassId → EntryKey → Option FunctionId
declared_at h l c k = find (λ f. same_name h f k.function && same_entry_key (listing h l (entry_key f k.kind)) k) (own h c)

-- what is kept of class c, where rows number the functions by their signatures
pub record IsSlotRow (h : Classes) (l : Places) (rows : List (List ℕ)) (c : ClassId) (row : SlotRow) : Type 0 where
  pub lists_entries : row.entries ≡ entries h l c
  pub declares : row.declared ≡ map (declared_at h l c) (entries h l c)
  pub entry : (f : FunctionId) → Contains (own h c) f → slice_get row.numbers f.index ≡ Some (entry_number h l (first_key h f))
  pub lists_offsets : row.offsets ≡ offsets h l false c
  pub vbase : (v : ClassId) → HasVirtualBase h c v → slice_get row.vbases v.0 ≡ Some (word_number (vbase_number h l c v))
  pub lists_shared : IsVirtualBase h c → row.shared_offsets ≡ offsets h l true c
  pub vcall : IsVirtualBase h c → (f : FunctionId) (n : ℕ) → number_of rows f ≡ Some n → list_any (is_offset_of_name h f) (offsets h l true c) ≡ true → slice_get row.vcalls n ≡ Some (word_number (vcall_number h l c f))

-- what is kept of the classes of a hierarchy, over places
pub record AreSlots (h : Classes) (l : Places) (slots : Slots) : Type 0 where
  pub keeps : IsHierarchy h
  pub size : length slots.rows.items ≡ length h
  pub numbering : IsNumbering h slots.numbering.rows.items slots.numbering.count
  pub each : (c : ClassId) (row : SlotRow) → slice_get slots.rows.items c.0 ≡ Some row → IsSlotRow h l slots.numbering.rows.items c row
