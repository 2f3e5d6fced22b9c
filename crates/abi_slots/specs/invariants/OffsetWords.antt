-- The numbers of words, by the numbers of what they lead to.
use Rattle.std.specs.Prelude.{◌≡◌, ℕ, zero, suc, ◌<◌, Bool, false, nat_eq, if◌then◌else◌, Option, Some, None, List, length, slice_set, slice_index_or, ℤ, pos, negsuc}
use Rattle.std.specs.List.{list_any}
use Rattle.cxx_overrider.specs.invariants.Numbers.{number_of}
use Rattle.abi_slots.specs.declared.words.Offset.{Offset}
use Rattle.abi_slots.specs.declared.words.Offset.TheVariants.{ToBase, ToOverrider}
use Rattle.abi_slots.specs.Listing.{first_position}
use Rattle.abi_slots.specs.Slots.{word_number}

-- the number of the virtual base to which an offset leads
abbrev pub virtual_base_number : Offset → Option ℕ
virtual_base_number (ToBase v) = Some v.0
virtual_base_number (ToOverrider path f) = None

-- the number of the signature for which an offset is listed, where rows number the functions
abbrev pub name_number : List (List ℕ) → Offset → Option ℕ
name_number rows (ToBase v) = None
name_number rows (ToOverrider path f) = number_of rows f

abbrev pub has_number : ℕ → Option ℕ → Bool
has_number n None = false
has_number n (Some m) = nat_eq n m

-- the number of the word of the first offset that passes, and 0 where none does
abbrev pub first_offset_number : (Offset → Bool) → List Offset → ℤ
first_offset_number p xs = if list_any p xs then word_number (first_position p xs) else pos 0

-- for each number the number of the word of the first offset that has it
pub record AreWords (number : Offset → Option ℕ) (xs : List Offset) (words : List ℤ) : Type 0 where
  pub each : (n : ℕ) → n < length words → slice_index_or words n (pos 0) ≡ first_offset_number (λ x. has_number n (number x)) xs

-- what stands, or the word of the offset at a place, where 0 stands
abbrev pub first_word : ℤ → ℕ → ℤ
first_word (pos zero) place = word_number place
first_word (pos (suc n)) place = pos (suc n)
first_word (negsuc n) place = negsuc n

-- the numbers, when one more offset stands at a place
abbrev pub with_offset_word : ℕ → Option ℕ → List ℤ → List ℤ
with_offset_word place None words = words
with_offset_word place (Some n) words = slice_set words n (first_word (slice_index_or words n (pos 0)) place)
