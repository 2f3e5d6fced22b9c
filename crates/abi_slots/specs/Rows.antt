-- What is kept of each class.
use Rattle.std.specs.Prelude.{◌≡◌, ℕ, Bool, true, false, Option, Some, None, List, [], ◌∷◌, ◌++◌, map, length, slice_get, slice_set, if◌then◌else◌, option_map}
use Rattle.std.specs.List.{find}
use Rattle.cxx_hierarchy.specs.declared.records.ClassId.{ClassId}
use Rattle.cxx_hierarchy.specs.declared.records.Base.{Base}
use Rattle.cxx_hierarchy.specs.Classes.{Classes}
use Rattle.cxx_overrider.specs.declared.FunctionId.{FunctionId}
use Rattle.abi_primary.specs.declared.Primary.{Primary}
use Rattle.abi_sound.specs.Places.{Places}
use Rattle.abi_slots.specs.declared.words.EntryKey.{EntryKey}
use Rattle.abi_slots.specs.declared.words.Offset.{Offset}
use Rattle.abi_slots.specs.declared.entries.Listing.{Listing}
use Rattle.abi_slots.specs.declared.words.CodeKind.{CodeKind}
use Rattle.abi_slots.specs.declared.words.CodeKind.TheVariants.{Plain, Complete, Deleting}
use Rattle.abi_slots.specs.Listing.{same_entry_key, first_position, own_keys, listing, shares, or_itself, is_nonvirtual_primary, is_secondary_base}
use Rattle.cxx_overrider.specs.Virtuals.{own}

-- a key with the entry that it shares, or its own
abbrev pub listing_of_key : EntryKey → Option EntryKey → Listing
listing_of_key k shared = record { key = k; entry = or_itself k shared }

-- the keys with their entries, where these are the entries of the primary base
abbrev pub listed_all : Classes → Places → List EntryKey → List EntryKey → List Listing
listed_all h l old keys = map (λ k. listing_of_key k (find (shares h l k) old)) keys

-- what a key adds to the entries
abbrev pub own_part : EntryKey → Option EntryKey → List EntryKey
own_part k None = k ∷ []
own_part k (Some entry) = []

-- a base that is the non-virtual primary one, or another non-virtual one
abbrev pub is_chosen : Primary → Bool → Base ClassId → Bool
is_chosen p true base = is_nonvirtual_primary p base
is_chosen p false base = is_secondary_base p base

abbrev pub class_of_base : Base ClassId → ClassId
class_of_base base = base.class

-- the lists have the virtual functions that each class declares
pub record AreOwn (h : Classes) (lists : List (List FunctionId)) : Type 0 where
  pub size : length lists ≡ length h
  pub each : (c : ClassId) (list : List FunctionId) → slice_get lists c.0 ≡ Some list → list ≡ own h c

-- what a function of paths and classes gives for a base, one more class behind the path
abbrev pub below : (List ClassId → ClassId → List Offset) → List ClassId → ClassId → List Offset
below f path b = f (path ++ b ∷ []) b

-- the entry is this one
abbrev pub has_entry : EntryKey → Listing → Bool
has_entry k listing = same_entry_key listing.entry k

abbrev pub listing_function : Listing → FunctionId
listing_function listing = listing.key.function

-- the function of the first key that has the entry
abbrev pub listed_function : List Listing → EntryKey → Option FunctionId
listed_function listings k = option_map listing_function (find (has_entry k) listings)

-- it is the key by which a function's entry is numbered, and no destructor's second one
abbrev pub is_first : CodeKind → Bool
is_first Plain = true
is_first Complete = true
is_first Deleting = false

-- the numbers of entries, when that of one key more is kept
abbrev pub with_entry : List EntryKey → List ℕ → Listing → List ℕ
with_entry entries numbers listing = if is_first listing.key.kind then slice_set numbers listing.key.function.index (first_position (same_entry_key listing.entry) entries) else numbers

-- under the index of each function stands the number of its entry
pub record AreEntryNumbers (entries : List EntryKey) (listings : List Listing) (numbers : List ℕ) : Type 0 where
  pub each : (j : ℕ) (x : Listing) → slice_get listings j ≡ Some x → is_first x.key.kind ≡ true → slice_get numbers x.key.function.index ≡ Some (first_position (same_entry_key x.entry) entries)

-- one index has one entry
pub record HaveOneEntry (listings : List Listing) : Type 0 where
  pub each : (i j : ℕ) (x y : Listing) → slice_get listings i ≡ Some x → slice_get listings j ≡ Some y → is_first x.key.kind ≡ true → is_first y.key.kind ≡ true → x.key.function.index ≡ y.key.function.index → x.entry ≡ y.entry

-- the keys of a class's own with their entries
abbrev pub listing_of : Classes → Places → EntryKey → Listing
listing_of h l k = record { key = k; entry = listing h l k }

abbrev pub listings_of : Classes → Places → ClassId → List Listing
listings_of h l c = map (listing_of h l) (own_keys h c)
