-- The words of an image while it is made.
use Rattle.std.specs.Prelude.{◌≡◌, ℕ, zero, suc, ◌+◌, ◌*◌, ◌<◌, ◌≤◌, ◌^◌, Option, Some, None, List, [], ◌∷◌, ◌++◌, map, length, slice_get, slice_index_or, take}
use Rattle.cxx_hierarchy.specs.declared.records.ClassId.{ClassId}
use Rattle.byte_code.specs.Numbers.{word_of}
use Rattle.abi_slots.specs.declared.words.ThisAdjust.{ThisAdjust}
use Rattle.abi_slots.specs.declared.words.ReturnAdjust.{ReturnAdjust}
use Rattle.abi_slots.specs.declared.words.InfoBase.{InfoBase}
use Rattle.abi_slots.specs.declared.words.TypeInfo.{TypeInfo}
use Rattle.abi_slots.specs.declared.words.VttWord.{VttWord}
use Rattle.abi_slots.specs.declared.words.Table.{Table}
use Rattle.abi_slots.specs.declared.words.Group.{Group}
use Rattle.abi_slots.specs.Images.{Image, this_constant, this_vcall, return_constant, return_vbase, info_bases, info_flags, HasBaseWords, all_words, vtt_address}
use Rattle.abi_image.specs.declared.TheConstants.{BASE}
use Rattle.abi_image.specs.declared.draft.Draft.{Draft}

-- each item, at its address: one word after the other from an address
abbrev pub AllAt : {A : Type 0} → (ℕ → A → Type 0) → List A → ℕ → Type 0
AllAt {A} P xs at = (i : ℕ) (x : A) → slice_get xs i ≡ Some x → P (at + 8 * i) x

-- words stand in an image from an address on
pub record WordsStandAt (image : Image) (at : ℕ) (words : List ℕ) : Type 0 where
  pub each : AllAt (λ a w. image a ≡ Some w) words at

abbrev pub sum_of_sizes : List ℕ → ℕ
sum_of_sizes [] = 0
sum_of_sizes (n ∷ ns) = n + sum_of_sizes ns

-- where the item of a number stands, of items that take so many words each and stand from an address on
abbrev pub address_of : List ℕ → ℕ → ℕ → ℕ
address_of [] at i = at
address_of (size ∷ sizes) at zero = at
address_of (size ∷ sizes) at (suc i) = address_of sizes (at + 8 * size) i

-- each item, with its number and at its address
abbrev pub AllBySize : {A : Type 0} → (A → ℕ) → (ℕ → A → ℕ → Type 0) → List A → ℕ → Type 0
AllBySize {A} size P xs at = (i : ℕ) (x : A) → slice_get xs i ≡ Some x → P i x (address_of (map size xs) at i)

-- the address at a number in a list of addresses
abbrev pub address_in : List ℕ → ℕ → ℕ
address_in list i = slice_index_or list i BASE

abbrev pub class_address : List ℕ → ClassId → ℕ
class_address list c = address_in list c.0

-- an image that has the words of a draft
pub record HasDraftWords (image : Image) (draft : Draft) : Type 0 where
  pub words : WordsStandAt image BASE draft.words.items
  pub records : WordsStandAt image draft.records_at draft.records.items

-- so many words are put behind those of a draft, and for each of them at most six words behind its records; what is said of the address
-- of the words then holds of each image that has the new draft
pub record Puts (old new : Draft) (count : ℕ) (Says : Image → ℕ → Type 0) : Type 0 where
  pub words : List ℕ
  pub count_is : length words ≡ count
  pub words_are : new.words.items ≡ old.words.items ++ words
  pub records : List ℕ
  pub records_are : new.records.items ≡ old.records.items ++ records
  pub few : length records ≤ 6 * count
  pub same_place : new.records_at ≡ old.records_at
  pub says : (image : Image) → HasDraftWords image new → Says image (BASE + 8 * length old.words.items)

-- the words of a thunk
abbrev pub thunk_words : Option ThisAdjust → Option ReturnAdjust → List ℕ
thunk_words this result = word_of (this_constant this) ∷ word_of (this_vcall this) ∷ word_of (return_vbase result) ∷ word_of (return_constant result) ∷ []

-- the words of the record of an entry that stands at an address, with its thunk behind
abbrev pub record_words : ℕ → ℕ → Option ThisAdjust → Option ReturnAdjust → List ℕ
record_words at code None None = code ∷ 0 ∷ []
record_words at code (Some this) result = code ∷ (at + 16) ∷ thunk_words (Some this) result
record_words at code None (Some result) = code ∷ (at + 16) ∷ thunk_words None (Some result)

-- at most the words of one record are put behind others
pub record AddsRecord (old new : List ℕ) : Type 0 where
  pub more : List ℕ
  pub few : length more ≤ 6
  pub is : new ≡ old ++ more

-- behind the records of a draft there are addresses for those of so many words more
abbrev pub HasRecordRoom : Draft → ℕ → Type 0
HasRecordRoom draft words = draft.records_at + 8 * (length draft.records.items + 6 * words) < 2 ^ 64

-- and behind its words for so many words more
abbrev pub HasWordRoom : Draft → ℕ → Type 0
HasWordRoom draft words = BASE + 8 * (length draft.words.items + words) < 2 ^ 64

-- the bases of a class, two words each
abbrev pub HasBasesAt : Image → (info : ClassId → ℕ) → List InfoBase → ℕ → Type 0
HasBasesAt image info bases at = (i : ℕ) (base : InfoBase) → slice_get bases i ≡ Some base → HasBaseWords image info base (at + 16 * i)

-- where the first base stands behind a record at an address, 0 where there is none
abbrev pub first_base_address : ℕ → ℕ → ℕ
first_base_address at zero = 0
first_base_address at (suc n) = at + 32

-- the four words of the record of a class
pub record HasHead (image : Image) (c : ClassId) (info : TypeInfo) (at : ℕ) : Type 0 where
  pub class : image at ≡ Some c.0
  pub flags : image (at + 8) ≡ Some (info_flags info)
  pub count : image (at + 16) ≡ Some (length (info_bases info))
  pub first : image (at + 24) ≡ Some (first_base_address at (length (info_bases info)))
  pub class_fits : c.0 < 2 ^ 32
  pub flags_fit : info_flags info < 2 ^ 32
  pub count_fits : length (info_bases info) < 2 ^ 32

-- the words of the directory: the first address point of each class, and the address of its VTT
abbrev pub HaveClassWords : Image → (firsts vtt_at : List ℕ) → List (List VttWord) → ℕ → Type 0
HaveClassWords image firsts vtt_at vtts at = (c : ℕ) (vtt : List VttWord) → slice_get vtts c ≡ Some vtt →
    (image (at + 16 * c) ≡ Some (slice_index_or firsts c 0)) × (image (at + 16 * c + 8) ≡ Some (vtt_address (address_in vtt_at c) vtt))

-- how many words they take

abbrev pub group_size : Group → ℕ
group_size group = length (all_words group.tables)

abbrev pub vtt_size : List VttWord → ℕ
vtt_size words = length words

abbrev pub info_size : TypeInfo → ℕ
info_size info = 4 + 2 * length (info_bases info)

abbrev pub one_word : {A : Type 0} → A → ℕ
one_word x = 1

abbrev pub two_words : {A : Type 0} → A → ℕ
two_words x = 2

abbrev pub table_size : Table → ℕ
table_size table = length table.words

-- the first n items were put behind the words of a draft, each with its number
pub record Fills {A : Type 0} (size : A → ℕ) (P : Image → ℕ → A → ℕ → Type 0) (xs : List A) (n : ℕ) (old new : Draft) : Type 0 where
  pub puts : Puts old new (sum_of_sizes (map size (take n xs))) (λ image at. AllBySize size (P image) (take n xs) at)
