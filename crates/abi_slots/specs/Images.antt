-- What an image has for virtual tables, VTTs and type information: words at addresses (Itanium C++ ABI 2.5.2, 2.6.2, 2.9.5).
use Rattle.std.specs.Prelude.{◌≡◌, ℕ, zero, suc, ◌+◌, ◌*◌, ◌<◌, ◌≤◌, ◌^◌, Option, Some, None, List, [], ◌∷◌, length, slice_get, ℤ, pos}
use Rattle.std.specs.List.{flat_map}
use Rattle.byte_code.specs.Numbers.{word_of}
use Rattle.cxx_hierarchy.specs.declared.records.ClassId.{ClassId}
use Rattle.cxx_subobject.specs.Subobjects.{whole_of}
use Rattle.cxx_overrider.specs.declared.FunctionId.{FunctionId}
use Rattle.abi_slots.specs.declared.code_numbers.CodeRow.{CodeRow}
use Rattle.abi_slots.specs.declared.words.CodeKind.{CodeKind}
use Rattle.abi_slots.specs.declared.words.ThisAdjust.{ThisAdjust}
use Rattle.abi_slots.specs.declared.words.ReturnAdjust.{ReturnAdjust}
use Rattle.abi_slots.specs.declared.words.EntryWord.{EntryWord}
use Rattle.abi_slots.specs.declared.words.EntryWord.TheVariants.{Unused, Pure, Code}
use Rattle.abi_slots.specs.declared.words.TableWord.{TableWord}
use Rattle.abi_slots.specs.declared.words.TableWord.TheVariants.{Vcall, Vbase, Top, Info, Entry}
use Rattle.abi_slots.specs.declared.words.Table.{Table}
use Rattle.abi_slots.specs.declared.words.GroupName.{GroupName}
use Rattle.abi_slots.specs.declared.words.Group.{Group}
use Rattle.abi_slots.specs.declared.words.VttWord.{VttWord}
use Rattle.abi_slots.specs.declared.words.InfoBase.{InfoBase}
use Rattle.abi_slots.specs.declared.words.TypeInfo.{TypeInfo}
use Rattle.abi_slots.specs.declared.words.TypeInfo.TheVariants.{Plain, Single, Many}
use Rattle.abi_slots.specs.CodeRows.{code_of, block_kind}

-- the word at each address, none where no word stands
abbrev pub Image : Type 0
Image = ℕ → Option ℕ

-- the word of a signed number stands at an address
abbrev pub HasNumber : Image → ℕ → ℤ → Type 0
HasNumber image at number = image at ≡ Some (word_of number)

-- a byte offset, or 0 where there is none
abbrev pub number_or_zero : Option ℤ → ℤ
number_or_zero None = pos 0
number_or_zero (Some number) = number

abbrev pub this_constant : Option ThisAdjust → ℤ
this_constant None = pos 0
this_constant (Some adjust) = adjust.constant

abbrev pub this_vcall : Option ThisAdjust → ℤ
this_vcall None = pos 0
this_vcall (Some adjust) = number_or_zero adjust.vcall

abbrev pub return_constant : Option ReturnAdjust → ℤ
return_constant None = pos 0
return_constant (Some adjust) = adjust.constant

abbrev pub return_vbase : Option ReturnAdjust → ℤ
return_vbase None = pos 0
return_vbase (Some adjust) = number_or_zero adjust.vbase

-- the four words of a thunk
pub record IsThunk (image : Image) (at : ℕ) (this : Option ThisAdjust) (result : Option ReturnAdjust) : Type 0 where
  pub above : 0 < at
  pub this_add : HasNumber image at (this_constant this)
  pub this_word : HasNumber image (at + 8) (this_vcall this)
  pub return_word : HasNumber image (at + 16) (return_vbase result)
  pub return_add : HasNumber image (at + 24) (return_constant result)

-- the thunk of adjustments stands at an address, which is 0 where nothing is adjusted
abbrev pub HasThunk : Image → ℕ → Option ThisAdjust → Option ReturnAdjust → Type 0
HasThunk image at None None = at ≡ 0
HasThunk image at (Some this) result = IsThunk image at (Some this) result
HasThunk image at None (Some result) = IsThunk image at None (Some result)

-- the word of an entry: 0 where nothing runs, else the address of the number of its code, behind which stands the address of
-- its thunk
pub data HasEntry (image : Image) (codes : List CodeRow) (at : ℕ) : EntryWord → Type 0 where
  unused : image at ≡ Some 0 → HasEntry image codes at Unused
  pure : (f : FunctionId) → image at ≡ Some 0 → HasEntry image codes at (Pure f)
  runs : (f : FunctionId) (kind : CodeKind) (this : Option ThisAdjust) (result : Option ReturnAdjust) (record_at code thunk : ℕ) →
      0 < record_at → image at ≡ Some record_at → code_of codes f (block_kind kind) ≡ Some code → code < 2 ^ 32 → image record_at ≡ Some code →
      image (record_at + 8) ≡ Some thunk → HasThunk image thunk this result → HasEntry image codes at (Code f kind this result)

-- a word of a table, where the records of classes stand at these addresses
abbrev pub HasWord : Image → List CodeRow → (info : ClassId → ℕ) → ℕ → TableWord → Type 0
HasWord image codes info at (Vcall distance f) = HasNumber image at distance
HasWord image codes info at (Vbase distance v) = HasNumber image at distance
HasWord image codes info at (Top distance) = HasNumber image at distance
HasWord image codes info at (Info c) = image at ≡ Some (info c)
HasWord image codes info at (Entry entry) = HasEntry image codes at entry

abbrev pub words_of : Table → List TableWord
words_of table = table.words

-- the words of tables, one table after the other without gaps
abbrev pub all_words : List Table → List TableWord
all_words tables = flat_map words_of tables

-- a group stands at an address
abbrev pub StandsAt : Image → List CodeRow → (info : ClassId → ℕ) → Group → ℕ → Type 0
StandsAt image codes info group at = (i : ℕ) (word : TableWord) → slice_get (all_words group.tables) i ≡ Some word → HasWord image codes info (at + 8 * i) word

-- how many words stand before the address point of the n-th table: those of the tables before it, and its own
abbrev pub point_words : List Table → ℕ → ℕ
point_words [] n = 0
point_words (table ∷ tables) zero = table.before
point_words (table ∷ tables) (suc n) = length table.words + point_words tables n

-- the address point of the n-th of tables that stand at an address
abbrev pub point_at : ℕ → List Table → ℕ → ℕ
point_at at tables n = at + 8 * point_words tables n

-- type information

abbrev pub info_flags : TypeInfo → ℕ
info_flags Plain = 0
info_flags (Single c) = 0
info_flags (Many flags bases) = flags

-- the one simple base is public and at the start: 2, and 256 times 0
abbrev pub info_bases : TypeInfo → List InfoBase
info_bases Plain = []
info_bases (Single c) = (record { class = c; offset_flags = pos 2 }) ∷ []
info_bases (Many flags bases) = bases

-- the two words of a base in a record: the address of its class's record, and where it lies and what it is
pub record HasBaseWords (image : Image) (info : ClassId → ℕ) (base : InfoBase) (at : ℕ) : Type 0 where
  pub class : image at ≡ Some (info base.class)
  pub offset_flags : HasNumber image (at + 8) base.offset_flags

-- the bases stand one after the other from an address, which is 0 where there are none
abbrev pub HasBases : Image → (info : ClassId → ℕ) → List InfoBase → ℕ → Type 0
HasBases image info [] at = at ≡ 0
HasBases image info (base ∷ bases) at = (0 < at) × ((i : ℕ) (b : InfoBase) → slice_get (base ∷ bases) i ≡ Some b → HasBaseWords image info b (at + 16 * i))

-- the four words of a class's record: its number, its flags, how many bases it has, each below 2 ^ 32, and where these stand, which is
-- behind the record
pub record HasInfo (image : Image) (info : ClassId → ℕ) (c : ClassId) (type_info : TypeInfo) (at : ℕ) : Type 0 where
  pub class : image at ≡ Some c.0
  pub flags : image (at + 8) ≡ Some (info_flags type_info)
  pub count : image (at + 16) ≡ Some (length (info_bases type_info))
  pub class_fits : c.0 < 2 ^ 32
  pub flags_fit : info_flags type_info < 2 ^ 32
  pub count_fits : length (info_bases type_info) < 2 ^ 32
  pub first : ℕ
  pub at_first : image (at + 24) ≡ Some first
  pub behind : 0 < length (info_bases type_info) → at ≤ first
  pub bases : HasBases image info (info_bases type_info) first

-- the whole image

-- where groups by their numbers, the VTTs of classes and the records of classes stand, and where the first of these records does
pub record Addresses : Type 0 where
  pub group : ℕ → ℕ
  pub vtt : ClassId → ℕ
  pub info : ClassId → ℕ
  pub records : ℕ

abbrev pub whole_name : ClassId → GroupName
whole_name c = record { complete = c; view = whole_of c }

-- the address point of a table of the group with a name, where groups stand at these addresses
pub record IsPoint (groups : List Group) (group_at : ℕ → ℕ) (name : GroupName) (table address : ℕ) : Type 0 where
  pub number : ℕ
  pub group : Group
  pub there : slice_get groups number ≡ Some group
  pub named : group.name ≡ name
  pub point : address ≡ point_at (group_at number) group.tables table

-- the first address point of the whole group of a class, or 0 where no group has that name
pub data IsFirstPoint (groups : List Group) (group_at : ℕ → ℕ) (c : ClassId) (address : ℕ) : Type 0 where
  first : IsPoint groups group_at (whole_name c) 0 address → IsFirstPoint groups group_at c address
  no_group : ((i : ℕ) (group : Group) → slice_get groups i ≡ Some group → group.name ≡ whole_name c → ⊥) → address ≡ 0 → IsFirstPoint groups group_at c address

-- the address of a VTT, or 0 where it has no words
abbrev pub vtt_address : ℕ → List VttWord → ℕ
vtt_address at [] = 0
vtt_address at (word ∷ words) = at

-- the two words of a class in the directory
pub record HasDirectory (image : Image) (groups : List Group) (a : Addresses) (c : ClassId) (vtt : List VttWord) (at : ℕ) : Type 0 where
  pub point : ℕ
  pub at_point : image at ≡ Some point
  pub is_point : IsFirstPoint groups a.group c point
  pub at_vtt : image (at + 8) ≡ Some (vtt_address (a.vtt c) vtt)

-- no address is 0, and none is below the base
pub record AreAbove (a : Addresses) (base : ℕ) : Type 0 where
  pub above_zero : 0 < base
  pub groups : (i : ℕ) → base ≤ a.group i
  pub vtts : (c : ClassId) → base ≤ a.vtt c
  pub infos : (c : ClassId) → base ≤ a.info c

-- the directory, the tables and the VTTs stand below the records of classes
pub record AreBelow (groups : List Group) (vtts : List (List VttWord)) (infos : List TypeInfo) (a : Addresses) (base : ℕ) : Type 0 where
  pub group : (i k : ℕ) (group : Group) (word : TableWord) → slice_get groups i ≡ Some group → slice_get (all_words group.tables) k ≡ Some word → a.group i + 8 * k + 8 ≤ a.records
  pub vtt : (c : ClassId) (words : List VttWord) (k : ℕ) (word : VttWord) → slice_get vtts c.0 ≡ Some words → slice_get words k ≡ Some word → a.vtt c + 8 * k + 8 ≤ a.records
  pub directory : (c : ClassId) (words : List VttWord) → slice_get vtts c.0 ≡ Some words → base + 16 * c.0 + 16 ≤ a.records
  pub info : (c : ClassId) (type_info : TypeInfo) → slice_get infos c.0 ≡ Some type_info → a.records ≤ a.info c

-- an image has these groups, and the VTT and the type information of each class, at these addresses, behind its directory
pub record HasTables (codes : List CodeRow) (groups : List Group) (vtts : List (List VttWord)) (infos : List TypeInfo) (a : Addresses) (base : ℕ) (image : Image) : Type 0 where
  pub each_group : (i : ℕ) (group : Group) → slice_get groups i ≡ Some group → StandsAt image codes a.info group (a.group i)
  pub each_vtt : (c : ClassId) (words : List VttWord) (i : ℕ) (word : VttWord) → slice_get vtts c.0 ≡ Some words → slice_get words i ≡ Some word →
      (address : ℕ) × (image (a.vtt c + 8 * i) ≡ Some address) × IsPoint groups a.group word.group word.table address
  pub each_info : (c : ClassId) (type_info : TypeInfo) → slice_get infos c.0 ≡ Some type_info → HasInfo image a.info c type_info (a.info c)
  pub directory : (c : ClassId) (words : List VttWord) → slice_get vtts c.0 ≡ Some words → HasDirectory image groups a c words (base + 16 * c.0)
  pub above : AreAbove a base
  pub below : AreBelow groups vtts infos a base
