-- What groups, VTTs and type information have to keep so that an image can be made of them (Itanium C++ ABI 2.5.2, 2.6.2, 2.9.5).
use Rattle.std.specs.Prelude.{◌≡◌, ℕ, ◌+◌, ◌*◌, ◌<◌, ◌≤◌, Some, List, length, slice_get}
use Rattle.std.specs.List.{sum_by}
use Rattle.abi_slots.specs.declared.code_numbers.CodeRow.{CodeRow}
use Rattle.abi_slots.specs.declared.words.EntryWord.{EntryWord}
use Rattle.abi_slots.specs.declared.words.EntryWord.TheVariants.{Unused, Pure, Code}
use Rattle.abi_slots.specs.declared.words.TableWord.{TableWord}
use Rattle.abi_slots.specs.declared.words.TableWord.TheVariants.{Vcall, Vbase, Top, Info, Entry}
use Rattle.abi_slots.specs.declared.words.Table.{Table}
use Rattle.abi_slots.specs.declared.words.GroupName.{GroupName}
use Rattle.abi_slots.specs.declared.words.Group.{Group}
use Rattle.abi_slots.specs.declared.words.VttWord.{VttWord}
use Rattle.abi_slots.specs.declared.words.InfoBase.{InfoBase}
use Rattle.abi_slots.specs.declared.words.TypeInfo.{TypeInfo}
use Rattle.abi_slots.specs.CodeRows.{code_of, block_kind}
use Rattle.abi_slots.specs.Images.{all_words, info_bases}

-- a table of the group with a name
pub record HasTable (groups : List Group) (name : GroupName) (table : ℕ) : Type 0 where
  pub number : ℕ
  pub group : Group
  pub there : slice_get groups number ≡ Some group
  pub named : group.name ≡ name
  pub inside : table < length group.tables

-- no two groups have one name
abbrev pub HaveOwnNames : List Group → Type 0
HaveOwnNames groups = (i j : ℕ) (a b : Group) → slice_get groups i ≡ Some a → slice_get groups j ≡ Some b → a.name ≡ b.name → i ≡ j

-- each word of a VTT names a group, and a table of it
abbrev pub NameTables : List Group → List VttWord → Type 0
NameTables groups words = (i : ℕ) (word : VttWord) → slice_get words i ≡ Some word → HasTable groups word.group word.table

abbrev pub AllNameTables : List Group → List (List VttWord) → Type 0
AllNameTables groups vtts = (c : ℕ) (words : List VttWord) → slice_get vtts c ≡ Some words → NameTables groups words

-- the entry runs no code, or code that has a number
abbrev pub HasCode : List CodeRow → EntryWord → Type 0
HasCode codes Unused = Unit {0}
HasCode codes (Pure f) = Unit {0}
HasCode codes (Code f kind this result) = (code : ℕ) × (code_of codes f (block_kind kind) ≡ Some code)

-- the class that a word names is one of the first n, and the code that it runs has a number
abbrev pub IsKnownWord : List CodeRow → ℕ → TableWord → Type 0
IsKnownWord codes n (Vcall distance f) = Unit {0}
IsKnownWord codes n (Vbase distance v) = Unit {0}
IsKnownWord codes n (Top distance) = Unit {0}
IsKnownWord codes n (Info c) = c.0 < n
IsKnownWord codes n (Entry entry) = HasCode codes entry

abbrev pub AreKnownWords : List CodeRow → ℕ → List TableWord → Type 0
AreKnownWords codes n words = (i : ℕ) (word : TableWord) → slice_get words i ≡ Some word → IsKnownWord codes n word

-- the words of a table are known, and as many as those before its address point, or more
pub record IsKnownTable (codes : List CodeRow) (n : ℕ) (table : Table) : Type 0 where
  pub words : AreKnownWords codes n table.words
  pub before : table.before ≤ length table.words

abbrev pub AreKnownTables : List CodeRow → ℕ → List Table → Type 0
AreKnownTables codes n tables = (i : ℕ) (table : Table) → slice_get tables i ≡ Some table → IsKnownTable codes n table

abbrev pub AreKnownGroups : List CodeRow → ℕ → List Group → Type 0
AreKnownGroups codes n groups = (i : ℕ) (group : Group) → slice_get groups i ≡ Some group → AreKnownTables codes n group.tables

-- the bases in the record of a class are of the first n classes
abbrev pub AreKnownBases : ℕ → List InfoBase → Type 0
AreKnownBases n bases = (i : ℕ) (base : InfoBase) → slice_get bases i ≡ Some base → base.class.0 < n

abbrev pub AreKnownInfos : ℕ → List TypeInfo → Type 0
AreKnownInfos n infos = (c : ℕ) (info : TypeInfo) → slice_get infos c ≡ Some info → AreKnownBases n (info_bases info)

-- the words of all tables and VTTs, and of the records of classes: four, and two for each base
abbrev pub words_in_image : List Group → List (List VttWord) → List TypeInfo → ℕ
words_in_image groups vtts infos =
    sum_by (λ (group : Group). length (all_words group.tables)) groups + sum_by (λ (words : List VttWord). length words) vtts + sum_by (λ (info : TypeInfo). 4 + 2 * length (info_bases info)) infos
