-- What is made of a program: its tables, code and image, and the world that they are of.
use Rattle.std.specs.Prelude.{◌≡◌, ◌<◌, ◌+◌, ◌^◌, ℕ, Some, List, length, slice_get}
use Rattle.cxx_hierarchy.specs.declared.records.ClassId.{ClassId}
use Rattle.cxx_hierarchy.specs.Classes.{Classes}
use Rattle.abi_sound.specs.Places.{Places}
use Rattle.abi_slots.specs.declared.code_numbers.CodeRow.{CodeRow}
use Rattle.abi_slots.specs.declared.words.Group.{Group}
use Rattle.abi_slots.specs.declared.words.VttWord.{VttWord}
use Rattle.abi_slots.specs.declared.words.TypeInfo.{TypeInfo}
use Rattle.abi_slots.specs.Groups.{GoAlong}
use Rattle.abi_slots.specs.Images.{Addresses, HasTables}
use Rattle.byte_code.specs.declared.code.ImageBytes.{ImageBytes}
use Rattle.byte_code.specs.Images.{word_at}
use Rattle.abi_rtti.specs.TypeInfos.{type_info}
use Rattle.abi_vtt.specs.Vtts.{IsVttWord}
use Rattle.cxx_overrider.specs.declared.FunctionId.{FunctionId}
use Rattle.abi_slots.specs.CodeRows.{code_of}
use Rattle.code_ops.specs.Routines.{IsRoutine, function_of_routine, routine_kind}
use Rattle.code_ops.specs.Setups.{Setup, Routine}
use Rattle.abi_tables.specs.Tables.{IsNamed, names_to, class_items}

-- the tables of the first n classes, in their order
pub record AreTablesTo (h : Classes) (l : Places) (n : ℕ) (groups : List Group) (vtts : List (List VttWord)) (infos : List TypeInfo) : Type 0 where
  pub groups_are : GoAlong (IsNamed h l) (names_to h n) groups
  pub one_vtt_each : length vtts ≡ n
  pub vtts_are : (c : ClassId) (words : List VttWord) → slice_get vtts c.0 ≡ Some words → GoAlong (IsVttWord h l c) (class_items h l c) words
  pub one_info_each : length infos ≡ n
  pub infos_are : (c : ClassId) (info : TypeInfo) → slice_get infos c.0 ≡ Some info → info ≡ type_info h l c

-- those of all classes
abbrev pub AreAllTables : Classes → Places → List Group → List (List VttWord) → List TypeInfo → Type 0
AreAllTables h l groups vtts infos = AreTablesTo h l (length h) groups vtts infos

-- the tables of all classes stand in an image, whose entries run code of these numbers
pub record HasImage (h : Classes) (l : Places) (numbers : List CodeRow) (image : ImageBytes) : Type 0 where
  pub groups : List Group
  pub vtts : List (List VttWord)
  pub infos : List TypeInfo
  pub addresses : Addresses
  pub tables : AreAllTables h l groups vtts infos
  pub stand : HasTables numbers groups vtts infos addresses image.base (word_at image)
  pub small : image.base + length image.bytes < 2 ^ 63

-- each routine has a number
abbrev pub HaveCodeNumbers : Setup → List CodeRow → Type 0
HaveCodeNumbers x codes = (r : Routine) (f : FunctionId) → IsRoutine x r → function_of_routine x r ≡ Some f → (code : ℕ) × (code_of codes f (routine_kind r) ≡ Some code)
