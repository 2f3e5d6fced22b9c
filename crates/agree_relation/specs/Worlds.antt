-- What a program is run over: its classes, a sound layout, its tables in an image, and its code.
use Rattle.std.specs.Prelude.{◌≡◌, ◌<◌, ◌≤◌, ◌+◌, ◌^◌, ℕ, true, Some, List, length, slice_get}
use Rattle.cxx_hierarchy.specs.declared.records.ClassId.{ClassId}
use Rattle.cxx_hierarchy.specs.Classes.{Classes}
use Rattle.cxx_hierarchy.specs.Hierarchies.{IsHierarchy}
use Rattle.cxx_subobject.specs.Preorder.{preorder}
use Rattle.cxx_overrider.specs.Faults.{HasNoFault}
use Rattle.cxx_program.specs.Typed.{IsTypedProgram}
use Rattle.path_model.specs.States.{is_body}
use Rattle.abi_sound.specs.Places.{Places}
use Rattle.abi_sound.specs.Sound.{IsSoundLayout}
use Rattle.abi_slots.specs.declared.code_numbers.CodeRow.{CodeRow}
use Rattle.abi_slots.specs.declared.words.Group.{Group}
use Rattle.abi_slots.specs.declared.words.VttWord.{VttWord}
use Rattle.abi_slots.specs.declared.words.TypeInfo.{TypeInfo}
use Rattle.abi_slots.specs.Groups.{GoAlong}
use Rattle.abi_slots.specs.Images.{Addresses, HasTables}
use Rattle.abi_rtti.specs.TypeInfos.{type_info}
use Rattle.abi_vtt.specs.Vtts.{IsVttWord}
use Rattle.abi_tables.specs.Tables.{AreGroups, class_items}
use Rattle.byte_code.specs.declared.code.Code.{Code}
use Rattle.byte_code.specs.declared.code.ImageBytes.{ImageBytes}
use Rattle.byte_code.specs.Images.{word_at}
use Rattle.code_blocks.specs.Lowered.{IsLowered}
use Rattle.code_ops.specs.Setups.{Setup, places}
use Rattle.byte_machine.specs.Running.{Fixed}

-- a program over a layout, its code and the numbers of its functions, the tables and the image that has them at these addresses, and for how many parts a cast has room
pub record World : Type 0 where
  pub setup : Setup
  pub code : Code
  pub numbers : List CodeRow
  pub groups : List Group
  pub vtts : List (List VttWord)
  pub infos : List TypeInfo
  pub addresses : Addresses
  pub image : ImageBytes
  pub parts : ℕ

abbrev pub world_classes : World → Classes
world_classes w = w.setup.h

abbrev pub places_in : World → Places
places_in w = places w.setup

-- what no op changes
abbrev pub fixed : World → Fixed
fixed w = record { image = w.image; size = w.code.registers; parts = w.parts }

-- the tables of all classes
pub record HasAllTables (w : World) : Type 0 where
  pub groups : AreGroups w.setup.h (places w.setup) w.groups
  pub one_vtt_each : length w.vtts ≡ length w.setup.h
  pub vtts : (c : ClassId) (words : List VttWord) → slice_get w.vtts c.0 ≡ Some words → GoAlong (IsVttWord w.setup.h (places w.setup) c) (class_items w.setup.h (places w.setup) c) words
  pub one_info_each : length w.infos ≡ length w.setup.h
  pub infos : (c : ClassId) (info : TypeInfo) → slice_get w.infos c.0 ≡ Some info → info ≡ type_info w.setup.h (places w.setup) c
  pub stand : HasTables w.numbers w.groups w.vtts w.infos w.addresses w.image.base (word_at w.image)

-- all is made for one program, which is typed and has a `main`
pub record IsProgramWorld (w : World) : Type 0 where
  pub hierarchy : IsHierarchy w.setup.h
  pub faultless : HasNoFault w.setup.h
  pub sound : IsSoundLayout w.setup.h w.setup.rows
  pub typed : IsTypedProgram w.setup.h w.setup.program
  pub main : is_body w.setup.program.main ≡ true
  pub tables : HasAllTables w
  pub lowered : IsLowered w.setup w.code w.numbers
  pub small : w.image.base + length w.image.bytes < 2 ^ 63
  pub room : (c : ClassId) → c.0 < length w.setup.h → length (preorder w.setup.h c) ≤ w.parts
