-- The tables of classes, in the order in which they are printed: groups, VTT and type information (Itanium C++ ABI 2.5, 2.6, 2.9).
use Rattle.std.specs.Prelude.{◌≡◌, ℕ, zero, suc, if◌then◌else◌, List, [], ◌++◌, map, length}
use Rattle.cxx_hierarchy.specs.declared.records.ClassId.{ClassId}
use Rattle.cxx_hierarchy.specs.Classes.{Classes}
use Rattle.cxx_subobject.specs.declared.Subobject.{Subobject}
use Rattle.abi_sound.specs.Places.{Places}
use Rattle.abi_slots.specs.declared.words.Group.{Group}
use Rattle.abi_slots.specs.declared.words.GroupName.{GroupName}
use Rattle.abi_slots.specs.Groups.{GoAlong, IsGroup}
use Rattle.abi_vtt.specs.Vtts.{VttEntry, has_vtt, vtt_items, IsVttWord}
use Rattle.abi_rtti.specs.TypeInfos.{type_info}
use Rattle.abi_tables.specs.Counts.{group_views}
use Rattle.abi_tables.specs.declared.tables.ClassTables.{ClassTables}

-- the name of the group of a view
abbrev pub group_name : ClassId → Subobject → GroupName
group_name c x = record { complete = c; view = x }

-- the names of the groups of a class
abbrev pub group_names : Classes → ClassId → List GroupName
group_names h c = map (group_name c) (group_views h c)

-- the names of the groups of the first n classes
abbrev pub names_to : Classes → ℕ → List GroupName
names_to h zero = []
names_to h (suc n) = names_to h n ++ group_names h (record { 0 = n })

-- the group of this name
pub record IsNamed (h : Classes) (l : Places) (name : GroupName) (named : Group) : Type 0 where
  pub is : named.name ≡ name
  pub group : IsGroup h l named

-- the groups of all classes, in their order
abbrev pub AreGroups : Classes → Places → List Group → Type 0
AreGroups h l groups = GoAlong (IsNamed h l) (names_to h (length h)) groups

-- the items of the VTT of a class, which it has where it has virtual bases
abbrev pub class_items : Classes → Places → ClassId → List VttEntry
class_items h l c = if has_vtt h c then vtt_items h l c else []

-- the tables of one class
pub record AreClassTables (h : Classes) (l : Places) (c : ClassId) (tables : ClassTables) : Type 0 where
  pub groups : GoAlong (IsNamed h l) (group_names h c) tables.groups
  pub vtt : GoAlong (IsVttWord h l c) (class_items h l c) tables.vtt
  pub info : tables.info ≡ type_info h l c
