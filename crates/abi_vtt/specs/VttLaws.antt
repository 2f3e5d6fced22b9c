-- Where the address points of a first run, and the sub-VTTs of an image, stand.
use Rattle.std.specs.Prelude.{◌≡◌, ℕ, ◌+◌, ◌*◌, false, Some, List, slice_get}
use Rattle.cxx_hierarchy.specs.Classes.{Classes}
use Rattle.cxx_hierarchy.specs.Hierarchies.{IsHierarchy}
use Rattle.cxx_hierarchy.specs.VirtualBases.{IsDirectBase, HasVirtualBase}
use Rattle.cxx_hierarchy.specs.declared.records.ClassId.{ClassId}
use Rattle.cxx_subobject.specs.declared.Subobject.{Subobject}
use Rattle.cxx_subobject.specs.Subobjects.{whole_of, shared_base}
use Rattle.abi_sound.specs.declared.class_layout.ClassLayout.{ClassLayout}
use Rattle.abi_sound.specs.Places.{Places, places_of}
use Rattle.abi_sound.specs.Sound.{IsSoundLayout}
use Rattle.abi_slots.specs.declared.code_numbers.CodeRow.{CodeRow}
use Rattle.abi_slots.specs.declared.words.TypeInfo.{TypeInfo}
use Rattle.abi_slots.specs.declared.words.VttWord.{VttWord}
use Rattle.abi_slots.specs.declared.words.Group.{Group}
use Rattle.abi_slots.specs.Groups.{view_of_group, IsGroup}
use Rattle.abi_slots.specs.Images.{Image, Addresses, HasTables}
use Rattle.abi_slots.specs.Seen.{PlacedTables, IsPointOf}
use Rattle.abi_vtt.specs.Vtts.{IsVtt, extended_by}
use Rattle.abi_vtt.specs.Blocks.{block_distance, shared_distance, table_run, run_distance}
use Rattle.abi_vtt.specs.VttImages.{PlacedGroups, HasSubVtt}

-- the address point of each table of the first run stands at a constant distance behind that of the view itself
abbrev pub FirstRunsHavePoints : Classes → List ClassLayout → Group → PlacedTables → Type 0
FirstRunsHavePoints h rows group placed = (n : ℕ) (s : Subobject) (first : ℕ) → IsHierarchy h → IsSoundLayout h rows →
    (of : IsGroup h (places_of h rows) group) → placed.tables ≡ group.tables →
    IsPointOf h (places_of h rows) (view_of_group group of.class) placed (whole_of of.class) first →
    slice_get (table_run h (places_of h rows) of.class) n ≡ Some s →
    IsPointOf h (places_of h rows) (view_of_group group of.class) placed s (first + 8 * run_distance h (places_of h rows) of.class n)

-- at the address of the VTT of a class stands the sub-VTT of the whole
abbrev pub WholeVttsStand : Classes → Places → Type 0
WholeVttsStand h l = (codes : List CodeRow) (groups : List Group) (vtts : List (List VttWord)) (infos : List TypeInfo) (a : Addresses) (base : ℕ) (image : Image) (c : ClassId) (words : List VttWord) →
    HasTables codes groups vtts infos a base image → slice_get vtts c.0 ≡ Some words → IsVtt h l c words →
    HasSubVtt h l (record { image = image; codes = codes; groups = groups; addresses = a }) c (whole_of c) c (a.vtt c)

-- behind the address of the sub-VTT of a view, at a number of bytes that classes alone determine, stands that of a direct non-virtual base with virtual bases
abbrev pub BaseVttsStand : Classes → Places → Type 0
BaseVttsStand h l = (placed : PlacedGroups) (c : ClassId) (x : Subobject) (d b v : ClassId) (address : ℕ) → IsHierarchy h → IsDirectBase h d false b → HasVirtualBase h b v →
    HasSubVtt h l placed c x d address → HasSubVtt h l placed c (extended_by x b) b (address + 8 * block_distance h l d b)

-- behind the address of the VTT of a class, at a number of bytes that classes alone determine, stands the sub-VTT of a virtual base with virtual bases
abbrev pub SharedVttsStand : Classes → Places → Type 0
SharedVttsStand h l = (codes : List CodeRow) (groups : List Group) (vtts : List (List VttWord)) (infos : List TypeInfo) (a : Addresses) (base : ℕ) (image : Image) (c v w : ClassId) (words : List VttWord) →
    HasTables codes groups vtts infos a base image → slice_get vtts c.0 ≡ Some words → IsVtt h l c words → IsHierarchy h → HasVirtualBase h c v →
    HasVirtualBase h v w →
    HasSubVtt h l (record { image = image; codes = codes; groups = groups; addresses = a }) c (shared_base v) v (a.vtt c + 8 * shared_distance h l c v)
