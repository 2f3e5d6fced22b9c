-- What a cast finds from a view that stands, and what is told of containment.
use Rattle.std.specs.Prelude.{◌≡◌, ℕ, ◌+◌, ◌≤◌, Bool, Option, Some, List, length, slice_get, pos}
use Rattle.byte_memory.specs.Store.{Store}
use Rattle.cxx_hierarchy.specs.declared.records.ClassId.{ClassId}
use Rattle.cxx_hierarchy.specs.Classes.{Classes}
use Rattle.cxx_hierarchy.specs.Hierarchies.{IsHierarchy}
use Rattle.cxx_subobject.specs.declared.Subobject.{Subobject}
use Rattle.cxx_subobject.specs.Subobjects.{IsSubobject, class_of}
use Rattle.cxx_subobject.specs.Preorder.{preorder}
use Rattle.cxx_overrider.specs.Faults.{HasNoFault}
use Rattle.cxx_search.specs.Searches.{cast_in, is_within}
use Rattle.abi_primary.specs.Kinds.{IsDynamic}
use Rattle.abi_sound.specs.declared.class_layout.ClassLayout.{ClassLayout}
use Rattle.abi_sound.specs.Places.{places_of}
use Rattle.abi_sound.specs.Sound.{IsSoundLayout}
use Rattle.abi_slots.specs.declared.code_numbers.CodeRow.{CodeRow}
use Rattle.abi_slots.specs.declared.words.Group.{Group}
use Rattle.abi_slots.specs.declared.words.TypeInfo.{TypeInfo}
use Rattle.abi_slots.specs.declared.words.VttWord.{VttWord}
use Rattle.abi_slots.specs.Views.{View, place, seen}
use Rattle.abi_slots.specs.Groups.{IsGroup}
use Rattle.abi_slots.specs.Images.{Image, Addresses, HasTables, whole_name}
use Rattle.abi_slots.specs.Seen.{PlacedTables}
use Rattle.abi_dyncast.specs.Graph.{graph_of}
use Rattle.abi_dyncast.specs.Casts.{CastsTo, CanCast, IsTrueHint, view_at_address, TellsWithin, CanTellWithin}
use Rattle.agree_dispatch.specs.CastStanding.{StandsInMemory, IsPlainBase, HasFirstPoint, subobject_address}

-- a cast from a dynamic subobject can be had, with room for as many parts as the view's class has subobjects
abbrev pub CastsCanBeHad : Classes → List ClassLayout → View → PlacedTables → Store → ℕ → Type 0
CastsCanBeHad h rows x placed memory start = (parts : ℕ) (s : Subobject) (c : ClassId) → StandsInMemory h rows x placed memory start →
    length (preorder h x.class) ≤ parts → IsSubobject h x.class s → class_of s ≡ Some c → IsDynamic h c →
    CanCast placed.image memory parts (start + place (places_of h rows) x s)

-- an answer of a cast is the address of the subobject to which it leads, or none (ISO C++03 5.2.7 p8)
abbrev pub CastsAreRight : Classes → List ClassLayout → View → PlacedTables → Store → ℕ → Type 0
CastsAreRight h rows x placed memory start = (s : Subobject) (c target : ClassId) (result : Option ℕ) → StandsInMemory h rows x placed memory start →
    IsSubobject h x.class s → class_of s ≡ Some c → IsDynamic h c →
    CastsTo placed.image memory (start + place (places_of h rows) x s) c.0 target.0 result →
    result ≡ subobject_address (places_of h rows) x start (cast_in h target x.at_sub (seen x s))

-- the place of a public base which lies in no virtual base is a true hint (Itanium C++ ABI 2.9.7)
abbrev pub HintsAreTrue : Classes → List ClassLayout → View → PlacedTables → Store → ℕ → Type 0
HintsAreTrue h rows x placed memory start = (s : Subobject) (c target : ClassId) (b : Subobject) → StandsInMemory h rows x placed memory start →
    IsSubobject h x.class s → class_of s ≡ Some c → IsDynamic h c → IsPlainBase h target c b →
    IsTrueHint (graph_of placed.image memory) (view_at_address placed.image memory (start + place (places_of h rows) x s)) c.0 target.0 (pos ((places_of h rows).place target b))

-- whether a subobject of the complete object lies in the view can be told
abbrev pub ContainmentCanBeTold : Classes → List ClassLayout → View → PlacedTables → Store → ℕ → Type 0
ContainmentCanBeTold h rows x placed memory start = (base parts : ℕ) → StandsInMemory h rows x placed memory start →
    HasFirstPoint placed.image placed.info base x.class → length (preorder h x.class) ≤ parts →
    CanTellWithin placed.image base memory parts (start + (places_of h rows).place x.complete x.at_sub) x.class.0

-- what is told of a subobject is whether it lies in the view
abbrev pub ContainmentIsRight : Classes → List ClassLayout → View → PlacedTables → Store → ℕ → Type 0
ContainmentIsRight h rows x placed memory start = (base : ℕ) (y : Subobject) (d : ClassId) (told : Bool) → StandsInMemory h rows x placed memory start →
    HasFirstPoint placed.image placed.info base x.class → IsSubobject h x.complete y → class_of y ≡ Some d →
    TellsWithin placed.image base memory (start + (places_of h rows).place x.complete x.at_sub) x.class.0 (start + (places_of h rows).place x.complete y) d.0 told →
    told ≡ is_within h x.at_sub y

-- in an image of all tables, a class with a group of its own has an address point in the directory
abbrev pub TablesHaveFirstPoints : Classes → List ClassLayout → Type 0
TablesHaveFirstPoints h rows = (codes : List CodeRow) (groups : List Group) (vtts : List (List VttWord)) (infos : List TypeInfo) (a : Addresses) (base : ℕ) (image : Image) (c : ClassId) (words : List VttWord) (i : ℕ) (group : Group) →
    IsHierarchy h → HasNoFault h → IsSoundLayout h rows →
    ((n : ℕ) (other : Group) → slice_get groups n ≡ Some other → IsGroup h (places_of h rows) other) →
    HasTables codes groups vtts infos a base image → slice_get vtts c.0 ≡ Some words → slice_get groups i ≡ Some group → group.name ≡ whole_name c →
    HasFirstPoint image a.info base c
