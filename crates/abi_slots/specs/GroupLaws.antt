-- What the tables of a group, and an image of them, give for the view of the group, over any sound layout.
use Rattle.std.specs.Prelude.{◌≡◌, ℕ, ◌+◌, ◌≤◌, ◌⊎◌, Some, List, Contains}
use Rattle.cxx_hierarchy.specs.Classes.{Classes}
use Rattle.cxx_hierarchy.specs.Hierarchies.{IsHierarchy}
use Rattle.cxx_hierarchy.specs.VirtualBases.{HasVirtualBase}
use Rattle.cxx_hierarchy.specs.declared.records.ClassId.{ClassId}
use Rattle.cxx_subobject.specs.declared.Subobject.{Subobject}
use Rattle.cxx_subobject.specs.Subobjects.{IsSubobject, class_of}
use Rattle.cxx_overrider.specs.Faults.{HasNoFault}
use Rattle.abi_primary.specs.Kinds.{IsDynamic}
use Rattle.abi_sound.specs.declared.class_layout.ClassLayout.{ClassLayout}
use Rattle.abi_sound.specs.Places.{places_of}
use Rattle.abi_sound.specs.Sound.{IsSoundLayout}
use Rattle.abi_slots.specs.declared.words.EntryKey.{EntryKey}
use Rattle.abi_slots.specs.declared.words.Group.{Group}
use Rattle.abi_slots.specs.declared.words.Table.{Table}
use Rattle.abi_slots.specs.Listing.{own_keys}
use Rattle.abi_slots.specs.Groups.{IsGroup, view_of_group}
use Rattle.abi_slots.specs.Views.{View, IsView, place}
use Rattle.abi_slots.specs.Dispatch.{IsServedBy, Dispatches, LeadsToVirtualBase, HasTop}
use Rattle.abi_slots.specs.declared.code_numbers.CodeRow.{CodeRow}
use Rattle.abi_slots.specs.Images.{Image, StandsAt}
use Rattle.abi_slots.specs.Seen.{PlacedTables, IsPointOf, IsSeen, SharePointer}

-- each dynamic subobject of the view of a group is served by a table of the group
abbrev pub SubobjectsAreServed : Classes → List ClassLayout → Group → Type 0
SubobjectsAreServed h rows group = (s : Subobject) (c : ClassId) → IsHierarchy h → IsSoundLayout h rows → (of : IsGroup h (places_of h rows) group) →
    IsSubobject h of.class s → class_of s ≡ Some c → IsDynamic h c →
    (table : Table) × IsServedBy h (places_of h rows) (view_of_group group of.class) group s table

-- the word of a function that the class of a served subobject declares runs its final overrider in the view
abbrev pub EntriesDispatch : Classes → List ClassLayout → Group → Type 0
EntriesDispatch h rows group = (s : Subobject) (c : ClassId) (k : EntryKey) (table : Table) → IsHierarchy h → HasNoFault h → IsSoundLayout h rows →
    (of : IsGroup h (places_of h rows) group) → IsSubobject h of.class s → class_of s ≡ Some c → Contains (own_keys h c) k →
    IsServedBy h (places_of h rows) (view_of_group group of.class) group s table → Dispatches h (places_of h rows) (view_of_group group of.class) group s table k

-- the word of a virtual base of the class of a served subobject leads to that base
abbrev pub BaseWordsConvert : Classes → List ClassLayout → Group → Type 0
BaseWordsConvert h rows group = (s : Subobject) (c v : ClassId) (table : Table) → IsHierarchy h → IsSoundLayout h rows →
    (of : IsGroup h (places_of h rows) group) → IsSubobject h of.class s → class_of s ≡ Some c → HasVirtualBase h c v →
    IsServedBy h (places_of h rows) (view_of_group group of.class) group s table → LeadsToVirtualBase h (places_of h rows) (view_of_group group of.class) s c table v

-- the words before the address point lead to the view and name its class
abbrev pub TopWordsLead : Classes → List ClassLayout → Group → Type 0
TopWordsLead h rows group = (s : Subobject) (table : Table) → IsHierarchy h → IsSoundLayout h rows → (of : IsGroup h (places_of h rows) group) →
    IsServedBy h (places_of h rows) (view_of_group group of.class) group s table → HasTop (places_of h rows) (view_of_group group of.class) s table

-- an image in which the tables of a group stand gives what the view of the group asks for
abbrev pub ImagesAreSeen : Classes → List ClassLayout → Group → Type 0
ImagesAreSeen h rows group = (image : Image) (codes : List CodeRow) (info : ClassId → ℕ) (at : ℕ) → IsHierarchy h → HasNoFault h →
    IsSoundLayout h rows → (of : IsGroup h (places_of h rows) group) → StandsAt image codes info group at →
    IsSeen h (places_of h rows) (view_of_group group of.class) (record { image = image; codes = codes; info = info; tables = group.tables; at = at })

-- two dynamic subobjects of a view share a virtual pointer, or their virtual pointers have no byte in common
abbrev pub SharePointersOrLieApart : Classes → List ClassLayout → View → Type 0
SharePointersOrLieApart h rows x = (s t : Subobject) (c d : ClassId) → IsHierarchy h → IsSoundLayout h rows → IsView h x → IsSubobject h x.class s →
    IsSubobject h x.class t → class_of s ≡ Some c → class_of t ≡ Some d → IsDynamic h c → IsDynamic h d →
    SharePointer h (places_of h rows) x s t ⊎ ((place (places_of h rows) x s + 8 ≤ place (places_of h rows) x t) ⊎ (place (places_of h rows) x t + 8 ≤ place (places_of h rows) x s))

-- subobjects that share a virtual pointer have one address point
abbrev pub SharedPointersHaveOnePoint : Classes → List ClassLayout → View → PlacedTables → Type 0
SharedPointersHaveOnePoint h rows x placed = (s t : Subobject) (p : ℕ) → IsHierarchy h → IsSoundLayout h rows → IsView h x →
    SharePointer h (places_of h rows) x s t → IsPointOf h (places_of h rows) x placed s p → IsPointOf h (places_of h rows) x placed t p
