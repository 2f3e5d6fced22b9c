-- What the words and entries of a view that stands lead to, and how results of calls are moved.
use Rattle.std.specs.Prelude.{◌≡◌, ℕ, ◌+◌, ◌<◌, ◌^◌, Some, List, Contains, length}
use Rattle.cxx_hierarchy.specs.declared.records.ClassId.{ClassId}
use Rattle.cxx_hierarchy.specs.Classes.{Classes}
use Rattle.cxx_hierarchy.specs.Hierarchies.{IsHierarchy}
use Rattle.cxx_hierarchy.specs.VirtualBases.{HasVirtualBase}
use Rattle.cxx_subobject.specs.declared.Root.TheVariants.{Whole, Shared}
use Rattle.cxx_subobject.specs.declared.Subobject.{Subobject}
use Rattle.cxx_subobject.specs.Subobjects.{IsSubobject, class_of, join, shared_base}
use Rattle.cxx_overrider.specs.declared.FunctionId.{FunctionId}
use Rattle.cxx_overrider.specs.declared.Overrider.{Overrider}
use Rattle.cxx_overrider.specs.Faults.{HasNoFault}
use Rattle.cxx_search.specs.Searches.{final_in}
use Rattle.abi_primary.specs.Kinds.{IsDynamic}
use Rattle.abi_sound.specs.declared.class_layout.ClassLayout.{ClassLayout}
use Rattle.abi_sound.specs.Places.{places_of}
use Rattle.abi_sound.specs.Sound.{IsSoundLayout}
use Rattle.abi_slots.specs.declared.words.EntryKey.{EntryKey}
use Rattle.abi_slots.specs.declared.words.Group.{Group}
use Rattle.abi_slots.specs.declared.words.TypeInfo.{TypeInfo}
use Rattle.abi_slots.specs.Groups.{IsGroup, return_for}
use Rattle.abi_slots.specs.Images.{HasInfo, StandsAt, return_constant, return_vbase}
use Rattle.abi_slots.specs.Listing.{listing, own_keys, vbase_number}
use Rattle.abi_slots.specs.Slots.{word_number}
use Rattle.abi_slots.specs.Views.{View}
use Rattle.abi_slots.specs.Seen.{IsSeen, PlacedTables}
use Rattle.byte_memory.specs.Store.{Store}
use Rattle.byte_code.specs.declared.code.ImageBytes.{ImageBytes}
use Rattle.byte_code.specs.Numbers.{word_of}
use Rattle.byte_machine.specs.Effects.{bytes_before}
use Rattle.byte_machine.specs.Plans.{word_offset}
use Rattle.agree_dispatch.specs.Standing.{IsViewAt, address_in_object}
use Rattle.agree_dispatch.specs.Words.{HasEntryWord, MovesTo, NamesClass}
use Rattle.agree_dispatch.specs.Results.{Returns, RunsFor, MovesReturned}

-- what an image gives for the view of a group whose tables stand in it is given of the placed tables of that view
abbrev pub IsSeenOfGroup : Classes → List ClassLayout → Group → View → PlacedTables → Type 0
IsSeenOfGroup h rows group x placed = IsHierarchy h → HasNoFault h → IsSoundLayout h rows → IsGroup h (places_of h rows) group →
    group.name.complete ≡ x.complete → group.name.view ≡ x.at_sub → class_of x.at_sub ≡ Some x.class → placed.tables ≡ group.tables →
    StandsAt placed.image placed.codes placed.info group placed.at → IsSeen h (places_of h rows) x placed

-- from a subobject of a view that stands, the word of each virtual base of its class leads to that base
abbrev pub WordsLeadToBases : Classes → List ClassLayout → ImageBytes → Store → Type 0
WordsLeadToBases h rows image memory = (d : ClassId) (at : ℕ) (y : Subobject) (x : View) (placed : PlacedTables) (s : Subobject) (c v : ClassId) →
    IsViewAt h rows image memory d at y x placed → IsSubobject h x.class s → class_of s ≡ Some c → HasVirtualBase h c v →
    MovesTo image memory (address_in_object (places_of h rows) d at y s) (word_offset (word_number (vbase_number h (places_of h rows) c v))) (at + (places_of h rows).place d (shared_base v))

-- from a dynamic subobject of a view that stands, the word 16 bytes before the address point leads to the whole of the view
abbrev pub WordsLeadToWholes : Classes → List ClassLayout → ImageBytes → Store → Type 0
WordsLeadToWholes h rows image memory = (d : ClassId) (at : ℕ) (y : Subobject) (x : View) (placed : PlacedTables) (s : Subobject) (c : ClassId) →
    IsViewAt h rows image memory d at y x placed → IsSubobject h x.class s → class_of s ≡ Some c → IsDynamic h c →
    MovesTo image memory (address_in_object (places_of h rows) d at y s) (bytes_before 16) (at + (places_of h rows).place d y)

-- from a dynamic subobject of a view that stands, the word of the type leads to the number of the view's class
abbrev pub WordsTellTypes : Classes → List ClassLayout → ImageBytes → Store → Type 0
WordsTellTypes h rows image memory = (d : ClassId) (at : ℕ) (y : Subobject) (x : View) (placed : PlacedTables) (s : Subobject) (c : ClassId) (type_info : TypeInfo) →
    IsViewAt h rows image memory d at y x placed → IsSubobject h x.class s → class_of s ≡ Some c → IsDynamic h c →
    HasInfo placed.image placed.info x.class type_info (placed.info x.class) → NamesClass image memory (address_in_object (places_of h rows) d at y s) x.class.0

-- the entry of a function, in the table of a subobject of a view that stands and whose class declares it, runs its final overrider there
abbrev pub EntriesRunOverriders : Classes → List ClassLayout → ImageBytes → Store → Type 0
EntriesRunOverriders h rows image memory = (d : ClassId) (at : ℕ) (y : Subobject) (x : View) (placed : PlacedTables) (s : Subobject) (k : EntryKey) (o : Overrider) →
    IsViewAt h rows image memory d at y x placed → IsSubobject h x.class s → class_of s ≡ Some k.function.class →
    Contains (own_keys h k.function.class) k → final_in h y (join y s) k.function ≡ Some o →
    HasEntryWord h (places_of h rows) image placed.codes memory k o (address_in_object (places_of h rows) d at y s) (at + (places_of h rows).place d o.at)

-- a result is moved to the class of the listed function as to that of the function that was found
abbrev pub ListingReturnsAlike : Classes → List ClassLayout → Type 0
ListingReturnsAlike h rows = (g : FunctionId) (k : EntryKey) → IsHierarchy h → HasNoFault h → IsSoundLayout h rows →
    Contains (own_keys h k.function.class) k → RunsFor h g k.function →
    return_for h (places_of h rows) g (listing h (places_of h rows) k).function ≡ return_for h (places_of h rows) g k.function

-- where the path to a result's class lies in no virtual base, no word is named, and the constant is the place in the class
abbrev pub PlainResultWords : Classes → List ClassLayout → Type 0
PlainResultWords h rows = (g f : FunctionId) (e : ClassId) (i : Subobject) → IsHierarchy h → HasNoFault h → IsSoundLayout h rows → Returns h g f e i →
    i.root ≡ Whole →
    (word_of (return_vbase (return_for h (places_of h rows) g f)) ≡ 0) × (word_of (return_constant (return_for h (places_of h rows) g f)) ≡ (places_of h rows).place e i)

-- where the path to a result's class lies in a virtual base, the word is that of the base, which is not 0
abbrev pub SharedResultWords : Classes → List ClassLayout → Type 0
SharedResultWords h rows = (g f : FunctionId) (e v : ClassId) (i : Subobject) → IsHierarchy h → HasNoFault h → IsSoundLayout h rows →
    Returns h g f e i → i.root ≡ Shared v →
    (word_of (return_vbase (return_for h (places_of h rows) g f)) ≡ word_offset (word_number (vbase_number h (places_of h rows) e v))) × (0 < word_of (return_vbase (return_for h (places_of h rows) g f)))

-- of any part, a result is moved to its subobject of the class of f's result, where the path lies in no virtual base
abbrev pub PlainResultsMove : Classes → List ClassLayout → ImageBytes → Store → Type 0
PlainResultsMove h rows image memory = (d : ClassId) (at : ℕ) (p : Subobject) (g f : FunctionId) (e : ClassId) (i : Subobject) → IsHierarchy h →
    HasNoFault h → IsSoundLayout h rows → d.0 < length h → at + (places_of h rows).size d < 2 ^ 63 → IsSubobject h d p → class_of p ≡ Some e →
    Returns h g f e i → i.root ≡ Whole →
    MovesReturned h (places_of h rows) image memory g f (at + (places_of h rows).place d p) (address_in_object (places_of h rows) d at p i)

-- of a subobject of a view that stands, a result is moved there where the path lies in a virtual base
abbrev pub SharedResultsMove : Classes → List ClassLayout → ImageBytes → Store → Type 0
SharedResultsMove h rows image memory = (d : ClassId) (at : ℕ) (y : Subobject) (x : View) (placed : PlacedTables) (s : Subobject) (g f : FunctionId) (e v : ClassId) (i : Subobject) →
    IsViewAt h rows image memory d at y x placed → IsSubobject h x.class s → class_of s ≡ Some e → Returns h g f e i → i.root ≡ Shared v →
    MovesReturned h (places_of h rows) image memory g f (address_in_object (places_of h rows) d at y s) (address_in_object (places_of h rows) d at y (join s i))
