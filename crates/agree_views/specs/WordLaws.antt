-- What the words and entries of a view of a heap object lead to, and how results of calls are moved.
use Rattle.std.specs.Prelude.{◌≡◌, ℕ, Some, Contains}
use Rattle.cxx_hierarchy.specs.declared.records.ClassId.{ClassId}
use Rattle.cxx_hierarchy.specs.VirtualBases.{HasVirtualBase}
use Rattle.cxx_subobject.specs.declared.Root.TheVariants.{Whole, Shared}
use Rattle.cxx_subobject.specs.declared.Subobject.{Subobject}
use Rattle.cxx_subobject.specs.Subobjects.{IsSubobject, class_of, join, shared_base}
use Rattle.cxx_subobject.specs.Locations.{ObjectPart}
use Rattle.cxx_overrider.specs.declared.FunctionId.{FunctionId}
use Rattle.cxx_overrider.specs.declared.Overrider.{Overrider}
use Rattle.cxx_search.specs.Searches.{final_in}
use Rattle.path_plan.specs.Places.{part}
use Rattle.path_model.specs.Values.{inner_part}
use Rattle.path_model.specs.TypedStates.{IsPartMade}
use Rattle.abi_primary.specs.Kinds.{IsDynamic}
use Rattle.abi_slots.specs.declared.words.EntryKey.{EntryKey}
use Rattle.abi_slots.specs.Listing.{own_keys, vbase_number}
use Rattle.abi_slots.specs.Slots.{word_number}
use Rattle.agree_parts.specs.Heaps.{Heap}
use Rattle.agree_parts.specs.Addresses.{address}
use Rattle.agree_parts.specs.Placed.{AreObjectsLaid}
use Rattle.byte_memory.specs.Store.{Store}
use Rattle.byte_machine.specs.Effects.{bytes_before}
use Rattle.byte_machine.specs.Plans.{word_offset}
use Rattle.agree_dispatch.specs.Words.{HasEntryWord, MovesTo, NamesClass}
use Rattle.agree_dispatch.specs.Results.{Returns, MovesReturned}
use Rattle.agree_relation.specs.Worlds.{World, IsProgramWorld, world_classes, places_in}
use Rattle.agree_views.specs.Views.{IsStandingView}

-- the address of a part of a heap object
abbrev pub address_by : World → Heap → ObjectPart → ℕ
address_by w g p = address (world_classes w) (places_in w) g p

-- from a part of a view that stands, the word of each virtual base of its class leads to that base
abbrev pub ViewWordsLeadToBases : World → Heap → Store → Type 0
ViewWordsLeadToBases w g memory = (q : ObjectPart) (c d : ClassId) (s : Subobject) (e v : ClassId) → IsStandingView w g memory q c d →
    IsSubobject (world_classes w) c s → class_of s ≡ Some e → HasVirtualBase (world_classes w) e v →
    MovesTo w.image memory (address_by w g (inner_part q s)) (word_offset (word_number (vbase_number (world_classes w) (places_in w) e v))) (address_by w g (part q.object q.owner (shared_base v)))

-- from a dynamic part of a view that stands, the word 16 bytes before the address point leads to the view
abbrev pub ViewWordsLeadToViews : World → Heap → Store → Type 0
ViewWordsLeadToViews w g memory = (q : ObjectPart) (c d : ClassId) (s : Subobject) (e : ClassId) → IsStandingView w g memory q c d →
    IsSubobject (world_classes w) c s → class_of s ≡ Some e → IsDynamic (world_classes w) e →
    MovesTo w.image memory (address_by w g (inner_part q s)) (bytes_before 16) (address_by w g q)

-- from a dynamic part of a view that stands, the word of the type leads to the number of the view's class
abbrev pub ViewWordsTellTypes : World → Heap → Store → Type 0
ViewWordsTellTypes w g memory = (q : ObjectPart) (c d : ClassId) (s : Subobject) (e : ClassId) → IsStandingView w g memory q c d →
    IsSubobject (world_classes w) c s → class_of s ≡ Some e → IsDynamic (world_classes w) e →
    NamesClass w.image memory (address_by w g (inner_part q s)) c.0

-- the entry of a function, in the table of a part of a view that stands and whose class declares it, runs its final overrider there
abbrev pub ViewEntriesRunOverriders : World → Heap → Store → Type 0
ViewEntriesRunOverriders w g memory = (q : ObjectPart) (c d : ClassId) (s : Subobject) (k : EntryKey) (o : Overrider) →
    IsStandingView w g memory q c d → IsSubobject (world_classes w) c s → class_of s ≡ Some k.function.class →
    Contains (own_keys (world_classes w) k.function.class) k → final_in (world_classes w) q.at (join q.at s) k.function ≡ Some o →
    HasEntryWord (world_classes w) (places_in w) w.image w.numbers memory k o (address_by w g (inner_part q s)) (address_by w g (part q.object q.owner o.at))

-- of any part, a result is moved to its subobject of the class of f's result, where the path lies in no virtual base
abbrev pub PlainPartResultsMove : World → Heap → Store → Type 0
PlainPartResultsMove w g memory = (p : ObjectPart) (n f : FunctionId) (e : ClassId) (i : Subobject) → IsProgramWorld w →
    AreObjectsLaid (world_classes w) w.setup.rows g → IsPartMade (world_classes w) g.classes p e → Returns (world_classes w) n f e i → i.root ≡ Whole →
    MovesReturned (world_classes w) (places_in w) w.image memory n f (address_by w g p) (address_by w g (inner_part p i))

-- of a part of a view that stands, a result is moved there where the path lies in a virtual base
abbrev pub SharedPartResultsMove : World → Heap → Store → Type 0
SharedPartResultsMove w g memory = (q : ObjectPart) (c d : ClassId) (s : Subobject) (n f : FunctionId) (e v : ClassId) (i : Subobject) →
    IsStandingView w g memory q c d → IsSubobject (world_classes w) c s → class_of s ≡ Some e → Returns (world_classes w) n f e i → i.root ≡ Shared v →
    MovesReturned (world_classes w) (places_in w) w.image memory n f (address_by w g (inner_part q s)) (address_by w g (inner_part (inner_part q s) i))
