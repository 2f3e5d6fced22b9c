-- The virtual pointers of a view in memory (Itanium C++ ABI 2.5.1).
use Rattle.std.specs.Prelude.{◌≡◌, ℕ, ◌+◌, Some, Ok}
use Rattle.byte_memory.specs.Store.{Store, load_of}
use Rattle.cxx_hierarchy.specs.declared.records.ClassId.{ClassId}
use Rattle.cxx_hierarchy.specs.Classes.{Classes}
use Rattle.cxx_subobject.specs.declared.Subobject.{Subobject}
use Rattle.cxx_subobject.specs.Subobjects.{IsSubobject, class_of}
use Rattle.abi_primary.specs.Kinds.{IsDynamic}
use Rattle.abi_sound.specs.Places.{Places}
use Rattle.abi_slots.specs.Views.{View, place}
use Rattle.abi_slots.specs.Seen.{PlacedTables, IsPointOf}

-- the virtual pointer of each dynamic subobject of the view leads to the table that serves it, where the object starts at an address
abbrev pub ArePointed : Classes → Places → View → PlacedTables → Store → ℕ → Type 0
ArePointed h l x placed memory start = (s : Subobject) (c : ClassId) → IsSubobject h x.class s → class_of s ≡ Some c → IsDynamic h c →
    (point : ℕ) × (load_of memory (start + place l x s) 8 ≡ Ok point) × IsPointOf h l x placed s point
