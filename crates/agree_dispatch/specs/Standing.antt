-- A view of an object that stands in memory, with the tables of its group in an image.
use Rattle.std.specs.Prelude.{◌≡◌, ◌<◌, ◌+◌, ◌^◌, ℕ, Some, List, length}
use Rattle.cxx_hierarchy.specs.declared.records.ClassId.{ClassId}
use Rattle.cxx_hierarchy.specs.Classes.{Classes}
use Rattle.cxx_hierarchy.specs.Hierarchies.{IsHierarchy}
use Rattle.cxx_subobject.specs.declared.Subobject.{Subobject}
use Rattle.cxx_subobject.specs.Subobjects.{IsSubobject, class_of, join}
use Rattle.cxx_overrider.specs.Faults.{HasNoFault}
use Rattle.abi_primary.specs.Kinds.{IsDynamic}
use Rattle.abi_sound.specs.declared.class_layout.ClassLayout.{ClassLayout}
use Rattle.abi_sound.specs.Places.{Places, places_of}
use Rattle.abi_sound.specs.Sound.{IsSoundLayout}
use Rattle.abi_slots.specs.Views.{View, IsView, place}
use Rattle.abi_slots.specs.Seen.{PlacedTables, IsPointOf, IsSeen}
use Rattle.byte_memory.specs.Store.{Store}
use Rattle.byte_code.specs.declared.code.ImageBytes.{ImageBytes}
use Rattle.byte_code.specs.Images.{word_at}
use Rattle.byte_machine.specs.Running.{table_of}

-- the address of a subobject s of the part y, in a complete object of class d that starts at an address
abbrev pub address_in_object : Places → ClassId → ℕ → Subobject → Subobject → ℕ
address_in_object l d at y s = at + l.place d (join y s)

-- the virtual pointer of each dynamic subobject of the part y leads to the table that serves it in the group of the view x
abbrev pub ArePointed : Classes → Places → Store → ClassId → ℕ → Subobject → View → PlacedTables → Type 0
ArePointed h l memory d at y x placed = (s : Subobject) (c : ClassId) → IsSubobject h x.class s → class_of s ≡ Some c → IsDynamic h c →
    (point : ℕ) × (table_of memory (address_in_object l d at y s) ≡ Some point) × IsPointOf h l x placed s point

-- the parts lie as far from one another as they do in the view x: as if its complete object started at an address
pub record LieAlike (h : Classes) (l : Places) (d : ClassId) (at : ℕ) (y : Subobject) (x : View) : Type 0 where
  pub start : ℕ
  pub each : (s : Subobject) → IsSubobject h x.class s → address_in_object l d at y s ≡ start + place l x s

-- the part y of a complete object of class d is a view that stands at an address: its virtual pointers lead to the tables of the group of x. This is y itself as a view, or the whole of an object of its class alone where that has no virtual base
pub record IsViewAt (h : Classes) (rows : List ClassLayout) (image : ImageBytes) (memory : Store) (d : ClassId) (at : ℕ) (y : Subobject) (x : View) (placed : PlacedTables) : Type 0 where
  pub keeps : IsHierarchy h
  pub faultless : HasNoFault h
  pub sound : IsSoundLayout h rows
  pub low : image.base + length image.bytes < 2 ^ 63
  pub known : d.0 < length h
  pub valid : IsSubobject h d y
  pub of_class : class_of y ≡ Some x.class
  pub view : IsView h x
  pub seen : IsSeen h (places_of h rows) x placed
  pub image_is : placed.image ≡ word_at image
  pub alike : LieAlike h (places_of h rows) d at y x
  pub pointed : ArePointed h (places_of h rows) memory d at y x placed
  pub fits : at + (places_of h rows).size d < 2 ^ 63
