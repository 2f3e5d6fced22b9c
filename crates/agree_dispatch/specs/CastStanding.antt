-- A view of an object that stands in memory, with its tables and the type information of all classes in an image.
use Rattle.std.specs.Prelude.{◌≡◌, ℕ, ◌+◌, ◌*◌, ◌<◌, ◌≤◌, ◌^◌, Option, Some, None, List, length}
use Rattle.byte_memory.specs.Store.{Store}
use Rattle.cxx_hierarchy.specs.declared.records.ClassId.{ClassId}
use Rattle.cxx_hierarchy.specs.Classes.{Classes}
use Rattle.cxx_hierarchy.specs.Hierarchies.{IsHierarchy}
use Rattle.cxx_subobject.specs.declared.Root.TheVariants.{Whole}
use Rattle.cxx_subobject.specs.declared.Subobject.{Subobject}
use Rattle.cxx_subobject.specs.Subobjects.{IsSubobject, class_of, whole_of}
use Rattle.cxx_subobject.specs.Inside.{IsPublicWalk}
use Rattle.abi_sound.specs.declared.class_layout.ClassLayout.{ClassLayout}
use Rattle.abi_sound.specs.Places.{Places, places_of}
use Rattle.abi_sound.specs.Sound.{IsSoundLayout}
use Rattle.abi_slots.specs.Views.{View, IsView}
use Rattle.abi_slots.specs.Images.{Image, HasInfo}
use Rattle.abi_slots.specs.Seen.{PlacedTables, IsPointOf, IsSeen}
use Rattle.abi_rtti.specs.TypeInfos.{type_info}
use Rattle.agree_dispatch.specs.Pointers.{ArePointed}

-- the type information of each class stands in the image, which has no word past the last address
pub record AreTyped (h : Classes) (l : Places) (image : Image) (info : ClassId → ℕ) : Type 0 where
  pub each : (c : ClassId) → c.0 < length h → HasInfo image info c (type_info h l c) (info c)
  pub low : (at word : ℕ) → image at ≡ Some word → at < 2 ^ 64

-- the view of an object that starts at an address stands: its tables and all type information in an image, its virtual pointers in
-- memory; and its tables stand below the records of all classes
pub record StandsInMemory (h : Classes) (rows : List ClassLayout) (x : View) (placed : PlacedTables) (memory : Store) (start : ℕ) : Type 0 where
  pub keeps : IsHierarchy h
  pub sound : IsSoundLayout h rows
  pub view : IsView h x
  pub seen : IsSeen h (places_of h rows) x placed
  pub typed : AreTyped h (places_of h rows) placed.image placed.info
  pub pointed : ArePointed h (places_of h rows) x placed memory start
  pub fits : start + (places_of h rows).size x.complete < 2 ^ 63
  pub records : ℕ
  pub below : (s : Subobject) (point : ℕ) → IsPointOf h (places_of h rows) x placed s point → point ≤ records
  pub above : (c : ClassId) → c.0 < length h → records ≤ placed.info c

-- the word of a class in the directory at `base` is an address point, 8 bytes behind the address of the record of the class
pub record HasFirstPoint (image : Image) (info : ClassId → ℕ) (base : ℕ) (c : ClassId) : Type 0 where
  pub at : ℕ
  pub directory : image (base + 16 * c.0) ≡ Some (at + 8)
  pub there : image at ≡ Some (info c)

-- the address of a subobject of the complete object, where one is given
abbrev pub subobject_address : Places → View → ℕ → Option Subobject → Option ℕ
subobject_address l x start None = None
subobject_address l x start (Some t) = Some (start + l.place x.complete t)

-- s is a public base, of class c, of an object of class `target`, and lies in no virtual base of it
pub record IsPlainBase (h : Classes) (target c : ClassId) (s : Subobject) : Type 0 where
  pub valid : IsSubobject h target s
  pub class : class_of s ≡ Some c
  pub plain : s.root ≡ Whole
  pub walk : IsPublicWalk h (whole_of target) s
