-- What the image of a group of tables gives for each subobject of its view: the words that calls, conversions and type
-- questions read (Itanium C++ ABI 2.5.2, 2.5.3).
use Rattle.std.specs.Prelude.{◌≡◌, ℕ, ◌+◌, ◌*◌, true, false, Option, Some, None, List, Contains, slice_get, ℤ}
use Rattle.cxx_hierarchy.specs.declared.records.ClassId.{ClassId}
use Rattle.cxx_hierarchy.specs.Classes.{Classes}
use Rattle.cxx_hierarchy.specs.VirtualBases.{HasVirtualBase}
use Rattle.cxx_subobject.specs.declared.Subobject.{Subobject}
use Rattle.cxx_subobject.specs.Subobjects.{IsSubobject, shared_base, whole_of, class_of}
use Rattle.cxx_overrider.specs.declared.Overrider.{Overrider}
use Rattle.cxx_overrider.specs.Functions.{is_pure}
use Rattle.cxx_overrider.specs.Overriding.{IsFinalOverrider}
use Rattle.abi_primary.specs.Kinds.{IsDynamic}
use Rattle.abi_sound.specs.Places.{Places}
use Rattle.abi_slots.specs.declared.code_numbers.CodeRow.{CodeRow}
use Rattle.abi_slots.specs.declared.words.ThisAdjust.{ThisAdjust}
use Rattle.abi_slots.specs.declared.words.EntryWord.{EntryWord}
use Rattle.abi_slots.specs.declared.words.EntryWord.TheVariants.{Pure, Code}
use Rattle.abi_slots.specs.declared.words.EntryKey.{EntryKey}
use Rattle.abi_slots.specs.declared.words.Table.{Table}
use Rattle.abi_slots.specs.Listing.{listing, own_keys, entry_number, vbase_number}
use Rattle.abi_slots.specs.Views.{View, place, heads, Serves}
use Rattle.abi_slots.specs.Groups.{offset_bytes, return_for}
use Rattle.abi_slots.specs.Dispatch.{LeadsByDistance}
use Rattle.abi_slots.specs.Images.{Image, HasNumber, HasEntry, point_at}

-- tables that stand in an image from an address on, with the numbers of code and the addresses of the records of classes
pub record PlacedTables : Type 0 where
  pub image : Image
  pub codes : List CodeRow
  pub info : ClassId → ℕ
  pub tables : List Table
  pub at : ℕ

-- the address point of the table that serves the subobject s of a view
pub record IsPointOf (h : Classes) (l : Places) (x : View) (placed : PlacedTables) (s : Subobject) (point : ℕ) : Type 0 where
  pub number : ℕ
  pub head : Subobject
  pub at_head : slice_get (heads h l x) number ≡ Some head
  pub serves : Serves h l x head s
  pub is : point ≡ point_at placed.at placed.tables number

-- so many bytes before an address point stands a word, which is the distance from one subobject of the view to another
pub record HasDistance (l : Places) (x : View) (image : Image) (s o : Subobject) (bytes point : ℕ) : Type 0 where
  pub at : ℕ
  pub before : at + bytes ≡ point
  pub distance : ℤ
  pub there : HasNumber image at distance
  pub leads : LeadsByDistance l x s distance o

-- 8 bytes before an address point stands the address of the record of class c
pub record HasTypeInfo (placed : PlacedTables) (c : ClassId) (point : ℕ) : Type 0 where
  pub at : ℕ
  pub before : at + 8 ≡ point
  pub there : placed.image at ≡ Some (placed.info c)

-- the adjustment of `this` leads from s to o: by a constant, or to a virtual base, and then by the vcall word before the address
-- point of the table that serves this base
pub data Adjusts (h : Classes) (l : Places) (x : View) (placed : PlacedTables) (s o : Subobject) : Option ThisAdjust → Type 0 where
  as_it_stands : place l x s ≡ place l x o → Adjusts h l x placed s o None
  by_number : (distance : ℤ) → LeadsByDistance l x s distance o → Adjusts h l x placed s o (Some (record { constant = distance; vcall = None }))
  by_word : (v : ClassId) (distance : ℤ) (n : ℕ) → HasVirtualBase h x.class v → IsDynamic h v → LeadsByDistance l x s distance (shared_base v) →
      ((point : ℕ) → IsPointOf h l x placed (shared_base v) point → HasDistance l x placed.image (shared_base v) o (8 * (n + 3)) point) →
      Adjusts h l x placed s o (Some (record { constant = distance; vcall = Some (offset_bytes n) }))

-- an entry runs the overrider, with its subobject as `this` and its result as the entry's function returns it; or it is pure
pub data Calls (h : Classes) (l : Places) (x : View) (placed : PlacedTables) (s : Subobject) (k : EntryKey) (o : Overrider) : EntryWord → Type 0 where
  calls_pure : is_pure h o.function ≡ true → Calls h l x placed s k o (Pure o.function)
  calls_code : (this : Option ThisAdjust) → is_pure h o.function ≡ false → Adjusts h l x placed s o.at this →
      Calls h l x placed s k o (Code o.function k.kind this (return_for h l o.function (listing h l k).function))

-- at the entry of a function that the class of s declares stands its final overrider in the view
pub record HasCall (h : Classes) (l : Places) (x : View) (placed : PlacedTables) (s : Subobject) (k : EntryKey) (point : ℕ) : Type 0 where
  pub overrider : Overrider
  pub final : IsFinalOverrider h x.class s k.function overrider
  pub word : EntryWord
  pub there : HasEntry placed.image placed.codes (point + 8 * entry_number h l k) word
  pub calls : Calls h l x placed s k overrider word

-- what the image gives for a subobject s of the view, of class c, whose virtual pointer leads to this address point: its calls,
-- the way to each of its virtual bases, the way to the view, and the record of the view's class
pub record Sees (h : Classes) (l : Places) (x : View) (placed : PlacedTables) (s : Subobject) (c : ClassId) (point : ℕ) : Type 0 where
  pub calls : (k : EntryKey) → Contains (own_keys h c) k → HasCall h l x placed s k point
  pub converts : (v : ClassId) → HasVirtualBase h c v → HasDistance l x placed.image s (shared_base v) (8 * (vbase_number h l c v + 3)) point
  pub top : HasDistance l x placed.image s (whole_of x.class) 16 point
  pub type_of : HasTypeInfo placed x.class point

-- what the image gives for a view: each dynamic subobject has one address point, and from there sees what it needs
pub record IsSeen (h : Classes) (l : Places) (x : View) (placed : PlacedTables) : Type 0 where
  pub some_point : (s : Subobject) (c : ClassId) → IsSubobject h x.class s → class_of s ≡ Some c → IsDynamic h c → (point : ℕ) × IsPointOf h l x placed s point
  pub one_point : (s : Subobject) (p q : ℕ) → IsPointOf h l x placed s p → IsPointOf h l x placed s q → p ≡ q
  pub sees : (s : Subobject) (c : ClassId) (point : ℕ) → IsSubobject h x.class s → class_of s ≡ Some c → IsPointOf h l x placed s point → Sees h l x placed s c point

-- two subobjects of a view share a virtual pointer: they lie at one place, and one table serves both
pub record SharePointer (h : Classes) (l : Places) (x : View) (s t : Subobject) : Type 0 where
  pub same_place : place l x s ≡ place l x t
  pub head : Subobject
  pub first : Serves h l x head s
  pub second : Serves h l x head t
