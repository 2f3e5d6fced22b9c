-- What the words of a table stand on.
use Rattle.std.specs.Prelude.{◌≡◌, ℕ, ◌<◌, ◌⊎◌, true, false, Option, Some, None, List, length, slice_get, Contains}
use Rattle.std.specs.List.{list_any}
use Rattle.cxx_hierarchy.specs.declared.records.ClassId.{ClassId}
use Rattle.cxx_hierarchy.specs.Classes.{Classes}
use Rattle.cxx_subobject.specs.declared.Root.{Root}
use Rattle.cxx_subobject.specs.declared.Root.TheVariants.{Whole, Shared}
use Rattle.cxx_subobject.specs.declared.Subobject.{Subobject}
use Rattle.cxx_subobject.specs.Subobjects.{IsSubobject, class_of}
use Rattle.cxx_subobject.specs.Inside.{IsInside}
use Rattle.cxx_overrider.specs.declared.FunctionId.{FunctionId}
use Rattle.cxx_overrider.specs.Overriding.{IsVirtualIn}
use Rattle.abi_sound.specs.Places.{Places}
use Rattle.abi_slots.specs.declared.words.EntryKey.{EntryKey}
use Rattle.abi_slots.specs.declared.words.Offset.{Offset}
use Rattle.abi_slots.specs.declared.words.Offset.TheVariants.{ToBase, ToOverrider}
use Rattle.cxx_overrider.specs.Virtuals.{same_name, own}
use Rattle.abi_slots.specs.Listing.{is_offset_of_name, entries, offsets}
use Rattle.abi_slots.specs.Slots.{IsVirtualBase}
use Rattle.abi_slots.specs.Views.{View, first_in, next, along_chain}
use Rattle.abi_slots.specs.Groups.{named_in, declares_at}
use Rattle.abi_vtable.specs.declared.view.ViewPart.{ViewPart}
use Rattle.abi_vtable.specs.declared.view.ViewParts.{ViewParts}
use Rattle.abi_vtable.specs.declared.words.Declarer.{Declarer}
use Rattle.abi_vtable.specs.invariants.Parts.{view_of_parts}

-- the function of an offset is a virtual one of the subobject that the path names
abbrev pub NamesVirtual : Classes → ClassId → Offset → Type 0
NamesVirtual h c (ToBase v) = Unit {0}
NamesVirtual h c (ToOverrider path f) = IsVirtualIn h c (named_in c path) f

-- a subobject of class d in which s lies
pub record LiesInClass (h : Classes) (c : ClassId) (s : Subobject) (d : ClassId) : Type 0 where
  pub holder : Subobject
  pub valid : IsSubobject h c holder
  pub class : class_of holder ≡ Some d
  pub inside : IsInside h holder s

-- no part before a place is of class d and has s in it
pub record AreNotOver (h : Classes) (parts : List ViewPart) (s : Subobject) (d : ClassId) (i : ℕ) : Type 0 where
  pub each : (k : ℕ) (part : ViewPart) → k < i → slice_get parts k ≡ Some part → part.class ≡ d → IsInside h part.at s → ⊥

-- the vcall word of a function stands in the tables of the virtual base below which a subobject lies
abbrev pub HasVcall : Classes → Places → FunctionId → Root → Type 0
HasVcall h l f Whole = Unit {0}
HasVcall h l f (Shared v) = IsVirtualBase h v × (list_any (is_offset_of_name h f) (offsets h l true v) ≡ true)

-- each of a chain has the entry under this number, or its class declares no function at it
pub record AreAlong (h : Classes) (l : Places) (x : View) (k : EntryKey) (n : ℕ) (s : Option Subobject) : Type 0 where
  pub valid : (j : ℕ) (r : Subobject) → along_chain (next l x) j s ≡ Some r → IsSubobject h x.class r
  pub each : (j : ℕ) (r : Subobject) (d : ClassId) → along_chain (next l x) j s ≡ Some r → class_of r ≡ Some d → (slice_get (entries h l d) n ≡ Some k) ⊎ ((slice_get (entries h l d) n ≡ None) × (declares_at h l k r ≡ false))

-- the part and the function of its class's own that declare the entry
pub data IsDeclaredBy (h : Classes) (l : Places) (x : View) (parts : List ViewPart) (k : EntryKey) : Option Subobject → Option Declarer → Type 0 where
  nowhere : IsDeclaredBy h l x parts k None None
  at_part : (found : Declarer) (part : ViewPart) → slice_get parts found.part ≡ Some part → found.function.class ≡ part.class → Contains (own h part.class) found.function → same_name h found.function k.function ≡ true → IsDeclaredBy h l x parts k (Some part.at) (Some found)

-- the items of one list so far are related to those of another
pub record GoAlongTo {A : Type 0} {B : Type 0} (R : A → B → Type 0) (xs : List A) (i : ℕ) (ys : List B) : Type 0 where
  pub size : length ys ≡ i
  pub each : (j : ℕ) (a : A) (b : B) → slice_get xs j ≡ Some a → slice_get ys j ≡ Some b → R a b

-- the first from s on, so many steps down its chain, whose class declares a function at the entry
abbrev pub IsFirstDeclarer : Classes → Places → ViewParts → EntryKey → (steps : ℕ) → Option Subobject → Option Declarer → Type 0
IsFirstDeclarer h l x k steps s found = IsDeclaredBy h l (view_of_parts x) x.parts k (first_in (declares_at h l k) (next l (view_of_parts x)) steps s) found
