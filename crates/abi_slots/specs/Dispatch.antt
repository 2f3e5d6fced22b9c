-- The law of dispatch: where the words of the table that serves a subobject lead (Itanium C++ ABI 2.5.3).
use Rattle.std.specs.Prelude.{◌≡◌, ℕ, ◌+◌, true, false, Option, Some, None, slice_get, ℤ, pos, ◌+ℤ◌}
use Rattle.cxx_hierarchy.specs.declared.records.ClassId.{ClassId}
use Rattle.cxx_hierarchy.specs.Classes.{Classes}
use Rattle.cxx_hierarchy.specs.VirtualBases.{HasVirtualBase}
use Rattle.cxx_subobject.specs.declared.Subobject.{Subobject}
use Rattle.cxx_subobject.specs.Subobjects.{shared_base, whole_of}
use Rattle.cxx_overrider.specs.declared.FunctionId.{FunctionId}
use Rattle.cxx_overrider.specs.declared.Overrider.{Overrider}
use Rattle.cxx_overrider.specs.Functions.{is_pure}
use Rattle.cxx_overrider.specs.Overriding.{IsFinalOverrider}
use Rattle.abi_primary.specs.Kinds.{IsDynamic}
use Rattle.abi_sound.specs.Places.{Places}
use Rattle.abi_slots.specs.declared.words.ThisAdjust.{ThisAdjust}
use Rattle.abi_slots.specs.declared.words.EntryWord.{EntryWord}
use Rattle.abi_slots.specs.declared.words.EntryWord.TheVariants.{Pure, Code}
use Rattle.abi_slots.specs.declared.words.TableWord.{TableWord}
use Rattle.abi_slots.specs.declared.words.TableWord.TheVariants.{Vcall, Vbase, Top, Info, Entry}
use Rattle.abi_slots.specs.declared.words.EntryKey.{EntryKey}
use Rattle.abi_slots.specs.declared.words.Table.{Table}
use Rattle.abi_slots.specs.declared.words.Group.{Group}
use Rattle.abi_slots.specs.Listing.{listing, entry_number, vbase_number}
use Rattle.abi_slots.specs.Views.{View, place, heads, Serves}
use Rattle.abi_slots.specs.Groups.{offset_bytes, return_for}

-- a table of the group serves the subobject s of the view
pub record IsServedBy (h : Classes) (l : Places) (x : View) (group : Group) (s : Subobject) (table : Table) : Type 0 where
  pub number : ℕ
  pub head : Subobject
  pub at_head : slice_get (heads h l x) number ≡ Some head
  pub at_table : slice_get group.tables number ≡ Some table
  pub serves : Serves h l x head s

-- from the place of one subobject a distance leads to the place of another
abbrev pub LeadsByDistance : Places → View → Subobject → ℤ → Subobject → Type 0
LeadsByDistance l x s distance o = pos (place l x s) +ℤ distance ≡ pos (place l x o)

-- the n-th offset of the table, counted from 0 downwards from the third word before the address point
pub record HasOffset (table : Table) (n : ℕ) (word : TableWord) : Type 0 where
  pub number : ℕ
  pub before : number + n + 3 ≡ table.before
  pub there : slice_get table.words number ≡ Some word

-- the vcall word of the table that serves a virtual base of the view leads from there to o
pub record LeadsOn (h : Classes) (l : Places) (x : View) (group : Group) (v : ClassId) (n : ℕ) (o : Subobject) : Type 0 where
  pub distance : ℤ
  pub leads : LeadsByDistance l x (shared_base v) distance o
  pub each : (table : Table) → IsServedBy h l x group (shared_base v) table → (f : FunctionId) × HasOffset table n (Vcall distance f)

-- the adjustment of `this` leads from s to o
pub data ThisLeads (h : Classes) (l : Places) (x : View) (group : Group) (s o : Subobject) : Option ThisAdjust → Type 0 where
  as_it_is : place l x s ≡ place l x o → ThisLeads h l x group s o None
  by_constant : (distance : ℤ) → LeadsByDistance l x s distance o → ThisLeads h l x group s o (Some (record { constant = distance; vcall = None }))
  by_base : (v : ClassId) (distance : ℤ) (n : ℕ) → HasVirtualBase h x.class v → IsDynamic h v → LeadsByDistance l x s distance (shared_base v) → LeadsOn h l x group v n o →
      ThisLeads h l x group s o (Some (record { constant = distance; vcall = Some (offset_bytes n) }))

-- the word runs the overrider, with its subobject as `this` and its result as the entry's function returns it; or it is pure
pub data RunsOverrider (h : Classes) (l : Places) (x : View) (group : Group) (s : Subobject) (k : EntryKey) (o : Overrider) : EntryWord → Type 0 where
  runs_pure : is_pure h o.function ≡ true → RunsOverrider h l x group s k o (Pure o.function)
  runs_code : (this : Option ThisAdjust) → is_pure h o.function ≡ false → ThisLeads h l x group s o.at this →
      RunsOverrider h l x group s k o (Code o.function k.kind this (return_for h l o.function (listing h l k).function))

-- the table has, at the entry of a function that the class of s declares, the final overrider of that function in the view
pub record Dispatches (h : Classes) (l : Places) (x : View) (group : Group) (s : Subobject) (table : Table) (k : EntryKey) : Type 0 where
  pub overrider : Overrider
  pub final : IsFinalOverrider h x.class s k.function overrider
  pub word : EntryWord
  pub there : slice_get table.words (table.before + entry_number h l k) ≡ Some (Entry word)
  pub runs : RunsOverrider h l x group s k overrider word

-- the table has, at the number of a virtual base of the class of s, how far it is from s to that base
pub record LeadsToVirtualBase (h : Classes) (l : Places) (x : View) (s : Subobject) (c : ClassId) (table : Table) (v : ClassId) : Type 0 where
  pub distance : ℤ
  pub there : HasOffset table (vbase_number h l c v) (Vbase distance v)
  pub leads : LeadsByDistance l x s distance (shared_base v)

-- the two words before the address point: how far it is to the start of the view, and the class of the view
pub record HasTop (l : Places) (x : View) (s : Subobject) (table : Table) : Type 0 where
  pub number : ℕ
  pub before : number + 2 ≡ table.before
  pub distance : ℤ
  pub top : slice_get table.words number ≡ Some (Top distance)
  pub leads : LeadsByDistance l x s distance (whole_of x.class)
  pub info : slice_get table.words (number + 1) ≡ Some (Info x.class)
