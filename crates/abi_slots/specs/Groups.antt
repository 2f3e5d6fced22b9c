-- The tables of a group, word by word (Itanium C++ ABI 2.5.2, 2.5.3).
use Rattle.std.specs.Prelude.{◌≡◌, ℕ, zero, suc, ◌+◌, ◌*◌, Bool, true, false, nat_eq, ◌&&◌, if◌then◌else◌, Option, Some, None, List, [], ◌∷◌, ◌++◌, map, length, reverse, slice_get, ℤ, pos, negsuc, ◌-ℤ◌}
use Rattle.std.specs.List.{list_any}
use Rattle.cxx_hierarchy.specs.declared.records.ClassId.{ClassId}
use Rattle.cxx_hierarchy.specs.Classes.{Classes}
use Rattle.cxx_subobject.specs.declared.Root.{Root}
use Rattle.cxx_subobject.specs.declared.Root.TheVariants.{Whole, Shared}
use Rattle.cxx_subobject.specs.declared.Subobject.{Subobject}
use Rattle.cxx_subobject.specs.Subobjects.{subobject, shared_base, whole_of, class_of}
use Rattle.cxx_subobject.specs.Inside.{is_longer}
use Rattle.cxx_overrider.specs.declared.FunctionId.{FunctionId}
use Rattle.cxx_overrider.specs.declared.Overrider.{Overrider}
use Rattle.cxx_overrider.specs.Functions.{is_pure}
use Rattle.cxx_overrider.specs.Overriding.{IsFinalOverrider}
use Rattle.abi_sound.specs.Places.{Places}
use Rattle.abi_slots.specs.declared.words.ThisAdjust.{ThisAdjust}
use Rattle.abi_slots.specs.declared.words.ReturnAdjust.{ReturnAdjust}
use Rattle.abi_slots.specs.declared.words.EntryWord.{EntryWord}
use Rattle.abi_slots.specs.declared.words.EntryWord.TheVariants.{Unused, Pure, Code}
use Rattle.abi_slots.specs.declared.words.TableWord.{TableWord}
use Rattle.abi_slots.specs.declared.words.TableWord.TheVariants.{Vcall, Vbase, Top, Info, Entry}
use Rattle.abi_slots.specs.declared.words.Conversion.{Conversion}
use Rattle.abi_slots.specs.declared.words.EntryKey.{EntryKey}
use Rattle.abi_slots.specs.declared.words.Offset.{Offset}
use Rattle.abi_slots.specs.declared.words.Offset.TheVariants.{ToBase, ToOverrider}
use Rattle.abi_slots.specs.declared.words.Table.{Table}
use Rattle.abi_slots.specs.declared.words.Group.{Group}
use Rattle.cxx_overrider.specs.Virtuals.{same_name, own}
use Rattle.cxx_subobject.specs.VirtualBases.{shared_at}
use Rattle.abi_slots.specs.Listing.{entry_key, same_entry_key, listing, entries, offsets, conversion, base_of_class, vbase_number, vcall_number}
use Rattle.abi_slots.specs.Views.{View, IsView, seen, place, next, first_in, heads}

-- two lists go along: the items at each place are related
pub record GoAlong {A : Type 0} {B : Type 0} (R : A → B → Type 0) (xs : List A) (ys : List B) : Type 0 where
  pub size : length ys ≡ length xs
  pub each : (i : ℕ) (a : A) (b : B) → slice_get xs i ≡ Some a → slice_get ys i ≡ Some b → R a b

-- how far it is in the complete object from one subobject to another
abbrev pub between : Places → ClassId → Subobject → Subobject → ℤ
between l c from to = pos (l.place c to) -ℤ pos (l.place c from)

-- the number n counts words from the third one before the address point downwards; so many bytes are they from it
abbrev pub offset_bytes : ℕ → ℤ
offset_bytes n = pos 0 -ℤ pos (8 * (n + 3))

-- adjustments

abbrev pub this_constant : ℤ → Option ThisAdjust
this_constant (pos zero) = None
this_constant (pos (suc n)) = Some (record { constant = pos (suc n); vcall = None })
this_constant (negsuc n) = Some (record { constant = negsuc n; vcall = None })

-- the virtual base below which a subobject lies
abbrev pub root_base : Root → Subobject → Subobject
root_base Whole s = s
root_base (Shared v) s = shared_base v

-- how `this` is adjusted from one subobject of a complete object of class c to another that contains it: by a constant,
-- or to the virtual base below which it lies, and then by the vcall word of the table there
abbrev pub this_adjust : Places → ClassId → (from to : Subobject) → Option ℤ → Option ThisAdjust
this_adjust l c from to None = this_constant (between l c from to)
this_adjust l c from to (Some bytes) = Some (record { constant = between l c from (root_base from.root from); vcall = Some bytes })

abbrev pub return_constant : ℕ → Option ReturnAdjust
return_constant zero = None
return_constant (suc n) = Some (record { vbase = None; constant = pos (suc n) })

-- how a result is adjusted from an object of class c to its base subobject at a path: by a constant, or by a vbase
-- word of its table, and then by a constant
abbrev pub return_adjust : Places → ClassId → Subobject → Option ℤ → Option ReturnAdjust
return_adjust l c path None = return_constant (l.place c path)
return_adjust l c path (Some bytes) = Some (record { vbase = Some bytes; constant = between l c (root_base path.root path) path })

abbrev pub vcall_bytes : Classes → Places → FunctionId → Root → Option ℤ
vcall_bytes h l f Whole = None
vcall_bytes h l f (Shared v) = Some (offset_bytes (vcall_number h l v f))

-- a vcall word is used where the subobject is not in the non-virtual part of the overrider's
abbrev pub vcall_for : Classes → Places → FunctionId → (from to : Subobject) → Option ℤ
vcall_for h l f from to = if is_longer to from then None else vcall_bytes h l f from.root

abbrev pub vbase_bytes : Classes → Places → ClassId → Root → Option ℤ
vbase_bytes h l c Whole = None
vbase_bytes h l c (Shared v) = Some (offset_bytes (vbase_number h l c v))

abbrev pub adjust_to : Classes → Places → ClassId → Option Subobject → Option ReturnAdjust
adjust_to h l c None = None
adjust_to h l c (Some path) = return_adjust l c path (vbase_bytes h l c path.root)

abbrev pub adjust_by : Classes → Places → Option Conversion → Option ReturnAdjust
adjust_by h l None = None
adjust_by h l (Some c) = adjust_to h l c.from (base_of_class h c.from c.to)

-- how the result of f is adjusted at an entry that was listed for g
abbrev pub return_for : Classes → Places → FunctionId → FunctionId → Option ReturnAdjust
return_for h l f g = adjust_by h l (conversion h f g)

-- words

-- the subobject of the view that lies below a virtual base at a path, or below the view itself where this is that base
abbrev pub named_in : ClassId → List ClassId → Subobject
named_in d [] = subobject Whole []
named_in d (v ∷ path) = subobject (if nat_eq v.0 d.0 then Whole else Shared v) (v ∷ path)

-- the word of an offset in the table of t: how far it is to a virtual base, or to the final overrider in the view
pub data IsOffsetWord (h : Classes) (l : Places) (x : View) (t : Subobject) : Offset → TableWord → Type 0 where
  to_base : (v : ClassId) → IsOffsetWord h l x t (ToBase v) (Vbase (between l x.complete (seen x t) (seen x (shared_base v))) v)
  to_overrider : (path : List ClassId) (f : FunctionId) (o : Overrider) → IsFinalOverrider h x.class (named_in x.class path) f o → IsOffsetWord h l x t (ToOverrider path f) (Vcall (between l x.complete (seen x t) (seen x o.at)) f)

abbrev pub declares_in : Classes → Places → EntryKey → Option ClassId → Bool
declares_in h l k None = false
declares_in h l k (Some c) = list_any (λ f. same_name h f k.function && same_entry_key (listing h l (entry_key f k.kind)) k) (own h c)

-- the class of s declares a function at this entry
abbrev pub declares_at : Classes → Places → EntryKey → Subobject → Bool
declares_at h l k s = declares_in h l k (class_of s)

-- the first of the chain of t whose class declares a function at the entry; class numbers fall along a chain
abbrev pub declarer : Classes → Places → View → Subobject → EntryKey → Option Subobject
declarer h l x t k = first_in (declares_at h l k) (next l x) (x.class.0 + 1) (Some t)

abbrev pub code_word : Classes → Places → View → EntryKey → Subobject → Overrider → EntryWord
code_word h l x k s o =
    if is_pure h o.function then Pure o.function
    else Code o.function k.kind (this_adjust l x.complete (seen x s) (seen x o.at) (vcall_for h l k.function s o.at)) (return_for h l o.function k.function)

-- the word of an entry in the table of t: the final overrider, in the view, of what the most derived class of the chain
-- declares there. Nothing runs where no class of the chain declares one
pub data IsEntryWord (h : Classes) (l : Places) (x : View) (t : Subobject) (k : EntryKey) : EntryWord → Type 0 where
  nothing : declarer h l x t k ≡ None → IsEntryWord h l x t k Unused
  runs : (s : Subobject) (o : Overrider) → declarer h l x t k ≡ Some s → IsFinalOverrider h x.class s k.function o → IsEntryWord h l x t k (code_word h l x k s o)

-- it is a virtual base of the complete object, itself
abbrev pub is_shared_base : Subobject → Bool
is_shared_base s = is_class_some (shared_at s.root s.path)
  where
    is_class_some : Option ClassId → Bool
    is_class_some None = false
    is_class_some (Some v) = true

-- the table of a subobject t of the view, of class c
pub record IsTable (h : Classes) (l : Places) (x : View) (t : Subobject) (table : Table) : Type 0 where
  pub class : class_of t ≡ Some table.class
  pub place : table.place ≡ place l x t
  pub offset_words : List TableWord
  pub are_offsets : GoAlong (IsOffsetWord h l x t) (offsets h l (is_shared_base (seen x t)) table.class) offset_words
  pub entry_words : List EntryWord
  pub are_entries : GoAlong (IsEntryWord h l x t) (entries h l table.class) entry_words
  pub words : table.words ≡ reverse offset_words ++ Top (between l x.complete (seen x t) (seen x (whole_of x.class))) ∷ Info x.class ∷ map Entry entry_words
  pub before : table.before ≡ length offset_words + 2

abbrev pub view_of_group : Group → ClassId → View
view_of_group group class = record { complete = group.name.complete; at_sub = group.name.view; class = class }

-- the group of a view: the tables of its heads
pub record IsGroup (h : Classes) (l : Places) (group : Group) : Type 0 where
  pub class : ClassId
  pub view : IsView h (view_of_group group class)
  pub tables : GoAlong (IsTable h l (view_of_group group class)) (heads h l (view_of_group group class)) group.tables
