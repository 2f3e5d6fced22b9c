-- What the classes of an example list, computed from the definitions:
--     struct V { virtual void f() {} virtual ~V() {} };    struct D : virtual V { virtual void f() {} };
-- V has 8 bytes, and is the primary base of D, which adds a member of 8 bytes in the first layout; in the second one it lies at 16.
use Rattle.std.proofs.Common.{◌≡◌, ℕ, true, false, Option, Some, None, List, [], ◌∷◌, refl, pos, negsuc}
use Rattle.cxx_hierarchy.specs.declared.records.ClassId.{ClassId}
use Rattle.cxx_hierarchy.specs.declared.records.Function.{Function}
use Rattle.cxx_hierarchy.specs.declared.records.PartAt.{PartAt}
use Rattle.cxx_hierarchy.specs.declared.records.PartKind.TheVariants.{Function as FunctionPart, Destructor}
use Rattle.cxx_hierarchy.specs.declared.records.ReturnType.TheVariants.{Void}
use Rattle.cxx_hierarchy.specs.declared.records.Destructor.TheVariants.{Implicit, Virtual}
use Rattle.cxx_hierarchy.specs.Classes.{Classes, class_by_number}
use Rattle.cxx_subobject.specs.declared.Subobject.{Subobject}
use Rattle.cxx_subobject.specs.Subobjects.{shared_base, whole_of}
use Rattle.cxx_overrider.specs.declared.FunctionId.{FunctionId}
use Rattle.abi_primary.specs.declared.Primary.{Primary}
use Rattle.abi_primary.specs.declared.Primary.TheVariants.{None as NoPrimary, Virtual as VirtualPrimary}
use Rattle.abi_sound.specs.declared.class_layout.ClassLayout.{ClassLayout}
use Rattle.abi_sound.specs.Places.{places_of}
use Rattle.abi_slots.specs.declared.words.CodeKind.TheVariants.{Plain, Complete, Deleting}
use Rattle.abi_slots.specs.declared.words.EntryWord.TheVariants.{Code}
use Rattle.abi_slots.specs.declared.words.Offset.TheVariants.{ToBase, ToOverrider}
use Rattle.cxx_overrider.specs.Virtuals.{function_at}
use Rattle.abi_slots.specs.Listing.{entry_key, entries, offsets, entry_number, vbase_number}
use Rattle.abi_slots.specs.Views.{View, heads}
use Rattle.abi_slots.specs.Groups.{declarer, code_word}

abbrev v : ClassId
v = class_by_number 0

abbrev d : ClassId
d = class_by_number 1

abbrev f : Function ClassId
f = record { name = 102 ∷ []; params = []; ret = Void; is_virtual = true; is_pure = false; at = 0 }

abbrev of_function : PartAt
of_function = record { kind = FunctionPart; number = 0; ty_at = None; at = 0 }

abbrev of_destructor : PartAt
of_destructor = record { kind = Destructor; number = 0; ty_at = None; at = 0 }

abbrev h : Classes
h = record { name = 86 ∷ []; at = 0; bases = []; members = []; functions = f ∷ []; order = of_function ∷ of_destructor ∷ []; has_constructor = false; destructor = Virtual }
    ∷ record { name = 68 ∷ []; at = 0; bases = record { class = v; is_virtual = true; is_public = true; at = 0 } ∷ []; members = []; functions = f ∷ []; order = of_function ∷ []; has_constructor = false; destructor = Implicit }
    ∷ []

abbrev row : Primary → List ClassId → List ℕ → List (Option Subobject) → ClassLayout
row primary bases places holders = record { size = 32; align = 8; dsize = 32; nvsize = 16; nvalign = 8; primary = primary; base_places = []; virtual_bases = bases; virtual_places = places; holders = holders; member_places = []; member_bits = [] }

abbrev apart : List ClassLayout
apart = row NoPrimary [] [] [] ∷ row NoPrimary (v ∷ []) (16 ∷ []) (None ∷ []) ∷ []

abbrev joined : List ClassLayout
joined = row NoPrimary [] [] [] ∷ row (VirtualPrimary v) (v ∷ []) (0 ∷ []) (Some (whole_of d) ∷ []) ∷ []

abbrev vf : FunctionId
vf = function_at v 0

abbrev v_end : FunctionId
v_end = function_at v 1

abbrev df : FunctionId
df = function_at d 0

abbrev d_end : FunctionId
d_end = function_at d 1

-- a destructor has two entries, and one vcall word
v_entries : entries h (places_of h apart) v ≡ entry_key vf Plain ∷ entry_key v_end Complete ∷ entry_key v_end Deleting ∷ []
v_entries = refl

v_offsets : offsets h (places_of h apart) true v ≡ ToOverrider (v ∷ []) vf ∷ ToOverrider (v ∷ []) v_end ∷ []
v_offsets = refl

-- without a primary base D lists entries of its own, the implicit destructor last
d_entries : entries h (places_of h apart) d ≡ entry_key df Plain ∷ entry_key d_end Complete ∷ entry_key d_end Deleting ∷ []
d_entries = refl

d_offsets : offsets h (places_of h apart) false d ≡ ToBase v ∷ []
d_offsets = refl

-- with V as its primary base it shares those of V, and lists what V lists as a virtual base first
joined_entries : entries h (places_of h joined) d ≡ entry_key vf Plain ∷ entry_key v_end Complete ∷ entry_key v_end Deleting ∷ []
joined_entries = refl

joined_offsets : offsets h (places_of h joined) false d ≡ ToOverrider (v ∷ []) vf ∷ ToOverrider (v ∷ []) v_end ∷ ToBase v ∷ []
joined_offsets = refl

joined_number : entry_number h (places_of h joined) (entry_key d_end Deleting) ≡ 2
joined_number = refl

joined_base : vbase_number h (places_of h joined) d v ≡ 2
joined_base = refl

abbrev view : View
view = record { complete = d; at_sub = whole_of d; class = d }

-- two tables, or one
two_heads : heads h (places_of h apart) view ≡ whole_of d ∷ shared_base v ∷ []
two_heads = refl

one_head : heads h (places_of h joined) view ≡ whole_of d ∷ []
one_head = refl

-- the entry of f in the table of V runs D's f by a vcall word, 24 bytes below the address point
thunk_word : code_word h (places_of h apart) view (entry_key vf Plain) (shared_base v) (record { at = whole_of d; function = df }) ≡ Code df Plain (Some (record { constant = pos 0; vcall = Some (negsuc 23) })) None
thunk_word = refl

-- in the table of the whole the function of D is the first that the chain declares
joined_declarer : declarer h (places_of h joined) view (whole_of d) (entry_key vf Plain) ≡ Some (whole_of d)
joined_declarer = refl
