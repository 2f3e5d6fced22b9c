-- What the tables of slots tell.
use Rattle.std.proofs.Common.{◌≡◌, ℕ, zero, suc, ◌<◌, ◌≤◌, Bool, true, Option, Some, None, List, [], ◌∷◌, map, length, get_or, refl, sym, arith}
use Rattle.std.specs.Prelude.{slice_get, Contains, pos}
use Rattle.std.specs.List.{list_any}
use Rattle.std.specs.Option.{option_and_then}
use Rattle.std.proofs.lemmas.Option.{slice_get_within, get_or_from_slice_get}
use Rattle.cxx_hierarchy.specs.declared.records.ClassId.{ClassId}
use Rattle.cxx_hierarchy.specs.declared.records.Base.{Base}
use Rattle.cxx_hierarchy.specs.Classes.{Class, Classes, class_at, bases_in}
use Rattle.cxx_hierarchy.specs.Hierarchies.{IsHierarchy}
use Rattle.cxx_subobject.proofs.PathLemmas.{virtual_below}
use Rattle.cxx_hierarchy.specs.VirtualBases.{IsDirectBase, HasVirtualBase, direct, further}
use Rattle.cxx_overrider.specs.declared.FunctionId.{FunctionId}
use Rattle.cxx_overrider.specs.invariants.Numbers.{number_of}
use Rattle.cxx_search.proofs.Names.{name_signature}
use Rattle.abi_sound.specs.Places.{Places}
use Rattle.abi_slots.specs.declared.rows.SlotRow.{SlotRow}
use Rattle.abi_slots.specs.declared.slots.Slots.{Slots}
use Rattle.abi_slots.specs.Listing.{is_offset_of_name, offsets, vcall_number}
use Rattle.abi_slots.specs.Slots.{word_number, IsVirtualBase, AreSlots}
use Rattle.abi_slots.proofs.Lists.{item_any}
use Rattle.abi_slots.proofs.Names.{named_is}

-- what a function gives for the item at a place
pub mapped_at : {A : Type 0} {B : Type 0} (f : A → Option B) (xs : List A) (n : ℕ) → get_or (map f xs) n None ≡ option_and_then f (slice_get xs n)
mapped_at f [] n = refl
mapped_at f (x ∷ xs) zero = refl
mapped_at f (x ∷ xs) (suc n) = mapped_at f xs n

-- a function of a name that a class lists has a number
pub listed_number : (h : Classes) (l : Places) (slots : Slots) → AreSlots h l slots → (v : ClassId) (f : FunctionId) → list_any (is_offset_of_name h f) (offsets h l true v) ≡ true → (n : ℕ) × (number_of slots.numbering.rows.items f ≡ Some n)
listed_number h l slots are v f e =
    let r = item_any (is_offset_of_name h f) (offsets h l true v) e in
    let named = named_is h f r.0 r.2 in
    let s = name_signature h f named.1 named.3 in
    are.numbering.numbered f s.0 s.1

-- a class that has bases is one of the hierarchy
class_known : (h : Classes) (c : ClassId) (o : Option Class) → class_at h c ≡ o → (b : Base ClassId) → Contains (bases_in o) b → c.0 < length h
class_known h c None at b (k, lt, e) = absurd (omega arith)
class_known h c (Some class) at b there = slice_get_within h c.0 class at

edge_known : (h : Classes) (c b : ClassId) (way : Bool) → IsDirectBase h c way b → c.0 < length h
edge_known h c b way edge = class_known h c (class_at h c) refl edge.base edge.listed

pub base_known : (h : Classes) (c v : ClassId) → HasVirtualBase h c v → c.0 < length h
base_known h _ _ (direct c v edge) = edge_known h c v true edge
base_known h _ _ (further c b v way edge has) = edge_known h c b way edge

-- a class that is a virtual base is one of the hierarchy
pub virtual_known : (h : Classes) → IsHierarchy h → (v : ClassId) → IsVirtualBase h v → v.0 < length h
virtual_known h keeps v is = let below = virtual_below h keeps is.of v is.has in let known = base_known h is.of v is.has in omega arith

-- the number of a vcall word, as it is kept
pub kept_vcall : (h : Classes) (l : Places) (slots : Slots) → AreSlots h l slots → (v : ClassId) (f : FunctionId) (row : SlotRow) (n : ℕ) → Some row ≡ slice_get slots.rows.items v.0 → Some n ≡ number_of slots.numbering.rows.items f → IsVirtualBase h v → list_any (is_offset_of_name h f) (offsets h l true v) ≡ true
    → get_or row.vcalls n (pos 0) ≡ word_number (vcall_number h l v f)
kept_vcall h l slots are v f row n at number is listed = get_or_from_slice_get row.vcalls n _ (pos 0) ((are.each v row (sym at)).vcall is f n (sym number) listed)

-- there is a row
pub no_row : (h : Classes) (l : Places) (slots : Slots) → AreSlots h l slots → (v : ClassId) → length slots.rows.items ≤ v.0 → IsVirtualBase h v → ⊥
no_row h l slots are v past is = let known = virtual_known h are.keeps v is in let size = are.size in omega arith

pub no_number : (h : Classes) (l : Places) (slots : Slots) → AreSlots h l slots → (v : ClassId) (f : FunctionId) → None ≡ number_of slots.numbering.rows.items f → list_any (is_offset_of_name h f) (offsets h l true v) ≡ true → ⊥
no_number h l slots are v f none listed = let r = listed_number h l slots are v f listed in let e = r.1 in cc
