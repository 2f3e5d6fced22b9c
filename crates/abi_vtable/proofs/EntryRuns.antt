-- What an entry runs, by the part whose class declares it.
use Rattle.std.proofs.Common.{◌≡◌, ℕ, ◌+◌, ◌<◌, true, Option, Some, None, List, length, get_or, refl, ap, subst, sym, ◌∙◌}
use Rattle.std.specs.Prelude.{slice_get, if◌then◌else◌}
use Rattle.std.proofs.lemmas.Option.{slice_get_within}
use Rattle.std.proofs.lemmas.List.{length-map}
use Rattle.foundation.proofs.Places.{get_within, get_read}
use Rattle.cxx_hierarchy.specs.Classes.{Classes}
use Rattle.cxx_hierarchy.specs.Hierarchies.{IsHierarchy}
use Rattle.cxx_subobject.specs.declared.Subobject.{Subobject}
use Rattle.cxx_subobject.specs.Subobjects.{class_of}
use Rattle.cxx_subobject.specs.Inside.{IsInside}
use Rattle.cxx_subobject.specs.Preorder.{preorder}
use Rattle.cxx_overrider.specs.declared.FunctionId.{FunctionId}
use Rattle.cxx_overrider.specs.declared.Overrider.{Overrider}
use Rattle.cxx_overrider.specs.Functions.{is_pure, overrider}
use Rattle.cxx_overrider.specs.Overriding.{IsVirtual, IsFinalOverrider}
use Rattle.abi_sound.specs.declared.class_layout.ClassLayout.{ClassLayout}
use Rattle.abi_sound.specs.Places.{Places, places_of}
use Rattle.abi_sound.specs.Sound.{IsSoundLayout}
use Rattle.abi_slots.specs.declared.words.EntryWord.{EntryWord}
use Rattle.abi_slots.specs.declared.words.EntryWord.TheVariants.{Unused, Pure, Code}
use Rattle.abi_slots.specs.declared.words.EntryKey.{EntryKey}
use Rattle.cxx_overrider.specs.Virtuals.{same_name, own}
use Rattle.abi_slots.specs.Views.{View, seen, next, first_in}
use Rattle.abi_slots.specs.Groups.{this_adjust, vcall_for, return_for, declares_at, declarer, code_word, IsEntryWord, nothing, runs}
use Rattle.abi_slots.proofs.Bases.{item_contains}
use Rattle.abi_slots.proofs.Chains.{same_some}
use Rattle.abi_slots.proofs.Lists.{Item}
use Rattle.abi_slots.proofs.Owns.{own_virtual}
use Rattle.abi_slots.proofs.Settings.{setting_of}
use Rattle.abi_vtable.specs.declared.view.ViewPart.{ViewPart}
use Rattle.abi_vtable.specs.declared.view.ViewParts.{ViewParts}
use Rattle.abi_vtable.specs.declared.words.Declarer.{Declarer}
use Rattle.abi_vtable.specs.invariants.Parts.{NumbersSubobject, number, IsViewPart, at_of, IsViewParts, view_of_parts}
use Rattle.abi_vtable.specs.invariants.Words.{HasVcall, IsDeclaredBy, nowhere, at_part}
use Rattle.abi_vtable.proofs.Parts.{class_known}
use Rattle.abi_vtable.proofs.Over.{same_part, other_name, has_vcall}

-- the first part of the chain from a number on whose class declares an entry
abbrev pub first_from : (h : Classes) → Places → (v : ViewParts) → EntryKey → ℕ → Option Subobject
first_from h l v k n = first_in (declares_at h l k) (next l (view_of_parts v)) (v.class.0 + 1) (slice_get (preorder h v.class) n)

pub start_number : (h : Classes) (l : Places) (v : ViewParts) → IsViewParts h l v → (n : ℕ) → n < length v.parts → NumbersSubobject (preorder h v.class) (Some n) (slice_get (preorder h v.class) n)
start_number h l v view n lt =
    let size : length (preorder h v.class) ≡ length v.parts = ap length (sym view.parts.subobjects) ∙ length-map v.parts at_of in
    let r = get_within (preorder h v.class) n (subst (λ a. n < a) (sym size) lt) in
    subst (λ o. NumbersSubobject (preorder h v.class) (Some n) o) (sym r.1) (number n r.0 r.1)

-- what declares an entry
pub record IsFound (h : Classes) (parts : List ViewPart) (k : EntryKey) (o : Option Subobject) (found : Declarer) : Type 0 where
  pub part : ViewPart
  pub there : slice_get parts found.part ≡ Some part
  pub is : o ≡ Some part.at
  pub class : found.function.class ≡ part.class
  pub item : Item (own h part.class) found.function
  pub named : same_name h found.function k.function ≡ true

pub found_of : (h : Classes) (l : Places) (x : View) (parts : List ViewPart) (k : EntryKey) (o : Option Subobject) (r : Option Declarer) (found : Declarer) → r ≡ Some found → IsDeclaredBy h l x parts k o r → IsFound h parts k o found
found_of h l x parts k _ _ found e nowhere = cc
found_of h l x parts k _ _ found e (at_part f part there class own_f named) =
    subst (λ a. IsFound h parts k (Some part.at) a) (same_some f found e) (record { part = part; there = there; is = refl; class = class; item = item_contains (own h part.class) f.function own_f; named = named })

pub none_of : (h : Classes) (l : Places) (x : View) (parts : List ViewPart) (k : EntryKey) (o : Option Subobject) (r : Option Declarer) → r ≡ None → IsDeclaredBy h l x parts k o r → o ≡ None
none_of h l x parts k _ _ e nowhere = refl
none_of h l x parts k _ _ e (at_part f part there class own_f named) = cc

pub found_within : (h : Classes) (parts items : List ViewPart) (k : EntryKey) (o : Option Subobject) (found : Declarer) → items ≡ parts → IsFound h parts k o found → found.part < length items
found_within h parts items k o found same is = subst (λ (xs : List ViewPart). found.part < length xs) (sym same) (slice_get_within parts found.part is.part is.there)

-- what a search from a number on tells of the one that it found
pub found_from : (h : Classes) (l : Places) (v : ViewParts) → IsViewParts h l v → (k : EntryKey) (n : ℕ) → n < length v.parts → (r : Option Declarer) (found : Declarer) → r ≡ Some found →
    (NumbersSubobject (preorder h v.class) (Some n) (slice_get (preorder h v.class) n) → IsDeclaredBy h l (view_of_parts v) v.parts k (first_from h l v k n) r) → IsFound h v.parts k (first_from h l v k n) found
found_from h l v view k n within r found is told = found_of h l (view_of_parts v) v.parts k (first_from h l v k n) r found is (told (start_number h l v view n within))

-- the part that declares the entry, and its function
pub record Declares (h : Classes) (l : Places) (v : ViewParts) (k : EntryKey) (o : Option Subobject) (part : ViewPart) (f : FunctionId) : Type 0 where
  pub of : IsViewPart h l (view_of_parts v) (preorder h v.class) part
  pub is : o ≡ Some part.at
  pub class : class_of part.at ≡ Some f.class
  pub is_virtual : IsVirtual h f
  pub named : same_name h f k.function ≡ true
  pub vcall : HasVcall h l k.function part.at.root

pub declares : (h : Classes) (rows : List ClassLayout) → IsHierarchy h → IsSoundLayout h rows → (v : ViewParts) → IsViewParts h (places_of h rows) v → (items : List ViewPart) (k : EntryKey) (o : Option Subobject) (found : Declarer) (part : ViewPart) →
    items ≡ v.parts → part ≡ get_or items found.part part → IsFound h v.parts k o found → Declares h (places_of h rows) v k o part found.function
declares h rows keeps sound v view items k o found part same is f =
    let l = places_of h rows in
    let lt = found_within h v.parts items k o found same f in
    let one : f.part ≡ part = same_some f.part part (sym f.there ∙ ap (λ xs. slice_get xs found.part) (sym same) ∙ get_read items found.part part lt is) in
    let of = view.parts.each found.part f.part f.there in
    let class : class_of f.part.at ≡ Some found.function.class = of.class ∙ ap (λ a. Some a) (sym f.class) in
    let item : Item (own h found.function.class) found.function = subst (λ c. Item (own h c) found.function) (sym f.class) f.item in
    let all : Declares h l v k o f.part found.function = record {
      of = of;
      is = f.is;
      class = class;
      is_virtual = own_virtual h keeps found.function.class found.function item;
      named = f.named;
      vcall = has_vcall h l (view_of_parts v) (setting_of h rows keeps sound (view_of_parts v) view.view) f.part.at k.function found.function of.valid class item f.named;
    } in
    subst (λ a. Declares h l v k o a found.function) one all

-- the same of the part that is read for the one that a search from a number on found
pub declared_from : (h : Classes) (rows : List ClassLayout) → IsHierarchy h → IsSoundLayout h rows → (v : ViewParts) → IsViewParts h (places_of h rows) v → (k : EntryKey) (n : ℕ) → n < length v.parts → (r : Option Declarer) (found : Declarer) → r ≡ Some found →
    (NumbersSubobject (preorder h v.class) (Some n) (slice_get (preorder h v.class) n) → IsDeclaredBy h (places_of h rows) (view_of_parts v) v.parts k (first_from h (places_of h rows) v k n) r) → (items : List ViewPart) (part : ViewPart) → items ≡ v.parts → part ≡ get_or items found.part part →
    Declares h (places_of h rows) v k (first_from h (places_of h rows) v k n) part found.function
declared_from h rows keeps sound v view k n within r found is told items part same read =
    let l = places_of h rows in
    declares h rows keeps sound v view items k (first_from h l v k n) found part same read (found_from h l v view k n within r found is told)

pub overrider_known : (h : Classes) → IsHierarchy h → (l : Places) (v : ViewParts) → IsViewParts h l v → (s : Subobject) (f : FunctionId) (o : Overrider) → IsFinalOverrider h v.class s f o → o.function.class.0 < length h
overrider_known h keeps l v view s f o final = class_known h keeps (view_of_parts v) view.view o.at o.function.class final.left.candidate.valid final.left.candidate.class

run_word : (h : Classes) (l : Places) (x : View) (t : Subobject) (k : EntryKey) (s : Subobject) (o : Overrider) (w : EntryWord) → declarer h l x t k ≡ Some s → IsFinalOverrider h x.class s k.function o → w ≡ code_word h l x k s o → IsEntryWord h l x t k w
run_word h l x t k s o w e final is = subst (λ a. IsEntryWord h l x t k a) (sym is) (runs s o e final)

-- the search begins at the part of the table
from_part : (h : Classes) (l : Places) (v : ViewParts) (k : EntryKey) (n : ℕ) (t : Subobject) (r : Option Subobject) → slice_get (preorder h v.class) n ≡ Some t → first_from h l v k n ≡ r → declarer h l (view_of_parts v) t k ≡ r
from_part h l v k n t r at e = ap (first_in (declares_at h l k) (next l (view_of_parts v)) (v.class.0 + 1)) (sym at) ∙ e

pub unused_word : (h : Classes) (l : Places) (v : ViewParts) (k : EntryKey) (n : ℕ) (t : Subobject) → slice_get (preorder h v.class) n ≡ Some t → first_from h l v k n ≡ None → IsEntryWord h l (view_of_parts v) t k Unused
unused_word h l v k n t at e = nothing (from_part h l v k n t None at e)

pub pure_word : (h : Classes) (l : Places) (v : ViewParts) (k : EntryKey) (n : ℕ) (t at_sub : Subobject) (part : ViewPart) (f g : FunctionId) → slice_get (preorder h v.class) n ≡ Some t →
    Declares h l v k (first_from h l v k n) part f → IsFinalOverrider h v.class part.at f (overrider at_sub g) → is_pure h g ≡ true → IsEntryWord h l (view_of_parts v) t k (Pure g)
pure_word h l v k n t at_sub part f g at d final pure =
    let x = view_of_parts v in
    run_word h l x t k part.at (overrider at_sub g) (Pure g) (from_part h l v k n t (Some part.at) at d.is) (other_name h v.class part.at f k.function (overrider at_sub g) d.named final)
    (sym (ap (λ b. if b then Pure g else Code g k.kind (this_adjust l x.complete (seen x part.at) (seen x at_sub) (vcall_for h l k.function part.at at_sub)) (return_for h l g k.function)) pure))

pub code_runs : (h : Classes) → IsHierarchy h → (l : Places) (v : ViewParts) (k : EntryKey) (n : ℕ) (t at_sub : Subobject) (part to : ViewPart) (f g : FunctionId) (w : EntryWord) → slice_get (preorder h v.class) n ≡ Some t →
    Declares h l v k (first_from h l v k n) part f → IsFinalOverrider h v.class part.at f (overrider at_sub g) →
    IsViewPart h l (view_of_parts v) (preorder h v.class) to → to.class ≡ g.class → IsInside h to.at part.at → w ≡ code_word h l (view_of_parts v) k part.at (overrider to.at g) → IsEntryWord h l (view_of_parts v) t k w
code_runs h keeps l v k n t at_sub part to f g w at d final of class inside is =
    let x = view_of_parts v in
    let same = same_part h keeps l x (preorder h v.class) part.at at_sub f g to final of class inside in
    run_word h l x t k part.at (overrider at_sub g) w (from_part h l v k n t (Some part.at) at d.is) (other_name h v.class part.at f k.function (overrider at_sub g) d.named final) (is ∙ ap (λ a. code_word h l x k part.at (overrider a g)) same)
