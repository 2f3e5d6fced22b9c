-- There is room for each part of a vcall list that there is room for.
use Rattle.std.proofs.Common.{◌≡◌, ℕ, ◌+◌, ◌<◌, ◌≤◌, true, false, Option, Some, List, [], ◌∷◌, ◌++◌, map, length, drop, get_or, refl, ap, subst, sym, arith}
use Rattle.std.specs.Prelude.{IsSome, All}
use Rattle.std.specs.List.{filter, flat_map}
use Rattle.std.proofs.lemmas.Option.{slice_get-get_or}
use Rattle.cxx_hierarchy.specs.declared.records.ClassId.{ClassId}
use Rattle.cxx_hierarchy.specs.declared.records.Base.{Base}
use Rattle.cxx_hierarchy.specs.Classes.{Classes, bases_of}
use Rattle.cxx_hierarchy.specs.Hierarchies.{IsHierarchy}
use Rattle.cxx_overrider.specs.declared.FunctionId.{FunctionId}
use Rattle.cxx_overrider.specs.Functions.{Signature, signature_of}
use Rattle.abi_primary.specs.declared.Primary.{Primary}
use Rattle.abi_sound.specs.Places.{Places}
use Rattle.abi_slots.specs.declared.words.Offset.{Offset}
use Rattle.cxx_overrider.specs.Virtuals.{own}
use Rattle.abi_slots.specs.Listing.{push_all, call, calls_in}
use Rattle.abi_slots.specs.Rows.{is_chosen, class_of_base, below}
use Rattle.abi_slots.proofs.Lists.{Item}
use Rattle.abi_slots.proofs.Owns.{own_virtual}
use Rattle.abi_slots.proofs.CallSteps.{below_step, calls_are}
use Rattle.abi_slots.proofs.PushSteps.{pushes_grow}

-- the three parts of the vcall list of a class fit
pub record PartsFit (h : Classes) (f : ClassId → List Offset) (path : List ClassId) (old : List Offset) (firsts : List ClassId) (mine : List FunctionId) (others : List ClassId) (most : ℕ) : Type 0 where
  pub firsts_fit : length (push_all h old (flat_map f firsts)) ≤ most
  pub own_fit : length (push_all h (push_all h old (flat_map f firsts)) (map (call path) mine)) ≤ most
  pub others_fit : length (push_all h (push_all h (push_all h old (flat_map f firsts)) (map (call path) mine)) (flat_map f others)) ≤ most

pub parts_fit : (h : Classes) (l : Places) (c : ClassId) (path : List ClassId) (p : Primary) (bases : List (Base ClassId)) (mine : List FunctionId) (firsts others : List ClassId) (old : List Offset) (most : ℕ) → bases ≡ bases_of h c → p ≡ l.primary c → mine ≡ own h c →
    firsts ≡ map class_of_base (filter (is_chosen p true) bases) → others ≡ map class_of_base (filter (is_chosen p false) bases) → length (push_all h old (calls_in h l (c.0 + 1) path c)) ≤ most →
    PartsFit h (below (calls_in h l c.0) path) path old firsts mine others most
parts_fit h l c path p bases mine firsts others old most is primary owns chosen rest few =
    let f = below (calls_in h l c.0) path in
    let one = push_all h old (flat_map f firsts) in
    let two = push_all h one (map (call path) mine) in
    let all = push_all h two (flat_map f others) in
    let same = ap length (calls_are h l c path p bases mine firsts others old one two all is primary owns chosen rest refl refl refl) in
    let a = pushes_grow h one (map (call path) mine) in
    let b = pushes_grow h two (flat_map f others) in
    record { firsts_fit = omega arith; own_fit = omega arith; others_fit = omega arith }

pub below_room : (h : Classes) (l : Places) → IsHierarchy h → (c : ClassId) (path more : List ClassId) (list : List ClassId) (i : ℕ) (d : ClassId) (done all : List Offset) (most : ℕ) → i < length list → (get_or list i d).0 < c.0 → more ≡ path ++ get_or list i d ∷ [] →
    push_all h done (flat_map (below (calls_in h l c.0) path) (drop i list)) ≡ all → length all ≤ most → length (push_all h done (calls_in h l ((get_or list i d).0 + 1) more (get_or list i d))) ≤ most
below_room h l keeps c path more list i d done all most lt less longer inv few =
    let new = push_all h done (calls_in h l ((get_or list i d).0 + 1) more (get_or list i d)) in
    let e = ap length (below_step h l keeps c path more list i d done new all lt less longer refl inv) in
    let grow = pushes_grow h new (flat_map (below (calls_in h l c.0) path) (drop (i + 1) list)) in
    omega arith

-- the virtual functions that a class declares have signatures
some_signature : (o : Option Signature) (s : Signature) → o ≡ Some s → IsSome o
some_signature o s e = subst (λ a. IsSome a) (sym e) refl

pub own_declared : (h : Classes) → IsHierarchy h → (c : ClassId) (mine : List FunctionId) → mine ≡ own h c → All (λ (f : FunctionId). IsSome (signature_of h f)) mine
own_declared h keeps c mine is = λ k d lt.
    let f = get_or mine k d in
    let there : Item (own h c) f = subst (λ xs. Item xs f) is (record { index = k; there = slice_get-get_or mine k d lt }) in
    let virtual = own_virtual h keeps c f there in
    some_signature (signature_of h f) virtual.signature virtual.is
