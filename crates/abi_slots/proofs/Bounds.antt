-- How much a class can list.
use Rattle.std.proofs.Common.{◌≡◌, ℕ, zero, suc, ◌+◌, ◌*◌, ◌<◌, ◌≤◌, Bool, true, false, Option, Some, None, List, [], ◌∷◌, length, refl, ap, subst, sym, ◌∙◌, arith, length-append}
use Rattle.std.specs.Prelude.{not, nat_eq, if◌then◌else◌, slice_get}
use Rattle.std.specs.List.{list_any, filter, flat_map, filter_map}
use Rattle.std.proofs.lemmas.Bool.{eqb-true}
use Rattle.std.proofs.lemmas.List.{length-map}
use Rattle.std.proofs.lemmas.List.FromFn.{length-range_with_len}
use Rattle.std.proofs.lemmas.Option.{slice_get_within}
use Rattle.cxx_hierarchy.specs.declared.records.ClassId.{ClassId}
use Rattle.cxx_hierarchy.specs.declared.records.Function.{Function}
use Rattle.cxx_hierarchy.specs.declared.records.PartAt.{PartAt}
use Rattle.cxx_hierarchy.specs.declared.records.PartKind.{PartKind}
use Rattle.cxx_hierarchy.specs.declared.records.PartKind.TheVariants.{Member, Function as FunctionPart, Constructor, Destructor}
use Rattle.cxx_hierarchy.specs.declared.records.Destructor.{Destructor as DestructorKind}
use Rattle.cxx_hierarchy.specs.declared.records.Destructor.TheVariants.{Implicit, Plain, Virtual as VirtualKind}
use Rattle.cxx_hierarchy.specs.Classes.{Class, Classes, class_at, functions_of}
use Rattle.cxx_hierarchy.specs.Declarations.{is_implicit}
use Rattle.cxx_hierarchy.specs.Orders.{parts_of_kind, is_function, is_destructor}
use Rattle.cxx_hierarchy.specs.Hierarchies.{IsHierarchy, HasOrder}
use Rattle.cxx_overrider.specs.declared.FunctionId.{FunctionId}
use Rattle.cxx_overrider.specs.Functions.{Signature, named, destructor, signature_at, signature_in, signature_of}
use Rattle.abi_primary.specs.declared.Primary.{Primary}
use Rattle.abi_primary.specs.declared.Primary.TheVariants.{None as NoPrimary, Direct, Virtual}
use Rattle.abi_sound.specs.Places.{Places}
use Rattle.abi_slots.specs.declared.words.EntryKey.{EntryKey}
use Rattle.abi_slots.specs.Limits.{most_entries}
use Rattle.cxx_overrider.specs.Virtuals.{index_of, implicit_index, indices_in, function_at, function_ids_in, declared, is_virtual, own}
use Rattle.abi_slots.specs.Listing.{kinds_in, keys_of, shares, primary_entries, new_entries, with_new_entries, entries_in, entries}

-- functions

function_bound : (class : Class) (i : ℕ) (o : Option (Function ClassId)) (last : Bool) (s : Signature) → slice_get class.functions i ≡ o → nat_eq i (length class.functions) ≡ last → signature_at o last ≡ Some s → i ≤ length class.functions
function_bound class i None false s at is e = cc
function_bound class i None true s at is e = let k = eqb-true i (length class.functions) is in omega arith
function_bound class i (Some f) last s at is e = let k = slice_get_within class.functions i f at in omega arith

-- a function that has a signature is of a class of the hierarchy, and its index is small
pub function_bounds : (h : Classes) → IsHierarchy h → (f : FunctionId) (s : Signature) → signature_of h f ≡ Some s → (f.class.0 < length h) × (f.index ≤ 1024)
function_bounds h keeps f s e = by_class (class_at h f.class) refl e
  where
    by_class : (o : Option Class) → class_at h f.class ≡ o → signature_in o f.index ≡ Some s → (f.class.0 < length h) × (f.index ≤ 1024)
    by_class None at is = absurd (cc)
    by_class (Some class) at is =
        let few : length class.functions ≤ 1024 = subst (λ o. length (Rattle.cxx_hierarchy.specs.Classes.functions_in o) ≤ 1024) at (keeps.few_functions f.class) in
        let low = function_bound class f.index (slice_get class.functions f.index) (nat_eq f.index (length class.functions)) s refl refl is in
        (slice_get_within h f.class.0 class at, omega arith)

-- its index is at most the number of functions of its class
pub function_low : (h : Classes) (f : FunctionId) (s : Signature) → signature_of h f ≡ Some s → f.index ≤ length (functions_of h f.class)
function_low h f s e = by_class (class_at h f.class) refl e
  where
    by_class : (o : Option Class) → class_at h f.class ≡ o → signature_in o f.index ≡ Some s → f.index ≤ length (Rattle.cxx_hierarchy.specs.Classes.functions_in (class_at h f.class))
    by_class None at is = absurd (cc)
    by_class (Some class) at is = rw at (function_bound class f.index (slice_get class.functions f.index) (nat_eq f.index (length class.functions)) s refl refl is)

-- the parts of a class that are functions
count_indices : (class : Class) (order : List PartAt) → length (filter_map (λ (part : PartAt). index_of class part.kind part.number) order) ≡ length (parts_of_kind is_function order) + length (parts_of_kind is_destructor order)
count_indices class [] = refl
count_indices class (part ∷ order) = by_kind part.kind refl (count_indices class order)
  where
    by_kind : (k : PartKind) → part.kind ≡ k → length (filter_map (λ (p : PartAt). index_of class p.kind p.number) order) ≡ length (parts_of_kind is_function order) + length (parts_of_kind is_destructor order)
        → length (filter_map (λ (p : PartAt). index_of class p.kind p.number) (part ∷ order)) ≡ length (parts_of_kind is_function (part ∷ order)) + length (parts_of_kind is_destructor (part ∷ order))
    by_kind Member e rest = rw e rest
    by_kind FunctionPart e rest = rw e (omega arith)
    by_kind Constructor e rest = rw e rest
    by_kind Destructor e rest = rw e (omega arith)

count_implicit : (class : Class) (d : DestructorKind) → length (implicit_index class d) ≡ (if is_implicit d then 1 else 0)
count_implicit class Implicit = refl
count_implicit class Plain = refl
count_implicit class VirtualKind = refl

one_destructor : (b : Bool) → (if b then 0 else 1) + (if b then 1 else 0) ≡ 1
one_destructor true = refl
one_destructor false = refl

few_indices : (class : Class) → HasOrder class → length (indices_in class) ≡ length class.functions + 1
few_indices class order =
    let all = length-append (filter_map (λ (part : PartAt). index_of class part.kind part.number) class.order) (implicit_index class class.destructor) in
    let parts = count_indices class class.order in
    let functions : length (parts_of_kind is_function class.order) ≡ length class.functions =
    sym (length-map (parts_of_kind is_function class.order) (λ part. part.number)) ∙ ap length order.functions ∙ length-range_with_len 0 (length class.functions) in
    let destructors = order.destructors in
    let last = count_implicit class class.destructor in
    let one = one_destructor (is_implicit class.destructor) in
    omega arith

filter_shorter : {A : Type 0} (p : A → Bool) (xs : List A) → length (filter p xs) ≤ length xs
filter_shorter p [] = omega arith
filter_shorter {A} p (x ∷ xs) = by_case (p x) (filter_shorter p xs)
  where
    by_case : (b : Bool) → length (filter p xs) ≤ length xs → length (if b then x ∷ filter p xs else filter p xs) ≤ length (x ∷ xs)
    by_case true le = omega arith
    by_case false le = omega arith

pub few_own : (h : Classes) → IsHierarchy h → (c : ClassId) → length (own h c) ≤ 1025
few_own h keeps c =
    let less = filter_shorter (is_virtual h) (declared h c) in
    let few = by_class (class_at h c) refl in
    omega arith
  where
    by_class : (o : Option Class) → class_at h c ≡ o → length (function_ids_in c o) ≤ 1025
    by_class None at = omega arith
    by_class (Some class) at =
        let few : length class.functions ≤ 1024 = subst (λ o. length (Rattle.cxx_hierarchy.specs.Classes.functions_in o) ≤ 1024) at (keeps.few_functions c) in
        let mapped = length-map (indices_in class) (function_at c) in
        let indices = few_indices class (keeps.orders c class at) in
        omega arith

-- entries

few_kinds : (s : Option Signature) → length (kinds_in s) ≤ 2
few_kinds None = omega arith
few_kinds (Some (named n types)) = omega arith
few_kinds (Some destructor) = omega arith

few_keys : (h : Classes) (list : List FunctionId) → length (flat_map (keys_of h) list) ≤ 2 * length list
few_keys h [] = omega arith
few_keys h (f ∷ list) =
    let rest = few_keys h list in
    let all = length-append (keys_of h f) (flat_map (keys_of h) list) in
    let kinds = few_kinds (signature_of h f) in
    let mapped = length-map (kinds_in (signature_of h f)) (Rattle.abi_slots.specs.Listing.entry_key f) in
    omega arith

few_old : (f : ClassId → List EntryKey) (most : ℕ) → ((b : ClassId) → length (f b) ≤ most) → (p : Primary) → length (primary_entries f p) ≤ most
few_old f most each NoPrimary = omega arith
few_old f most each (Direct b) = each b
few_old f most each (Virtual v) = each v

few_in : (h : Classes) (l : Places) → IsHierarchy h → (n : ℕ) (c : ClassId) → length (entries_in h l n c) ≤ n * 2050
few_in h l keeps zero c = omega arith
few_in h l keeps (suc n) c =
    let old = primary_entries (entries_in h l n) (l.primary c) in
    let keys = flat_map (keys_of h) (own h c) in
    let before = few_old (entries_in h l n) (n * 2050) (λ b. few_in h l keeps n b) (l.primary c) in
    let all = length-append old (new_entries h l old keys) in
    let less = filter_shorter (λ k. not (list_any (shares h l k) old)) keys in
    let few = few_keys h (own h c) in
    let own_few = few_own h keeps c in
    omega arith

-- the entries of a class are few
pub few_entries : (h : Classes) (l : Places) → IsHierarchy h → (c : ClassId) → c.0 < length h → length (entries h l c) ≤ most_entries
few_entries h l keeps c known = let few = few_in h l keeps (c.0 + 1) c in let classes = keeps.few in omega arith
