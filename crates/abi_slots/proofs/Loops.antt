-- What is left of a list in a loop.
use Rattle.std.proofs.Common.{◌≡◌, ℕ, zero, suc, ◌+◌, ◌<◌, ◌≤◌, Bool, true, false, Some, None, List, [], ◌∷◌, ◌++◌, length, drop, get_or, refl, ap, subst, sym, ◌∙◌, arith, append_assoc}
use Rattle.std.specs.Prelude.{if◌then◌else◌, position}
use Rattle.std.specs.List.{filter, find}
use Rattle.std.proofs.lemmas.List.{append-nil, drop_all}
use Rattle.cxx_hierarchy.specs.declared.records.ClassId.{ClassId}
use Rattle.cxx_hierarchy.specs.Classes.{Classes}
use Rattle.cxx_subobject.specs.declared.Subobject.{Subobject}
use Rattle.cxx_subobject.specs.Subobjects.{IsSubobject, subobject, class_of, is_class}
use Rattle.cxx_subobject.specs.Preorder.{preorder, ListsSubobjects}
use Rattle.abi_slots.proofs.Lists.{Item, found_passes}
use Rattle.abi_slots.proofs.Bases.{contains_item}
use Rattle.abi_slots.specs.Listing.{base_of_class}

-- the item at the place, and the rest
pub rest_is : {A : Type 0} (xs : List A) (i : ℕ) (x : A) → i < length xs → x ≡ get_or xs i x → drop i xs ≡ x ∷ drop (i + 1) xs
rest_is [] i x lt is = absurd (omega arith)
rest_is (y ∷ xs) zero x lt is = ap (λ a. a ∷ xs) (sym is)
rest_is (y ∷ xs) (suc i) x lt is = let e : suc i + 1 ≡ suc (i + 1) = omega arith in rw e (rest_is xs i x (omega arith) is)

-- a list to which the image of what is left is still to be put
pub pushed_all : {A : Type 0} {B : Type 0} (f : List A → List B) → f [] ≡ [] → (xs : List A) (i : ℕ) (done all : List B) → length xs ≤ i → done ++ f (drop i xs) ≡ all → done ≡ all
pushed_all f none xs i done all le e = sym (append-nil done) ∙ ap (λ a. done ++ a) (sym none) ∙ ap (λ a. done ++ f a) (sym (drop_all i xs le)) ∙ e

pub pushed_more : {A : Type 0} {B : Type 0} (f : List A → List B) (xs : List A) (i : ℕ) (x : A) (piece done new all : List B) → i < length xs → x ≡ get_or xs i x → f (x ∷ drop (i + 1) xs) ≡ piece ++ f (drop (i + 1) xs) → new ≡ done ++ piece → done ++ f (drop i xs) ≡ all → new ++ f (drop (i + 1) xs) ≡ all
pushed_more f xs i x piece done new all lt is opens e inv =
    ap (λ a. a ++ f (drop (i + 1) xs)) e ∙ append_assoc done piece (f (drop (i + 1) xs)) ∙ ap (λ a. done ++ a) (sym opens) ∙ ap (λ a. done ++ f a) (sym (rest_is xs i x lt is)) ∙ inv

pub filter_opens : {A : Type 0} (p : A → Bool) (x : A) (xs : List A) (b : Bool) → b ≡ p x → filter p (x ∷ xs) ≡ (if b then x ∷ [] else []) ++ filter p xs
filter_opens p x xs true e = rw (← e) refl
filter_opens p x xs false e = rw (← e) refl

-- the first base of a class, found by its number and copied
pub base_found : (h : Classes) (x y : ClassId) (list : List Subobject) (n : ℕ) (s t : Subobject) → list ≡ preorder h x → position (λ (a : Subobject). is_class y (class_of a)) list ≡ Some n → s ≡ get_or list n s → t ≡ subobject s.root (s.path ++ []) → Some t ≡ base_of_class h x y
base_found h x y list n s t is at there copied =
    let p = λ (a : Subobject). is_class y (class_of a) in
    let same : t ≡ s = copied ∙ ap (λ q. subobject s.root q) (append-nil s.path) in
    ap (λ a. Some a) same ∙ sym (Rattle.abi_primary.proofs.PrimaryLemmas.found p list n s at there) ∙ ap (find p) is

pub base_missing : (h : Classes) (x y : ClassId) (list : List Subobject) → list ≡ preorder h x → position (λ (a : Subobject). is_class y (class_of a)) list ≡ None → None ≡ base_of_class h x y
base_missing h x y list is none = let p = λ (a : Subobject). is_class y (class_of a) in sym (Rattle.abi_primary.proofs.PrimaryLemmas.not_found p list none) ∙ ap (find p) is

pub base_valid : (h : Classes) (x : ClassId) (list : List Subobject) (n : ℕ) (s t : Subobject) (all : List Subobject) (y : ClassId) → list ≡ all → ListsSubobjects h x all → position (λ (a : Subobject). is_class y (class_of a)) list ≡ Some n → s ≡ get_or list n s → t ≡ subobject s.root (s.path ++ []) → IsSubobject h x t
base_valid h x list n s t all y is lists at there copied =
    let p = λ (a : Subobject). is_class y (class_of a) in
    let same : t ≡ s = copied ∙ ap (λ q. subobject s.root q) (append-nil s.path) in
    let found = found_passes p list s (Rattle.abi_primary.proofs.PrimaryLemmas.found p list n s at there) in
    subst (λ a. IsSubobject h x a) (sym same) (lists.valid s (contains_item all s (subst (λ xs. Item xs s) is found.0)))

-- what the search of a list comes to, by what is left
pub found_here : {A : Type 0} (p : A → Bool) (xs : List A) (i : ℕ) (x : A) (b : Bool) → i < length xs → x ≡ get_or xs i x → b ≡ p x → b ≡ true → find p (drop i xs) ≡ find p xs → Some x ≡ find p xs
found_here p xs i x b lt is test holds inv =
    let e : p x ≡ true = sym test ∙ holds in
    let opened : find p (drop i xs) ≡ Some x = ap (find p) (rest_is xs i x lt is) ∙ rw e refl in
    sym opened ∙ inv

pub found_later : {A : Type 0} (p : A → Bool) (xs : List A) (i : ℕ) (x : A) (b : Bool) → i < length xs → x ≡ get_or xs i x → b ≡ p x → b ≡ false → find p (drop i xs) ≡ find p xs → find p (drop (i + 1) xs) ≡ find p xs
found_later p xs i x b lt is test fails inv =
    let e : p x ≡ false = sym test ∙ fails in
    let opened : find p (drop i xs) ≡ find p (drop (i + 1) xs) = ap (find p) (rest_is xs i x lt is) ∙ rw e refl in
    sym opened ∙ inv

pub found_nowhere : {A : Type 0} (p : A → Bool) (xs : List A) (i : ℕ) → length xs ≤ i → find p (drop i xs) ≡ find p xs → None ≡ find p xs
found_nowhere p xs i le inv = sym (ap (find p) (drop_all i xs le)) ∙ inv
