-- What is there is told by the numbers of words.
use Rattle.std.proofs.Common.{◌≡◌, ℕ, ◌+◌, ◌<◌, ◌≤◌, Bool, true, false, Option, Some, None, List, [], ◌∷◌, ◌++◌, map, length, drop, get_or, refl, ap, sym, ◌∙◌, arith, length-append}
use Rattle.std.specs.Prelude.{◌||◌, ℤ, pos}
use Rattle.std.specs.List.{list_any}
use Rattle.std.proofs.lemmas.Option.{slice_get_within, slice_get-get_or}
use Rattle.cxx_hierarchy.specs.declared.records.ClassId.{ClassId}
use Rattle.cxx_hierarchy.specs.Classes.{Classes}
use Rattle.cxx_overrider.specs.declared.FunctionId.{FunctionId}
use Rattle.cxx_overrider.specs.invariants.Numbers.{number_of, IsNumbering}
use Rattle.abi_slots.specs.declared.words.Offset.{Offset}
use Rattle.abi_slots.specs.declared.words.Offset.TheVariants.{ToBase, ToOverrider}
use Rattle.cxx_overrider.specs.Virtuals.{same_name}
use Rattle.abi_slots.specs.Listing.{same_offset, push_new, push_all}
use Rattle.abi_slots.specs.invariants.OffsetWords.{virtual_base_number, name_number, has_number, AreWords}
use Rattle.abi_slots.proofs.Lists.{Keeps}
use Rattle.abi_slots.proofs.Listings.{push_all_keeps}
use Rattle.abi_slots.proofs.Loops.{rest_is}
use Rattle.abi_slots.proofs.Numbered.{numbers_same, no_second}
use Rattle.abi_slots.proofs.WordSteps.{word_none, word_some}
use Rattle.foundation.proofs.Places.{any_default}

pub any_same : {A : Type 0} (p q : A → Bool) (xs : List A) → ((x : A) → p x ≡ q x) → list_any p xs ≡ list_any q xs
any_same p q [] same = refl
any_same p q (x ∷ xs) same = ap (λ b. b || list_any p xs) (same x) ∙ ap (λ b. q x || b) (any_same p q xs same)

-- an offset has the number exactly where it leads to the same
pub base_told : (h : Classes) (v : ClassId) → (y : Offset) → has_number v.0 (virtual_base_number y) ≡ same_offset h (ToBase v) y
base_told h v (ToBase u) = refl
base_told h v (ToOverrider path f) = refl

pub name_told : (h : Classes) (rows : List (List ℕ)) (count : ℕ) → IsNumbering h rows count → (path : List ClassId) (f : FunctionId) (n : ℕ) → Some n ≡ number_of rows f → (y : Offset) → has_number n (name_number rows y) ≡ same_offset h (ToOverrider path f) y
name_told h rows count is path f n e (ToBase u) = refl
name_told h rows count is path f n e (ToOverrider more g) = by_number (number_of rows g) refl
  where
    by_number : (o : Option ℕ) → number_of rows g ≡ o → has_number n o ≡ same_name h f g
    by_number None at = no_second h rows count f g is (sym at)
    by_number (Some m) at = numbers_same h rows count f g n m is e (sym at)

-- where no word stands, a push puts the offset behind the others
pub push_fresh : (h : Classes) (number : Offset → Option ℕ) (xs : List Offset) (words : List ℤ) (x : Offset) (n : ℕ) → AreWords number xs words → ((y : Offset) → has_number n (number y) ≡ same_offset h x y) → n < length words → get_or words n (pos 0) ≡ pos 0 → push_new h xs x ≡ xs ++ x ∷ []
push_fresh h number xs words x n are told lt none =
    let free : list_any (same_offset h x) xs ≡ false = sym (any_same (λ y. has_number n (number y)) (same_offset h x) xs told) ∙ word_none (λ y. has_number n (number y)) xs (sym (are.each n lt) ∙ none) in
    rw free refl

-- where one stands, a push changes nothing
pub push_there : (h : Classes) (number : Offset → Option ℕ) (xs : List Offset) (words : List ℤ) (x : Offset) (n : ℕ) → AreWords number xs words → ((y : Offset) → has_number n (number y) ≡ same_offset h x y) → n < length words → (get_or words n (pos 0) ≡ pos 0 → ⊥) → push_new h xs x ≡ xs
push_there h number xs words x n are told lt some =
    let taken : list_any (same_offset h x) xs ≡ true = sym (any_same (λ y. has_number n (number y)) (same_offset h x) xs told) ∙ word_some (λ y. has_number n (number y)) xs (λ e. some (are.each n lt ∙ e)) in
    rw taken refl

-- there is room for a push that the whole list has room for
pub room : (h : Classes) (xs : List Offset) (x : Offset) (most : ℕ) → push_new h xs x ≡ xs ++ x ∷ [] → length (push_new h xs x) ≤ most → length xs < most
room h xs x most e few = let size = ap length e ∙ length-append xs (x ∷ []) in omega arith

keeps_length : {A : Type 0} (xs ys : List A) → Keeps xs ys → length xs ≤ length ys
keeps_length [] ys keeps = omega arith
keeps_length (x ∷ xs) ys keeps =
    let last = slice_get-get_or (x ∷ xs) (length xs) x (omega arith) in
    let there = slice_get_within ys (length xs) _ (keeps.stays (length xs) _ last) in
    omega arith

-- a list is no longer than what pushes make of it
pub pushes_grow : (h : Classes) (old xs : List Offset) → length old ≤ length (push_all h old xs)
pushes_grow h old xs = keeps_length old (push_all h old xs) (push_all_keeps h old xs)

-- there is room for the next of several pushes
pub next_room : {A : Type 0} (h : Classes) (f : A → Offset) (xs : List A) (i : ℕ) (d : A) (done all : List Offset) (most : ℕ) → i < length xs → push_all h done (map f (drop i xs)) ≡ all → length all ≤ most → length (push_new h done (f (get_or xs i d))) ≤ most
next_room h f xs i d done all most lt inv few =
    let x = get_or xs i d in
    let opened = rest_is xs i x lt (any_default xs i d x lt) in
    let more : push_all h (push_new h done (f x)) (map f (drop (i + 1) xs)) ≡ all = sym (ap (λ ys. push_all h done (map f ys)) opened) ∙ inv in
    let grow = pushes_grow h (push_new h done (f x)) (map f (drop (i + 1) xs)) in
    let size = ap length more in
    omega arith
