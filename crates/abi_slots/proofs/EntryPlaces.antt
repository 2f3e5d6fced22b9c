-- The functions and the numbers of entries, as they are kept.
use Rattle.std.proofs.Common.{◌≡◌, ℕ, zero, suc, ◌+◌, ◌<◌, ◌≤◌, ⊎_elim, Bool, true, false, Some, None, List, [], ◌∷◌, ◌++◌, length, get_or, set, take, refl, ap, subst, sym, ◌∙◌, arith, length-set, get_or-set_same, get_or-set_other, inl, inr}
use Rattle.std.specs.Prelude.{if◌then◌else◌, slice_get, All, position}
use Rattle.std.specs.List.{position_or_len}
use Rattle.std.proofs.lemmas.Bool.{ltb-false, eq-eqb, eqb-true}
use Rattle.std.proofs.lemmas.List.{take_more}
use Rattle.std.proofs.lemmas.Option.{slice_get_within, slice_get-get_or, get_or_from_slice_get}
use Rattle.abi_slots.specs.declared.words.EntryKey.{EntryKey}
use Rattle.abi_slots.specs.declared.entries.Listing.{Listing}
use Rattle.abi_slots.specs.Listing.{same_entry_key, first_position}
use Rattle.abi_slots.specs.Rows.{is_first, with_entry, AreEntryNumbers, HaveOneEntry}
use Rattle.abi_slots.proofs.Lists.{Item, item_none, item_split, item_cases}
use Rattle.foundation.proofs.Truth.{split}
use Rattle.foundation.proofs.Members.{Has}

-- the first place at which a test passes

same_place : {A : Type 0} (p : A → Bool) (xs : List A) → first_position p xs ≡ position_or_len p xs
same_place p [] = refl
same_place p (x ∷ xs) = split (p x) (λ b. p x ≡ b → first_position p (x ∷ xs) ≡ position_or_len p (x ∷ xs))
    (λ t same. rw same refl)
    (λ t same. let rest = same_place p xs in let one : suc (position_or_len p xs) ≡ 1 + position_or_len p xs = omega arith in rw same (ap suc rest ∙ one))
    refl

pub place_within : {A : Type 0} (p : A → Bool) (xs : List A) → first_position p xs ≤ length xs
place_within p [] = omega arith
place_within p (x ∷ xs) = split (p x) (λ b. (if b then 0 else suc (first_position p xs)) ≤ suc (length xs)) (λ t. omega arith) (λ t. let rest = place_within p xs in omega arith)

pub place_none : {A : Type 0} (p : A → Bool) (xs : List A) → ((x : A) → Has xs x → p x ≡ false) → first_position p xs ≡ length xs
place_none p [] none = refl
place_none p (x ∷ xs) none = ap (λ b. if b then 0 else suc (first_position p xs)) (none x (inl refl)) ∙ ap suc (place_none p xs (λ y has. none y (inr has)))

pub place_found : {A : Type 0} (p : A → Bool) (xs : List A) (n : ℕ) → position p xs ≡ Some n → n ≡ first_position p xs
place_found p xs n at = split (Rattle.std.proofs.Math.Dec.ltb (position_or_len p xs) (length xs)) (λ b. Rattle.std.proofs.Math.Dec.ltb (position_or_len p xs) (length xs) ≡ b → n ≡ first_position p xs)
    (λ t same. let e : Some (position_or_len p xs) ≡ Some n = ap (λ b. if b then Some (position_or_len p xs) else None) (sym same) ∙ at in let f : position_or_len p xs ≡ n = cc in sym f ∙ sym (same_place p xs))
    (λ t same. let e : None ≡ Some n = ap (λ b. if b then Some (position_or_len p xs) else None) (sym same) ∙ at in absurd (cc))
    refl

pub place_missing : {A : Type 0} (p : A → Bool) (xs : List A) → position p xs ≡ None → length xs ≡ first_position p xs
place_missing p xs at = split (Rattle.std.proofs.Math.Dec.ltb (position_or_len p xs) (length xs)) (λ b. Rattle.std.proofs.Math.Dec.ltb (position_or_len p xs) (length xs) ≡ b → length xs ≡ first_position p xs)
    (λ t same. let e : Some (position_or_len p xs) ≡ None = ap (λ b. if b then Some (position_or_len p xs) else None) (sym same) ∙ at in absurd (cc))
    (λ t same. let past = ltb-false (position_or_len p xs) (length xs) same in let low = place_within p xs in let one = same_place p xs in omega arith)
    refl

-- numbers of entries

-- what stands in a list after a write
set_there : (words : List ℕ) (i w : ℕ) → i < length words → slice_get (set words i w) i ≡ Some w
set_there words i w lt = let size = length-set words i w in slice_get-get_or (set words i w) i 0 (omega arith) ∙ ap (λ a. Some a) (get_or-set_same words i w 0 lt)

set_away : (words : List ℕ) (i j w v : ℕ) → (j ≡ i → ⊥) → slice_get words j ≡ Some v → slice_get (set words i w) j ≡ Some v
set_away words i j w v away at =
    let lt = slice_get_within words j v at in
    let size = length-set words i w in
    slice_get-get_or (set words i w) j 0 (omega arith) ∙ ap (λ a. Some a) (get_or-set_other words i j w 0 away ∙ get_or_from_slice_get words j v 0 at)

pub with_entry_size : (entries : List EntryKey) (numbers : List ℕ) (x : Listing) → length (with_entry entries numbers x) ≡ length numbers
with_entry_size entries numbers x = split (is_first x.key.kind) (λ b. length (if b then set numbers x.key.function.index (first_position (same_entry_key x.entry) entries) else numbers) ≡ length numbers) (λ t. length-set numbers x.key.function.index (first_position (same_entry_key x.entry) entries)) (λ t. refl)

-- one more key
numbers_more : (entries : List EntryKey) (xs : List Listing) (numbers : List ℕ) (x : Listing) → AreEntryNumbers entries xs numbers → x.key.function.index < length numbers
    → ((y : Listing) → Item xs y → is_first y.key.kind ≡ true → is_first x.key.kind ≡ true → y.key.function.index ≡ x.key.function.index → y.entry ≡ x.entry) → AreEntryNumbers entries (xs ++ x ∷ []) (with_entry entries numbers x)
numbers_more entries xs numbers x are lt one = split (is_first x.key.kind) (λ b. is_first x.key.kind ≡ b → AreEntryNumbers entries (xs ++ x ∷ []) (if b then set numbers x.key.function.index (first_position (same_entry_key x.entry) entries) else numbers))
    (λ t kind. record {
      each = λ j y at first.
          let i = x.key.function.index in
          let w = first_position (same_entry_key x.entry) entries in
          ⊎_elim
          (λ (there : Item xs y).
          let old = are.each there.index y there.there first in
          split (Rattle.std.proofs.Math.Dec.eqb y.key.function.index i) (λ b. Rattle.std.proofs.Math.Dec.eqb y.key.function.index i ≡ b → slice_get (set numbers i w) y.key.function.index ≡ Some (first_position (same_entry_key y.entry) entries))
          (λ u same.
          let e = eqb-true y.key.function.index i same in
          let entry = one y there first kind e in
          ap (slice_get (set numbers i w)) e ∙ set_there numbers i w lt ∙ ap (λ k. Some (first_position (same_entry_key k) entries)) (sym entry))
          (λ u same. set_away numbers i y.key.function.index w _ (λ e. let f = eq-eqb y.key.function.index i e in cc) old)
          refl)
          (λ (last : Item (x ∷ []) y). ⊎_elim (λ (e : x ≡ y). subst (λ (z : Listing). slice_get (set numbers i w) z.key.function.index ≡ Some (first_position (same_entry_key z.entry) entries)) e (set_there numbers i w lt)) (λ none. absurd (item_none y none)) (item_split x [] y last))
          (item_cases xs (x ∷ []) y (record { index = j; there = at }));
    })
    (λ t kind. record {
      each = λ j y at first. ⊎_elim
          (λ (there : Item xs y). are.each there.index y there.there first)
          (λ (last : Item (x ∷ []) y). ⊎_elim (λ (e : x ≡ y). absurd (let f : is_first y.key.kind ≡ false = ap (λ (z : Listing). is_first z.key.kind) (sym e) ∙ kind in cc)) (λ none. absurd (item_none y none)) (item_split x [] y last))
          (item_cases xs (x ∷ []) y (record { index = j; there = at }));
    })
    refl

taken : {A : Type 0} (xs : List A) (i : ℕ) (y : A) → Item (take i xs) y → Item xs y
taken [] zero y j = j
taken [] (suc i) y j = j
taken (x ∷ xs) zero y j = absurd (item_none y j)
taken (x ∷ xs) (suc i) y j = ⊎_elim (λ (e : x ≡ y). record { index = 0; there = ap (λ a. Some a) e }) (λ k. let r = taken xs i y k in record { index = suc r.index; there = r.there }) (item_split x (take i xs) y j)

pub numbers_step : (entries : List EntryKey) (listings : List Listing) (numbers new : List ℕ) (i count : ℕ) (d : Listing) → HaveOneEntry listings → All (λ (x : Listing). x.key.function.index < count) listings → length numbers ≡ count → i < length listings → AreEntryNumbers entries (take i listings) numbers
    → new ≡ with_entry entries numbers (get_or listings i d) → AreEntryNumbers entries (take (i + 1) listings) new
numbers_step entries listings numbers new i count d one within size lt are changes =
    let x = get_or listings i d in
    let low = within i d lt in
    let more = numbers_more entries (take i listings) numbers x are (omega arith)
    (λ (y : Listing) (j : Item (take i listings) y) first kind same. let r = taken listings i y j in one.each r.index i y x r.there (slice_get-get_or listings i d lt) first kind same) in
    subst (λ ys. AreEntryNumbers entries ys new) (sym (take_more listings i d lt)) (subst (λ ns. AreEntryNumbers entries (take i listings ++ x ∷ []) ns) (sym changes) more)

pub size_step : (entries : List EntryKey) (listings : List Listing) (numbers new : List ℕ) (i count : ℕ) (d : Listing) → length numbers ≡ count → new ≡ with_entry entries numbers (get_or listings i d) → length new ≡ count
size_step entries listings numbers new i count d size changes = ap length changes ∙ with_entry_size entries numbers (get_or listings i d) ∙ size
