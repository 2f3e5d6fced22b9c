-- Pages found by their numbers, after one was changed or taken out.
use Rattle.std.proofs.Common.{◌≡◌, ◌≢◌, ℕ, zero, suc, ◌+◌, ◌-◌, ◌*◌, ◌/◌, ◌%◌, ◌<◌, ◌≤◌, ◌^◌, ⊎_elim, Option, Some, None, List, [], ◌∷◌, ◌++◌, length, get_or, set, refl, ap, sym, ◌∙◌, arith, Bool, true, false}
use Rattle.std.specs.Prelude.{nat_eq, nat_lt, if◌then◌else◌, is_some, remove, vec_capacity}
use Rattle.std.specs.List.{slice_get, find}
use denote.Struct.Props.{props}
use Rattle.std.proofs.lemmas.Bool.Decides.{nat_tests}
use Rattle.std.proofs.lemmas.List.Folds.{find_past}
use Rattle.std.proofs.lemmas.List.{length_push}
use Rattle.std.proofs.lemmas.Option.{slice_get_within, get_or_from_slice_get}
use Rattle.byte_memory.specs.declared.cells.Word.{Word}
use Rattle.byte_memory.specs.declared.page.Page.{Page}
use Rattle.byte_memory.specs.Bits.{has_bit, is_among_places}
use Rattle.byte_memory.specs.Words.{word_bit, words_bits, with_word}
use Rattle.byte_memory.specs.Regions.{IsAscendingBy}
use Rattle.byte_memory.specs.Pages.{numbered, page_bit, bits_of, users_of, released, AreUsedAs, AreFresh}
use Rattle.byte_memory.proofs.BitLists.{has_bit-shifted}
use Rattle.byte_memory.proofs.Lists.{slice_get-push_cases, find-none, find-first, slice_get-set, slice_get-remove}

-- the pages stand in the order of their numbers
abbrev pub AreOrdered : List Page → Type 0
AreOrdered pages = IsAscendingBy (λ page. page.number) (λ page. 1) pages

-- a page after a change has the number of the one that stood there
numbers-set : (pages : List Page) (at : ℕ) (old new : Page) → slice_get pages at ≡ Some old → new.number ≡ old.number →
    (k : ℕ) (page : Page) → slice_get (set pages at new) k ≡ Some page → (before : Page) × (slice_get pages k ≡ Some before) × (before.number ≡ page.number)
numbers-set pages at old new here same k page there = by_test (nat_eq k at) refl
  where
    by_test : (z : Bool) → nat_eq k at ≡ z → (before : Page) × (slice_get pages k ≡ Some before) × (before.number ≡ page.number)
    by_test true t =
        let e : k ≡ at = grind (arith, nat_tests) in
        let got : Some new ≡ Some page = sym (slice_get-set pages at k new true t (slice_get_within pages at old here)) ∙ there in
        let one : new ≡ page = cc in
        (old, ap (slice_get pages) e ∙ here, sym same ∙ ap (λ (p : Page). p.number) one)
    by_test false t = (page, sym (slice_get-set pages at k new false t (slice_get_within pages at old here)) ∙ there, refl)

-- pages keep their order where one is changed
pub AreOrdered-set : (pages : List Page) (at : ℕ) (old new : Page) → AreOrdered pages → slice_get pages at ≡ Some old → new.number ≡ old.number → AreOrdered (set pages at new)
AreOrdered-set pages at old new up here same i j x y less first second =
    let x' = numbers-set pages at old new here same i x first in
    let y' = numbers-set pages at old new here same j y second in
    let apart = up i j x'.0 y'.0 less x'.1 y'.1 in
    omega (arith, apart, x'.2, y'.2)

-- what is found after a page was changed
pub find-set : (pages : List Page) (at : ℕ) (old new : Page) (number : ℕ) → AreOrdered pages → slice_get pages at ≡ Some old → new.number ≡ old.number →
    find (numbered number) (set pages at new) ≡ (if nat_eq number old.number then Some new else find (numbered number) pages)
find-set pages at old new number up here same = by_test (nat_eq number old.number) refl
  where
    inside : at < length pages
    inside = slice_get_within pages at old here

    by_test : (z : Bool) → nat_eq number old.number ≡ z → find (numbered number) (set pages at new) ≡ (if z then Some new else find (numbered number) pages)
    by_test true t =
        let pass : numbered number new ≡ true = grind (arith, nat_tests) in
        let there : slice_get (set pages at new) at ≡ Some new = slice_get-set pages at at new true (grind (arith, nat_tests)) inside in
        find-first (numbered number) (set pages at new) at new there pass (λ k page less found.
        let other : nat_eq k at ≡ false = grind (arith, nat_tests) in
        let before : slice_get pages k ≡ Some page = sym (slice_get-set pages at k new false other inside) ∙ found in
        let apart = up k at page old less before here in
        grind (arith, nat_tests, apart))
    by_test false t =
        let fail : numbered number (get_or pages at old) ≡ false = let e = get_or_from_slice_get pages at old old here in rw e (grind (arith, nat_tests)) in
        let fail' : numbered number new ≡ false = grind (arith, nat_tests) in
        find_past (numbered number) pages at new old fail fail'

-- pages keep their order where one is taken out
pub AreOrdered-remove : (pages : List Page) (at : ℕ) → AreOrdered pages → AreOrdered (remove pages at)
AreOrdered-remove pages at up i j x y less first second = up (moved i) (moved j) x y (grows (nat_lt i at) (nat_lt j at) refl refl) (sym (slice_get-remove pages at i) ∙ first) (sym (slice_get-remove pages at j) ∙ second)
  where
    moved : ℕ → ℕ
    moved k = if nat_lt k at then k else suc k

    grows : (z z' : Bool) → nat_lt i at ≡ z → nat_lt j at ≡ z' → (if nat_lt i at then i else suc i) < (if nat_lt j at then j else suc j)
    grows true true t t' = rw (t, t') less
    grows true false t t' = rw (t, t') (omega (arith, less))
    grows false true t t' = absurd (grind (arith, nat_tests, less))
    grows false false t t' = rw (t, t') (omega (arith, less))

-- what is found after a page was taken out
pub find-remove : (pages : List Page) (at : ℕ) (old : Page) (number : ℕ) → AreOrdered pages → slice_get pages at ≡ Some old →
    find (numbered number) (remove pages at) ≡ (if nat_eq number old.number then None else find (numbered number) pages)
find-remove [] at old number up here = cc
find-remove (p ∷ pages) zero old number up here = by_test (nat_eq number old.number) refl
  where
    by_test : (z : Bool) → nat_eq number old.number ≡ z → find (numbered number) pages ≡ (if z then None else find (numbered number) (p ∷ pages))
    by_test true t = find-none (numbered number) pages (λ k page there.
        let same : p ≡ old = cc in
        let number_same : p.number ≡ old.number = ap (λ (q : Page). q.number) same in
        let apart = up 0 (suc k) p page (omega arith) refl there in
        grind (arith, nat_tests, apart, number_same))
    by_test false t =
        let same : p ≡ old = cc in
        let number_same : p.number ≡ old.number = ap (λ (q : Page). q.number) same in
        let fail : numbered number p ≡ false = grind (arith, nat_tests, number_same) in
        rw fail refl
find-remove (p ∷ pages) (suc at) old number up here = by_test (numbered number p) refl (find-remove pages at old number (λ i j x y less first second. up (suc i) (suc j) x y (omega (arith, less)) first second) here)
  where
    by_test : (z : Bool) → numbered number p ≡ z → find (numbered number) (remove pages at) ≡ (if nat_eq number old.number then None else find (numbered number) pages) →
        find (numbered number) (p ∷ remove pages at) ≡ (if nat_eq number old.number then None else find (numbered number) (p ∷ pages))
    by_test true t rest =
        let apart = up 0 (suc at) p old (omega arith) refl here in
        let other : nat_eq number old.number ≡ false = grind (arith, nat_tests, apart) in
        rw (t, other) refl
    by_test false t rest = rw t rest

-- the bits after a word was written into a page
pub bits_of-set : (pages : List Page) (at : ℕ) (old new : Page) (from n : ℕ) (word : Word) → AreOrdered pages → slice_get pages at ≡ Some old → find (numbered old.number) pages ≡ Some old → new.number ≡ old.number → from + n ≤ 4096 →
    words_bits new.words.items ≡ with_word (words_bits old.words.items) from n word →
    bits_of (set pages at new) ≡ with_word (bits_of pages) (4096 * old.number + from) n word
bits_of-set pages at old new from n word up here found same inside e = λ j place. pointwise place j
  where
    in_page : (place : ℕ) → place / 32768 ≡ old.number → (z : Bool) → is_among_places (8 * from) (8 * n) (place % 32768) ≡ z → page_bit (Some new) (place % 32768) ≡ with_word (bits_of pages) (4096 * old.number + from) n word place
    in_page place number true t =
        let test : is_among_places (8 * (4096 * old.number + from)) (8 * n) place ≡ true = grind (arith, nat_tests) in
        let there : place % 32768 - 8 * from ≡ place - 8 * (4096 * old.number + from) = omega arith in
        let new_bit : words_bits new.words.items (place % 32768) ≡ with_word (words_bits old.words.items) from n word (place % 32768) = ap (λ f. f (place % 32768)) e in
        let written : words_bits new.words.items (place % 32768) ≡ word_bit word (place % 32768 - 8 * from) = rw t at new_bit in
        rw test (written ∙ ap (word_bit word) there)
    in_page place number false t =
        let test : is_among_places (8 * (4096 * old.number + from)) (8 * n) place ≡ false = grind (arith, nat_tests) in
        let new_bit : words_bits new.words.items (place % 32768) ≡ with_word (words_bits old.words.items) from n word (place % 32768) = ap (λ f. f (place % 32768)) e in
        let kept : words_bits new.words.items (place % 32768) ≡ words_bits old.words.items (place % 32768) = rw t at new_bit in
        let before : bits_of pages place ≡ words_bits old.words.items (place % 32768) = ap (λ q. page_bit (find (numbered q) pages) (place % 32768)) number ∙ ap (λ p. page_bit p (place % 32768)) found in
        rw test (kept ∙ sym before)

    by_test : (place : ℕ) (z : Bool) → nat_eq (place / 32768) old.number ≡ z → page_bit (if z then Some new else find (numbered (place / 32768)) pages) (place % 32768) ≡ with_word (bits_of pages) (4096 * old.number + from) n word place
    by_test place true t = in_page place (grind (arith, nat_tests)) (is_among_places (8 * from) (8 * n) (place % 32768)) refl
    by_test place false t =
        let other : place / 32768 ≢ old.number = λ number. grind (arith, nat_tests) in
        let test : is_among_places (8 * (4096 * old.number + from)) (8 * n) place ≡ false = grind (arith, nat_tests) in
        rw test refl

    pointwise : (place : ℕ) → bits_of (set pages at new) place ≡ with_word (bits_of pages) (4096 * old.number + from) n word place
    pointwise place = ap (λ p. page_bit p (place % 32768)) (find-set pages at old new (place / 32768) up here same) ∙ by_test place (nat_eq (place / 32768) old.number) refl

-- a page that is found has the number
pub found_number : (pages : List Page) (number : ℕ) (page : Page) → find (numbered number) pages ≡ Some page → page.number ≡ number
found_number [] number page e = cc
found_number (p ∷ pages) number page e = by_test (numbered number p) refl (found_number pages number page) e
  where
    by_test : (z : Bool) → numbered number p ≡ z → (find (numbered number) pages ≡ Some page → page.number ≡ number) → (if z then Some p else find (numbered number) pages) ≡ Some page → page.number ≡ number
    by_test true t rest e =
        let same : p ≡ page = cc in
        let number_same : p.number ≡ page.number = ap (λ (q : Page). q.number) same in
        grind (arith, nat_tests, number_same)
    by_test false t rest e = rest e

-- a page with other users is the same whatever the proofs of its bounds
pub page_same : (page : Page) (users : ℕ) (short : length page.words.items ≤ 512) (room : 512 ≤ vec_capacity page.words) →
    record page { users = users } ≡ record { number = page.number; users = users; words = page.words; short = short; room = room }
page_same page users short room =
    let one : IsProp (length page.words.items ≤ 512) = hlevel props in
    let other : IsProp (512 ≤ vec_capacity page.words) = hlevel props in
    λ i. record { number = page.number; users = users; words = page.words; short = one page.short short i; room = other page.room room i }

-- what is found after the page of a number was changed as f says
pub changed-set : (f : Option Page → Option Page) (pages : List Page) (at : ℕ) (old new : Page) (number other : ℕ) → AreOrdered pages → slice_get pages at ≡ Some old → find (numbered number) pages ≡ Some old → new.number ≡ old.number → f (Some old) ≡ Some new →
    find (numbered other) (set pages at new) ≡ (if nat_eq other number then f (find (numbered other) pages) else find (numbered other) pages)
changed-set f pages at old new number other up here found same change =
    let number_is : old.number ≡ number = found_number pages number old found in
    find-set pages at old new other up here same ∙ (ap (λ k. if nat_eq other k then Some new else find (numbered other) pages) number_is ∙ by_test (nat_eq other number) refl)
  where
    by_test : (z : Bool) → nat_eq other number ≡ z → (if z then Some new else find (numbered other) pages) ≡ (if z then f (find (numbered other) pages) else find (numbered other) pages)
    by_test true t =
        let e : other ≡ number = grind (arith, nat_tests) in
        sym (ap (λ k. f (find (numbered k) pages)) e ∙ (ap f found ∙ change))
    by_test false t = refl

-- what is found after the page of a number was taken out, where f says so
pub changed-remove : (f : Option Page → Option Page) (pages : List Page) (at : ℕ) (old : Page) (number other : ℕ) → AreOrdered pages → slice_get pages at ≡ Some old → find (numbered number) pages ≡ Some old → f (Some old) ≡ None →
    find (numbered other) (remove pages at) ≡ (if nat_eq other number then f (find (numbered other) pages) else find (numbered other) pages)
changed-remove f pages at old number other up here found change =
    let number_is : old.number ≡ number = found_number pages number old found in
    find-remove pages at old other up here ∙ (ap (λ k. if nat_eq other k then None else find (numbered other) pages) number_is ∙ by_test (nat_eq other number) refl)
  where
    by_test : (z : Bool) → nat_eq other number ≡ z → (if z then None else find (numbered other) pages) ≡ (if z then f (find (numbered other) pages) else find (numbered other) pages)
    by_test true t =
        let e : other ≡ number = grind (arith, nat_tests) in
        sym (ap (λ k. f (find (numbered k) pages)) e ∙ (ap f found ∙ change))
    by_test false t = refl

-- what is found where nothing was changed, since there is no such page
pub changed-none : (f : Option Page → Option Page) (pages : List Page) (number other : ℕ) → find (numbered number) pages ≡ None → f None ≡ None →
    find (numbered other) pages ≡ (if nat_eq other number then f (find (numbered other) pages) else find (numbered other) pages)
changed-none f pages number other none change = by_test (nat_eq other number) refl
  where
    by_test : (z : Bool) → nat_eq other number ≡ z → find (numbered other) pages ≡ (if z then f (find (numbered other) pages) else find (numbered other) pages)
    by_test true t =
        let e : other ≡ number = grind (arith, nat_tests) in
        let there : find (numbered other) pages ≡ None = ap (λ k. find (numbered k) pages) e ∙ none in
        there ∙ sym (ap f there ∙ change)
    by_test false t = refl

-- pages are used as before where one of them is written
pub used-set : (pages : List Page) (at : ℕ) (old new : Page) → AreOrdered pages → slice_get pages at ≡ Some old → find (numbered old.number) pages ≡ Some old → new.number ≡ old.number → new.users ≡ old.users → AreUsedAs pages (set pages at new)
used-set pages at old new up here found same users number = by_test (nat_eq number old.number) refl (find-set pages at old new number up here same)
  where
    by_test : (z : Bool) → nat_eq number old.number ≡ z → find (numbered number) (set pages at new) ≡ (if z then Some new else find (numbered number) pages) →
        (is_some (find (numbered number) (set pages at new)) ≡ is_some (find (numbered number) pages)) × (users_of (find (numbered number) (set pages at new)) ≡ users_of (find (numbered number) pages))
    by_test true t e =
        let number_is : number ≡ old.number = grind (arith, nat_tests) in
        let before : find (numbered number) pages ≡ Some old = ap (λ k. find (numbered k) pages) number_is ∙ found in
        rw (e, before) (refl, users)
    by_test false t e = rw e (refl, refl)

-- one page less, or one user less, after one more page was released
pub release-more : (first k other : ℕ) (old mid new : Option Page) → new ≡ (if nat_eq other (first + k) then released mid else mid) → mid ≡ (if is_among_places first k other then released old else old) → new ≡ (if is_among_places first (k + 1) other then released old else old)
release-more first k other old mid new e f = by_test (nat_eq other (first + k)) (is_among_places first k other) refl refl (e ∙ ap (λ m. if nat_eq other (first + k) then released m else m) f)
  where
    by_test : (z z' : Bool) → nat_eq other (first + k) ≡ z → is_among_places first k other ≡ z' → new ≡ (if z then released (if z' then released old else old) else (if z' then released old else old)) → new ≡ (if is_among_places first (k + 1) other then released old else old)
    by_test true true t t' g = absurd (grind (arith, nat_tests))
    by_test true false t t' g = let test : is_among_places first (k + 1) other ≡ true = grind (arith, nat_tests) in rw test g
    by_test false true t t' g = let test : is_among_places first (k + 1) other ≡ true = grind (arith, nat_tests) in rw test g
    by_test false false t t' g = let test : is_among_places first (k + 1) other ≡ false = grind (arith, nat_tests) in rw test g

-- no page released
pub release-none : (first other : ℕ) (old : Option Page) → old ≡ (if is_among_places first 0 other then released old else old)
release-none first other old = let test : is_among_places first 0 other ≡ false = grind (arith, nat_tests) in rw test refl

-- one more fresh page
pub AreFresh-push : (pages : List Page) (first k : ℕ) (page : Page) → AreFresh pages first k → page.number ≡ first + k → page.users ≡ 1 → page.words.items ≡ [] → AreFresh (pages ++ page ∷ []) first (k + 1)
AreFresh-push pages first k page fresh number users words = record {
  count = length_push pages page ∙ ap (λ n. n + 1) fresh.count;
  each = λ i p there. ⊎_elim
      (λ new. let same : page.number ≡ p.number = ap (λ (q : Page). q.number) new.1 in omega (arith, new.0, same, fresh.count))
      (λ old. fresh.each i p old) (slice_get-push_cases pages page i p there);
  users = λ i p there. ⊎_elim
      (λ new. let same : page.users ≡ p.users = ap (λ (q : Page). q.users) new.1 in omega (arith, same))
      (λ old. fresh.users i p old) (slice_get-push_cases pages page i p there);
  unset = λ i place. unset i place (slice_get (pages ++ page ∷ []) i) refl;
}
  where
    empty : (place : ℕ) → page_bit (Some page) place ≡ None
    empty place = rw words refl

    unset : (i place : ℕ) (found : Option Page) → slice_get (pages ++ page ∷ []) i ≡ found → page_bit found place ≡ None
    unset i place None e = refl
    unset i place (Some p) e = ⊎_elim
        (λ new. ap (λ q. page_bit (Some q) place) (sym new.1) ∙ empty place)
        (λ old. ap (λ q. page_bit q place) (sym old) ∙ fresh.unset i place) (slice_get-push_cases pages page i p e)

-- no fresh page
pub AreFresh-none : (first : ℕ) → AreFresh [] first 0
AreFresh-none first = record { count = refl; each = λ i p there. cc; users = λ i p there. cc; unset = λ i place. refl }

-- a page that one region meets goes
pub released-last : (page : Page) → page.users < 2 → released (Some page) ≡ None
released-last page few = let test : nat_lt page.users 2 ≡ true = grind (arith, nat_tests) in rw test refl

-- a page that more regions meet stays
pub released-more : (page : Page) → 2 ≤ page.users → released (Some page) ≡ Some (record page { users = page.users - 1 })
released-more page more = let test : nat_lt page.users 2 ≡ false = grind (arith, nat_tests) in rw test refl

-- a word that was written in two parts
pub with_word-split : (bit bit' : ℕ → Option Bool) (at m n : ℕ) (value set : ℕ) → m ≤ n →
    bit' ≡ with_word (with_word bit at m (record { value = value; set = set })) (at + m) (n - m) (record { value = value / 2 ^ (8 * m); set = set / 2 ^ (8 * m) }) →
    bit' ≡ with_word bit at n (record { value = value; set = set })
with_word-split bit bit' at m n value set less e = e ∙ (λ j place. by_test place (is_among_places (8 * (at + m)) (8 * (n - m)) place) (is_among_places (8 * at) (8 * m) place) refl refl j)
  where
    by_test : (place : ℕ) (z z' : Bool) → is_among_places (8 * (at + m)) (8 * (n - m)) place ≡ z → is_among_places (8 * at) (8 * m) place ≡ z' →
        with_word (with_word bit at m (record { value = value; set = set })) (at + m) (n - m) (record { value = value / 2 ^ (8 * m); set = set / 2 ^ (8 * m) }) place ≡ with_word bit at n (record { value = value; set = set }) place
    by_test place true z' t t' =
        let test : is_among_places (8 * at) (8 * n) place ≡ true = grind (arith, nat_tests) in
        let there : 8 * m + (place - 8 * (at + m)) ≡ place - 8 * at = grind (arith, nat_tests) in
        let v : has_bit (value / 2 ^ (8 * m)) (place - 8 * (at + m)) ≡ has_bit value (place - 8 * at) = has_bit-shifted value (8 * m) (place - 8 * (at + m)) ∙ ap (has_bit value) there in
        let s : has_bit (set / 2 ^ (8 * m)) (place - 8 * (at + m)) ≡ has_bit set (place - 8 * at) = has_bit-shifted set (8 * m) (place - 8 * (at + m)) ∙ ap (has_bit set) there in
        rw (t, test, v, s) refl
    by_test place false true t t' = let test : is_among_places (8 * at) (8 * n) place ≡ true = grind (arith, nat_tests) in rw (t, t', test) refl
    by_test place false false t t' = let test : is_among_places (8 * at) (8 * n) place ≡ false = grind (arith, nat_tests) in rw (t, t', test) refl
