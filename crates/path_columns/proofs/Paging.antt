-- A page is opened, or an item is set: what other numbers have stays.
use Rattle.std.proofs.Common.{◌≡◌, ℕ, zero, suc, ◌+◌, ◌*◌, ◌/◌, ◌%◌, ◌<◌, true, false, List, [], ◌∷◌, ◌++◌, length, refl, ap, sym, ◌∙◌, arith}
use Rattle.std.specs.Prelude.{slice_index_or, slice_set, nat_eq, if◌then◌else◌}
use Rattle.std.proofs.lemmas.Bool.{eqb-true, eq-eqb}
use Rattle.std.proofs.lemmas.List.{get_or-set_same, get_or-set_other}
use Rattle.std.proofs.lemmas.Nat.{mod_below, div-add-mod'}
use Rattle.foundation.proofs.Truth.{split, is_false, not_both}
use Rattle.path_columns.specs.Paged.{in_page, paged, ArePages}

-- two pages hold no item in common
one_page : (a b r t width : ℕ) → r < width → t < width → a * width + r ≡ b * width + t → a ≡ b
one_page zero zero r t width l k e = refl
one_page zero (suc b) r t width l k e = absurd (omega arith)
one_page (suc a) zero r t width l k e = absurd (omega arith)
one_page (suc a) (suc b) r t width l k e = ap (λ n. suc n) (one_page a b r t width l k (omega arith))

-- an item of a page before the count stands before the end of the pages
page_before : (page count r width : ℕ) → page < count → r < width → page * width + r < count * width
page_before page zero r width lt l = absurd (omega arith)
page_before zero (suc count) r width lt l = omega arith
page_before (suc page) (suc count) r width lt l = let e = page_before page count r width (omega arith) l in omega arith

-- one blank item more changes nothing
pub blank_more : {X : Type 0} (xs : List X) (i : ℕ) (x : X) → slice_index_or (xs ++ x ∷ []) i x ≡ slice_index_or xs i x
blank_more [] zero x = refl
blank_more [] (suc i) x = refl
blank_more (y ∷ xs) zero x = refl
blank_more (y ∷ xs) (suc i) x = blank_more xs i x

-- the places with one page more, behind all others
pub record IsOpened (old new : ℕ → ℕ) (page count : ℕ) : Type 0 where
  pub closed : old page ≡ 0
  pub is : (p : ℕ) → new p ≡ (if nat_eq p page then count + 1 else old p)

pub here : (old new : ℕ → ℕ) (page count : ℕ) → IsOpened old new page count → (p : ℕ) → nat_eq p page ≡ true → new p ≡ suc count
here old new page count opened p e = opened.is p ∙ (ap (λ b. if b then count + 1 else old p) e ∙ (let f : count + 1 ≡ suc count = omega arith in f))

pub elsewhere : (old new : ℕ → ℕ) (page count : ℕ) → IsOpened old new page count → (p : ℕ) → nat_eq p page ≡ false → new p ≡ old p
elsewhere old new page count opened p e = opened.is p ∙ ap (λ b. if b then count + 1 else old p) e

pub paged_opened : {X : Type 0} (old new : ℕ → ℕ) (slots : List X) (blank : X) (width page count : ℕ) → ArePages old slots blank width count → IsOpened old new page count → (n : ℕ)
    → paged new slots blank width n ≡ paged old slots blank width n
paged_opened old new slots blank width page count are opened n = split (nat_eq (n / width) page) (λ _. paged new slots blank width n ≡ paged old slots blank width n)
    (λ e.
    let at : n / width ≡ page = eqb-true (n / width) page e in
    let none : old (n / width) ≡ 0 = ap old at ∙ opened.closed in
    ap (λ k. in_page slots blank width k (n % width)) (here old new page count opened (n / width) e)
    ∙ (are.rest (count * width + n % width) (omega arith) ∙ sym (ap (λ k. in_page slots blank width k (n % width)) none)))
    (λ e. ap (λ k. in_page slots blank width k (n % width)) (elsewhere old new page count opened (n / width) e))

pub pages_opened : {X : Type 0} (old new : ℕ → ℕ) (slots : List X) (blank : X) (width page count : ℕ) → ArePages old slots blank width count → IsOpened old new page count → ArePages new slots blank width (count + 1)
pages_opened old new slots blank width page count are opened = record {
  few = λ p k is. split (nat_eq p page) (λ _. k < count + 1)
      (λ e. let a : suc count ≡ suc k = sym (here old new page count opened p e) ∙ is in omega arith)
      (λ e. let a = are.few p k (sym (elsewhere old new page count opened p e) ∙ is) in omega arith);
  once = λ p q k a b. split (nat_eq p page) (λ _. p ≡ q)
      (λ e. split (nat_eq q page) (λ _. p ≡ q)
      (λ f. eqb-true p page e ∙ sym (eqb-true q page f))
      (λ f. absurd (
      let low = are.few q k (sym (elsewhere old new page count opened q f) ∙ b) in
      let high : suc count ≡ suc k = sym (here old new page count opened p e) ∙ a in omega arith)))
      (λ e. split (nat_eq q page) (λ _. p ≡ q)
      (λ f. absurd (
      let low = are.few p k (sym (elsewhere old new page count opened p e) ∙ a) in
      let high : suc count ≡ suc k = sym (here old new page count opened q f) ∙ b in omega arith))
      (λ f. are.once p q k (sym (elsewhere old new page count opened p e) ∙ a) (sym (elsewhere old new page count opened q f) ∙ b)));
  rest = λ i le. are.rest i (let e : (count + 1) * width ≡ count * width + width = omega arith in omega arith);
}

number_before : (a b : ℕ) → suc a ≡ suc b → a ≡ b
number_before a b e = omega arith

-- what an item that is set does to a page
in_page_set : {X : Type 0} (slots : List X) (blank : X) (width page at rest t : ℕ) (v : X) → rest < width → t < width → page * width + t < length slots
    → in_page (slice_set slots (page * width + t) v) blank width at rest ≡ (if nat_eq at (suc page) then (if nat_eq rest t then v else in_page slots blank width at rest) else in_page slots blank width at rest)
in_page_set slots blank width page zero rest t v l k lt =
    sym (ap (λ b. if b then (if nat_eq rest t then v else blank) else blank) (is_false (nat_eq 0 (suc page)) (λ e. let f = eqb-true 0 (suc page) e in omega arith)))
in_page_set slots blank width page (suc at) rest t v l k lt = split (nat_eq (suc at) (suc page)) (λ b. slice_index_or (slice_set slots (page * width + t) v) (at * width + rest) blank ≡ (if b then (if nat_eq rest t then v else slice_index_or slots (at * width + rest) blank) else slice_index_or slots (at * width + rest) blank))
    (λ e. split (nat_eq rest t) (λ b. slice_index_or (slice_set slots (page * width + t) v) (at * width + rest) blank ≡ (if b then v else slice_index_or slots (at * width + rest) blank))
    (λ f.
    let same : at * width + rest ≡ page * width + t = ap (λ n. n * width + rest) (number_before at page (eqb-true (suc at) (suc page) e)) ∙ ap (λ n. page * width + n) (eqb-true rest t f) in
    ap (λ i. slice_index_or (slice_set slots (page * width + t) v) i blank) same ∙ get_or-set_same slots (page * width + t) v blank lt)
    (λ f. get_or-set_other slots (page * width + t) (at * width + rest) v blank (λ g.
    let a = number_before at page (eqb-true (suc at) (suc page) e) in
    let h : page * width + rest ≡ page * width + t = ap (λ n. n * width + rest) (sym a) ∙ g in
    not_both (eq-eqb rest t (omega arith)) f)))
    (λ e. get_or-set_other slots (page * width + t) (at * width + rest) v blank (λ g. not_both (eq-eqb (suc at) (suc page) (ap (λ n. suc n) (one_page at page rest t width l k g))) e))

pub paged_set : {X : Type 0} (place : ℕ → ℕ) (slots : List X) (blank : X) (width count page n : ℕ) (v : X) → 0 < width → ArePages place slots blank width count → place (n / width) ≡ suc page → page * width + n % width < length slots → (m : ℕ)
    → paged place (slice_set slots (page * width + n % width) v) blank width m ≡ (if nat_eq m n then v else paged place slots blank width m)
paged_set place slots blank width count page n v some are is lt m =
    in_page_set slots blank width page (place (m / width)) (m % width) (n % width) v (mod_below m width some) (mod_below n width some) lt
    ∙ split (nat_eq m n) (λ b. (if nat_eq (place (m / width)) (suc page) then (if nat_eq (m % width) (n % width) then v else paged place slots blank width m) else paged place slots blank width m) ≡ (if b then v else paged place slots blank width m))
    (λ e.
    let same : m ≡ n = eqb-true m n e in
    ap (λ b. if b then (if nat_eq (m % width) (n % width) then v else paged place slots blank width m) else paged place slots blank width m) (eq-eqb (place (m / width)) (suc page) (ap (λ k. place (k / width)) same ∙ is))
    ∙ ap (λ b. if b then v else paged place slots blank width m) (eq-eqb (m % width) (n % width) (ap (λ k. k % width) same)))
    (λ e. split (nat_eq (place (m / width)) (suc page)) (λ b. (if b then (if nat_eq (m % width) (n % width) then v else paged place slots blank width m) else paged place slots blank width m) ≡ paged place slots blank width m)
    (λ f. split (nat_eq (m % width) (n % width)) (λ b. (if b then v else paged place slots blank width m) ≡ paged place slots blank width m)
    (λ g. absurd (not_both (eq-eqb m n (same_number m n width some (are.once (m / width) (n / width) page (eqb-true (place (m / width)) (suc page) f) is) (eqb-true (m % width) (n % width) g))) e))
    (λ g. refl))
    (λ f. refl))
  where
    same_number : (m n width : ℕ) → 0 < width → m / width ≡ n / width → m % width ≡ n % width → m ≡ n
    same_number m n width some a b = sym (div-add-mod' m width) ∙ (ap (λ k. k * width + m % width) a ∙ (ap (λ k. n / width * width + k) b ∙ div-add-mod' n width))

pub pages_set : {X : Type 0} (place : ℕ → ℕ) (slots : List X) (blank : X) (width count page p t : ℕ) (v : X) → ArePages place slots blank width count → place p ≡ suc page → t < width → ArePages place (slice_set slots (page * width + t) v) blank width count
pages_set place slots blank width count page p t v are is lt = record {
  few = are.few;
  once = are.once;
  rest = λ i le. get_or-set_other slots (page * width + t) i v blank (λ e. let a = page_before page count t width (are.few p page is) lt in omega arith) ∙ are.rest i le;
}

-- places that are the same by number
pub pages_same : {X : Type 0} (old new : ℕ → ℕ) (slots : List X) (blank : X) (width count : ℕ) → ((p : ℕ) → new p ≡ old p) → ArePages old slots blank width count → ArePages new slots blank width count
pages_same old new slots blank width count same are = record {
  few = λ p k is. are.few p k (sym (same p) ∙ is);
  once = λ p q k a b. are.once p q k (sym (same p) ∙ a) (sym (same q) ∙ b);
  rest = are.rest;
}

pub paged_same : {X : Type 0} (old new : ℕ → ℕ) (slots : List X) (blank : X) (width n : ℕ) → ((p : ℕ) → new p ≡ old p) → paged new slots blank width n ≡ paged old slots blank width n
paged_same old new slots blank width n same = ap (λ k. in_page slots blank width k (n % width)) (same (n / width))

-- slots that have the same items, or blank ones
in_page_like : {X : Type 0} (old new : List X) (blank : X) (width page rest : ℕ) → ((i : ℕ) → slice_index_or new i blank ≡ slice_index_or old i blank) → in_page new blank width page rest ≡ in_page old blank width page rest
in_page_like old new blank width zero rest same = refl
in_page_like old new blank width (suc page) rest same = same (page * width + rest)

pub paged_like : {X : Type 0} (place : ℕ → ℕ) (old new : List X) (blank : X) (width n : ℕ) → ((i : ℕ) → slice_index_or new i blank ≡ slice_index_or old i blank) → paged place new blank width n ≡ paged place old blank width n
paged_like place old new blank width n same = in_page_like old new blank width (place (n / width)) (n % width) same

pub pages_like : {X : Type 0} (place : ℕ → ℕ) (old new : List X) (blank : X) (width count : ℕ) → ((i : ℕ) → slice_index_or new i blank ≡ slice_index_or old i blank) → ArePages place old blank width count → ArePages place new blank width count
pages_like place old new blank width count same are = record { few = are.few; once = are.once; rest = λ i le. same i ∙ are.rest i le }

-- a table in which a place is set
pub opens : (old table : List ℕ) (page count : ℕ) → slice_index_or old page 0 ≡ 0 → ((i : ℕ) → slice_index_or table i 0 ≡ slice_index_or old i 0) → page < length table
    → IsOpened (λ p. slice_index_or old p 0) (λ p. slice_index_or (slice_set table page (count + 1)) p 0) page count
opens old table page count none same lt = record {
  closed = none;
  is = λ p. split (nat_eq p page) (λ b. slice_index_or (slice_set table page (count + 1)) p 0 ≡ (if b then count + 1 else slice_index_or old p 0))
      (λ e. ap (λ i. slice_index_or (slice_set table page (count + 1)) i 0) (eqb-true p page e) ∙ get_or-set_same table page (count + 1) 0 lt)
      (λ e. get_or-set_other table page p (count + 1) 0 (λ f. not_both (eq-eqb p page f) e) ∙ same p);
}
