-- Pages after fresh ones were put behind them.
use Rattle.std.proofs.Common.{◌≡◌, ℕ, zero, suc, ◌+◌, ◌-◌, ◌/◌, ◌%◌, ◌<◌, ◌≤◌, ◌⊎◌, inl, inr, ⊎_elim, Option, Some, None, List, [], ◌∷◌, ◌++◌, length, get_or, refl, ap, sym, ◌∙◌, arith, Bool, true, false, cond}
use Rattle.std.specs.Prelude.{nat_eq, ◌||◌, if◌then◌else◌, is_some, MatchOption, MatchResult, Result, Ok, Err, IfOk}
use Rattle.std.specs.List.{slice_get, find}
use Rattle.std.specs.Option.{option_or}
use Rattle.std.specs.Result.{is_ok, is_err}
use Rattle.std.proofs.lemmas.Bool.Decides.{nat_tests}
use Rattle.std.proofs.lemmas.Bool.{cases_lt}
use Rattle.std.proofs.lemmas.List.Folds.{find-append}
use Rattle.std.proofs.lemmas.Option.{slice_get_cases, slice_get_within}
use Rattle.byte_memory.specs.declared.page.Page.{Page}
use Rattle.byte_memory.specs.Bits.{is_among_places}
use Rattle.byte_memory.specs.Pages.{numbered, page_bit, bits_of, users_of, claimed, AreFresh, AreAdded}
use Rattle.byte_memory.proofs.Lists.{find-none, find-first}
use Rattle.byte_memory.proofs.Tables.{AreOrdered}

slice_get-append_cases : (xs ys : List Page) (i : ℕ) (x : Page) → slice_get (xs ++ ys) i ≡ Some x → (slice_get xs i ≡ Some x) ⊎ ((length xs ≤ i) × (slice_get ys (i - length xs) ≡ Some x))
slice_get-append_cases [] ys i x e = let all : i - 0 ≡ i = omega arith in inr (omega arith, ap (slice_get ys) all ∙ e)
slice_get-append_cases (y ∷ xs) ys zero x e = inl e
slice_get-append_cases (y ∷ xs) ys (suc i) x e = ⊎_elim (λ l. inl l) (λ r. let less : suc i - suc (length xs) ≡ i - length xs = omega arith in inr (omega (arith, r.0), ap (slice_get ys) less ∙ r.1)) (slice_get-append_cases xs ys i x e)

-- where none is found, each item fails
find-none_fails : (p : Page → Bool) (xs : List Page) (k : ℕ) (x : Page) → find p xs ≡ None → slice_get xs k ≡ Some x → p x ≡ false
find-none_fails p [] k x e there = cc
find-none_fails p (y ∷ xs) k x e there = by_test (p y) refl k e there (λ k. find-none_fails p xs k x)
  where
    by_test : (z : Bool) → p y ≡ z → (k : ℕ) → cond z (Some y) (find p xs) ≡ None → slice_get (y ∷ xs) k ≡ Some x → ((k : ℕ) → find p xs ≡ None → slice_get xs k ≡ Some x → p x ≡ false) → p x ≡ false
    by_test true t k e there rest = cc
    by_test false t zero e there rest = let same : y ≡ x = cc in ap p (sym same) ∙ t
    by_test false t (suc k) e there rest = rest k e there

-- a fresh page of each of the numbers is found
fresh-found : (fresh : List Page) (first n number : ℕ) → AreFresh fresh first n → is_among_places first n number ≡ true → (page : Page) × (k : ℕ) × (slice_get fresh k ≡ Some page) × (find (numbered number) fresh ≡ Some page)
fresh-found fresh first n number new t = ⊎_elim found (λ past. absurd (grind (arith, nat_tests, past.0, new.count))) (slice_get_cases fresh (number - first)).1
  where
    found : (page : Page) × (number - first < length fresh) × (slice_get fresh (number - first) ≡ Some page) × (get_or fresh (number - first) page ≡ page) → (page : Page) × (k : ℕ) × (slice_get fresh k ≡ Some page) × (find (numbered number) fresh ≡ Some page)
    found f =
        let is = new.each (number - first) f.0 f.2 in
        let pass : numbered number f.0 ≡ true = grind (arith, nat_tests, is) in
        (f.0, number - first, f.2, find-first (numbered number) fresh (number - first) f.0 f.2 pass (λ k y less there. let its = new.each k y there in grind (arith, nat_tests, its, less)))

-- and no other
fresh-missing : (fresh : List Page) (first n number : ℕ) → AreFresh fresh first n → is_among_places first n number ≡ false → find (numbered number) fresh ≡ None
fresh-missing fresh first n number new t = find-none (numbered number) fresh (λ k page there.
    let is = new.each k page there in
    let inside = slice_get_within fresh k page there in
    grind (arith, nat_tests, is, inside, new.count))

module _ (pages fresh : List Page) (first n : ℕ) (up : AreOrdered pages) (new : AreFresh fresh first n) (above : (number : ℕ) → first ≤ number → find (numbered number) pages ≡ None) where
  below_first : (k : ℕ) (page : Page) → slice_get pages k ≡ Some page → page.number < first
  below_first k page there = ⊎_elim (λ less. less) (λ more. let fails = find-none_fails (numbered page.number) pages k page (above page.number more) there in absurd (grind (arith, nat_tests))) (cases_lt page.number first)

  ordered-append : AreOrdered (pages ++ fresh)
  ordered-append i j x y less here there = ⊎_elim
      (λ a. ⊎_elim (λ b. up i j x y less a b) (λ b. omega (arith, below_first i x a, new.each (j - length pages) y b.1)) (slice_get-append_cases pages fresh j y there))
      (λ a. ⊎_elim
      (λ b. let inside = slice_get_within pages j y b in absurd (omega (arith, a.0, less, inside)))
      (λ b. omega (arith, less, a.0, new.each (i - length pages) x a.1, new.each (j - length pages) y b.1))
      (slice_get-append_cases pages fresh j y there))
      (slice_get-append_cases pages fresh i x here)

  or_none : (found : Option Page) → option_or found None ≡ found
  or_none None = refl
  or_none (Some page) = refl

  among : (number : ℕ) → is_among_places first n number ≡ true → (page : Page) × (k : ℕ) × (slice_get fresh k ≡ Some page) × (find (numbered number) (pages ++ fresh) ≡ Some page) × (find (numbered number) pages ≡ None)
  among number t =
      let found = fresh-found fresh first n number new t in
      let none : find (numbered number) pages ≡ None = above number (grind (arith, nat_tests)) in
      let all : find (numbered number) (pages ++ fresh) ≡ Some found.0 = find-append (numbered number) pages fresh ∙ (ap (λ p. option_or p (find (numbered number) fresh)) none ∙ found.3) in
      (found.0, found.1, found.2, all, none)

  beside : (number : ℕ) → is_among_places first n number ≡ false → find (numbered number) (pages ++ fresh) ≡ find (numbered number) pages
  beside number t = find-append (numbered number) pages fresh ∙ (ap (option_or (find (numbered number) pages)) (fresh-missing fresh first n number new t) ∙ or_none (find (numbered number) pages))

  -- what fresh pages behind the others are
  pub AreAdded-append : AreAdded pages (pages ++ fresh) first n
  AreAdded-append = record {
    ordered = ordered-append;
    users = λ number. users number (is_among_places first n number) refl;
    kept = λ number. kept number (is_among_places first n number) refl;
    bits = λ j place. bits place (is_among_places first n (place / 32768)) refl j;
  }
    where
      users : (number : ℕ) (z : Bool) → is_among_places first n number ≡ z → users_of (find (numbered number) (pages ++ fresh)) ≡ users_of (find (numbered number) pages) + (if z then 1 else 0)
      users number true t =
          let found = among number t in
          let one = new.users found.1 found.0 found.2 in
          let none : users_of (find (numbered number) pages) ≡ 0 = ap users_of found.4 in
          ap users_of found.3 ∙ omega (arith, one, none)
      users number false t = ap users_of (beside number t) ∙ omega arith

      or_false : (z : Bool) → z ≡ (z || false)
      or_false true = refl
      or_false false = refl

      kept : (number : ℕ) (z : Bool) → is_among_places first n number ≡ z → is_some (find (numbered number) (pages ++ fresh)) ≡ (is_some (find (numbered number) pages) || z)
      kept number true t =
          let found = among number t in
          let none : is_some (find (numbered number) pages) ≡ false = ap is_some found.4 in
          ap is_some found.3 ∙ ap (λ z. z || true) (sym none)
      kept number false t = ap is_some (beside number t) ∙ or_false (is_some (find (numbered number) pages))

      bits : (place : ℕ) (z : Bool) → is_among_places first n (place / 32768) ≡ z → bits_of (pages ++ fresh) place ≡ bits_of pages place
      bits place true t =
          let found = among (place / 32768) t in
          let unset : page_bit (Some found.0) (place % 32768) ≡ None = ap (λ p. page_bit p (place % 32768)) (sym found.2) ∙ new.unset found.1 (place % 32768) in
          ap (λ p. page_bit p (place % 32768)) found.3 ∙ (unset ∙ sym (ap (λ p. page_bit p (place % 32768)) found.4))
      bits place false t = ap (λ p. page_bit p (place % 32768)) (beside (place / 32768) t)

users_of-claimed : (found : Option Page) → is_some found ≡ true → users_of (claimed found) ≡ users_of found + 1
users_of-claimed None t = cc
users_of-claimed (Some page) t = refl

is_some-claimed : (found : Option Page) → is_some (claimed found) ≡ is_some found
is_some-claimed None = refl
is_some-claimed (Some page) = refl

page_bit-claimed : (found : Option Page) (k : ℕ) → page_bit (claimed found) k ≡ page_bit found k
page_bit-claimed None k = refl
page_bit-claimed (Some page) k = refl

-- the first page was there, and the others are new
pub AreAdded-claimed : (old mid new : List Page) (first n : ℕ) → 0 < n → AreAdded old mid (first + 1) (n - 1) → is_some (find (numbered first) old) ≡ true → AreOrdered new →
    ((other : ℕ) → find (numbered other) new ≡ (if nat_eq other first then claimed (find (numbered other) mid) else find (numbered other) mid)) → AreAdded old new first n
AreAdded-claimed old mid new first n some added held up found = record {
  ordered = up;
  users = λ number. users number (nat_eq number first) refl;
  kept = λ number. kept number (nat_eq number first) refl;
  bits = λ j place. bits place (nat_eq (place / 32768) first) refl j;
}
  where
    here : (number : ℕ) → nat_eq number first ≡ true → (find (numbered number) new ≡ claimed (find (numbered number) mid)) × (is_among_places (first + 1) (n - 1) number ≡ false) × (is_among_places first n number ≡ true) × (is_some (find (numbered number) old) ≡ true)
    here number t =
        let e : number ≡ first = grind (arith, nat_tests) in
        (rw t at (found number), grind (arith, nat_tests), grind (arith, nat_tests), ap (λ k. is_some (find (numbered k) old)) e ∙ held)

    there : (number : ℕ) → nat_eq number first ≡ false → (find (numbered number) new ≡ find (numbered number) mid) × (is_among_places (first + 1) (n - 1) number ≡ is_among_places first n number)
    there number t = (rw t at (found number), grind (arith, nat_tests))

    mid_here : (number : ℕ) → nat_eq number first ≡ true → is_some (find (numbered number) mid) ≡ true
    mid_here number t = let h = here number t in added.kept number ∙ ap (λ z. z || is_among_places (first + 1) (n - 1) number) h.3

    users : (number : ℕ) (z : Bool) → nat_eq number first ≡ z → users_of (find (numbered number) new) ≡ users_of (find (numbered number) old) + (if is_among_places first n number then 1 else 0)
    users number true t =
        let h = here number t in
        let before : users_of (find (numbered number) mid) ≡ users_of (find (numbered number) old) + 0 = added.users number ∙ ap (λ z. users_of (find (numbered number) old) + (if z then 1 else 0)) h.1 in
        let more = users_of-claimed (find (numbered number) mid) (mid_here number t) in
        ap users_of h.0 ∙ (omega (arith, before, more) ∙ ap (λ z. users_of (find (numbered number) old) + (if z then 1 else 0)) (sym h.2))
    users number false t =
        let h = there number t in
        ap users_of h.0 ∙ (added.users number ∙ ap (λ z. users_of (find (numbered number) old) + (if z then 1 else 0)) h.1)

    kept : (number : ℕ) (z : Bool) → nat_eq number first ≡ z → is_some (find (numbered number) new) ≡ (is_some (find (numbered number) old) || is_among_places first n number)
    kept number true t =
        let h = here number t in
        ap is_some h.0 ∙ (is_some-claimed (find (numbered number) mid) ∙ (mid_here number t ∙ ap (λ z. z || is_among_places first n number) (sym h.3)))
    kept number false t =
        let h = there number t in
        ap is_some h.0 ∙ (added.kept number ∙ ap (λ z. is_some (find (numbered number) old) || z) h.1)

    bits : (place : ℕ) (z : Bool) → nat_eq (place / 32768) first ≡ z → bits_of new place ≡ bits_of old place
    bits place true t =
        let h = here (place / 32768) t in
        ap (λ p. page_bit p (place % 32768)) h.0 ∙ (page_bit-claimed (find (numbered (place / 32768)) mid) (place % 32768) ∙ ap (λ f. f place) added.bits)
    bits place false t =
        let h = there (place / 32768) t in
        ap (λ p. page_bit p (place % 32768)) h.0 ∙ ap (λ f. f place) added.bits

-- what a call that appends fresh pages leaves
pub added-result : {T E : Type 0} (result : Result T E) (old new fresh : List Page) (first n : ℕ) → new ≡ (if is_ok result then old ++ fresh else old) → AreAdded old (old ++ fresh) first n → MatchResult result (λ x. AreAdded old new first n) (λ x. new ≡ old)
added-result (Ok x) old new fresh first n e added = rw e added
added-result (Err x) old new fresh first n e added = e

-- a page that stands somewhere is found
pub found-some : (result : Option ℕ) (pages : List Page) (number : ℕ) → is_some result ≡ true → MatchOption result (find (numbered number) pages ≡ None) (λ index. (index < length pages) × (find (numbered number) pages ≡ slice_get pages index)) → is_some (find (numbered number) pages) ≡ true
found-some None pages number some found = cc
found-some (Some index) pages number some found = ⊎_elim
    (λ there. ap is_some (found.1 ∙ there.2))
    (λ past. absurd (omega (arith, past.0, found.0))) (slice_get_cases pages index).1

-- pages are added where a call that adds them gave no error
pub added_of : {T E : Type 0} (result : Result T E) (old new : List Page) (first n : ℕ) → is_err result ≡ false → MatchResult result (λ x. AreAdded old new first n) (λ x. new ≡ old) → AreAdded old new first n
added_of (Ok x) old new first n t h = h
added_of (Err x) old new first n t h = cc

-- what holds of a call that gave no error
pub if_ok_of : {T E P : Type 0} (result : Result T E) → is_err result ≡ false → IfOk result (λ x. P) → P
if_ok_of (Ok x) t h = h
if_ok_of (Err x) t h = cc
