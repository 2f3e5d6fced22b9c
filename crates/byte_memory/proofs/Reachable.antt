-- Bytes that can be reached: their regions, their pages and their bits.
use Rattle.std.proofs.Common.{◌≡◌, ℕ, suc, ◌+◌, ◌-◌, ◌*◌, ◌/◌, ◌<◌, ◌≤◌, ⊎_elim, Option, Some, None, List, [], ◌∷◌, length, map, refl, ap, sym, ◌∙◌, arith, Bool, true, false, cond}
use Rattle.std.specs.Prelude.{nat_eq, nat_lt, is_some, is_none, count_by}
use Rattle.std.specs.List.{slice_get, find}
use Rattle.std.proofs.lemmas.Bool.Decides.{nat_tests}
use Rattle.std.proofs.lemmas.Bool.{cases_lt}
use Rattle.std.proofs.lemmas.Option.{slice_get_within, slice_get-get_or, slice_get-map}
use Rattle.std.proofs.lemmas.List.{length-map}
use Rattle.std.specs.Option.{option_map}
use Rattle.byte_memory.specs.declared.memory.Region.{Region}
use Rattle.byte_memory.specs.declared.cells.Word.{Word}
use Rattle.byte_memory.specs.declared.page.Page.{Page}
use Rattle.byte_memory.specs.Bits.{is_among_places}
use Rattle.byte_memory.specs.Words.{with_word}
use Rattle.byte_memory.specs.Regions.{fault_at, fault_in, holds_bytes, shut, rounded, IsAscending}
use Rattle.byte_memory.specs.Pages.{meets, numbered, reached_bits, next_start, start_after}
use Rattle.byte_memory.proofs.Lists.{count_by-some}
use Rattle.byte_memory.proofs.Reached.{fault_at-inside, shut_same}

-- bytes that can be reached lie in one open region
pub fault_at-found : (rs : List Region) (at n : ℕ) → fault_at rs at n ≡ None → (k : ℕ) × (r : Region) × (slice_get rs k ≡ Some r) × (r.is_open ≡ true) × (r.start ≤ at) × (at + n ≤ r.start + r.size)
fault_at-found [] at n e = cc
fault_at-found (q ∷ rs) at n e = by_test (holds_bytes at n q) refl (fault_at-found rs at n) e
  where
    opened : (z : Bool) → q.is_open ≡ z → fault_in at (Some q) ≡ None → q.is_open ≡ true
    opened true o e = o
    opened false o e = let closed = rw o at e in cc

    by_test : (z : Bool) → holds_bytes at n q ≡ z → (fault_at rs at n ≡ None → (k : ℕ) × (r : Region) × (slice_get rs k ≡ Some r) × (r.is_open ≡ true) × (r.start ≤ at) × (at + n ≤ r.start + r.size)) →
        fault_in at (cond z (Some q) (find (holds_bytes at n) rs)) ≡ None → (k : ℕ) × (r : Region) × (slice_get (q ∷ rs) k ≡ Some r) × (r.is_open ≡ true) × (r.start ≤ at) × (at + n ≤ r.start + r.size)
    by_test true t rest e = (0, q, refl, opened q.is_open refl e, grind (arith, nat_tests), grind (arith, nat_tests))
    by_test false t rest e = let found = rest e in (suc found.0, found.1, found.2, found.3, found.4, found.5)

-- each of them can be reached alone
pub reached-each : (rs : List Region) (at n a : ℕ) → IsAscending rs → fault_at rs at n ≡ None → at ≤ a → a < at + n → is_none (fault_at rs a 1) ≡ true
reached-each rs at n a up reach low high =
    let found = fault_at-found rs at n reach in
    let low' : (found.1).start ≤ a = omega (arith, low, found.4) in
    let high' : a + 1 ≤ (found.1).start + (found.1).size = omega (arith, high, found.5) in
    let alone : fault_at rs a 1 ≡ None = fault_at-inside rs found.0 found.1 a 1 up found.2 found.3 (omega arith) low' high' in
    rw alone refl

-- the page of each of them meets an open region
pub reached-page : (rs : List Region) (at n a : ℕ) → fault_at rs at n ≡ None → at ≤ a → a < at + n → 0 < count_by (meets (a / 4096)) rs
reached-page rs at n a reach low high =
    let found = fault_at-found rs at n reach in
    let starts : (found.1).start < 4096 * (a / 4096 + 1) = omega (arith, low, found.4) in
    let ends : 4096 * (a / 4096) < (found.1).start + (found.1).size = omega (arith, high, found.5) in
    let is_open = found.3 in
    let pass : meets (a / 4096) found.1 ≡ true = rw is_open (grind (arith, nat_tests)) in
    count_by-some (meets (a / 4096)) rs found.0 found.1 found.2 pass

-- their bits are those that are kept
pub reached_bits-at : (rs : List Region) (bit : ℕ → Option Bool) (at n place : ℕ) → IsAscending rs → fault_at rs at n ≡ None → place < 8 * n → reached_bits rs bit (8 * at + place) ≡ bit (8 * at + place)
reached_bits-at rs bit at n place up reach inside =
    let test = reached-each rs at n ((8 * at + place) / 8) up reach (omega arith) (omega arith) in
    rw test refl

-- a word written to them is seen
pub reached_bits-with_word : (rs : List Region) (bit : ℕ → Option Bool) (at n : ℕ) (word : Word) → IsAscending rs → fault_at rs at n ≡ None → reached_bits rs (with_word bit at n word) ≡ with_word (reached_bits rs bit) at n word
reached_bits-with_word rs bit at n word up reach = λ j place. by_test place (is_among_places (8 * at) (8 * n) place) refl j
  where
    by_test : (place : ℕ) (z : Bool) → is_among_places (8 * at) (8 * n) place ≡ z → reached_bits rs (with_word bit at n word) place ≡ with_word (reached_bits rs bit) at n word place
    by_test place true t =
        let low : at ≤ place / 8 = grind (arith, nat_tests) in
        let high : place / 8 < at + n = grind (arith, nat_tests) in
        let test = reached-each rs at n (place / 8) up reach low high in
        rw (test, t) refl
    by_test place false t = rw t refl

-- each region ends where the next one may start, or before
pub ends_below_next : (rs : List Region) (k : ℕ) (r : Region) → IsAscending rs → slice_get rs k ≡ Some r → r.start + r.size ≤ next_start rs
ends_below_next rs k r up here = last (slice_get rs (length rs - 1)) refl
  where
    inside : k < length rs
    inside = slice_get_within rs k r here

    last : (found : Option Region) → slice_get rs (length rs - 1) ≡ found → r.start + r.size ≤ start_after found
    last None e = absurd (missing rs k r inside e)
      where
        missing : (rs : List Region) (k : ℕ) (r : Region) → k < length rs → slice_get rs (length rs - 1) ≡ None → ⊥
        missing rs k r inside e = let there = slice_get-get_or rs (length rs - 1) r (omega (arith, inside)) in cc
    last (Some q) e = ⊎_elim
        (λ (less : k < length rs - 1). let apart = up k (length rs - 1) r q less here e in omega (arith, apart))
        (λ (more : length rs - 1 ≤ k).
        let same : k ≡ length rs - 1 = omega (arith, more, inside) in
        let one : Some r ≡ Some q = sym here ∙ (ap (slice_get rs) same ∙ e) in
        let region : r ≡ q = cc in
        rw region (omega arith))
        (cases_lt k (length rs - 1))

-- the pages of bytes that can be reached are kept
pub reached-kept : (rs : List Region) (pages : List Page) (at n k : ℕ) → ((number : ℕ) → is_some (find (numbered number) pages) ≡ nat_lt 0 (count_by (meets number) rs)) → fault_at rs at n ≡ None → k < n → is_some (find (numbered ((at + k) / 4096)) pages) ≡ true
reached-kept rs pages at n k kept reach less =
    let some = reached-page rs at n (at + k) reach (omega arith) (omega arith) in
    kept ((at + k) / 4096) ∙ grind (arith, nat_tests, some)

-- bytes that can be reached end where the next region may start, or before
pub reached_below_next : (rs : List Region) (at n : ℕ) → IsAscending rs → fault_at rs at n ≡ None → at + n ≤ next_start rs
reached_below_next rs at n up reach =
    let found = fault_at-found rs at n reach in
    omega (arith, found.5, ends_below_next rs found.0 found.1 up found.2)

-- no bit is set from there on, after a word was written to bytes that can be reached
pub unset-written : (rs : List Region) (bit bit' : ℕ → Option Bool) (at n : ℕ) (word : Word) → IsAscending rs → fault_at rs at n ≡ None → bit' ≡ with_word bit at n word →
    ((place : ℕ) → 8 * next_start rs ≤ place → bit place ≡ None) → (place : ℕ) → 8 * next_start rs ≤ place → bit' place ≡ None
unset-written rs bit bit' at n word up reach e unset place past =
    let ends = reached_below_next rs at n up reach in
    let test : is_among_places (8 * at) (8 * n) place ≡ false = grind (arith, nat_tests, ends) in
    ap (λ f. f place) e ∙ rw test (unset place past)

-- a close moves no region, so the next one starts where it would have
pub next-shut : (rs : List Region) (at : ℕ) → next_start (map (shut at) rs) ≡ next_start rs
next-shut rs at =
    let count : length (map (shut at) rs) ≡ length rs = length-map rs (shut at) in
    ap (λ n. start_after (slice_get (map (shut at) rs) (n - 1))) count ∙ (ap start_after (slice_get-map (shut at) rs (length rs - 1)) ∙ same (slice_get rs (length rs - 1)))
  where
    same : (found : Option Region) → start_after (option_map (shut at) found) ≡ start_after found
    same None = refl
    same (Some r) = let e = shut_same r at (nat_eq r.start at) refl in ap (λ s. rounded (s + (shut at r).size)) e.0 ∙ ap (λ n. rounded (r.start + n)) e.1
