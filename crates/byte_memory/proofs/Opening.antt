-- What an open changes in a memory of pages.
use Rattle.std.proofs.Common.{◌≡◌, ℕ, ◌+◌, ◌-◌, ◌*◌, ◌/◌, ◌%◌, ◌<◌, ◌≤◌, Option, Some, None, List, [], ◌∷◌, ◌++◌, length, refl, ap, sym, ◌∙◌, subst, arith, Bool, true, false, cond}
use Rattle.std.specs.Prelude.{nat_lt, ◌||◌, if◌then◌else◌, is_some, is_none, count_by, All}
use Rattle.std.specs.List.{slice_get, find}
use Rattle.std.specs.Option.{option_or}
use Rattle.std.proofs.lemmas.Bool.Decides.{nat_tests}
use Rattle.std.proofs.lemmas.List.{length_push}
use Rattle.std.proofs.lemmas.List.Folds.{find-append}
use Rattle.std.proofs.lemmas.List.Sums.{sum_by-append}
use Rattle.std.proofs.lemmas.Option.{slice_get_within, get_or_from_slice_get}
use Rattle.byte_memory.specs.declared.memory.Region.{Region}
use Rattle.byte_memory.specs.declared.page.Page.{Page}
use Rattle.byte_memory.specs.Bits.{is_among_places}
use Rattle.byte_memory.specs.Regions.{fault_at, fault_in, holds_bytes, rounded, IsAscending}
use Rattle.byte_memory.specs.Pages.{meets, numbered, users_of, reached_bits, next_start, start_after, AreAdded}
use Rattle.byte_memory.proofs.Lists.{counted, counted_one, counted_none, count_by-cons, count_by-found}
use Rattle.byte_memory.proofs.Reachable.{ends_below_next}
use Rattle.byte_memory.proofs.Closing.{meets_among}

-- the next region starts at a multiple of 16 above 0
pub next-aligned : (rs : List Region) → All (λ r. 0 < r.size) rs → (next_start rs % 16 ≡ 0) × (0 < next_start rs)
next-aligned rs sizes = by_last (slice_get rs (length rs - 1)) refl
  where
    by_last : (found : Option Region) → slice_get rs (length rs - 1) ≡ found → (start_after found % 16 ≡ 0) × (0 < start_after found)
    by_last None e = (refl, omega arith)
    by_last (Some r) e =
        let some : 0 < r.size = subst (λ (q : Region). 0 < q.size) (get_or_from_slice_get rs (length rs - 1) r r e) (sizes (length rs - 1) r (slice_get_within rs (length rs - 1) r e)) in
        (omega arith, omega (arith, some))

slice_get-last : (rs : List Region) (r : Region) → slice_get (rs ++ r ∷ []) (length rs) ≡ Some r
slice_get-last [] r = refl
slice_get-last (q ∷ rs) r = slice_get-last rs r

-- where the next region starts after one was opened
pub next-push : (rs : List Region) (r : Region) → next_start (rs ++ r ∷ []) ≡ rounded (r.start + r.size)
next-push rs r =
    let last : length (rs ++ r ∷ []) - 1 ≡ length rs = omega (arith, length_push rs r) in
    ap (λ k. start_after (slice_get (rs ++ r ∷ []) k)) last ∙ ap start_after (slice_get-last rs r)

count-push : (p : Region → Bool) (rs : List Region) (r : Region) → count_by p (rs ++ r ∷ []) ≡ count_by p rs + counted p r
count-push p rs r =
    let one : count_by p (r ∷ []) ≡ counted p r + 0 = count_by-cons p r [] in
    let both : count_by p (rs ++ r ∷ []) ≡ count_by p rs + count_by p (r ∷ []) = sum_by-append (λ q. cond (p q) 1 0) rs (r ∷ []) in
    omega (arith, one, both)

-- bytes that could not be reached and are in a new region have no set bit
pub reached-push : (rs : List Region) (r : Region) (bit : ℕ → Option Bool) → ((place : ℕ) → 8 * r.start ≤ place → bit place ≡ None) → reached_bits (rs ++ r ∷ []) bit ≡ reached_bits rs bit
reached-push rs r bit unset = λ j place. by_found place (find (holds_bytes (place / 8) 1) rs) refl j
  where
    none_if : (place : ℕ) (z : Bool) → bit place ≡ None → (if z then bit place else None) ≡ None
    none_if place true e = e
    none_if place false e = refl

    by_found : (place : ℕ) (found : Option Region) → find (holds_bytes (place / 8) 1) rs ≡ found → reached_bits (rs ++ r ∷ []) bit place ≡ reached_bits rs bit place
    by_found place (Some q) e =
        let new : find (holds_bytes (place / 8) 1) (rs ++ r ∷ []) ≡ Some q = find-append (holds_bytes (place / 8) 1) rs (r ∷ []) ∙ ap (λ f. option_or f (find (holds_bytes (place / 8) 1) (r ∷ []))) e in
        ap (λ f. if is_none (fault_in (place / 8) f) then bit place else None) (new ∙ sym e)
    by_found place None e = by_test (holds_bytes (place / 8) 1 r) refl
      where
        new : find (holds_bytes (place / 8) 1) (rs ++ r ∷ []) ≡ cond (holds_bytes (place / 8) 1 r) (Some r) None
        new = find-append (holds_bytes (place / 8) 1) rs (r ∷ []) ∙ ap (λ f. option_or f (find (holds_bytes (place / 8) 1) (r ∷ []))) e

        by_test : (z : Bool) → holds_bytes (place / 8) 1 r ≡ z → reached_bits (rs ++ r ∷ []) bit place ≡ reached_bits rs bit place
        by_test true t =
            let past : 8 * r.start ≤ place = grind (arith, nat_tests) in
            none_if place (is_none (fault_at (rs ++ r ∷ []) (place / 8) 1)) (unset place past) ∙ sym (none_if place (is_none (fault_at rs (place / 8) 1)) (unset place past))
        by_test false t =
            let none : find (holds_bytes (place / 8) 1) (rs ++ r ∷ []) ≡ None = new ∙ ap (λ z. cond z (Some r) None) t in
            ap (λ f. if is_none (fault_in (place / 8) f) then bit place else None) (none ∙ sym e)

-- counts and pages after an open
module _ (rs : List Region) (pages pages' : List Page) (r : Region) (is_open : r.is_open ≡ true) (some : 0 < r.size)
    (added : AreAdded pages pages' (r.start / 4096) ((r.start + r.size - 1) / 4096 + 1 - r.start / 4096)) where
  pub open-users : ((number : ℕ) → users_of (find (numbered number) pages) ≡ count_by (meets number) rs) → (number : ℕ) → users_of (find (numbered number) pages') ≡ count_by (meets number) (rs ++ r ∷ [])
  open-users users number =
      let one : counted (meets number) r ≡ (if is_among_places (r.start / 4096) ((r.start + r.size - 1) / 4096 + 1 - r.start / 4096) number then 1 else 0) = ap (λ z. cond z 1 0) (meets_among number r is_open some) in
      omega (arith, one, added.users number, users number, count-push (meets number) rs r)

  pub open-kept : ((number : ℕ) → is_some (find (numbered number) pages) ≡ nat_lt 0 (count_by (meets number) rs)) → (number : ℕ) → is_some (find (numbered number) pages') ≡ nat_lt 0 (count_by (meets number) (rs ++ r ∷ []))
  open-kept kept number = added.kept number ∙ (ap (λ z. z || is_among_places (r.start / 4096) ((r.start + r.size - 1) / 4096 + 1 - r.start / 4096) number) (kept number)
      ∙ (ap (λ z. nat_lt 0 (count_by (meets number) rs) || z) (sym (meets_among number r is_open some)) ∙ by_test (meets number r) refl))
    where
      or_true : (z : Bool) → (z || true) ≡ true
      or_true true = refl
      or_true false = refl

      or_false : (z : Bool) → (z || false) ≡ z
      or_false true = refl
      or_false false = refl

      by_test : (z : Bool) → meets number r ≡ z → (nat_lt 0 (count_by (meets number) rs) || z) ≡ nat_lt 0 (count_by (meets number) (rs ++ r ∷ []))
      by_test true t =
          let one : counted (meets number) r ≡ 1 = counted_one (meets number) r t in
          or_true (nat_lt 0 (count_by (meets number) rs)) ∙ grind (arith, nat_tests, one, count-push (meets number) rs r)
      by_test false t =
          let none : counted (meets number) r ≡ 0 = counted_none (meets number) r t in
          let same : count_by (meets number) rs ≡ count_by (meets number) (rs ++ r ∷ []) = omega (arith, none, count-push (meets number) rs r) in
          or_false (nat_lt 0 (count_by (meets number) rs)) ∙ ap (nat_lt 0) same

-- no page is kept from the one on that starts at the next region's start, or above
pub above-none : (rs : List Region) (pages : List Page) (number : ℕ) → IsAscending rs → ((n : ℕ) → is_some (find (numbered n) pages) ≡ nat_lt 0 (count_by (meets n) rs)) → next_start rs ≤ 4096 * number → find (numbered number) pages ≡ None
above-none rs pages number up kept past = by_found (find (numbered number) pages) refl
  where
    after : (number : ℕ) (r : Region) → meets number r ≡ true → r.start + r.size ≤ 4096 * number → ⊥
    after number r pass below = by_open r.is_open refl
      where
        by_open : (z : Bool) → r.is_open ≡ z → ⊥
        by_open true o = let pass' = rw o at pass in grind (arith, nat_tests, pass', below)
        by_open false o = let pass' = rw o at pass in cc

    by_found : (found : Option Page) → find (numbered number) pages ≡ found → find (numbered number) pages ≡ None
    by_found None e = e
    by_found (Some page) e =
        let some : true ≡ nat_lt 0 (count_by (meets number) rs) = sym (ap is_some e) ∙ kept number in
        let more : 0 < count_by (meets number) rs = grind (arith, nat_tests, some) in
        let met = count_by-found (meets number) rs more in
        let ends = ends_below_next rs met.0 met.1 up met.2 in
        absurd (after number met.1 met.3 (omega (arith, ends, past)))

-- an unset bit can't be read
pub unset-reached : (rs : List Region) (bit : ℕ → Option Bool) (place : ℕ) → bit place ≡ None → reached_bits rs bit place ≡ None
unset-reached rs bit place unset = by_test (is_none (fault_at rs (place / 8) 1))
  where
    by_test : (z : Bool) → (if z then bit place else None) ≡ None
    by_test true = unset
    by_test false = refl
