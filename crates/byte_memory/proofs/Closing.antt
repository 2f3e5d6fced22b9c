-- What a close changes in a memory of pages.
use Rattle.std.proofs.Common.{◌≡◌, ◌≢◌, ℕ, ◌+◌, ◌-◌, ◌*◌, ◌/◌, ◌%◌, ◌<◌, ◌≤◌, ⊎_elim, Option, Some, None, List, [], ◌∷◌, map, refl, ap, sym, ◌∙◌, arith, Bool, true, false, cond}
use Rattle.std.specs.Prelude.{nat_eq, nat_le, nat_lt, ◌&&◌, if◌then◌else◌, is_some, is_none, count_by, All}
use Rattle.std.specs.List.{slice_get, find}
use Rattle.std.proofs.lemmas.Bool.Decides.{nat_tests}
use Rattle.std.proofs.lemmas.Bool.{cases_lt}
use Rattle.byte_memory.specs.declared.memory.Region.{Region}
use Rattle.byte_memory.specs.declared.page.Page.{Page}
use Rattle.byte_memory.specs.Bits.{is_among_places, cleared}
use Rattle.byte_memory.specs.Regions.{fault_at, fault_in, holds_bytes, shut, IsAscending}
use Rattle.byte_memory.specs.Pages.{meets, numbered, page_bit, bits_of, users_of, released, reached_bits}
use Rattle.byte_memory.proofs.Ascending.{IsAscendingBy-apart}
use Rattle.byte_memory.proofs.Lists.{counted, counted_one, counted_none, count_by-set, count_by-two, find-index}
use Rattle.byte_memory.proofs.Reached.{shut_same, shut-set, starts-differ}
use Rattle.byte_memory.proofs.Tables.{released-more}

holds_shut : (at a : ℕ) (r : Region) → holds_bytes a 1 (shut at r) ≡ holds_bytes a 1 r
holds_shut at a r =
    let same = shut_same r at (nat_eq r.start at) refl in
    ap (λ s. nat_le s a && nat_le (a + 1) (s + (shut at r).size)) same.0 ∙ ap (λ n. nat_le r.start a && nat_le (a + 1) (r.start + n)) same.1

-- the region that holds a byte, after one was closed
find-shut : (rs : List Region) (at a : ℕ) (r : Region) → find (holds_bytes a 1) rs ≡ Some r → find (holds_bytes a 1) (map (shut at) rs) ≡ Some (shut at r)
find-shut [] at a r e = cc
find-shut (q ∷ rs) at a r e = ap (λ z. cond z (Some (shut at q)) (find (holds_bytes a 1) (map (shut at) rs))) (holds_shut at a q) ∙ by_test (holds_bytes a 1 q) (find-shut rs at a r) e
  where
    by_test : (z : Bool) → (find (holds_bytes a 1) rs ≡ Some r → find (holds_bytes a 1) (map (shut at) rs) ≡ Some (shut at r)) → cond z (Some q) (find (holds_bytes a 1) rs) ≡ Some r → cond z (Some (shut at q)) (find (holds_bytes a 1) (map (shut at) rs)) ≡ Some (shut at r)
    by_test true rest e = let same : q ≡ r = cc in ap (λ z. Some (shut at z)) same
    by_test false rest e = rest e

find-shut_none : (rs : List Region) (at a : ℕ) → find (holds_bytes a 1) rs ≡ None → find (holds_bytes a 1) (map (shut at) rs) ≡ None
find-shut_none [] at a e = refl
find-shut_none (q ∷ rs) at a e = ap (λ z. cond z (Some (shut at q)) (find (holds_bytes a 1) (map (shut at) rs))) (holds_shut at a q) ∙ by_test (holds_bytes a 1 q) (find-shut_none rs at a) e
  where
    by_test : (z : Bool) → (find (holds_bytes a 1) rs ≡ None → find (holds_bytes a 1) (map (shut at) rs) ≡ None) → cond z (Some q) (find (holds_bytes a 1) rs) ≡ None → cond z (Some (shut at q)) (find (holds_bytes a 1) (map (shut at) rs)) ≡ None
    by_test true rest e = cc
    by_test false rest e = rest e

-- the region that is closed meets the pages from its first byte's to its last one's
pub meets_among : (number : ℕ) (r : Region) → r.is_open ≡ true → 0 < r.size → meets number r ≡ is_among_places (r.start / 4096) ((r.start + r.size - 1) / 4096 + 1 - r.start / 4096) number
meets_among number r is_open some = by_test (is_among_places (r.start / 4096) ((r.start + r.size - 1) / 4096 + 1 - r.start / 4096) number) refl
  where
    by_test : (z : Bool) → is_among_places (r.start / 4096) ((r.start + r.size - 1) / 4096 + 1 - r.start / 4096) number ≡ z → meets number r ≡ z
    by_test true t = rw is_open (grind (arith, nat_tests))
    by_test false t = rw is_open (grind (arith, nat_tests))

users_of-released : (found : Option Page) → users_of (released found) ≡ users_of found - 1
users_of-released None = refl
users_of-released (Some page) = by_test (nat_lt page.users 2) refl
  where
    by_test : (z : Bool) → nat_lt page.users 2 ≡ z → users_of (if z then None else Some (record page { users = page.users - 1 })) ≡ page.users - 1
    by_test true t = grind (arith, nat_tests)
    by_test false t = refl

is_some-released : (found : Option Page) → is_some (released found) ≡ nat_lt 0 (users_of found - 1)
is_some-released None = refl
is_some-released (Some page) = by_test (nat_lt page.users 2) refl
  where
    by_test : (z : Bool) → nat_lt page.users 2 ≡ z → is_some (if z then None else Some (record page { users = page.users - 1 })) ≡ nat_lt 0 (page.users - 1)
    by_test true t = grind (arith, nat_tests)
    by_test false t = grind (arith, nat_tests)

-- how many open regions meet a page after one was closed
count-shut : (rs : List Region) (i : ℕ) (r : Region) (number : ℕ) → IsAscending rs → All (λ q. 0 < q.size) rs → slice_get rs i ≡ Some r → count_by (meets number) (map (shut r.start) rs) + counted (meets number) r ≡ count_by (meets number) rs
count-shut rs i r number up sizes here =
    let closed = shut-set rs i r here (λ k x other there. starts-differ rs i k r x up sizes here other there) in
    let none : counted (meets number) (record r { is_open = false }) ≡ 0 = counted_none (meets number) (record r { is_open = false }) refl in
    let step = count_by-set (meets number) rs i r (record r { is_open = false }) here in
    let same = ap (count_by (meets number)) closed in
    omega (arith, same, none, step)

-- a memory of pages before a close, and the pages after it
pub record Closing (rs : List Region) (pages pages' : List Page) (i : ℕ) (r : Region) : Type 0 where
  pub ascending : IsAscending rs
  pub sizes : All (λ q. 0 < q.size) rs
  pub here : slice_get rs i ≡ Some r
  pub is_open : r.is_open ≡ true
  pub some : 0 < r.size
  pub users : (number : ℕ) → users_of (find (numbered number) pages) ≡ count_by (meets number) rs
  pub kept : (number : ℕ) → is_some (find (numbered number) pages) ≡ nat_lt 0 (count_by (meets number) rs)
  pub left : (number : ℕ) → find (numbered number) pages' ≡ (if is_among_places (r.start / 4096) ((r.start + r.size - 1) / 4096 + 1 - r.start / 4096) number then released (find (numbered number) pages) else find (numbered number) pages)

module _ {rs : List Region} {pages pages' : List Page} {i : ℕ} {r : Region} (at : Closing rs pages pages' i r) where
  met : (number : ℕ) (z : Bool) → is_among_places (r.start / 4096) ((r.start + r.size - 1) / 4096 + 1 - r.start / 4096) number ≡ z → meets number r ≡ z
  met number z t = meets_among number r at.is_open at.some ∙ t

  -- as many open regions meet each page as its count says
  pub close-users : (number : ℕ) → users_of (find (numbered number) pages') ≡ count_by (meets number) (map (shut r.start) rs)
  close-users number = by_test (is_among_places (r.start / 4096) ((r.start + r.size - 1) / 4096 + 1 - r.start / 4096) number) refl
    where
      by_test : (z : Bool) → is_among_places (r.start / 4096) ((r.start + r.size - 1) / 4096 + 1 - r.start / 4096) number ≡ z → users_of (find (numbered number) pages') ≡ count_by (meets number) (map (shut r.start) rs)
      by_test true t =
          let found : find (numbered number) pages' ≡ released (find (numbered number) pages) = rw t at (at.left number) in
          let one : counted (meets number) r ≡ 1 = counted_one (meets number) r (met number true t) in
          ap users_of found ∙ (users_of-released (find (numbered number) pages) ∙ omega (arith, one, at.users number, count-shut rs i r number at.ascending at.sizes at.here))
      by_test false t =
          let found : find (numbered number) pages' ≡ find (numbered number) pages = rw t at (at.left number) in
          let none : counted (meets number) r ≡ 0 = counted_none (meets number) r (met number false t) in
          ap users_of found ∙ omega (arith, none, at.users number, count-shut rs i r number at.ascending at.sizes at.here)

  -- the pages that meet an open region are kept, and no other
  pub close-kept : (number : ℕ) → is_some (find (numbered number) pages') ≡ nat_lt 0 (count_by (meets number) (map (shut r.start) rs))
  close-kept number = by_test (is_among_places (r.start / 4096) ((r.start + r.size - 1) / 4096 + 1 - r.start / 4096) number) refl
    where
      by_test : (z : Bool) → is_among_places (r.start / 4096) ((r.start + r.size - 1) / 4096 + 1 - r.start / 4096) number ≡ z → is_some (find (numbered number) pages') ≡ nat_lt 0 (count_by (meets number) (map (shut r.start) rs))
      by_test true t =
          let found : find (numbered number) pages' ≡ released (find (numbered number) pages) = rw t at (at.left number) in
          let one : counted (meets number) r ≡ 1 = counted_one (meets number) r (met number true t) in
          let less : users_of (find (numbered number) pages) - 1 ≡ count_by (meets number) (map (shut r.start) rs) = omega (arith, one, at.users number, count-shut rs i r number at.ascending at.sizes at.here) in
          ap is_some found ∙ (is_some-released (find (numbered number) pages) ∙ ap (nat_lt 0) less)
      by_test false t =
          let found : find (numbered number) pages' ≡ find (numbered number) pages = rw t at (at.left number) in
          let none : counted (meets number) r ≡ 0 = counted_none (meets number) r (met number false t) in
          let same : count_by (meets number) rs ≡ count_by (meets number) (map (shut r.start) rs) = omega (arith, none, count-shut rs i r number at.ascending at.sizes at.here) in
          ap is_some found ∙ (at.kept number ∙ ap (nat_lt 0) same)

  meets_byte : (place : ℕ) (q : Region) → q.is_open ≡ true → holds_bytes (place / 8) 1 q ≡ true → meets (place / 32768) q ≡ true
  meets_byte place q is_open pass =
      let starts : q.start ≤ place / 8 = grind (arith, nat_tests) in
      let ends : place / 8 + 1 ≤ q.start + q.size = grind (arith, nat_tests) in
      let low : q.start < 4096 * (place / 32768 + 1) = omega arith in
      let high : 4096 * (place / 32768) < q.start + q.size = omega arith in
      rw is_open (grind (arith, nat_tests))

  -- a page that another open region meets keeps its bits
  bit_kept : (place j : ℕ) (q : Region) → slice_get rs j ≡ Some q → q.is_open ≡ true → holds_bytes (place / 8) 1 q ≡ true → i ≢ j → bits_of pages' place ≡ bits_of pages place
  bit_kept place j q there is_open pass other = by_test (is_among_places (r.start / 4096) ((r.start + r.size - 1) / 4096 + 1 - r.start / 4096) (place / 32768)) refl
    where
      two : meets (place / 32768) r ≡ true → 1 < count_by (meets (place / 32768)) rs
      two pass' = ⊎_elim
          (λ (less : i < j). count_by-two (meets (place / 32768)) rs i j r q less at.here there pass' (meets_byte place q is_open pass))
          (λ (more : j ≤ i). count_by-two (meets (place / 32768)) rs j i q r (omega (arith, more, other)) there at.here (meets_byte place q is_open pass) pass')
          (cases_lt i j)

      by_page : (found : Option Page) → find (numbered (place / 32768)) pages ≡ found → 1 < users_of found → page_bit (released found) (place % 32768) ≡ page_bit found (place % 32768)
      by_page None e more = refl
      by_page (Some page) e more = ap (λ p. page_bit p (place % 32768)) (released-more page more)

      by_test : (z : Bool) → is_among_places (r.start / 4096) ((r.start + r.size - 1) / 4096 + 1 - r.start / 4096) (place / 32768) ≡ z → bits_of pages' place ≡ bits_of pages place
      by_test true t =
          let found : find (numbered (place / 32768)) pages' ≡ released (find (numbered (place / 32768)) pages) = rw t at (at.left (place / 32768)) in
          let more : 1 < users_of (find (numbered (place / 32768)) pages) = omega (arith, at.users (place / 32768), two (met (place / 32768) true t)) in
          ap (λ p. page_bit p (place % 32768)) found ∙ by_page (find (numbered (place / 32768)) pages) refl more
      by_test false t =
          let found : find (numbered (place / 32768)) pages' ≡ find (numbered (place / 32768)) pages = rw t at (at.left (place / 32768)) in
          ap (λ p. page_bit p (place % 32768)) found

  -- the bits of the region go, and no other
  pub close-bits : reached_bits (map (shut r.start) rs) (bits_of pages') ≡ cleared (reached_bits rs (bits_of pages)) (8 * r.start) (8 * r.size)
  close-bits = λ k place. by_found place (find (holds_bytes (place / 8) 1) rs) refl k
    where
      closed : (q : Region) (a : ℕ) → nat_eq q.start r.start ≡ true → is_none (fault_in a (Some (shut r.start q))) ≡ false
      closed q a t = rw t refl

      left_open : (q : Region) (a : ℕ) → nat_eq q.start r.start ≡ false → is_none (fault_in a (Some (shut r.start q))) ≡ is_none (fault_in a (Some q))
      left_open q a t = rw t refl

      none_either : (z : Bool) → ◌≡◌ {A = Option Bool} None (if z then None else None)
      none_either true = refl
      none_either false = refl

      the_region : (j : ℕ) (q : Region) → slice_get rs j ≡ Some q → nat_eq q.start r.start ≡ true → q ≡ r
      the_region j q there t = by_index (nat_eq j i) refl
        where
          by_index : (z : Bool) → nat_eq j i ≡ z → q ≡ r
          by_index true e =
              let same : j ≡ i = grind (arith, nat_tests) in
              let one : Some q ≡ Some r = sym there ∙ (ap (slice_get rs) same ∙ at.here) in
              cc
          by_index false e =
              let other : j ≢ i = λ same. grind (arith, nat_tests) in
              let differ = starts-differ rs i j r q at.ascending at.sizes at.here other there in
              cc

      in_region : (place : ℕ) (q : Region) → q ≡ r → holds_bytes (place / 8) 1 q ≡ true → is_among_places (8 * r.start) (8 * r.size) place ≡ true
      in_region place q same pass =
          let pass' : holds_bytes (place / 8) 1 r ≡ true = ap (holds_bytes (place / 8) 1) (sym same) ∙ pass in
          let starts : r.start ≤ place / 8 = grind (arith, nat_tests) in
          let ends : place / 8 + 1 ≤ r.start + r.size = grind (arith, nat_tests) in
          grind (arith, nat_tests)

      beside : (place j : ℕ) (q : Region) → slice_get rs j ≡ Some q → holds_bytes (place / 8) 1 q ≡ true → i ≢ j → is_among_places (8 * r.start) (8 * r.size) place ≡ false
      beside place j q there pass other =
          let starts : q.start ≤ place / 8 = grind (arith, nat_tests) in
          let ends : place / 8 + 1 ≤ q.start + q.size = grind (arith, nat_tests) in
          ⊎_elim (λ l. grind (arith, nat_tests)) (λ m. grind (arith, nat_tests)) (IsAscendingBy-apart (λ (x : Region). x.start) (λ x. x.size) rs i j r q at.ascending at.here there other)

      by_found : (place : ℕ) (found : Option Region) → find (holds_bytes (place / 8) 1) rs ≡ found → reached_bits (map (shut r.start) rs) (bits_of pages') place ≡ cleared (reached_bits rs (bits_of pages)) (8 * r.start) (8 * r.size) place
      by_found place None e =
          let new : is_none (fault_at (map (shut r.start) rs) (place / 8) 1) ≡ false = ap (λ f. is_none (fault_in (place / 8) f)) (find-shut_none rs r.start (place / 8) e) in
          let old : is_none (fault_at rs (place / 8) 1) ≡ false = ap (λ f. is_none (fault_in (place / 8) f)) e in
          rw (new, old) (none_either (is_among_places (8 * r.start) (8 * r.size) place))
      by_found place (Some q) e = by_start (nat_eq q.start r.start) refl
        where
          found : (k : ℕ) × (slice_get rs k ≡ Some q) × (holds_bytes (place / 8) 1 q ≡ true)
          found = find-index (holds_bytes (place / 8) 1) rs q e

          new : is_none (fault_at (map (shut r.start) rs) (place / 8) 1) ≡ is_none (fault_in (place / 8) (Some (shut r.start q)))
          new = ap (λ f. is_none (fault_in (place / 8) f)) (find-shut rs r.start (place / 8) q e)

          old : is_none (fault_at rs (place / 8) 1) ≡ is_none (fault_in (place / 8) (Some q))
          old = ap (λ f. is_none (fault_in (place / 8) f)) e

          by_open : (z : Bool) → q.is_open ≡ z → nat_eq q.start r.start ≡ false → i ≢ found.0 → reached_bits (map (shut r.start) rs) (bits_of pages') place ≡ cleared (reached_bits rs (bits_of pages)) (8 * r.start) (8 * r.size) place
          by_open true o t other =
              let here : is_none (fault_in (place / 8) (Some q)) ≡ true = rw o refl in
              let now : is_none (fault_at (map (shut r.start) rs) (place / 8) 1) ≡ true = new ∙ (left_open q (place / 8) t ∙ here) in
              let before : is_none (fault_at rs (place / 8) 1) ≡ true = old ∙ here in
              rw (now, before, beside place found.0 q found.1 found.2 other) (bit_kept place found.0 q found.1 o found.2 other)
          by_open false o t other =
              let here : is_none (fault_in (place / 8) (Some q)) ≡ false = rw o refl in
              let now : is_none (fault_at (map (shut r.start) rs) (place / 8) 1) ≡ false = new ∙ (left_open q (place / 8) t ∙ here) in
              let before : is_none (fault_at rs (place / 8) 1) ≡ false = old ∙ here in
              rw (now, before) (none_either (is_among_places (8 * r.start) (8 * r.size) place))

          by_start : (z : Bool) → nat_eq q.start r.start ≡ z → reached_bits (map (shut r.start) rs) (bits_of pages') place ≡ cleared (reached_bits rs (bits_of pages)) (8 * r.start) (8 * r.size) place
          by_start true t =
              let now : is_none (fault_at (map (shut r.start) rs) (place / 8) 1) ≡ false = new ∙ closed q (place / 8) t in
              rw (now, in_region place q (the_region found.0 q found.1 t) found.2) refl
          by_start false t = by_open q.is_open refl t (λ same.
              let one : Some r ≡ Some q = sym at.here ∙ (ap (slice_get rs) same ∙ found.1) in
              let region : r ≡ q = cc in
              let starts : r.start ≡ q.start = ap (λ (x : Region). x.start) region in
              grind (arith, nat_tests, starts))

  -- no bit is set where none was
  pub close-unset : (place : ℕ) → bits_of pages place ≡ None → bits_of pages' place ≡ None
  close-unset place unset = by_test (is_among_places (r.start / 4096) ((r.start + r.size - 1) / 4096 + 1 - r.start / 4096) (place / 32768)) refl
    where
      by_page : (found : Option Page) → page_bit found (place % 32768) ≡ None → page_bit (released found) (place % 32768) ≡ None
      by_page None e = refl
      by_page (Some page) e = by_users (nat_lt page.users 2)
        where
          by_users : (z : Bool) → page_bit (if z then None else Some (record page { users = page.users - 1 })) (place % 32768) ≡ None
          by_users true = refl
          by_users false = e

      by_test : (z : Bool) → is_among_places (r.start / 4096) ((r.start + r.size - 1) / 4096 + 1 - r.start / 4096) (place / 32768) ≡ z → bits_of pages' place ≡ None
      by_test true t =
          let found : find (numbered (place / 32768)) pages' ≡ released (find (numbered (place / 32768)) pages) = rw t at (at.left (place / 32768)) in
          ap (λ p. page_bit p (place % 32768)) found ∙ by_page (find (numbered (place / 32768)) pages) unset
      by_test false t =
          let found : find (numbered (place / 32768)) pages' ≡ find (numbered (place / 32768)) pages = rw t at (at.left (place / 32768)) in
          ap (λ p. page_bit p (place % 32768)) found ∙ unset
