use Rattle.std.proofs.Common.{◌≡◌, ◌≢◌, ℕ, zero, suc, ◌+◌, ◌<◌, ◌≤◌, ⊎_elim, Some, None, List, [], ◌∷◌, cond, set, map, refl, ap, sym, ◌∙◌, subst, arith, Bool, true, false}
use Rattle.std.specs.Prelude.{nat_eq, All, Option, if◌then◌else◌}
use Rattle.std.specs.List.{slice_get, find}
use Rattle.std.proofs.lemmas.Bool.Decides.{nat_tests}
use Rattle.std.proofs.lemmas.List.Elements.{All-head, All-tail, All-map, All-weaker}
use Rattle.std.proofs.lemmas.List.Sums.{sum_by-cons}
use Rattle.std.proofs.lemmas.Option.{slice_get_within, get_or_from_slice_get}
use Rattle.byte_memory.specs.declared.memory.Region.{Region}
use Rattle.byte_memory.specs.declared.memory.MemoryFault.TheVariants.{Unset, Closed}
use Rattle.byte_memory.specs.Regions.{fault_at, fault_in, holds_bytes, starts, shut, total_of, rounded, IsAscending}
use Rattle.byte_memory.proofs.Ascending.{HasAddress, IsAscendingBy-apart, find-last}

-- what can be reached lies below the end
pub reached : (rs : List Region) (at n len : ℕ) → All (λ r. r.start + r.size ≤ len) rs → fault_at rs at n ≡ None → at + n ≤ len
reached [] at n len ends h = cc
reached (r ∷ rs) at n len ends h =
    let here : r.start + r.size ≤ len = All-head (λ r. r.start + r.size ≤ len) r rs ends in
    let there : fault_at rs at n ≡ None → at + n ≤ len = reached rs at n len (All-tail (λ r. r.start + r.size ≤ len) r rs ends) in
    reached_at r rs at n len (holds_bytes at n r) refl here there h
  where
    reached_at : (r : Region) (rs : List Region) (at n len : ℕ) (b : Bool) → holds_bytes at n r ≡ b → r.start + r.size ≤ len → (fault_at rs at n ≡ None → at + n ≤ len) → fault_in at (cond b (Some r) (find (holds_bytes at n) rs)) ≡ None → at + n ≤ len
    reached_at r rs at n len true e here there h = grind (arith, nat_tests)
    reached_at r rs at n len false e here there h = there h

-- a region as closed starts there and is of that size
pub shut_same : (r : Region) (at : ℕ) (z : Bool) → nat_eq r.start at ≡ z → ((shut at r).start ≡ r.start) × ((shut at r).size ≡ r.size)
shut_same r at true e = rw e (refl, refl)
shut_same r at false e = rw e (refl, refl)

-- the regions after one was closed take what they took
pub total_of-shut : (rs : List Region) (at : ℕ) → total_of (map (shut at) rs) ≡ total_of rs
total_of-shut [] at = refl
total_of-shut (r ∷ rs) at =
    let here : rounded (shut at r).size ≡ rounded r.size = ap rounded (shut_same r at (nat_eq r.start at) refl).1 in
    omega (arith, total_of-shut rs at, sum_by-cons (λ q. rounded q.size) r rs, sum_by-cons (λ q. rounded q.size) (shut at r) (map (shut at) rs))

pub ends_shut : (rs : List Region) (at len : ℕ) → All (λ r. r.start + r.size ≤ len) rs → All (λ r. r.start + r.size ≤ len) (map (shut at) rs)
ends_shut rs at len all = All-map (λ r. r.start + r.size ≤ len) (shut at) rs (All-weaker (λ r. r.start + r.size ≤ len) (λ r. (shut at r).start + (shut at r).size ≤ len) (λ r h. let e = shut_same r at (nat_eq r.start at) refl in rw (e.0, e.1) h) rs all)

-- a region that is found by its start ends within
pub found_ends : (rs : List Region) (at len : ℕ) (r : Region) → All (λ q. q.start + q.size ≤ len) rs → find (starts at) rs ≡ Some r → at + r.size ≤ len
found_ends [] at len r all e = cc
found_ends (q ∷ rs) at len r all e =
    let here : q.start + q.size ≤ len = All-head (λ q. q.start + q.size ≤ len) q rs all in
    let there : find (starts at) rs ≡ Some r → at + r.size ≤ len = found_ends rs at len r (All-tail (λ q. q.start + q.size ≤ len) q rs all) in
    found_at q rs at len r (nat_eq q.start at) refl here there e
  where
    found_at : (q : Region) (rs : List Region) (at len : ℕ) (r : Region) (z : Bool) → nat_eq q.start at ≡ z → q.start + q.size ≤ len → (find (starts at) rs ≡ Some r → at + r.size ≤ len) → cond z (Some q) (find (starts at) rs) ≡ Some r → at + r.size ≤ len
    found_at q rs at len r true z here there e = let same : q ≡ r = cc in rw (← same) (grind (arith, nat_tests))
    found_at q rs at len r false z here there e = there e

-- bytes that a region holds have their address in it
pub holds-address : (regions : List Region) (at n : ℕ) → 0 < n → HasAddress (λ r. r.start) (λ r. r.size) regions at (holds_bytes at n)
holds-address regions at n some k r here pass = (grind (arith, nat_tests), grind (arith, nat_tests))

-- a region has the address at which it starts
pub starts-address : (regions : List Region) (at : ℕ) → All (λ r. 0 < r.size) regions → HasAddress (λ r. r.start) (λ r. r.size) regions at (starts at)
starts-address regions at sizes k r here pass =
    let some : 0 < r.size = subst (λ (q : Region). 0 < q.size) (get_or_from_slice_get regions k r r here) (sizes k r (slice_get_within regions k r here)) in
    (grind (arith, nat_tests), grind (arith, nat_tests))

-- where each start is another, closing leaves the regions
shut-none : (rs : List Region) (at : ℕ) → ((k : ℕ) (x : Region) → slice_get rs k ≡ Some x → nat_eq x.start at ≡ false) → rs ≡ map (shut at) rs
shut-none [] at other = refl
shut-none (q ∷ rs) at other =
    let here : shut at q ≡ q = rw (other 0 q refl) refl in
    rw (here, ← shut-none rs at (λ k x there. other (suc k) x there)) refl

-- the region that starts there as closed
pub shut-set : (rs : List Region) (i : ℕ) (r : Region) → slice_get rs i ≡ Some r → ((k : ℕ) (x : Region) → k ≢ i → slice_get rs k ≡ Some x → nat_eq x.start r.start ≡ false) → set rs i (record r { is_open = false }) ≡ map (shut r.start) rs
shut-set [] i r here other = cc
shut-set (q ∷ rs) zero r here other =
    let same : q ≡ r = cc in
    let test : nat_eq r.start r.start ≡ true = grind (arith, nat_tests) in
    let closed : shut r.start r ≡ record r { is_open = false } = rw test refl in
    rw (same, closed, ← shut-none rs r.start (λ k x there. other (suc k) x (λ e. absurd (omega (arith, e))) there)) refl
shut-set (q ∷ rs) (suc i) r here other =
    let test : nat_eq q.start r.start ≡ false = other 0 q (λ e. absurd (omega (arith, e))) refl in
    let left : shut r.start q ≡ q = rw test refl in
    rw (left, shut-set rs i r here (λ k x different there. other (suc k) x (λ e. different (omega (arith, e))) there)) refl

-- the starts of two regions differ
pub starts-differ : (rs : List Region) (i k : ℕ) (r x : Region) → IsAscending rs → All (λ q. 0 < q.size) rs → slice_get rs i ≡ Some r → k ≢ i → slice_get rs k ≡ Some x → nat_eq x.start r.start ≡ false
starts-differ rs i k r x up sizes here other there =
    let size : (j : ℕ) (q : Region) → slice_get rs j ≡ Some q → 0 < q.size = λ j q at. subst (λ (z : Region). 0 < z.size) (get_or_from_slice_get rs j q q at) (sizes j q (slice_get_within rs j q at)) in
    let first : 0 < r.size = size i r here in
    let second : 0 < x.size = size k x there in
    ⊎_elim (λ (low : x.start + x.size ≤ r.start). grind (arith, nat_tests)) (λ (high : r.start + r.size ≤ x.start). grind (arith, nat_tests))
    (IsAscendingBy-apart (λ (q : Region). q.start) (λ q. q.size) rs k i x r up there here other)

-- what stands after a close was there before it
pub slice_get-shut : (rs : List Region) (at i : ℕ) (x : Region) → slice_get (map (shut at) rs) i ≡ Some x → (q : Region) × (slice_get rs i ≡ Some q) × (q.start ≡ x.start) × (q.size ≡ x.size)
slice_get-shut [] at i x here = cc
slice_get-shut (r ∷ rs) at zero x here =
    let same : shut at r ≡ x = cc in
    let keeps = shut_same r at (nat_eq r.start at) refl in
    (r, refl, sym keeps.0 ∙ ap (λ (z : Region). z.start) same, sym keeps.1 ∙ ap (λ (z : Region). z.size) same)
slice_get-shut (r ∷ rs) at (suc i) x here = slice_get-shut rs at i x here

pub IsAscending-shut : (rs : List Region) (at : ℕ) → IsAscending rs → IsAscending (map (shut at) rs)
IsAscending-shut rs at up i j x y less here there =
    let first = slice_get-shut rs at i x here in
    let second = slice_get-shut rs at j y there in
    let apart = up i j first.0 second.0 less first.1 second.1 in
    omega (arith, first.2, first.3, second.2, apart)

pub sizes_shut : (rs : List Region) (at : ℕ) → All (λ r. 0 < r.size) rs → All (λ r. 0 < r.size) (map (shut at) rs)
sizes_shut rs at all = All-map (λ r. 0 < r.size) (shut at) rs (All-weaker (λ r. 0 < r.size) (λ r. 0 < (shut at r).size) (λ r h. rw (shut_same r at (nat_eq r.start at) refl).1 h) rs all)

-- a region that is found by its start starts there
pub found_starts : (rs : List Region) (at : ℕ) (r : Region) → find (starts at) rs ≡ Some r → r.start ≡ at
found_starts [] at r e = cc
found_starts (q ∷ rs) at r e = found_at (nat_eq q.start at) refl (found_starts rs at r) e
  where
    found_at : (z : Bool) → nat_eq q.start at ≡ z → (find (starts at) rs ≡ Some r → r.start ≡ at) → cond z (Some q) (find (starts at) rs) ≡ Some r → r.start ≡ at
    found_at true test rest e = let same : q ≡ r = cc in rw (← same) (grind (arith, nat_tests))
    found_at false test rest e = rest e

-- bytes inside an open region can be reached
pub fault_at-inside : (rs : List Region) (k : ℕ) (r : Region) (at n : ℕ) → IsAscending rs → slice_get rs k ≡ Some r → r.is_open ≡ true → 0 < n → r.start ≤ at → at + n ≤ r.start + r.size → fault_at rs at n ≡ None
fault_at-inside rs k r at n up here is_open some low high =
    let pass : holds_bytes at n r ≡ true = grind (arith, nat_tests) in
    rw (find-last (λ (q : Region). q.start) (λ q. q.size) rs at (holds_bytes at n) k r up (holds-address rs at n some) here pass, is_open) refl

-- bytes that can't be reached are not said to be unset
pub fault_at-reached : (rs : List Region) (at n a : ℕ) → fault_at rs at n ≡ Some (Unset a) → ⊥
fault_at-reached rs at n a e = by_case (find (holds_bytes at n) rs) e
  where
    by_open : (z : Bool) → (if z then None else Some (Closed at)) ≡ Some (Unset a) → ⊥
    by_open true e = cc
    by_open false e = cc

    by_case : (found : Option Region) → fault_in at found ≡ Some (Unset a) → ⊥
    by_case None e = cc
    by_case (Some r) e = by_open r.is_open e
