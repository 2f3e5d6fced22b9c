-- A number is set by its low 32 bits and the others.
use Rattle.std.proofs.Common.{◌≡◌, ℕ, zero, suc, ◌+◌, ◌*◌, ◌/◌, ◌%◌, ◌<◌, ◌≤◌, ◌⊎◌, ⊎_elim, Bool, true, false, List, length, refl, ap, ◌∙◌, arith}
use Rattle.std.specs.Prelude.{slice_index_or, slice_set, nat_eq, if◌then◌else◌}
use Rattle.std.proofs.lemmas.Bool.{eqb-true, cases_lt}
use Rattle.std.proofs.lemmas.List.{set_past, get_or_past}
use Rattle.foundation.proofs.Truth.{split}
use Rattle.path_columns.specs.Paged.{in_page, paged, ArePages}
use Rattle.path_columns.proofs.Paging.{paged_set, paged_opened, paged_like, paged_same, IsOpened}

-- a list has the place, or what is put there is what stands past its end
put_past : (place : ℕ → ℕ) (slots : List ℕ) (width page n : ℕ) → place (n / width) ≡ suc page → length slots ≤ page * width + n % width → (m : ℕ)
    → paged place (slice_set slots (page * width + n % width) 0) 0 width m ≡ (if nat_eq m n then 0 else paged place slots 0 width m)
put_past place slots width page n is past m =
    ap (λ (xs : List ℕ). paged place xs 0 width m) (set_past slots (page * width + n % width) 0 past)
    ∙ split (nat_eq m n) (λ b. paged place slots 0 width m ≡ (if b then 0 else paged place slots 0 width m))
    (λ e. ap (paged place slots 0 width) (eqb-true m n e) ∙ (ap (λ k. in_page slots 0 width k (n % width)) is ∙ get_or_past slots (page * width + n % width) 0 past))
    (λ e. refl)

pub paged_put : (place : ℕ → ℕ) (slots : List ℕ) (width count page n v : ℕ) → 0 < width → ArePages place slots 0 width count → place (n / width) ≡ suc page → (0 < v → page * width + n % width < length slots) → (m : ℕ)
    → paged place (slice_set slots (page * width + n % width) v) 0 width m ≡ (if nat_eq m n then v else paged place slots 0 width m)
paged_put place slots width count page n (suc v) some are is within m = paged_set place slots 0 width count page n (suc v) some are is (within (omega arith)) m
paged_put place slots width count page n zero some are is within m = ⊎_elim
    (λ lt. paged_set place slots 0 width count page n 0 some are is lt m)
    (λ le. put_past place slots width page n is (omega arith) m)
    (cases_lt (page * width + n % width) (length slots))

-- a number by both halves
pub from_halves : (low high p q : ℕ) → low ≡ p → high ≡ q → low + high * 4294967296 ≡ p + q * 4294967296
from_halves low high p q a b = omega arith

pub halves_like : (place : ℕ → ℕ) (low p high q : List ℕ) (n : ℕ) → ((i : ℕ) → slice_index_or p i 0 ≡ slice_index_or low i 0) → ((i : ℕ) → slice_index_or q i 0 ≡ slice_index_or high i 0)
    → paged place p 0 32 n + paged place q 0 32 n * 4294967296 ≡ paged place low 0 32 n + paged place high 0 32 n * 4294967296
halves_like place low p high q n a b = from_halves _ _ _ _ (paged_like place low p 0 32 n a) (paged_like place high q 0 32 n b)

pub halves_same : (old new : ℕ → ℕ) (low high : List ℕ) (n : ℕ) → ((p : ℕ) → new p ≡ old p) → paged new low 0 32 n + paged new high 0 32 n * 4294967296 ≡ paged old low 0 32 n + paged old high 0 32 n * 4294967296
halves_same old new low high n same = from_halves _ _ _ _ (paged_same old new low 0 32 n same) (paged_same old new high 0 32 n same)

pub halves_opened : (old new : ℕ → ℕ) (low high : List ℕ) (page count : ℕ) → ArePages old low 0 32 count → ArePages old high 0 32 count → IsOpened old new page count → (n : ℕ)
    → paged new low 0 32 n + paged new high 0 32 n * 4294967296 ≡ paged old low 0 32 n + paged old high 0 32 n * 4294967296
halves_opened old new low high page count a b opened n = from_halves _ _ _ _ (paged_opened old new low 0 32 page count a opened n) (paged_opened old new high 0 32 page count b opened n)

by_case : (b : Bool) (low high number p q : ℕ) → p ≡ (if b then number % 4294967296 else low) → q ≡ (if b then number / 4294967296 else high) → p + q * 4294967296 ≡ (if b then number else low + high * 4294967296)
by_case true low high number p q a c = omega arith
by_case false low high number p q a c = omega arith

pub halves_set : (place : ℕ → ℕ) (low high : List ℕ) (count page n number : ℕ) → ArePages place low 0 32 count → ArePages place high 0 32 count → place (n / 32) ≡ suc page
    → page * 32 + n % 32 < length low → (0 < number / 4294967296 → page * 32 + n % 32 < length high) → (m : ℕ)
    → paged place (slice_set low (page * 32 + n % 32) (number % 4294967296)) 0 32 m + paged place (slice_set high (page * 32 + n % 32) (number / 4294967296)) 0 32 m * 4294967296
    ≡ (if nat_eq m n then number else paged place low 0 32 m + paged place high 0 32 m * 4294967296)
halves_set place low high count page n number a b is lt within m = by_case (nat_eq m n) _ _ number _ _
    (paged_set place low 0 32 count page n (number % 4294967296) (let some : 0 < 32 = omega arith in some) a is lt m)
    (paged_put place high 32 count page n (number / 4294967296) (let some : 0 < 32 = omega arith in some) b is within m)
