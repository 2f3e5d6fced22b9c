-- The number in some bits of a word, and a word with other bits.
use Rattle.std.proofs.Common.{◌≡◌, ℕ, zero, suc, ◌+◌, ◌-◌, ◌*◌, ◌/◌, ◌%◌, ◌<◌, ◌≤◌, ◌^◌, ⊎_elim, Some, None, refl, ap, sym, ◌∙◌, arith, true, false, min, max, bit_and, bit_or, w64}
use Rattle.std.specs.Prelude.{nat_eq, if◌then◌else◌}
use Rattle.std.specs.Int.{bit_at}
use Rattle.std.proofs.lemmas.Bool.Decides.{nat_tests}
use Rattle.std.proofs.lemmas.Bool.{cases_lt}
use Rattle.std.proofs.lemmas.Nat.Bits.{bit_at-lt, bit_at_and, bit_at_or, bit_at_not, bit_at_ones, bit_at_ones_above, bit_at_above, bit_at_cat_low, bit_at_cat_high, ones_shr, bit_at-zero}
use Rattle.std.proofs.lemmas.Nat.{div-add-mod', and_mask, shl_whole, pow_pos}
use Rattle.std.proofs.Math.Nat.{pow-suc, mod-lt}
use Rattle.byte_memory.specs.Bits.{has_bit, with_low, number_from, is_among_places}
use Rattle.byte_memory.specs.Words.{masked}
use Rattle.byte_memory.proofs.BitLists.{has_bit-number, low_bits}

-- the number where all its bits are set
pub number_from-all_set : (n v s at : ℕ) → s / 2 ^ at % 2 ^ n + 1 ≡ 2 ^ n → number_from (masked v s) at n ≡ Some (v / 2 ^ at % 2 ^ n)
number_from-all_set zero v s at all = let e : 0 ≡ v / 2 ^ at % 1 = omega arith in ap Some e
number_from-all_set (suc n) v s at all =
    let whole = low_bits s at n in
    let small = bit_at-lt s at in
    let power : 2 ^ suc n ≡ 2 ^ n * 2 = pow-suc 2 n in
    let rest : s / 2 ^ (at + 1) % 2 ^ n < 2 ^ n = mod-lt (s / 2 ^ (at + 1)) (pow_pos n) in
    let one : bit_at s at ≡ 1 = omega arith in
    let others : s / 2 ^ (at + 1) % 2 ^ n + 1 ≡ 2 ^ n = omega arith in
    let set : has_bit s at ≡ true = ap (λ x. nat_eq x 1) one in
    let high : number_from (masked v s) (at + 1) n ≡ Some (v / 2 ^ (at + 1) % 2 ^ n) = number_from-all_set n v s (at + 1) others in
    let first : masked v s at ≡ Some (has_bit v at) = rw set refl in
    ap (λ x. with_low x (number_from (masked v s) (at + 1) n)) first
    ∙ (ap (with_low (Some (has_bit v at))) high
    ∙ ap Some (ap (λ x. x + 2 * (v / 2 ^ (at + 1) % 2 ^ n)) (has_bit-number v at) ∙ low_bits v at n))

-- no number where one of its bits is unset
pub number_from-some_unset : (n v s at : ℕ) → (s / 2 ^ at % 2 ^ n + 1 ≡ 2 ^ n → ⊥) → number_from (masked v s) at n ≡ None
number_from-some_unset zero v s at not_all = absurd (not_all (omega arith))
number_from-some_unset (suc n) v s at not_all =
    by_bit (bit_at s at) refl (bit_at-lt s at) (number_from-some_unset n v s (at + 1))
  where
    by_bit : (x : ℕ) → bit_at s at ≡ x → x < 2 → ((s / 2 ^ (at + 1) % 2 ^ n + 1 ≡ 2 ^ n → ⊥) → number_from (masked v s) (at + 1) n ≡ None) → number_from (masked v s) at (suc n) ≡ None
    by_bit zero e h rest =
        let unset : has_bit s at ≡ false = ap (λ x. nat_eq x 1) e in
        rw unset refl
    by_bit (suc zero) e h rest =
        let set : has_bit s at ≡ true = ap (λ x. nat_eq x 1) e in
        let power : 2 ^ suc n ≡ 2 ^ n * 2 = pow-suc 2 n in
        let whole = low_bits s at n in
        let high : number_from (masked v s) (at + 1) n ≡ None = rest (λ all. not_all (omega arith)) in
        rw (set, high) refl
    by_bit (suc (suc x)) e h rest = absurd (omega arith)

-- a mask of the lowest n bits
pub mask_is : (n : ℕ) → n ≤ 64 → 18446744073709551615 / 2 ^ (64 - n) ≡ 2 ^ n - 1
mask_is n h =
    let e : 64 - (64 - n) ≡ n = omega arith in
    let shifted : 18446744073709551615 / 2 ^ (64 - n) ≡ 2 ^ (64 - (64 - n)) - 1 = ones_shr 64 (64 - n) (omega arith) in
    shifted ∙ ap (λ x. 2 ^ x - 1) e

-- the lowest n bits of a number that was shifted down
pub masked_number : (v at n : ℕ) → n ≤ 64 → bit_and (v / 2 ^ at) (18446744073709551615 / 2 ^ (64 - n)) ≡ v / 2 ^ at % 2 ^ n
masked_number v at n h = ap (bit_and (v / 2 ^ at)) (mask_is n h) ∙ and_mask (v / 2 ^ at) n

-- a bit of a number that was shifted up
pub shifted_low : (a k place : ℕ) → place < k → bit_at (a * 2 ^ k) place ≡ 0
shifted_low a k place h = let e : a * 2 ^ k ≡ a * 2 ^ k + 0 = omega arith in ap (λ x. bit_at x place) e ∙ (bit_at_cat_low a k 0 place h ∙ bit_at-zero place)

pub shifted_high : (a k place : ℕ) → k ≤ place → bit_at (a * 2 ^ k) place ≡ bit_at a (place - k)
shifted_high a k place h = let e : a * 2 ^ k ≡ a * 2 ^ k + 0 = omega arith in ap (λ x. bit_at x place) e ∙ bit_at_cat_high a k 0 place (pow_pos k) h

-- the low bits of a number keep those below, and no other
pub low_inside : (v n place : ℕ) → place < n → bit_at (v % 2 ^ n) place ≡ bit_at v place
low_inside v n place h = sym (bit_at_cat_low (v / 2 ^ n) n (v % 2 ^ n) place h) ∙ ap (λ x. bit_at x place) (div-add-mod' v (2 ^ n))

low_outside : (v n place : ℕ) → n ≤ place → bit_at (v % 2 ^ n) place ≡ 0
low_outside v n place h = bit_at_above (v % 2 ^ n) n place (mod-lt v (pow_pos n)) h

-- bits that are cleared under a mask and then joined with others
joined : (a b m f : ℕ) → a ≡ max (min b (1 - m)) f → b < 2 → m ≡ 0 → f ≡ 0 → a ≡ b
joined a b m f e small none none' = omega arith

joined_new : (a b m f : ℕ) → a ≡ max (min b (1 - m)) f → m ≡ 1 → a ≡ f
joined_new a b m f e one = omega arith

-- what `replaced` gives, by its bits
pub replaced_bit : (word first n from place : ℕ) → first + n ≤ 64 → place < 64 →
    has_bit (bit_or (bit_and word (18446744073709551615 - 18446744073709551615 / 2 ^ (64 - n) * 2 ^ first % 18446744073709551616)) (bit_and from (18446744073709551615 / 2 ^ (64 - n)) * 2 ^ first % 18446744073709551616)) place
    ≡ (if is_among_places first n place then has_bit from (place - first) else has_bit word place)
replaced_bit word first n from place fits inside =
    let short : n ≤ 64 = omega arith in
    let some = pow_pos n in
    let hole = 18446744073709551615 / 2 ^ (64 - n) * 2 ^ first % 18446744073709551616 in
    let new = bit_and from (18446744073709551615 / 2 ^ (64 - n)) * 2 ^ first % 18446744073709551616 in
    let hole_is : hole ≡ (2 ^ n - 1) * 2 ^ first = ap (λ x. x * 2 ^ first % 18446744073709551616) (mask_is n short) ∙ shl_whole (2 ^ n - 1) n first 64 (omega arith) (omega arith) in
    let low : bit_and from (18446744073709551615 / 2 ^ (64 - n)) ≡ from % 2 ^ n = ap (bit_and from) (mask_is n short) ∙ and_mask from n in
    let new_is : new ≡ (from % 2 ^ n) * 2 ^ first = ap (λ x. x * 2 ^ first % 18446744073709551616) low ∙ shl_whole (from % 2 ^ n) n first 64 (mod-lt from some) (omega arith) in
    let kept : bit_at (bit_and word (18446744073709551615 - hole)) place ≡ min (bit_at word place) (1 - bit_at hole place) =
    bit_at_and word (18446744073709551615 - hole) place ∙ ap (min (bit_at word place)) (bit_at_not w64 hole place (omega arith) inside) in
    let total : bit_at (bit_or (bit_and word (18446744073709551615 - hole)) new) place ≡ max (min (bit_at word place) (1 - bit_at hole place)) (bit_at new place) =
    bit_at_or (bit_and word (18446744073709551615 - hole)) new place ∙ ap (λ x. max x (bit_at new place)) kept in
    by_place word first n from place hole new (bit_at (bit_or (bit_and word (18446744073709551615 - hole)) new) place) hole_is new_is total
  where
    by_place : (word first n from place hole new all : ℕ) → hole ≡ (2 ^ n - 1) * 2 ^ first → new ≡ (from % 2 ^ n) * 2 ^ first → all ≡ max (min (bit_at word place) (1 - bit_at hole place)) (bit_at new place) →
        nat_eq all 1 ≡ (if is_among_places first n place then has_bit from (place - first) else has_bit word place)
    by_place word first n from place hole new all hole_is new_is total = ⊎_elim below_first (λ more. ⊎_elim (among more) above (cases_lt place (first + n))) (cases_lt place first)
      where
        hole_bit : bit_at hole place ≡ bit_at ((2 ^ n - 1) * 2 ^ first) place
        hole_bit = ap (λ x. bit_at x place) hole_is

        new_bit : bit_at new place ≡ bit_at ((from % 2 ^ n) * 2 ^ first) place
        new_bit = ap (λ x. bit_at x place) new_is

        left : is_among_places first n place ≡ false → bit_at hole place ≡ 0 → bit_at new place ≡ 0 → nat_eq all 1 ≡ (if is_among_places first n place then has_bit from (place - first) else has_bit word place)
        left out none none' = rw out (ap (λ x. nat_eq x 1) (joined all (bit_at word place) (bit_at hole place) (bit_at new place) total (bit_at-lt word place) none none'))

        below_first : place < first → nat_eq all 1 ≡ (if is_among_places first n place then has_bit from (place - first) else has_bit word place)
        below_first less = left (grind (arith, nat_tests)) (hole_bit ∙ shifted_low (2 ^ n - 1) first place less) (new_bit ∙ shifted_low (from % 2 ^ n) first place less)

        among : first ≤ place → place < first + n → nat_eq all 1 ≡ (if is_among_places first n place then has_bit from (place - first) else has_bit word place)
        among more less =
            let inside : is_among_places first n place ≡ true = grind (arith, nat_tests) in
            let one : bit_at hole place ≡ 1 = hole_bit ∙ (shifted_high (2 ^ n - 1) first place more ∙ bit_at_ones n (place - first) (omega arith)) in
            let bit : bit_at new place ≡ bit_at from (place - first) = new_bit ∙ (shifted_high (from % 2 ^ n) first place more ∙ low_inside from n (place - first) (omega arith)) in
            rw inside (ap (λ x. nat_eq x 1) (joined_new all (bit_at word place) (bit_at hole place) (bit_at new place) total one ∙ bit))

        above : first + n ≤ place → nat_eq all 1 ≡ (if is_among_places first n place then has_bit from (place - first) else has_bit word place)
        above more =
            let past : first ≤ place = omega arith in
            left (grind (arith, nat_tests)) (hole_bit ∙ (shifted_high (2 ^ n - 1) first place past ∙ bit_at_ones_above n (place - first) (omega arith)))
            (new_bit ∙ (shifted_high (from % 2 ^ n) first place past ∙ low_outside from n (place - first) (omega arith)))
