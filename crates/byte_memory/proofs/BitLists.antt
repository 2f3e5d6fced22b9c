-- Numbers by their bits.
use Rattle.std.proofs.Common.{◌≡◌, ℕ, zero, suc, ◌+◌, ◌-◌, ◌*◌, ◌/◌, ◌%◌, ◌<◌, ◌≤◌, ◌^◌, refl, ap, sym, ◌∙◌, arith, add-one}
use Rattle.std.specs.Prelude.{nat_eq, if◌then◌else◌}
use Rattle.std.specs.Int.{bit_at}
use Rattle.std.proofs.lemmas.Nat.Bits.{bit_at-lt, bit_at_cat_low, bit_at_cat_high}
use Rattle.std.proofs.lemmas.Nat.{shr-shr, mod-pow-add}
use Rattle.std.proofs.Math.Nat.{pow-suc}
use Rattle.byte_memory.specs.Bits.{has_bit}

as_number : (x : ℕ) → x < 2 → (if nat_eq x 1 then 1 else 0) ≡ x
as_number zero h = refl
as_number (suc zero) h = refl
as_number (suc (suc x)) h = absurd (omega arith)

-- a bit as a number
pub has_bit-number : (v place : ℕ) → (if has_bit v place then 1 else 0) ≡ bit_at v place
has_bit-number v place = as_number (bit_at v place) (bit_at-lt v place)

-- the lowest bit and the rest
pub low_bits : (v at n : ℕ) → bit_at v at + 2 * (v / 2 ^ (at + 1) % 2 ^ n) ≡ v / 2 ^ at % 2 ^ (suc n)
low_bits v at n =
    let w = v / 2 ^ at in
    let shift : w / 2 ^ 1 ≡ v / 2 ^ (at + 1) = shr-shr v at 1 in
    let split : w % 2 ^ (n + 1) ≡ (w / 2 ^ 1 % 2 ^ n) * 2 ^ 1 + w % 2 ^ 1 = mod-pow-add w n 1 in
    let more : n + 1 ≡ suc n = add-one n in
    let split' : w % 2 ^ (suc n) ≡ (v / 2 ^ (at + 1) % 2 ^ n) * 2 ^ 1 + w % 2 ^ 1 = rw (← more, ← shift) split in
    omega (arith, split')

-- a byte before a number: its low places
pub has_bit-low : (low high place : ℕ) → place < 8 → has_bit (low + 256 * high) place ≡ has_bit low place
has_bit-low low high place h =
    let e : low + 256 * high ≡ high * 2 ^ 8 + low = omega arith in
    ap (λ x. nat_eq x 1) (ap (λ x. bit_at x place) e ∙ bit_at_cat_low high 8 low place h)

-- a byte before a number: the others
pub has_bit-high : (low high place : ℕ) → low < 256 → 8 ≤ place → has_bit (low + 256 * high) place ≡ has_bit high (place - 8)
has_bit-high low high place fits h =
    let e : low + 256 * high ≡ high * 2 ^ 8 + low = omega arith in
    ap (λ x. nat_eq x 1) (ap (λ x. bit_at x place) e ∙ bit_at_cat_high high 8 low place fits h)

-- the bits of the lowest byte
pub has_bit-mod : (v place : ℕ) → place < 8 → has_bit (v % 256) place ≡ has_bit v place
has_bit-mod v place h = let e : v % 256 + 256 * (v / 256) ≡ v = omega arith in sym (has_bit-low (v % 256) (v / 256) place h) ∙ ap (λ x. has_bit x place) e

-- a number of bits is below their power
pub below : (low high n : ℕ) → low < 2 → high < 2 ^ n → low + 2 * high < 2 ^ (suc n)
below low high n l h = rw pow-suc (omega arith)

-- the bit at a place from which a word was shifted
pub has_bit-shifted : (v first place : ℕ) → has_bit (v / 2 ^ first) place ≡ has_bit v (first + place)
has_bit-shifted v first place = ap (λ x. nat_eq (x % 2) 1) (shr-shr v first place)
