-- A word with one digit set has that digit, and each other one that it had.
use Rattle.std.proofs.Common.{◌≡◌, ℕ, zero, suc, ◌+◌, ◌-◌, ◌*◌, ◌/◌, ◌%◌, ◌^◌, ◌<◌, ◌≤◌, refl, ap, sym, ◌∙◌, arith}
use Rattle.std.specs.Prelude.{nat_eq, if◌then◌else◌}
use Rattle.std.proofs.Math.Nat.{div-one, div-div-eq-div-mul, div-mul-le_self, div-add-mod', mod-eq_of_lt, div-lt_iff_lt-mul, mul-one}
use Rattle.std.proofs.lemmas.Nat.{pow-add, pow_pos, mul-le, div-mul-add, mod-mul-add, mod_below}
use Rattle.std.proofs.Math.Pow.{pow-lt}
use Rattle.std.proofs.lemmas.Bool.{eqb-true, eq-eqb}
use Rattle.foundation.proofs.Truth.{split, not_both}
use Rattle.path_columns.specs.Digits.{digit, IsCodeWidth}

power_zero : (b : ℕ) → 2 ^ (b * 0) ≡ 1
power_zero b = let e : b * 0 ≡ 0 = omega arith in ap (λ k. 2 ^ k) e

power_suc : (b i : ℕ) → 2 ^ (b * suc i) ≡ 2 ^ b * 2 ^ (b * i)
power_suc b i = let e : b * suc i ≡ b + b * i = omega arith in ap (λ k. 2 ^ k) e ∙ pow-add 2 b (b * i)

digit_zero : (b w : ℕ) → digit b w 0 ≡ w % 2 ^ b
digit_zero b w = ap (λ k. w / k % 2 ^ b) (power_zero b) ∙ ap (λ k. k % 2 ^ b) (div-one w)

digit_suc : (b w i : ℕ) → digit b w (suc i) ≡ digit b (w / 2 ^ b) i
digit_suc b w i = ap (λ k. w / k % 2 ^ b) (power_suc b i) ∙ ap (λ k. k % 2 ^ b) (sym (div-div-eq-div-mul w (2 ^ b) (2 ^ (b * i))))

-- the word with the digit c at place i
unfoldable pub put_digit : ℕ → ℕ → ℕ → ℕ → ℕ
put_digit b w zero c = w / 2 ^ b * 2 ^ b + c
put_digit b w (suc i) c = put_digit b (w / 2 ^ b) i c * 2 ^ b + w % 2 ^ b

rest_low : (b w : ℕ) → w % 2 ^ b < 2 ^ b
rest_low b w = mod_below w (2 ^ b) (pow_pos b)

digit_same : (b w i c : ℕ) → c < 2 ^ b → digit b (put_digit b w i c) i ≡ c
unfolding put_digit
digit_same b w zero c lt = digit_zero b (w / 2 ^ b * 2 ^ b + c) ∙ mod-mul-add (w / 2 ^ b) (2 ^ b) c lt
digit_same b w (suc i) c lt =
    digit_suc b (put_digit b (w / 2 ^ b) i c * 2 ^ b + w % 2 ^ b) i
    ∙ (ap (λ k. digit b k i) (div-mul-add (put_digit b (w / 2 ^ b) i c) (2 ^ b) (w % 2 ^ b) (rest_low b w)) ∙ digit_same b (w / 2 ^ b) i c lt)

digit_other : (b w i p c : ℕ) → c < 2 ^ b → (p ≡ i → ⊥) → digit b (put_digit b w i c) p ≡ digit b w p
unfolding put_digit
digit_other b w zero zero c lt differ = absurd (differ refl)
digit_other b w zero (suc p) c lt differ =
    digit_suc b (w / 2 ^ b * 2 ^ b + c) p ∙ (ap (λ k. digit b k p) (div-mul-add (w / 2 ^ b) (2 ^ b) c lt) ∙ sym (digit_suc b w p))
digit_other b w (suc i) zero c lt differ =
    digit_zero b (put_digit b (w / 2 ^ b) i c * 2 ^ b + w % 2 ^ b)
    ∙ (mod-mul-add (put_digit b (w / 2 ^ b) i c) (2 ^ b) (w % 2 ^ b) (rest_low b w) ∙ sym (digit_zero b w))
digit_other b w (suc i) (suc p) c lt differ =
    digit_suc b (put_digit b (w / 2 ^ b) i c * 2 ^ b + w % 2 ^ b) p
    ∙ (ap (λ k. digit b k p) (div-mul-add (put_digit b (w / 2 ^ b) i c) (2 ^ b) (w % 2 ^ b) (rest_low b w))
    ∙ (digit_other b (w / 2 ^ b) i p c lt (λ e. differ (ap (λ n. suc n) e)) ∙ sym (digit_suc b w p)))

pub digit_put : (b w i c p : ℕ) → c < 2 ^ b → digit b (put_digit b w i c) p ≡ (if nat_eq p i then c else digit b w p)
digit_put b w i c p lt = split (nat_eq p i) (λ t. digit b (put_digit b w i c) p ≡ (if t then c else digit b w p))
    (λ e. ap (λ k. digit b (put_digit b w i c) k) (eqb-true p i e) ∙ digit_same b w i c lt)
    (λ e. digit_other b w i p c lt (λ f. not_both (eq-eqb p i f) e))

-- the old digit goes, and the new one comes
put_sum : (b w i c : ℕ) → put_digit b w i c + digit b w i * 2 ^ (b * i) ≡ w + c * 2 ^ (b * i)
unfolding put_digit
put_sum b w zero c =
    let whole = div-add-mod' w (2 ^ b) in
    let old : digit b w 0 * 2 ^ (b * 0) ≡ w % 2 ^ b = ap (λ k. digit b w 0 * k) (power_zero b) ∙ (mul-one (digit b w 0) ∙ digit_zero b w) in
    let new : c * 2 ^ (b * 0) ≡ c = ap (λ k. c * k) (power_zero b) ∙ mul-one c in
    omega (arith, whole, old, new)
put_sum b w (suc i) c =
    let whole = div-add-mod' w (2 ^ b) in
    let before : (put_digit b (w / 2 ^ b) i c + digit b (w / 2 ^ b) i * 2 ^ (b * i)) * 2 ^ b ≡ (w / 2 ^ b + c * 2 ^ (b * i)) * 2 ^ b = ap (λ k. k * 2 ^ b) (put_sum b (w / 2 ^ b) i c) in
    let old : digit b w (suc i) * 2 ^ (b * suc i) ≡ digit b (w / 2 ^ b) i * (2 ^ b * 2 ^ (b * i)) = ap (λ k. k * 2 ^ (b * suc i)) (digit_suc b w i) ∙ ap (λ k. digit b (w / 2 ^ b) i * k) (power_suc b i) in
    let new : c * 2 ^ (b * suc i) ≡ c * (2 ^ b * 2 ^ (b * i)) = ap (λ k. c * k) (power_suc b i) in
    omega (arith, whole, before, old, new)

joined_low : (x m base r : ℕ) → x < m → r < base → x * base + r < m * base
joined_low x m base r a b = let c : (x + 1) * base ≤ m * base = mul-le (x + 1) base m base (omega arith) (omega arith) in omega arith

-- the word is as long as it was
put_low : (b k w i c : ℕ) → c < 2 ^ b → i < k → w < 2 ^ (b * k) → put_digit b w i c < 2 ^ (b * k)
unfolding put_digit
put_low b zero w i c small lt low = absurd (omega arith)
put_low b (suc k) w zero c small lt low =
    let longer = power_suc b k in
    let rest : w / 2 ^ b < 2 ^ (b * k) = (div-lt_iff_lt-mul (pow_pos b)).1 (omega (arith, low, longer)) in
    let a = joined_low (w / 2 ^ b) (2 ^ (b * k)) (2 ^ b) c rest small in omega (arith, a, longer)
put_low b (suc k) w (suc i) c small lt low =
    let longer = power_suc b k in
    let rest : w / 2 ^ b < 2 ^ (b * k) = (div-lt_iff_lt-mul (pow_pos b)).1 (omega (arith, low, longer)) in
    let a = joined_low (put_digit b (w / 2 ^ b) i c) (2 ^ (b * k)) (2 ^ b) (w % 2 ^ b) (put_low b k (w / 2 ^ b) i c small (omega arith) rest) (rest_low b w) in omega (arith, a, longer)

-- the digit is part of the word
digit_within : (b w i : ℕ) → digit b w i * 2 ^ (b * i) ≤ w
digit_within b w i =
    let a = div-mul-le_self w (2 ^ (b * i)) in
    let c : digit b w i * 2 ^ (b * i) ≤ w / 2 ^ (b * i) * 2 ^ (b * i) = mul-le (digit b w i) (2 ^ (b * i)) (w / 2 ^ (b * i)) (2 ^ (b * i)) (let d = div-add-mod' (w / 2 ^ (b * i)) (2 ^ b) in omega arith) (omega arith) in omega arith

-- as the code writes a power of two
pub one_moved : (k : ℕ) → k < 64 → 1 * 2 ^ k % 18446744073709551616 ≡ 2 ^ k
one_moved k lt = let a : 1 * 2 ^ k ≡ 2 ^ k = omega arith in ap (λ n. n % 18446744073709551616) a ∙ mod-eq_of_lt (pow-lt lt)

place_low : (b i : ℕ) → IsCodeWidth b → i < 64 / b → b * i < 64
place_low b i wide lt =
    let a : (i + 1) * b ≤ 64 / b * b = mul-le (i + 1) b (64 / b) b (omega arith) (omega arith) in
    let c = wide.whole in let d = wide.some in omega (arith, a, c, d)

-- what the code writes is that word
module _ (b w i c : ℕ) (wide : IsCodeWidth b) (within : i < 64 / b) (small : c < 2 ^ b) (fits : w < 18446744073709551616) where
  power : ℕ
  power = 1 * 2 ^ (b * i) % 18446744073709551616

  power_is : 1 * 2 ^ (b * i) % 18446744073709551616 ≡ 2 ^ (b * i)
  power_is = one_moved (b * i) (place_low b i wide within)

  pub written : w - w / (1 * 2 ^ (b * i) % 18446744073709551616) % (1 * 2 ^ b % 18446744073709551616) * (1 * 2 ^ (b * i) % 18446744073709551616) + c * (1 * 2 ^ (b * i) % 18446744073709551616) ≡ put_digit b w i c
  written =
      ap (λ t. w - w / t % (1 * 2 ^ b % 18446744073709551616) * t + c * t) power_is
      ∙ (ap (λ t. w - w / 2 ^ (b * i) % t * 2 ^ (b * i) + c * 2 ^ (b * i)) (one_moved b wide.small)
      ∙ (let sum = put_sum b w i c in let part = digit_within b w i in omega (arith, sum, part)))

  pub written_low : put_digit b w i c < 18446744073709551616
  written_low =
      let long : 2 ^ (b * (64 / b)) ≡ 18446744073709551616 = ap (λ k. 2 ^ k) wide.whole in
      let a = put_low b (64 / b) w i c small within (omega (arith, long, fits)) in omega (arith, a, long)

  pub code_low : c * (1 * 2 ^ (b * i) % 18446744073709551616) < 18446744073709551616
  code_low =
      let sum = put_sum b w i c in
      let part = digit_within b w i in
      let low = written_low in
      let moved : c * (1 * 2 ^ (b * i) % 18446744073709551616) ≡ c * 2 ^ (b * i) = ap (λ t. c * t) power_is in
      omega (arith, sum, part, low, moved)
