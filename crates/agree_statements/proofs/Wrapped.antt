-- What a number becomes that is wrapped to some range: what its rest there reads as.
use Rattle.std.proofs.Common.{◌≡◌, ℕ, suc, ◌+◌, ◌-◌, ◌*◌, ◌/◌, ◌%◌, ◌<◌, ◌≤◌, ◌^◌, Bool, true, false, refl, ap, ◌∙◌, sym, arith, pos}
use Rattle.std.specs.Prelude.{ℤ, negsuc, ◌+ℤ◌, ◌-ℤ◌, nat_lt, if◌then◌else◌}
use Rattle.std.specs.Int.{int_rem_euclid}
use Rattle.std.proofs.lemmas.Int.{ints, int_rem_euclid_is}
use Rattle.std.proofs.lemmas.Bool.Decides.{nat_tests}
use Rattle.std.proofs.Math.Nat.{mod-lt, mod-eq_of_lt, mod-add-mod, mul-le-mul_left, mod-eq-sub-mod, add-zero}
use Rattle.byte_code.proofs.Pow.{bit_pos}
use Rattle.byte_code.specs.Numbers.{signed_in, low_in}
use Rattle.cxx_hierarchy.specs.Scalars.{wrapped_to}
use Rattle.agree_relation.proofs.Ranges.{half_of}

-- some multiple of the range makes a number one without a sign
lifted : (m : ℕ) (z : ℤ) → 0 < m → (k : ℕ) × (a : ℕ) × (z +ℤ pos (k * m) ≡ pos a)
lifted m (pos a) some = (0, a, omega (arith, ints))
lifted m (negsuc a) some = let e : suc a * 1 ≤ suc a * m = mul-le-mul_left (suc a) some in (suc a, suc a * m - suc a, omega (arith, ints))

low_rest : (m : ℕ) (z : ℤ) → int_rem_euclid z (pos m) ≡ pos (low_in m z)
low_rest m (pos a) = refl
low_rest m (negsuc a) = refl

low_less : (m : ℕ) (z : ℤ) → 0 < m → low_in m z < m
low_less m (pos a) some = mod-lt a some
low_less m (negsuc a) some = omega arith

-- the remainder of a sum, by that of the number
sum_rest : (m h : ℕ) (z : ℤ) → 0 < m → int_rem_euclid (z +ℤ pos h) (pos m) ≡ pos ((low_in m z + h) % m)
sum_rest m h z some =
    let l = lifted m z some in
    let low : pos (low_in m z) ≡ pos (l.1 % m) = sym (low_rest m z) ∙ int_rem_euclid_is z (pos m) m l.0 l.1 some refl l.2 in
    let same : low_in m z ≡ l.1 % m = cc in
    int_rem_euclid_is (z +ℤ pos h) (pos m) m l.0 (l.1 + h) some refl (moved_by l.0 l.1 l.2) ∙ ap pos (sym (mod-add-mod l.1 m h) ∙ ap (λ x. (x + h) % m) (sym same))
  where
    moved_by : (k a : ℕ) → z +ℤ pos (k * m) ≡ pos a → (z +ℤ pos h) +ℤ pos (k * m) ≡ pos (a + h)
    moved_by k a e = omega (arith, ints)

pub unsigned_rest : (m : ℕ) (z : ℤ) → 0 < m → int_rem_euclid (z +ℤ pos 0) (pos m) -ℤ pos 0 ≡ signed_in m false (low_in m z)
unsigned_rest m z some =
    let less : low_in m z < m = low_less m z some in
    let same : (low_in m z + 0) % m ≡ low_in m z = ap (λ x. x % m) (add-zero (low_in m z)) ∙ mod-eq_of_lt less in
    rw (sum_rest m 0 z some, same) (omega (arith, ints))

pub signed_rest : (m half : ℕ) (z : ℤ) → 0 < m → m ≡ 2 * half → int_rem_euclid (z +ℤ pos half) (pos m) -ℤ pos half ≡ signed_in m true (low_in m z)
signed_rest m half z some e = rw (sum_rest m half z some) (by_half (nat_lt (2 * low_in m z) m) refl)
  where
    less : low_in m z < m
    less = low_less m z some

    by_half : (b : Bool) → nat_lt (2 * low_in m z) m ≡ b → pos ((low_in m z + half) % m) -ℤ pos half ≡ (if b then pos (low_in m z) else pos (low_in m z) -ℤ pos m)
    by_half true h =
        let small : 2 * low_in m z < m = grind (arith, nat_tests) in
        let same : (low_in m z + half) % m ≡ low_in m z + half = mod-eq_of_lt (omega arith) in
        rw same (omega (arith, ints))
    by_half false h =
        let large : m ≤ 2 * low_in m z = grind (arith, nat_tests) in
        let same : (low_in m z + half) % m ≡ low_in m z + half - m = mod-eq-sub-mod (omega arith) ∙ mod-eq_of_lt (omega (arith, less)) in
        rw same (omega (arith, ints))

-- wrapped to n bits
pub wrapped_bits : (s : Bool) (n : ℕ) (z : ℤ) → 1 ≤ n → wrapped_to s (2 ^ n) z ≡ signed_in (2 ^ n) s (low_in (2 ^ n) z)
wrapped_bits false n z some = unsigned_rest (2 ^ n) z (bit_pos n)
wrapped_bits true n z some = signed_rest (2 ^ n) (2 ^ n / 2) z (bit_pos n) (half_of n some)
