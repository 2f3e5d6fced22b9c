-- Multiples, and where copies end.
use Rattle.std.proofs.Common.{◌≡◌, ℕ, ◌+◌, ◌*◌, ◌<◌, ◌≤◌, ap, sym, ◌∙◌, arith, add-mul, mul_assoc}
use Rattle.std.proofs.Math.Nat.{mul-le-mul_right}
use Rattle.abi_sound.specs.Sound.{Divides}

pub sum_divides : (a b c : ℕ) → Divides a b → Divides a c → Divides a (b + c)
sum_divides a b c x y = let e = x.is in let f = y.is in record { times = x.times + y.times; is = rw add-mul (let g : b + c ≡ x.times * a + y.times * a = omega arith in g) }

pub through_divides : (a b c : ℕ) → Divides a b → Divides b c → Divides a c
through_divides a b c x y = record { times = y.times * x.times; is = y.is ∙ (ap (λ z. y.times * z) x.is ∙ sym (mul_assoc y.times x.times a)) }

pub itself_divides : (a : ℕ) → Divides a a
itself_divides a = record { times = 1; is = omega arith }

pub zero_divides : (a : ℕ) → Divides a 0
zero_divides a = record { times = 0; is = omega arith }

-- a copy ends where a later one begins, or before
pub copy_ends : (e count stride : ℕ) → e < count → e * stride + stride ≤ count * stride
copy_ends e count stride lt = let h = mul-le-mul_right stride (next e count lt) in omega (arith, h)
  where
    next : (e count : ℕ) → e < count → e + 1 ≤ count
    next e count lt = omega arith
