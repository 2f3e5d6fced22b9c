use Rattle.std.proofs.Common.{◌≡◌, ◌∙◌, ℕ, zero, suc, refl, ◌+◌, ◌-◌, ◌*◌, ◌%◌, ◌<◌, ◌≤◌, ◌^◌, ap, sym, arith, bit_and, lit<}
use Rattle.std.proofs.Math.Nat.{pow-le-pow_right, one-le-pow, pow-succ'}
use Rattle.std.proofs.lemmas.Nat.{and_mask, pow-add}

pub pow_word : (n : ℕ) → n ≤ 8 → 256 ^ n ≤ 2 ^ 64
pow_word n small = let p : 256 ^ n ≤ 256 ^ 8 = pow-le-pow_right (lit< tt) small in p

pub pow_pos : (n : ℕ) → 0 < 256 ^ n
pow_pos n = one-le-pow n 256 (lit< tt)

pub bits_word : (n : ℕ) → n ≤ 64 → 2 ^ n ≤ 2 ^ 64
bits_word n small = let p : 2 ^ n ≤ 2 ^ 64 = pow-le-pow_right (lit< tt) small in p

pub bit_pos : (n : ℕ) → 0 < 2 ^ n
bit_pos n = one-le-pow n 2 (lit< tt)

-- so many bytes have eight times as many bits
bytes_as_bits : (n : ℕ) → 256 ^ n ≡ 2 ^ (8 * n)
bytes_as_bits zero = refl
bytes_as_bits (suc n) =
    let more : 8 * suc n ≡ 8 + 8 * n = omega arith in
    let split : 2 ^ (8 + 8 * n) ≡ 2 ^ 8 * 2 ^ (8 * n) = pow-add 2 8 (8 * n) in
    pow-succ' 256 n ∙ ap (λ x. 256 * x) (bytes_as_bits n) ∙ sym split ∙ ap (λ k. 2 ^ k) (sym more)

-- a mask of the low bytes leaves them
pub masked : (word mask n : ℕ) → mask + 1 ≡ 256 ^ n → bit_and word mask ≡ word % 256 ^ n
masked word mask n e =
    let is : mask ≡ 2 ^ (8 * n) - 1 = omega (arith, e, bytes_as_bits n) in
    ap (bit_and word) is ∙ and_mask word (8 * n) ∙ ap (λ range. word % range) (sym (bytes_as_bits n))
