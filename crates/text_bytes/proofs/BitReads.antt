-- The low bits of a number that they can hold read as the number.
use Rattle.std.proofs.Common.{◌≡◌, ◌∙◌, ℕ, suc, ◌+◌, ◌/◌, ◌^◌, ◌<◌, ◌≤◌, Bool, true, false, ap, sym, arith}
use Rattle.std.specs.Prelude.{ℤ, pos, negsuc, ◌+ℤ◌, ◌≤ℤ◌, ◌<ℤ◌}
use Rattle.std.proofs.lemmas.Int.{ints}
use Rattle.cxx_hierarchy.specs.declared.records.Scalar.{Scalar}
use Rattle.cxx_hierarchy.specs.Scalars.{IsInWidth, below_zero, is_signed}
use Rattle.byte_code.specs.Numbers.{FitsRange, low_in, signed_in}
use Rattle.byte_code.proofs.Words.{number_of_bits-word_of, word_of-low_bits}

within : (count : ℕ) (signed : Bool) (z : ℤ) → pos 0 ≤ℤ (z +ℤ pos (below_zero signed count)) → (z +ℤ pos (below_zero signed count)) <ℤ pos count → FitsRange count signed z
within count false (pos a) low high = let h : a < count = omega (arith, ints) in h
within count false (negsuc a) low high = omega (arith, ints)
within count true (pos a) low high = let h : a + count / 2 < count = omega (arith, ints) in omega arith
within count true (negsuc a) low high = let h : suc a ≤ count / 2 = omega (arith, ints) in omega arith

pub bits_read : (t : Scalar) (n : ℕ) (z : ℤ) → n ≤ 64 → IsInWidth t n z → signed_in (2 ^ n) (is_signed t) (low_in (2 ^ n) z) ≡ z
bits_read t n z few held =
    ap (signed_in (2 ^ n) (is_signed t)) (sym (word_of-low_bits n z few))
    ∙ number_of_bits-word_of (record { bits = n; signed = is_signed t }) z few (within (2 ^ n) (is_signed t) z held.least held.greatest)
