-- Whole turns of 128 bits leave the remainder by a divisor of 2 ^ 128.
use Rattle.std.proofs.Common.{◌≡◌, ℕ, suc, ◌+◌, ◌-◌, ◌*◌, ◌/◌, ◌%◌, ◌^◌, ◌<◌, ◌≤◌, Bool, true, false, ltb, pos, ◌+ℤ◌, ◌-ℤ◌, to_z, of_z, SFits, refl, ap, sym, ◌∙◌, arith}
use Rattle.std.specs.Prelude.{ℤ, negsuc, unsigned_abs}
use Rattle.std.specs.Int.{w128, int_rem_euclid, int_wrap, cast_signed}
use Rattle.std.proofs.Math.Facts.{to_z-neg}
use Rattle.std.proofs.Math.Nat.{mod-lt, mod-mod_of_dvd, mul_assoc, div-add-mod'}
use Rattle.std.proofs.lemmas.Bool.{ltb-true, ltb-false}
use Rattle.std.proofs.lemmas.Int.{ints, int_rem_euclid_is, to_z_pos, to_z-of_z, wrapping_add_is, int_wrap-add_left}
use Rattle.std.proofs.lemmas.Nat.Gcd.{dvd_of_mod-eq-zero}
use Rattle.cxx_hierarchy.specs.declared.records.Scalar.{Scalar}
use Rattle.cxx_hierarchy.specs.declared.records.Scalar.TheVariants.{Bool as TheBool, Char, SChar, UChar, Short, UShort, Int, UInt, Long, ULong, LongLong, ULongLong}
use Rattle.cxx_hierarchy.specs.Scalars.{wrapped}

high : (r : ℕ) → r < 2 ^ 128 → 2 ^ 127 ≤ r → to_z w128 r +ℤ pos (2 ^ 128) ≡ pos r
high r low up =
    let k = 2 ^ 128 - suc r in
    let e : r ≡ 2 ^ 128 - suc k = omega arith in
    let f : to_z w128 r ≡ negsuc k = ap (to_z w128) e ∙ to_z-neg w128 k (omega arith) in
    ap (λ x. x +ℤ pos (2 ^ 128)) f ∙ omega (arith, ints)

-- bits read as a signed number
read : (r n q : ℕ) → r < 2 ^ 128 → 0 < n → 2 ^ 128 ≡ q * n → int_rem_euclid (to_z w128 r) (pos n) ≡ pos (r % n)
read r n q low some e = by (ltb r (2 ^ 127)) refl
  where
    by : (t : Bool) → ltb r (2 ^ 127) ≡ t → int_rem_euclid (to_z w128 r) (pos n) ≡ pos (r % n)
    by true is = let l = ltb-true r (2 ^ 127) is in int_rem_euclid_is (to_z w128 r) (pos n) n 0 r some refl (omega (arith, ints))
    by false is = int_rem_euclid_is (to_z w128 r) (pos n) n q r some refl (ap (λ x. to_z w128 r +ℤ pos x) (sym e) ∙ high r low (ltb-false r (2 ^ 127) is))

from : (z : ℤ) (k m n q : ℕ) → 0 < n → 2 ^ 128 % n ≡ 0 → 2 ^ 128 ≡ q * n → z +ℤ pos (k * 2 ^ 128) ≡ pos m → int_rem_euclid (int_wrap w128 z) (pos n) ≡ int_rem_euclid z (pos n)
unfolding int_wrap
from z k m n q some even e is =
    let r = m % 2 ^ 128 in
    let low : r < 2 ^ 128 = omega arith in
    let a : int_rem_euclid z (pos (2 ^ 128)) ≡ pos r = int_rem_euclid_is z (pos (2 ^ 128)) (2 ^ 128) k m (omega arith) refl is in
    let b : int_wrap w128 z ≡ to_z w128 r = ap (λ x. cast_signed w128 (unsigned_abs x)) a in
    let f : k * q * n ≡ k * 2 ^ 128 = mul_assoc k q n ∙ ap (λ x. k * x) (sym e) in
    let d : int_rem_euclid z (pos n) ≡ pos (m % n) = int_rem_euclid_is z (pos n) n (k * q) m some refl (ap (λ x. z +ℤ pos x) f ∙ is) in
    ap (λ x. int_rem_euclid x (pos n)) b ∙ (read r n q low some e ∙ (ap pos (mod-mod_of_dvd n m (dvd_of_mod-eq-zero n even)) ∙ sym d))

pub turns : (z : ℤ) (n q : ℕ) → 0 < n → 2 ^ 128 % n ≡ 0 → 2 ^ 128 ≡ q * n → int_rem_euclid (int_wrap w128 z) (pos n) ≡ int_rem_euclid z (pos n)
turns (pos a) n q some even e = from (pos a) 0 a n q some even e (omega (arith, ints))
turns (negsuc a) n q some even e = from (negsuc a) (suc a) (suc a * 2 ^ 128 - suc a) n q some even e (omega (arith, ints))

-- a remainder is a natural number below the divisor
pub record IsRest (z : ℤ) (n : ℕ) : Type 0 where
  pub rest : ℕ
  pub low : rest < n
  pub is : int_rem_euclid z (pos n) ≡ pos rest

pub rest_of : (z : ℤ) (n : ℕ) → 0 < n → IsRest z n
rest_of (pos a) n some = record { rest = a % n; low = mod-lt a some; is = refl }
rest_of (negsuc a) n some = record { rest = n - 1 - a % n; low = omega arith; is = refl }

-- a small number less another one
less : (x below n : ℕ) → x < n → n ≤ 2 ^ 64 → below < 2 ^ 64 → to_z w128 (of_z w128 (to_z w128 (of_z w128 (pos x)) -ℤ to_z w128 below)) ≡ pos x -ℤ pos below
less x below n low many small =
    let a : to_z w128 x ≡ pos x = to_z_pos w128 x (omega arith) in
    let b : to_z w128 below ≡ pos below = to_z_pos w128 below (omega arith) in
    let fits : SFits w128 (pos x -ℤ pos below) = omega (arith, ints) in
    ap (λ k. to_z w128 (of_z w128 (k -ℤ to_z w128 below))) a ∙ (ap (λ k. to_z w128 (of_z w128 (pos x -ℤ k))) b ∙ to_z-of_z w128 (pos x -ℤ pos below) fits)

-- a sum of 128 bits has the remainder of the exact one
pub within : (z : ℤ) (below n : ℕ) → SFits w128 z → below < 2 ^ 64 → 0 < n → n ≤ 2 ^ 64 → 2 ^ 128 % n ≡ 0 → (r : ℤ) → r ≡ int_rem_euclid (to_z w128 ((of_z w128 z + below) % 2 ^ 128)) (to_z w128 n)
    → to_z w128 (of_z w128 (to_z w128 (of_z w128 r) -ℤ to_z w128 below)) ≡ int_rem_euclid (z +ℤ pos below) (pos n) -ℤ pos below
within z below n fits small some many even r is =
    let q = 2 ^ 128 / n in
    let split : q * n + 2 ^ 128 % n ≡ 2 ^ 128 = div-add-mod' (2 ^ 128) n in
    let e : 2 ^ 128 ≡ q * n = omega arith in
    let sum : to_z w128 ((of_z w128 z + below) % 2 ^ 128) ≡ int_wrap w128 (z +ℤ pos below) = wrapping_add_is w128 z (pos below) fits (record { sfits = omega arith }) in
    let t = rest_of (z +ℤ pos below) n some in
    let f : r ≡ pos t.rest = is ∙ (ap (λ x. int_rem_euclid (to_z w128 ((of_z w128 z + below) % 2 ^ 128)) x) (to_z_pos w128 n (omega arith)) ∙ (ap (λ x. int_rem_euclid x (pos n)) sum ∙ (turns (z +ℤ pos below) n q some even e ∙ t.is))) in
    ap (λ x. to_z w128 (of_z w128 (to_z w128 (of_z w128 x) -ℤ to_z w128 below))) f ∙ (less t.rest below n t.low many small ∙ ap (λ x. x -ℤ pos below) (sym t.is))

-- so has a sum whose first number was cut to 128 bits
pub sum_turns : (z : ℤ) (b n : ℕ) → 0 < n → 2 ^ 128 % n ≡ 0 → int_rem_euclid (int_wrap w128 z +ℤ pos b) (pos n) ≡ int_rem_euclid (z +ℤ pos b) (pos n)
sum_turns z b n some even =
    let q = 2 ^ 128 / n in
    let split : q * n + 2 ^ 128 % n ≡ 2 ^ 128 = div-add-mod' (2 ^ 128) n in
    let e : 2 ^ 128 ≡ q * n = omega arith in
    sym (turns (int_wrap w128 z +ℤ pos b) n q some even e) ∙ (ap (λ x. int_rem_euclid x (pos n)) (int_wrap-add_left w128 z (pos b)) ∙ turns (z +ℤ pos b) n q some even e)

-- a number that was cut to 128 bits wraps as before
pub wrapped_turns : (t : Scalar) (z : ℤ) → wrapped t (int_wrap w128 z) ≡ wrapped t z
wrapped_turns TheBool z = ap (λ x. x -ℤ pos 0) (sum_turns z 0 2 (omega arith) refl)
wrapped_turns Char z = ap (λ x. x -ℤ pos 128) (sum_turns z 128 256 (omega arith) refl)
wrapped_turns SChar z = ap (λ x. x -ℤ pos 128) (sum_turns z 128 256 (omega arith) refl)
wrapped_turns UChar z = ap (λ x. x -ℤ pos 0) (sum_turns z 0 256 (omega arith) refl)
wrapped_turns Short z = ap (λ x. x -ℤ pos (256 ^ 2 / 2)) (sum_turns z (256 ^ 2 / 2) (256 ^ 2) (omega arith) refl)
wrapped_turns UShort z = ap (λ x. x -ℤ pos 0) (sum_turns z 0 (256 ^ 2) (omega arith) refl)
wrapped_turns Int z = ap (λ x. x -ℤ pos (256 ^ 4 / 2)) (sum_turns z (256 ^ 4 / 2) (256 ^ 4) (omega arith) refl)
wrapped_turns UInt z = ap (λ x. x -ℤ pos 0) (sum_turns z 0 (256 ^ 4) (omega arith) refl)
wrapped_turns Long z = ap (λ x. x -ℤ pos (256 ^ 8 / 2)) (sum_turns z (256 ^ 8 / 2) (256 ^ 8) (omega arith) refl)
wrapped_turns ULong z = ap (λ x. x -ℤ pos 0) (sum_turns z 0 (256 ^ 8) (omega arith) refl)
wrapped_turns LongLong z = ap (λ x. x -ℤ pos (256 ^ 8 / 2)) (sum_turns z (256 ^ 8 / 2) (256 ^ 8) (omega arith) refl)
wrapped_turns ULongLong z = ap (λ x. x -ℤ pos 0) (sum_turns z 0 (256 ^ 8) (omega arith) refl)
