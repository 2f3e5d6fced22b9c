-- How many numbers so many bits have, and that more bits than 64 keep all that a type has.
use Rattle.std.proofs.Common.{◌≡◌, ℕ, ◌+◌, ◌-◌, ◌*◌, ◌%◌, ◌^◌, ◌<◌, ◌≤◌, arith, lit<, pos, ◌+ℤ◌, ◌-ℤ◌, ◌≤ℤ◌, ◌<ℤ◌, refl, ap, sym, ◌∙◌}
use Rattle.std.specs.Prelude.{ℤ, negsuc}
use Rattle.std.specs.Int.{int_rem_euclid}
use Rattle.std.proofs.lemmas.Int.{ints}
use Rattle.std.proofs.lemmas.Nat.{pow_pos, pow-add}
use Rattle.std.proofs.Math.Nat.{pow-le-pow_right, mul-mod_left, mod-eq_of_lt, one-mul}
use Rattle.cxx_hierarchy.specs.declared.records.Scalar.{Scalar}
use Rattle.cxx_hierarchy.specs.declared.records.Scalar.TheVariants.{Bool as TheBool, Char, SChar, UChar, Short, UShort, Int, UInt, Long, ULong, LongLong, ULongLong}
use Rattle.cxx_hierarchy.specs.Scalars.{is_signed, count_of, below_zero, stored_as, wrapped_to, kept_in}
use Rattle.path_model.proofs.TypedRanges.{stored_in_range, wider}

pub bits_some : (n : ℕ) → 0 < 2 ^ n
bits_some n = pow_pos n

pub bits_many : (n : ℕ) → n ≤ 64 → 2 ^ n ≤ 2 ^ 64
bits_many n small = pow-le-pow_right (lit< tt) small

pub bits_power : (n : ℕ) → n ≤ 64 → 2 ^ 128 % 2 ^ n ≡ 0
bits_power n small =
    let k : 128 ≡ (128 - n) + n = omega arith in
    let e : 2 ^ 128 ≡ 2 ^ (128 - n) * 2 ^ n = ap (λ x. 2 ^ x) k ∙ pow-add 2 (128 - n) n in
    ap (λ x. x % 2 ^ n) e ∙ mul-mod_left (2 ^ (128 - n)) (2 ^ n)

-- the same of 1 that is shifted in 128 bits
pub shifted_power : (n : ℕ) → n ≤ 64 → 2 ^ 128 % (1 * 2 ^ n % 2 ^ 128) ≡ 0
shifted_power n small =
    let many = bits_many n small in
    let low : 1 * 2 ^ n < 2 ^ 128 = omega (arith, many) in
    ap (λ x. 2 ^ 128 % x) (mod-eq_of_lt low ∙ one-mul (2 ^ n)) ∙ bits_power n small

count_most : (t : Scalar) → count_of t ≤ 2 ^ 64
count_most TheBool = omega arith
count_most Char = omega arith
count_most SChar = omega arith
count_most UChar = omega arith
count_most Short = omega arith
count_most UShort = omega arith
count_most Int = omega arith
count_most UInt = omega arith
count_most Long = omega arith
count_most ULong = omega arith
count_most LongLong = omega arith
count_most ULongLong = omega arith

-- a number that is a remainder already
rest_itself : (x : ℤ) (n : ℕ) → pos 0 ≤ℤ x → x <ℤ pos n → int_rem_euclid x (pos n) ≡ x
rest_itself (pos a) n least greatest = ap pos (mod-eq_of_lt (let l : a < n = omega (arith, ints, greatest) in l))
rest_itself (negsuc a) n least greatest = absurd (omega (arith, ints, least))

back : (x y b : ℤ) → x ≡ y +ℤ b → x -ℤ b ≡ y
back x y b e = omega (arith, ints, e)

-- of so many numbers each stands for itself
wrapped_itself : (count below : ℕ) (y : ℤ) → pos 0 ≤ℤ (y +ℤ pos below) → (y +ℤ pos below) <ℤ pos count → int_rem_euclid (y +ℤ pos below) (pos count) -ℤ pos below ≡ y
wrapped_itself count below y least greatest = back (int_rem_euclid (y +ℤ pos below) (pos count)) y (pos below) (rest_itself (y +ℤ pos below) count least greatest)

pub kept_whole : (t : Scalar) (n : ℕ) (z : ℤ) → 64 < n → kept_in t n z ≡ stored_as t z
kept_whole t n z more =
    let y = stored_as t z in
    let a = stored_in_range t z in
    let wide : 2 ^ 64 ≤ 2 ^ n = pow-le-pow_right (lit< tt) (let l : 64 ≤ n = omega arith in l) in
    let most = count_most t in
    let room : count_of t ≤ 2 ^ n = omega (arith, wide, most) in
    let h = wider (is_signed t) (count_of t) (2 ^ n) y room (a.least, a.greatest) in
    wrapped_itself (2 ^ n) (below_zero (is_signed t) (2 ^ n)) y h.0 h.1
