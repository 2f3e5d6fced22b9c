use Rattle.std.proofs.Common.{◌≡◌, ℕ, ◌+◌, ◌-◌, ◌*◌, ◌%◌, ◌<◌, ◌≤◌, ◌^◌, Bool, true, false, refl, ap, ◌∙◌, sym, arith, pos, ◌/◌, subst, lit<}
use Rattle.std.specs.Prelude.{nat_lt, ℤ, negsuc}
use Rattle.std.proofs.lemmas.Int.{ints}
use Rattle.std.proofs.lemmas.Bool.Decides.{nat_tests}
use Rattle.std.proofs.Math.Nat.{mod-eq_of_lt, div-add-mod, mod-lt, mul-pos, div-lt_iff_lt-mul}
use Rattle.std.proofs.lemmas.Nat.{mod-mul-add, pow-add}
use Rattle.byte_code.specs.declared.width.Width.{Width}
use Rattle.byte_code.specs.declared.width.BitWidth.{BitWidth}
use Rattle.byte_code.specs.Numbers.{signed_in, low_in, FitsRange, signed_of, low_of, word_of, number_of_word, extended, IsInBytes, FitsInWidth, low_bits, number_of_bits, extended_bits, IsInBits}
use Rattle.byte_code.proofs.Pow.{pow_pos, bit_pos}

-- a number modulo a range reads back as it, where it is within the range
signed_in-low_in : (range : ℕ) (signed : Bool) (number : ℤ) → FitsRange range signed number → signed_in range signed (low_in range number) ≡ number
signed_in-low_in range false (pos a) fits = ap pos (mod-eq_of_lt fits)
signed_in-low_in range false (negsuc a) fits = absurd fits
signed_in-low_in range true (pos a) fits =
    let same : a % range ≡ a = mod-eq_of_lt (omega arith) in
    let test : nat_lt (2 * a) range ≡ true = grind (arith, nat_tests) in
    rw (same, test) refl
signed_in-low_in range true (negsuc a) fits =
    let same : a % range ≡ a = mod-eq_of_lt (omega arith) in
    let back : range - 1 - a + (a + 1) ≡ range = omega arith in
    let test : nat_lt (2 * (range - 1 - a)) range ≡ false = grind (arith, nat_tests) in
    rw (same, test) (omega (arith, ints))

-- so do the low bytes of a number in range
pub signed_of-low_of : (n : ℕ) (signed : Bool) (number : ℤ) → IsInBytes n signed number → signed_of n signed (low_of n number) ≡ number
signed_of-low_of n signed number fits = signed_in-low_in (256 ^ n) signed number fits

-- a remainder by a multiple keeps the remainder
mod_of_multiple : (k m a : ℕ) → 0 < m → 0 < k → a % (k * m) % m ≡ a % m
mod_of_multiple k m a some many =
    let whole = div-add-mod a (k * m) in
    let part = div-add-mod (a % (k * m)) m in
    let small : a % (k * m) % m < m = mod-lt (a % (k * m)) some in
    let split : a ≡ (a / (k * m) * k + a % (k * m) / m) * m + a % (k * m) % m = omega (arith, whole, part) in
    sym (ap (λ x. x % m) split ∙ mod-mul-add (a / (k * m) * k + a % (k * m) / m) m (a % (k * m) % m) small)

-- so does what is left of a multiple
rest_of_multiple : (k m a : ℕ) → 0 < m → 0 < k → (k * m - 1 - a % (k * m)) % m ≡ m - 1 - a % m
rest_of_multiple k m a some many =
    let r : ℕ = a % (k * m) in
    let less : r < k * m = mod-lt a (mul-pos many some) in
    let part = div-add-mod r m in
    let small : r % m < m = mod-lt r some in
    let below : r / m < k = (div-lt_iff_lt-mul some).1 less in
    let d : ℕ = k - 1 - r / m in
    let e : k ≡ r / m + (1 + d) = omega arith in
    let f : k * m ≡ (r / m + (1 + d)) * m = ap (λ z. z * m) e in
    let split : k * m - 1 - r ≡ d * m + (m - 1 - r % m) = omega (arith, f, part) in
    ap (λ x. x % m) split ∙ mod-mul-add (k - 1 - r / m) m (m - 1 - r % m) (omega arith) ∙ ap (λ x. m - 1 - x) (mod_of_multiple k m a some many)

-- 2 ^ 64 is a multiple of the range of each width
word_split : (n : ℕ) → n ≤ 8 → 256 ^ (8 - n) * 256 ^ n ≡ 2 ^ 64
word_split n small = let e : 8 - n + n ≡ 8 = omega arith in sym (pow-add 256 (8 - n) n) ∙ ap (λ k. 256 ^ k) e

-- the low bytes of a number's word are its low bytes
pub word_of-low : (n : ℕ) (number : ℤ) → n ≤ 8 → word_of number % 256 ^ n ≡ low_of n number
word_of-low n (pos a) small =
    subst (λ w. a % w % 256 ^ n ≡ a % 256 ^ n) (word_split n small) (mod_of_multiple (256 ^ (8 - n)) (256 ^ n) a (pow_pos n) (pow_pos (8 - n)))
word_of-low n (negsuc a) small =
    subst (λ w. (w - 1 - a % w) % 256 ^ n ≡ 256 ^ n - 1 - a % 256 ^ n) (word_split n small) (rest_of_multiple (256 ^ (8 - n)) (256 ^ n) a (pow_pos n) (pow_pos (8 - n)))

-- a word reads as the number in range that it stands for
pub number_of-word_of : (width : Width) (number : ℤ) → width.bytes ≤ 8 → FitsInWidth width number → number_of_word width (word_of number) ≡ number
number_of-word_of width number small fits =
    ap (λ low. signed_of width.bytes width.signed low) (word_of-low width.bytes number small) ∙ signed_of-low_of width.bytes width.signed number fits

-- loaded bytes of a number in range are extended to its word
pub extended-low_of : (width : Width) (number : ℤ) → FitsInWidth width number → extended width (low_of width.bytes number) ≡ word_of number
extended-low_of width number fits = ap word_of (signed_of-low_of width.bytes width.signed number fits)

-- 2 ^ 64 is a multiple of the range of each number of bits
bits_split : (n : ℕ) → n ≤ 64 → 2 ^ (64 - n) * 2 ^ n ≡ 2 ^ 64
bits_split n small = let e : 64 - n + n ≡ 64 = omega arith in sym (pow-add 2 (64 - n) n) ∙ ap (λ k. 2 ^ k) e

-- the low bits of a number's word are its low bits
pub word_of-low_bits : (n : ℕ) (number : ℤ) → n ≤ 64 → word_of number % 2 ^ n ≡ low_bits n number
word_of-low_bits n (pos a) small =
    subst (λ w. a % w % 2 ^ n ≡ a % 2 ^ n) (bits_split n small) (mod_of_multiple (2 ^ (64 - n)) (2 ^ n) a (bit_pos n) (bit_pos (64 - n)))
word_of-low_bits n (negsuc a) small =
    subst (λ w. (w - 1 - a % w) % 2 ^ n ≡ 2 ^ n - 1 - a % 2 ^ n) (bits_split n small) (rest_of_multiple (2 ^ (64 - n)) (2 ^ n) a (bit_pos n) (bit_pos (64 - n)))

-- the low bits of a word read as the number in range that it stands for
pub number_of_bits-word_of : (width : BitWidth) (number : ℤ) → width.bits ≤ 64 → IsInBits width number → number_of_bits width (word_of number) ≡ number
number_of_bits-word_of width number small fits =
    ap (λ low. signed_in (2 ^ width.bits) width.signed low) (word_of-low_bits width.bits number small) ∙ signed_in-low_in (2 ^ width.bits) width.signed number fits

-- loaded bits of a number in range are extended to its word
pub extended-low_bits : (width : BitWidth) (number : ℤ) → IsInBits width number → extended_bits width (low_bits width.bits number) ≡ word_of number
extended-low_bits width number fits = ap word_of (signed_in-low_in (2 ^ width.bits) width.signed number fits)

-- a number's word fits 64 bits
pub word_of-fits : (number : ℤ) → word_of number < 2 ^ 64
word_of-fits (pos a) = mod-lt a (lit< tt)
word_of-fits (negsuc a) = omega arith
