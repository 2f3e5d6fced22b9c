-- The low bytes of exact results are those of wrapped ones.
use Rattle.std.proofs.Common.{◌≡◌, ℕ, suc, ◌+◌, ◌-◌, ◌*◌, ◌/◌, ◌%◌, ◌<◌, ◌≤◌, ◌^◌, ◌⊎◌, inl, inr, ⊎_elim, Bool, true, false, refl, ap, ◌∙◌, sym, arith, pos, lit<}
use Rattle.std.specs.Prelude.{ℤ, negsuc, nat_lt, ◌+ℤ◌, ◌-ℤ◌, ◌*ℤ◌, if◌then◌else◌}
use Rattle.std.specs.Int.{int_rem_euclid}
use Rattle.std.proofs.lemmas.Int.{ints, int_rem_euclid_is}
use Rattle.std.proofs.lemmas.Nat.{mul-mod_first}
use Rattle.std.proofs.lemmas.Bool.Decides.{nat_tests}
use Rattle.std.proofs.Math.IntN.{negsuc-*ℤ-pos, pos-*ℤ-negsuc}
use Rattle.std.proofs.Math.Nat.{mod-lt, mod-eq_of_lt, div-add-mod, add-mod-mod, mod-add-mod, mul-add-mod_self_left, mul_comm, pow-le-pow_right}
use Rattle.byte_code.specs.declared.width.Width.{Width}
use Rattle.byte_code.specs.declared.width.BitWidth.{BitWidth}
use Rattle.byte_code.specs.Numbers.{signed_in, signed_of, low_of, word_of, number_of_word, extended, extended_bits}
use Rattle.byte_code.proofs.Pow.{pow_pos}
use Rattle.byte_code.proofs.Words.{word_of-low}

pub low_rem : (n : ℕ) (z : ℤ) → int_rem_euclid z (pos (256 ^ n)) ≡ pos (low_of n z)
low_rem n (pos a) = refl
low_rem n (negsuc a) = refl

pos_is : (a b : ℕ) → pos a ≡ pos b → a ≡ b
pos_is a b e = cc

-- low bytes by a multiple of the range that makes the number one without a sign
low_by : (n : ℕ) (z : ℤ) (m k : ℕ) → z +ℤ pos (k * 256 ^ n) ≡ pos m → low_of n z ≡ m % 256 ^ n
low_by n z m k e = pos_is (low_of n z) (m % 256 ^ n) (sym (low_rem n z) ∙ int_rem_euclid_is z (pos (256 ^ n)) (256 ^ n) k m (pow_pos n) refl e)

-- a number is its low bytes, or the range less
abbrev IsRead : ℕ → ℕ → ℤ → Type 0
IsRead range low z = (z ≡ pos low) ⊎ (z +ℤ pos range ≡ pos low)

is_read : (n : ℕ) (signed : Bool) (low : ℕ) → IsRead (256 ^ n) low (signed_of n signed low)
is_read n false low = inl refl
is_read n true low = by_half (nat_lt (2 * low) (256 ^ n))
  where
    by_half : (half : Bool) → IsRead (256 ^ n) low (if half then pos low else (pos low -ℤ pos (256 ^ n)))
    by_half true = inl refl
    by_half false = inr (omega (arith, ints))

number_read : (width : Width) (word : ℕ) → IsRead (256 ^ width.bytes) (word % 256 ^ width.bytes) (number_of_word width word)
number_read width word = is_read width.bytes width.signed (word % 256 ^ width.bytes)

-- sums
sum_by : (n x y : ℕ) (z w : ℤ) → IsRead (256 ^ n) x z → IsRead (256 ^ n) y w → low_of n (z +ℤ w) ≡ (x + y) % 256 ^ n
sum_by n x y z w r t =
    ⊎_elim (λ e. ⊎_elim (λ g. low_by n (z +ℤ w) (x + y) 0 (omega (arith, ints))) (λ g. low_by n (z +ℤ w) (x + y) 1 (omega (arith, ints))) t)
    (λ e. ⊎_elim (λ g. low_by n (z +ℤ w) (x + y) 1 (omega (arith, ints))) (λ g. low_by n (z +ℤ w) (x + y) 2 (omega (arith, ints))) t) r

pub low_sum : (width : Width) (a b : ℕ) → width.bytes ≤ 8 → (a + b) % 2 ^ 64 % 256 ^ width.bytes ≡ low_of width.bytes (number_of_word width a +ℤ number_of_word width b)
low_sum width a b small =
    let n = width.bytes in
    word_of-low n (pos (a + b)) small ∙ sym (mod-add-mod a (256 ^ n) b) ∙ sym (add-mod-mod (a % 256 ^ n) b (256 ^ n)) ∙ sym (sum_by n (a % 256 ^ n) (b % 256 ^ n) (number_of_word width a) (number_of_word width b) (number_read width a) (number_read width b))

-- differences
difference_by : (n x y : ℕ) (z w : ℤ) → y ≤ 256 ^ n → IsRead (256 ^ n) x z → IsRead (256 ^ n) y w → low_of n (z -ℤ w) ≡ (x + (256 ^ n - y)) % 256 ^ n
difference_by n x y z w small r t =
    ⊎_elim (λ e. ⊎_elim (λ g. low_by n (z -ℤ w) (x + (256 ^ n - y)) 1 (omega (arith, ints))) (λ g. low_by n (z -ℤ w) (x + (256 ^ n - y)) 0 (omega (arith, ints))) t)
    (λ e. ⊎_elim (λ g. low_by n (z -ℤ w) (x + (256 ^ n - y)) 2 (omega (arith, ints))) (λ g. low_by n (z -ℤ w) (x + (256 ^ n - y)) 1 (omega (arith, ints))) t) r

word_difference : (n a b : ℕ) → low_of n (pos a -ℤ pos b) ≡ (a % 256 ^ n + (256 ^ n - b % 256 ^ n)) % 256 ^ n
word_difference n a b =
    let small : b % 256 ^ n < 256 ^ n = mod-lt b (pow_pos n) in
    let split = div-add-mod b (256 ^ n) in
    low_by n (pos a -ℤ pos b) (a + (256 ^ n - b % 256 ^ n)) (b / 256 ^ n + 1) (omega (arith, ints)) ∙ sym (mod-add-mod a (256 ^ n) (256 ^ n - b % 256 ^ n))

pub low_difference : (width : Width) (a b : ℕ) → width.bytes ≤ 8 → b < 2 ^ 64 → (a + (2 ^ 64 - b)) % 2 ^ 64 % 256 ^ width.bytes ≡ low_of width.bytes (number_of_word width a -ℤ number_of_word width b)
low_difference width a b small fits =
    let n = width.bytes in
    let word : word_of (pos a -ℤ pos b) ≡ (a + (2 ^ 64 - b)) % 2 ^ 64 = low_by 8 (pos a -ℤ pos b) (a + (2 ^ 64 - b)) 1 (omega (arith, ints)) in
    let less : b % 256 ^ n < 256 ^ n = mod-lt b (pow_pos n) in
    ap (λ w. w % 256 ^ n) (sym word) ∙ word_of-low n (pos a -ℤ pos b) small ∙ word_difference n a b ∙ sym (difference_by n (a % 256 ^ n) (b % 256 ^ n) (number_of_word width a) (number_of_word width b) (omega arith) (number_read width a) (number_read width b))

-- products
negative : (range low : ℕ) (z : ℤ) → low < range → z +ℤ pos range ≡ pos low → (c : ℕ) × ((z ≡ negsuc c) × (range ≡ low + suc c))
negative range low (pos a) less e = absurd (omega (arith, ints))
negative range low (negsuc c) less e = (c, (refl, omega (arith, ints)))

product_right : (n x y c : ℕ) → 256 ^ n ≡ y + suc c → low_of n (pos x *ℤ negsuc c) ≡ x * y % 256 ^ n
product_right n x y c e =
    let scaled : x * 256 ^ n ≡ x * (y + suc c) = ap (λ v. x * v) e in
    low_by n (pos x *ℤ negsuc c) (x * y) x (rw pos-*ℤ-negsuc (omega (arith, ints)))

product_left : (n x y d : ℕ) → 256 ^ n ≡ x + suc d → low_of n (negsuc d *ℤ pos y) ≡ x * y % 256 ^ n
product_left n x y d e =
    let scaled : 256 ^ n * y ≡ (x + suc d) * y = ap (λ v. v * y) e in
    low_by n (negsuc d *ℤ pos y) (x * y) y (rw negsuc-*ℤ-pos (omega (arith, ints)))

product_both : (n x y d c : ℕ) → 256 ^ n ≡ x + suc d → 256 ^ n ≡ y + suc c → low_of n (negsuc d *ℤ negsuc c) ≡ x * y % 256 ^ n
product_both n x y d c e g =
    let first : 256 ^ n * suc c ≡ (x + suc d) * suc c = ap (λ v. v * suc c) e in
    let second : 256 ^ n * 256 ^ n ≡ 256 ^ n * (y + suc c) = ap (λ v. 256 ^ n * v) g in
    let third : x * 256 ^ n ≡ x * (y + suc c) = ap (λ v. x * v) g in
    low_by n (negsuc d *ℤ negsuc c) (256 ^ n * 256 ^ n + x * y) (x + y) (omega (arith, ints)) ∙ mul-add-mod_self_left (256 ^ n) (256 ^ n) (x * y)

product_by : (n x y : ℕ) (z w : ℤ) → x < 256 ^ n → y < 256 ^ n → IsRead (256 ^ n) x z → IsRead (256 ^ n) y w → low_of n (z *ℤ w) ≡ x * y % 256 ^ n
product_by n x y z w fits fits' (inl e) (inl g) = rw (e, g) refl
product_by n x y z w fits fits' (inl e) (inr g) = let c = negative (256 ^ n) y w fits' g in rw (e, c.1.0) (product_right n x y c.0 c.1.1)
product_by n x y z w fits fits' (inr e) (inl g) = let d = negative (256 ^ n) x z fits e in rw (d.1.0, g) (product_left n x y d.0 d.1.1)
product_by n x y z w fits fits' (inr e) (inr g) =
    let d = negative (256 ^ n) x z fits e in
    let c = negative (256 ^ n) y w fits' g in
    rw (d.1.0, c.1.0) (product_both n x y d.0 c.0 d.1.1 c.1.1)

product_mod : (a b m : ℕ) → a % m * (b % m) % m ≡ a * b % m
product_mod a b m =
    let turned : a * (b % m) ≡ b % m * a = mul_comm a (b % m) in
    mul-mod_first a (b % m) m ∙ ap (λ v. v % m) turned ∙ mul-mod_first b a m ∙ ap (λ v. v % m) (mul_comm b a)

pub low_product : (width : Width) (a b : ℕ) → width.bytes ≤ 8 → a * b % 2 ^ 64 % 256 ^ width.bytes ≡ low_of width.bytes (number_of_word width a *ℤ number_of_word width b)
low_product width a b small =
    let n = width.bytes in
    word_of-low n (pos (a * b)) small ∙ sym (product_mod a b (256 ^ n)) ∙ sym (product_by n (a % 256 ^ n) (b % 256 ^ n) (number_of_word width a) (number_of_word width b) (mod-lt a (pow_pos n)) (mod-lt b (pow_pos n)) (number_read width a) (number_read width b))

-- a word below half of a range stands for itself
low_half : (range : ℕ) (signed : Bool) (word : ℕ) → 2 * word < range → signed_in range signed word ≡ pos word
low_half range false word low = refl
low_half range true word low = let half : nat_lt (2 * word) range ≡ true = grind (arith, nat_tests) in rw half refl

-- a width of more than eight bytes keeps each word
pub wide_word : (width : Width) (word : ℕ) → 8 < width.bytes → word < 2 ^ 64 → word ≡ extended width (word % 256 ^ width.bytes)
wide_word width word wide fits =
    let range : 256 ^ 9 ≤ 256 ^ width.bytes = pow-le-pow_right (lit< tt) wide in
    let low : word % 256 ^ width.bytes ≡ word = mod-eq_of_lt (omega arith) in
    sym (ap (extended width) low ∙ ap word_of (low_half (256 ^ width.bytes) width.signed word (omega arith)) ∙ mod-eq_of_lt fits)

-- and so does one of more than 64 bits
pub wide_bits : (width : BitWidth) (word : ℕ) → 64 < width.bits → word < 2 ^ 64 → word ≡ extended_bits width (word % 2 ^ width.bits)
wide_bits width word wide fits =
    let range : 2 ^ 65 ≤ 2 ^ width.bits = pow-le-pow_right (lit< tt) wide in
    let low : word % 2 ^ width.bits ≡ word = mod-eq_of_lt (omega arith) in
    sym (ap (extended_bits width) low ∙ ap word_of (low_half (2 ^ width.bits) width.signed word (omega arith)) ∙ mod-eq_of_lt fits)
