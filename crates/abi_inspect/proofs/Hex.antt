-- The bytes of a word in hexadecimal digits, and the word that is read of them.
use Rattle.std.proofs.Common.{◌≡◌, ◌∙◌, ℕ, zero, suc, ◌+◌, ◌*◌, ◌/◌, ◌%◌, ◌^◌, ◌<◌, ◌≤◌, arith, inl, inr, List, [], ◌∷◌, length, take, refl, ap, sym}
use Rattle.std.specs.List.{flat_map}
use Rattle.std.specs.Int.{w64, to_le_bytes, bytes_low_first, byte_at}
use Rattle.std.proofs.lemmas.Bool.Decides.{nat_tests}
use Rattle.std.proofs.lemmas.Nat.{mod-mul-add}
use Rattle.std.proofs.Math.Nat.{mod-eq_of_lt, mod-lt, div-add-mod, div-div-eq-div-mul, pow-suc}
use Rattle.foundation.proofs.Members.{Has}
use Rattle.cxx_hierarchy.specs.declared.records.Scalar.{Scalar}
use Rattle.cxx_hierarchy.specs.declared.records.Scalar.TheVariants.{Bool as TheBool, Char, SChar, UChar, Short, UShort, Int, UInt, Long, ULong, LongLong, ULongLong}
use Rattle.cxx_hierarchy.specs.Scalars.{size_of}
use Rattle.byte_code.proofs.Pow.{pow_pos, pow_word}
use Rattle.text_told.specs.Dumps.{byte_text, hex_digit}
use Rattle.abi_inspect.specs.invariants.Digits.{hex_value, hex_word}

pub hex_high : (n : ℕ) → 48 ≤ hex_digit n
hex_high n = grind (arith, nat_tests)

hex_back : (n : ℕ) → n < 16 → hex_value (hex_digit n) ≡ n
hex_back n lt = grind (arith, nat_tests)

byte_back : (b : ℕ) → b < 256 → 16 * hex_value (hex_digit (b / 16)) + hex_value (hex_digit (b % 16)) ≡ b
byte_back b lt =
    let high = hex_back (b / 16) (omega arith) in
    let low = hex_back (b % 16) (omega arith) in
    omega (arith, high, low)

-- the low byte of a number, and the rest of it
word_step : (q m : ℕ) → 0 < m → q % (m * 256) ≡ q / 256 % m * 256 + q % 256
word_step q m some =
    let a : ℕ = q / 256 in
    let part = div-add-mod a m in
    let small : a % m < m = mod-lt a some in
    let whole : q ≡ a / m * (m * 256) + (a % m * 256 + q % 256) = omega (arith, part) in
    let bound : a % m * 256 + q % 256 < m * 256 = omega (arith, small) in
    ap (λ x. x % (m * 256)) whole ∙ mod-mul-add (a / m) (m * 256) (a % m * 256 + q % 256) bound

byte_is : (i w : ℕ) → byte_at i w ≡ w / 256 ^ i % 256
byte_is zero w = omega arith
byte_is (suc i) w = refl

below : (i w : ℕ) → w / 256 ^ suc i ≡ w / 256 ^ i / 256
below i w = ap (λ k. w / k) (pow-suc 256 i) ∙ sym (div-div-eq-div-mul w (256 ^ i) 256)

joined : (rest byte r b range : ℕ) → rest ≡ r → byte ≡ b → r * 256 + b < 2 ^ 64 → (rest * 256 % 2 ^ 64 + byte) % 2 ^ 64 ≡ r * 256 + b
joined rest byte r b range rest_is byte_is fits =
    let low : rest * 256 % 2 ^ 64 ≡ rest * 256 = mod-eq_of_lt (omega (arith, rest_is)) in
    let all : rest * 256 % 2 ^ 64 + byte ≡ r * 256 + b = omega (arith, low, rest_is, byte_is) in
    ap (λ x. x % 2 ^ 64) all ∙ mod-eq_of_lt fits

bytes_back : (k i w : ℕ) → k ≤ 8 → hex_word (flat_map byte_text (bytes_low_first i k w)) ≡ w / 256 ^ i % 256 ^ k
bytes_back zero i w few = omega arith
bytes_back (suc k) i w few =
    let q : ℕ = w / 256 ^ i in
    let ih : hex_word (flat_map byte_text (bytes_low_first (suc i) k w)) ≡ q / 256 % 256 ^ k = bytes_back k (suc i) w (omega arith) ∙ ap (λ x. x % 256 ^ k) (below i w) in
    let here : byte_at i w ≡ q % 256 = byte_is i w in
    let small : byte_at i w < 256 = omega (arith, here) in
    let range : 256 ^ suc k ≡ 256 ^ k * 256 = pow-suc 256 k in
    let most : 256 ^ suc k ≤ 2 ^ 64 = pow_word (suc k) few in
    let rest : q / 256 % 256 ^ k < 256 ^ k = mod-lt (q / 256) (pow_pos k) in
    let fits : q / 256 % 256 ^ k * 256 + q % 256 < 2 ^ 64 = omega (arith, range, most, rest) in
    joined (hex_word (flat_map byte_text (bytes_low_first (suc i) k w))) (16 * hex_value (hex_digit (byte_at i w / 16)) + hex_value (hex_digit (byte_at i w % 16))) (q / 256 % 256 ^ k) (q % 256) 0 ih (byte_back (byte_at i w) small ∙ here) fits
    ∙ (sym (word_step q (256 ^ k) (pow_pos k)) ∙ ap (λ m. q % m) (sym range))

low_bytes : (t : Scalar) (w : ℕ) → take (size_of t) (to_le_bytes w64 w) ≡ bytes_low_first 0 (size_of t) w
low_bytes TheBool w = refl
low_bytes Char w = refl
low_bytes SChar w = refl
low_bytes UChar w = refl
low_bytes Short w = refl
low_bytes UShort w = refl
low_bytes Int w = refl
low_bytes UInt w = refl
low_bytes Long w = refl
low_bytes ULong w = refl
low_bytes LongLong w = refl
low_bytes ULongLong w = refl

pub few_bytes : (t : Scalar) → size_of t ≤ 8
few_bytes TheBool = omega arith
few_bytes Char = omega arith
few_bytes SChar = omega arith
few_bytes UChar = omega arith
few_bytes Short = omega arith
few_bytes UShort = omega arith
few_bytes Int = omega arith
few_bytes UInt = omega arith
few_bytes Long = omega arith
few_bytes ULong = omega arith
few_bytes LongLong = omega arith
few_bytes ULongLong = omega arith

pub word_back : (t : Scalar) (w : ℕ) → hex_word (flat_map byte_text (take (size_of t) (to_le_bytes w64 w))) ≡ w % 256 ^ size_of t
word_back t w =
    ap (λ (bs : List ℕ). hex_word (flat_map byte_text bs)) (low_bytes t w)
    ∙ (bytes_back (size_of t) 0 w (few_bytes t) ∙ ap (λ x. x % 256 ^ size_of t) (by_one w))
  where
    by_one : (x : ℕ) → x / 256 ^ 0 ≡ x
    by_one x = omega arith

pub digits_many : (bs : List ℕ) → length (flat_map byte_text bs) ≡ 2 * length bs
digits_many [] = refl
digits_many (b ∷ bs) = let ih = digits_many bs in omega (arith, ih)

pub no_space_in_bytes : (bs : List ℕ) (c : ℕ) → c < 48 → Has (flat_map byte_text bs) c → ⊥
no_space_in_bytes [] c low has = absurd has
no_space_in_bytes (b ∷ bs) c low (inl e) = let high = hex_high (b / 16) in absurd (omega (arith, e))
no_space_in_bytes (b ∷ bs) c low (inr (inl e)) = let high = hex_high (b % 16) in absurd (omega (arith, e))
no_space_in_bytes (b ∷ bs) c low (inr (inr has)) = no_space_in_bytes bs c low has
