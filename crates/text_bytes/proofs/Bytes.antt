-- The bytes of a number are those of the word that stands for it.
use Rattle.std.proofs.Common.{◌≡◌, ◌∙◌, ℕ, ◌%◌, ◌^◌, [], ◌∷◌, take, refl, ap, sym, arith}
use Rattle.std.specs.Prelude.{ℤ}
use Rattle.std.specs.Int.{w64, to_le_bytes}
use Rattle.cxx_hierarchy.specs.declared.records.Scalar.{Scalar}
use Rattle.cxx_hierarchy.specs.declared.records.Scalar.TheVariants.{Bool as TheBool, Char, SChar, UChar, Short, UShort, Int, UInt, Long, ULong, LongLong, ULongLong}
use Rattle.cxx_hierarchy.specs.Scalars.{size_of}
use Rattle.byte_code.specs.Numbers.{low_of, word_of}
use Rattle.byte_code.proofs.Words.{word_of-low}

abbrev HasBytes : ℕ → ℤ → Type 0
HasBytes n z = take n (to_le_bytes w64 (low_of n z)) ≡ take n (to_le_bytes w64 (word_of z))

two : {a b c d : ℕ} → a ≡ c → b ≡ d → (a ∷ b ∷ []) ≡ (c ∷ d ∷ [])
two e f = cc

byte : (w : ℕ) → take 1 (to_le_bytes w64 (w % 256 ^ 1)) ≡ take 1 (to_le_bytes w64 w)
byte w = ap (λ a. a ∷ []) (omega arith)

short : (w : ℕ) → take 2 (to_le_bytes w64 (w % 256 ^ 2)) ≡ take 2 (to_le_bytes w64 w)
short w = two (omega arith) (omega arith)

four : {a b c d a' b' c' d' : ℕ} → a ≡ a' → b ≡ b' → c ≡ c' → d ≡ d' → (a ∷ b ∷ c ∷ d ∷ []) ≡ (a' ∷ b' ∷ c' ∷ d' ∷ [])
four e f g h = cc

word : (w : ℕ) → take 4 (to_le_bytes w64 (w % 256 ^ 4)) ≡ take 4 (to_le_bytes w64 w)
word w = four (omega arith) (omega arith) (omega arith) (omega arith)

from_low : (n : ℕ) (z : ℤ) → low_of n z ≡ word_of z % 256 ^ n → take n (to_le_bytes w64 (word_of z % 256 ^ n)) ≡ take n (to_le_bytes w64 (word_of z)) → HasBytes n z
from_low n z low bytes = ap (λ k. take n (to_le_bytes w64 k)) low ∙ bytes

one_byte : (z : ℤ) → HasBytes 1 z
one_byte z = from_low 1 z (sym (word_of-low 1 z (omega arith))) (byte (word_of z))

two_bytes : (z : ℤ) → HasBytes 2 z
two_bytes z = from_low 2 z (sym (word_of-low 2 z (omega arith))) (short (word_of z))

four_bytes : (z : ℤ) → HasBytes 4 z
four_bytes z = from_low 4 z (sym (word_of-low 4 z (omega arith))) (word (word_of z))

-- what stands in the bytes of a type has the low bytes of the number's word
pub stored_bytes : (t : Scalar) (z : ℤ) → HasBytes (size_of t) z
stored_bytes TheBool z = one_byte z
stored_bytes Char z = one_byte z
stored_bytes SChar z = one_byte z
stored_bytes UChar z = one_byte z
stored_bytes Short z = two_bytes z
stored_bytes UShort z = two_bytes z
stored_bytes Int z = four_bytes z
stored_bytes UInt z = four_bytes z
stored_bytes Long z = refl
stored_bytes ULong z = refl
stored_bytes LongLong z = refl
stored_bytes ULongLong z = refl
