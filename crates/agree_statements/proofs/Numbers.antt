-- Numbers of the number types as words, and what ops make of them.
use Rattle.std.proofs.Common.{◌≡◌, ℕ, zero, suc, ◌+◌, ◌-◌, ◌*◌, ◌%◌, ◌<◌, ◌≤◌, ◌^◌, Bool, true, false, Some, refl, ap, ◌∙◌, sym, arith, pos}
use Rattle.std.specs.Prelude.{ℤ, negsuc, ◌+ℤ◌, ◌-ℤ◌, ◌*ℤ◌, int_lt, nat_lt, nat_le, nat_eq, not, ◌&&◌, ◌||◌, if◌then◌else◌}
use Rattle.std.specs.Int.{int_rem_euclid}
use Rattle.std.proofs.lemmas.Int.{ints}
use Rattle.std.proofs.Math.Nat.{mod-eq_of_lt}
use Rattle.std.proofs.lemmas.Bool.Decides.{nat_tests}
use Rattle.byte_code.proofs.Pow.{pow_pos}
use Rattle.cxx_hierarchy.specs.declared.records.Scalar.{Scalar}
use Rattle.cxx_hierarchy.specs.declared.records.Scalar.TheVariants.{Bool as TheBool, Char, SChar, UChar, Short, UShort, Int, UInt, Long, ULong, LongLong, ULongLong}
use Rattle.cxx_hierarchy.specs.Scalars.{size_of, is_signed, IsInRange, wrapped, truth_of, stored_as, kept_in, promoted, rank_of, unsigned_of, mixed_type, common_by_sign, common_type}
use Rattle.cxx_program.specs.declared.statement.Arithmetic.{Arithmetic as Operator}
use Rattle.cxx_program.specs.declared.statement.Arithmetic.TheVariants.{Add, Subtract, Multiply, Less, LessEqual, Equal, NotEqual}
use Rattle.path_model.specs.Values.{Number}
use Rattle.path_model.specs.Rules.{is_over, is_result_over, overflows}
use Rattle.path_model.specs.Effects.{is_number_zero, calculated_value as path_calculated}
use Rattle.byte_code.specs.declared.op.NumberKind.TheVariants.{Bits}
use Rattle.byte_code.specs.declared.op.ArithKind.TheVariants.{Equal as EqualKind}
use Rattle.byte_code.specs.Numbers.{signed_in, signed_of, low_of, low_bits, word_of, number_of_word, extended, extended_bits, IsInBytes}
use Rattle.byte_code.proofs.Words.{word_of-low, word_of-low_bits, number_of-word_of}
use Rattle.byte_machine.specs.Checks.{exact, is_number_of, is_same_number}
use Rattle.byte_machine.specs.Values.{calculated_word, converted_word, truth_word, in_bytes}
use Rattle.byte_machine.proofs.Ranges.{number_of-low_of}
use Rattle.code_ops.specs.Setups.{width_of, bit_width, register_width, number_kind, word_width}
use Rattle.code_statements.specs.Rights.{arith_kind}
use Rattle.code_statements.specs.Statements.{written_width}
use Rattle.agree_relation.proofs.Ranges.{fits_width, fits_register, sign_is}
use Rattle.agree_statements.proofs.Wrapped.{unsigned_rest, signed_rest, wrapped_bits}

-- widths

-- all but `bool` have as many numbers as their bytes
abbrev pub IsWide : Scalar → Type 0
IsWide t = t ≡ TheBool → ⊥

pub width_some : (t : Scalar) → 0 < (width_of t).bytes
width_some TheBool = omega arith
width_some Char = omega arith
width_some SChar = omega arith
width_some UChar = omega arith
width_some Short = omega arith
width_some UShort = omega arith
width_some Int = omega arith
width_some UInt = omega arith
width_some Long = omega arith
width_some ULong = omega arith
width_some LongLong = omega arith
width_some ULongLong = omega arith

pub width_narrow : (t : Scalar) → (width_of t).bytes ≤ 8
width_narrow TheBool = omega arith
width_narrow Char = omega arith
width_narrow SChar = omega arith
width_narrow UChar = omega arith
width_narrow Short = omega arith
width_narrow UShort = omega arith
width_narrow Int = omega arith
width_narrow UInt = omega arith
width_narrow Long = omega arith
width_narrow ULong = omega arith
width_narrow LongLong = omega arith
width_narrow ULongLong = omega arith

-- numbers of a type in registers

-- read back from its word, by its own bytes and whole
pub width_read : (t : Scalar) (z : ℤ) → IsInRange t z → number_of_word (width_of t) (word_of z) ≡ z
width_read t z r = number_of-word_of (width_of t) z (width_narrow t) (fits_width t z r)

pub register_read : (t : Scalar) (z : ℤ) → IsInRange t z → number_of_word (register_width t) (word_of z) ≡ z
register_read t z r = number_of-word_of (register_width t) z (omega arith) (fits_register t z r)

-- the word of a number of a type is 0 where the number is
pub zero_word : (t : Scalar) (z : ℤ) → IsInRange t z → word_of z ≡ 0 → z ≡ pos 0
zero_word t z r e = sym (register_read t z r) ∙ ap (number_of_word (register_width t)) e ∙ zero_read (register_width t).signed
  where
    zero_read : (signed : Bool) → signed_of 8 signed (0 % 256 ^ 8) ≡ pos 0
    zero_read true = refl
    zero_read false = refl

-- wrapped numbers

unsigned_read : (n : ℕ) (z : ℤ) → int_rem_euclid (z +ℤ pos 0) (pos (256 ^ n)) -ℤ pos 0 ≡ signed_of n false (low_of n z)
unsigned_read n z = unsigned_rest (256 ^ n) z (pow_pos n)

signed_read : (n half : ℕ) (z : ℤ) → 256 ^ n ≡ 2 * half → int_rem_euclid (z +ℤ pos half) (pos (256 ^ n)) -ℤ pos half ≡ signed_of n true (low_of n z)
signed_read n half z e = signed_rest (256 ^ n) half z (pow_pos n) e

-- what the low bytes of any number read as
pub wrapped_read : (t : Scalar) (z : ℤ) → IsWide t → wrapped t z ≡ signed_of (width_of t).bytes (width_of t).signed (low_of (width_of t).bytes z)
wrapped_read TheBool z wide = absurd (wide refl)
wrapped_read Char z wide = signed_read 1 128 z refl
wrapped_read SChar z wide = signed_read 1 128 z refl
wrapped_read UChar z wide = unsigned_read 1 z
wrapped_read Short z wide = signed_read 2 32768 z refl
wrapped_read UShort z wide = unsigned_read 2 z
wrapped_read Int z wide = signed_read 4 2147483648 z refl
wrapped_read UInt z wide = unsigned_read 4 z
wrapped_read Long z wide = signed_read 8 9223372036854775808 z refl
wrapped_read ULong z wide = unsigned_read 8 z
wrapped_read LongLong z wide = signed_read 8 9223372036854775808 z refl
wrapped_read ULongLong z wide = unsigned_read 8 z

-- a word read in a type is the number, wrapped
pub word_read : (t : Scalar) (z : ℤ) → IsWide t → number_of_word (width_of t) (word_of z) ≡ wrapped t z
word_read t z wide = ap (λ low. signed_of (width_of t).bytes (width_of t).signed low) (word_of-low (width_of t).bytes z (width_narrow t)) ∙ sym (wrapped_read t z wide)

-- the low bytes of a number, extended
pub bytes_word : (t : Scalar) (z : ℤ) → IsWide t → in_bytes (width_of t) z ≡ word_of (wrapped t z)
bytes_word t z wide = ap word_of (sym (wrapped_read t z wide))

-- Convert

truth_converted : (s : Scalar) (z : ℤ) → IsInRange s z → converted_word (number_kind TheBool) (word_of z) ≡ word_of (truth_of z)
truth_converted s z r = by_word (word_of z) refl
  where
    by_number : (y : ℤ) → (y ≡ pos 0 → ⊥) → 1 ≡ word_of (truth_of y)
    by_number (pos zero) some = absurd (some refl)
    by_number (pos (suc a)) some = refl
    by_number (negsuc a) some = refl

    by_word : (word : ℕ) → word_of z ≡ word → converted_word (number_kind TheBool) word ≡ word_of (truth_of z)
    by_word zero e = rw (zero_word s z r e) refl
    by_word (suc word) e = by_number z (λ is. absurd (not_zero is))
      where
        not_zero : z ≡ pos 0 → ⊥
        not_zero is = let none : word_of z ≡ 0 = ap word_of is in omega arith

wide_converted : (t : Scalar) (z : ℤ) → IsWide t → extended (width_of t) (word_of z % 256 ^ (width_of t).bytes) ≡ word_of (wrapped t z)
wide_converted t z wide = ap word_of (word_read t z wide)

-- a number of some type, converted to another one
pub number_converted : (s t : Scalar) (z : ℤ) → IsInRange s z → converted_word (number_kind t) (word_of z) ≡ word_of (stored_as t z)
number_converted s TheBool z r = truth_converted s z r
number_converted s Char z r = wide_converted Char z (λ e. cc)
number_converted s SChar z r = wide_converted SChar z (λ e. cc)
number_converted s UChar z r = wide_converted UChar z (λ e. cc)
number_converted s Short z r = wide_converted Short z (λ e. cc)
number_converted s UShort z r = wide_converted UShort z (λ e. cc)
number_converted s Int z r = wide_converted Int z (λ e. cc)
number_converted s UInt z r = wide_converted UInt z (λ e. cc)
number_converted s Long z r = wide_converted Long z (λ e. cc)
number_converted s ULong z r = wide_converted ULong z (λ e. cc)
number_converted s LongLong z r = wide_converted LongLong z (λ e. cc)
number_converted s ULongLong z r = wide_converted ULongLong z (λ e. cc)

-- and to what n bits of that type keep of it
pub number_kept : (s t : Scalar) (n : ℕ) (z : ℤ) → 1 ≤ n → n ≤ 64 → IsInRange s z → converted_word (Bits (bit_width t n)) (converted_word (number_kind t) (word_of z)) ≡ word_of (kept_in t n z)
number_kept s t n z some few r =
    let y = stored_as t z in
    ap (λ x. extended_bits (bit_width t n) (x % 2 ^ n)) (number_converted s t z r)
    ∙ (ap (extended_bits (bit_width t n)) (word_of-low_bits n y few)
    ∙ ap word_of (ap (λ x. signed_in (2 ^ n) x (low_bits n y)) (sign_is t) ∙ sym (wrapped_bits (is_signed t) n y some)))

-- Arith and Fits

pub truth_result : (x : Bool) → truth_word x ≡ word_of (if x then pos 1 else pos 0)
truth_result true = refl
truth_result false = refl

-- the number that two numbers of one type give
abbrev pub result : Operator → Scalar → ℤ → ℤ → ℤ
result Add t a b = wrapped t (a +ℤ b)
result Subtract t a b = wrapped t (a -ℤ b)
result Multiply t a b = wrapped t (a *ℤ b)
result Less t a b = if int_lt a b then pos 1 else pos 0
result LessEqual t a b = if not (int_lt b a) then pos 1 else pos 0
result Equal t a b = if not (int_lt a b) && not (int_lt b a) then pos 1 else pos 0
result NotEqual t a b = if not (not (int_lt a b) && not (int_lt b a)) then pos 1 else pos 0

pub result_is : (op : Operator) (t : Scalar) (a b : ℤ) → path_calculated op t a b ≡ Number (result op t a b)
result_is Add t a b = refl
result_is Subtract t a b = refl
result_is Multiply t a b = refl
result_is Less t a b = refl
result_is LessEqual t a b = refl
result_is Equal t a b = refl
result_is NotEqual t a b = refl

calculated_as : (op : Operator) (t : Scalar) (a b : ℤ) → IsWide t → calculated_word (arith_kind op) (width_of t) a b ≡ word_of (result op t a b)
calculated_as Add t a b wide = bytes_word t (a +ℤ b) wide
calculated_as Subtract t a b wide = bytes_word t (a -ℤ b) wide
calculated_as Multiply t a b wide = bytes_word t (a *ℤ b) wide
calculated_as Less t a b wide = truth_result (int_lt a b)
calculated_as LessEqual t a b wide = truth_result (not (int_lt b a))
calculated_as Equal t a b wide = truth_result (not (int_lt a b) && not (int_lt b a))
calculated_as NotEqual t a b wide = truth_result (not (not (int_lt a b) && not (int_lt b a)))

-- Arith of the words of two numbers, read in a type
pub word_calculated : (op : Operator) (t : Scalar) (y z : ℤ) → IsWide t → calculated_word (arith_kind op) (width_of t) (number_of_word (width_of t) (word_of y)) (number_of_word (width_of t) (word_of z)) ≡ word_of (result op t (wrapped t y) (wrapped t z))
word_calculated op t y z wide = ap (λ a. calculated_word (arith_kind op) (width_of t) a (number_of_word (width_of t) (word_of z))) (word_read t y wide) ∙ ap (λ b. calculated_word (arith_kind op) (width_of t) (wrapped t y) b) (word_read t z wide) ∙ calculated_as op t (wrapped t y) (wrapped t z) wide

not_or : (a b : Bool) → (not a && not b) ≡ not (a || b)
not_or true b = refl
not_or false b = refl

fits_as : (t : Scalar) (z : ℤ) → IsWide t → is_number_of (width_of t) (Some z) ≡ not (is_signed t && is_over t z)
fits_as t z wide = ap (λ s. if s then is_same_number (number_of_word (width_of t) (low_of (width_of t).bytes z)) z else true) (sign_is t) ∙ by_sign (is_signed t)
  where
    back : number_of_word (width_of t) (low_of (width_of t).bytes z) ≡ wrapped t z
    back = number_of-low_of (width_of t) z ∙ sym (wrapped_read t z wide)

    by_sign : (s : Bool) → (if s then is_same_number (number_of_word (width_of t) (low_of (width_of t).bytes z)) z else true) ≡ not (s && is_over t z)
    by_sign true = ap (λ y. is_same_number y z) back ∙ not_or (int_lt (wrapped t z) z) (int_lt z (wrapped t z))
    by_sign false = refl

and_false : (b : Bool) → true ≡ not (b && false)
and_false true = refl
and_false false = refl

result_fits : (op : Operator) (t : Scalar) (a b : ℤ) → IsWide t → is_number_of (width_of t) (exact (arith_kind op) a b) ≡ not (is_signed t && is_result_over op t a b)
result_fits Add t a b wide = fits_as t (a +ℤ b) wide
result_fits Subtract t a b wide = fits_as t (a -ℤ b) wide
result_fits Multiply t a b wide = fits_as t (a *ℤ b) wide
result_fits Less t a b wide = and_false (is_signed t)
result_fits LessEqual t a b wide = and_false (is_signed t)
result_fits Equal t a b wide = and_false (is_signed t)
result_fits NotEqual t a b wide = and_false (is_signed t)

-- the test that the exact result is one of the type
pub word_fits : (op : Operator) (t : Scalar) (y z : ℤ) → IsWide t → is_number_of (width_of t) (exact (arith_kind op) (number_of_word (width_of t) (word_of y)) (number_of_word (width_of t) (word_of z))) ≡ not (overflows op t (Number y) (Number z))
word_fits op t y z wide = ap (λ a. is_number_of (width_of t) (exact (arith_kind op) a (number_of_word (width_of t) (word_of z)))) (word_read t y wide) ∙ ap (λ b. is_number_of (width_of t) (exact (arith_kind op) (wrapped t y) b)) (word_read t z wide) ∙ result_fits op t (wrapped t y) (wrapped t z) wide

-- the type of a calculation is not `bool`

promoted_wide : (t : Scalar) → IsWide (promoted t)
promoted_wide TheBool e = cc
promoted_wide Char e = cc
promoted_wide SChar e = cc
promoted_wide UChar e = cc
promoted_wide Short e = cc
promoted_wide UShort e = cc
promoted_wide Int e = cc
promoted_wide UInt e = cc
promoted_wide Long e = cc
promoted_wide ULong e = cc
promoted_wide LongLong e = cc
promoted_wide ULongLong e = cc

unsigned_wide : (t : Scalar) → IsWide t → IsWide (unsigned_of t)
unsigned_wide TheBool wide e = wide e
unsigned_wide Char wide e = cc
unsigned_wide SChar wide e = cc
unsigned_wide UChar wide e = cc
unsigned_wide Short wide e = cc
unsigned_wide UShort wide e = cc
unsigned_wide Int wide e = cc
unsigned_wide UInt wide e = cc
unsigned_wide Long wide e = cc
unsigned_wide ULong wide e = cc
unsigned_wide LongLong wide e = cc
unsigned_wide ULongLong wide e = cc

one_wide : (b : Bool) (s t : Scalar) → IsWide s → IsWide t → IsWide (if b then s else t)
one_wide true s t wide wide' = wide
one_wide false s t wide wide' = wide'

mixed_wide : (s u : Scalar) → IsWide s → IsWide u → IsWide (mixed_type s u)
mixed_wide s u wide wide' = one_wide (nat_le (rank_of s) (rank_of u)) u (if nat_lt (size_of u) (size_of s) then s else unsigned_of s) wide' (one_wide (nat_lt (size_of u) (size_of s)) s (unsigned_of s) wide (unsigned_wide s wide))

by_sign_wide : (a b : Bool) (s t : Scalar) → IsWide s → IsWide t → IsWide (common_by_sign a b s t)
by_sign_wide true true s t wide wide' = one_wide (nat_lt (rank_of s) (rank_of t)) t s wide' wide
by_sign_wide true false s t wide wide' = mixed_wide s t wide wide'
by_sign_wide false true s t wide wide' = mixed_wide t s wide' wide
by_sign_wide false false s t wide wide' = one_wide (nat_lt (rank_of s) (rank_of t)) t s wide' wide

pub common_wide : (s t : Scalar) → IsWide (common_type s t)
common_wide s t = by_sign_wide (is_signed (promoted s)) (is_signed (promoted t)) (promoted s) (promoted t) (promoted_wide s) (promoted_wide t)

-- comparisons of words

pub equal_words : (a b : ℕ) → a < 2 ^ 64 → b < 2 ^ 64 → calculated_word EqualKind word_width (number_of_word word_width a) (number_of_word word_width b) ≡ truth_word (nat_eq a b)
equal_words a b fits fits' =
    let first : a % 256 ^ 8 ≡ a = mod-eq_of_lt fits in
    let second : b % 256 ^ 8 ≡ b = mod-eq_of_lt fits' in
    rw (first, second) (by_words (nat_eq a b) refl)
  where
    by_words : (e : Bool) → nat_eq a b ≡ e → truth_word (not (int_lt (pos a) (pos b)) && not (int_lt (pos b) (pos a))) ≡ truth_word e
    by_words e is = grind (arith, ints, nat_tests)

-- a number that is written, printed whole
pub written_read : (t : Scalar) (z : ℤ) → IsInRange t z → number_of_word (written_width z) (word_of z) ≡ z
written_read t (pos a) r = number_of-word_of (written_width (pos a)) (pos a) (omega arith) (in_word (width_of t).signed a (fits_register t (pos a) r))
  where
    in_word : (signed : Bool) (n : ℕ) → IsInBytes 8 signed (pos n) → IsInBytes 8 false (pos n)
    in_word false n h = h
    in_word true n h = omega arith
written_read t (negsuc a) r = number_of-word_of (written_width (negsuc a)) (negsuc a) (omega arith) (in_word (width_of t).signed a (fits_register t (negsuc a) r))
  where
    in_word : (signed : Bool) (n : ℕ) → IsInBytes 8 signed (negsuc n) → IsInBytes 8 true (negsuc n)
    in_word false n h = absurd h
    in_word true n h = h

-- the test that a word is 0
pub zero_test : (t : Scalar) (z : ℤ) → IsInRange t z → nat_eq (word_of z) 0 ≡ is_number_zero z
zero_test t z r = by_word (word_of z) refl
  where
    some_number : (y : ℤ) → (y ≡ pos 0 → ⊥) → false ≡ is_number_zero y
    some_number (pos zero) other = absurd (other refl)
    some_number (pos (suc a)) other = grind (arith, ints, nat_tests)
    some_number (negsuc a) other = grind (arith, ints, nat_tests)

    by_word : (word : ℕ) → word_of z ≡ word → nat_eq word 0 ≡ is_number_zero z
    by_word zero e = ap is_number_zero (sym (zero_word t z r e))
    by_word (suc word) e = let other : nat_eq (suc word) 0 ≡ false = grind (arith, nat_tests) in other ∙ some_number z (λ is. let none : word_of z ≡ 0 = ap word_of is in omega arith)
