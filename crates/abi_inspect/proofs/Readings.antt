-- The value that is read of a text is the one whose text it is.
use Rattle.std.proofs.Common.{◌≡◌, ◌∙◌, ℕ, zero, suc, ◌≤◌, arith, inl, Option, Some, None, List, [], ◌∷◌, ◌++◌, length, take, refl, ap, sym, subst, append_assoc}
use Rattle.std.specs.Prelude.{ℤ, codes, Contains}
use Rattle.std.specs.Fmt.{decimal, signed_decimal}
use Rattle.std.specs.Int.{w64, to_le_bytes}
use Rattle.foundation.proofs.Members.{Has, contains_from_has, has_right}
use Rattle.cxx_hierarchy.specs.declared.records.ClassId.{ClassId}
use Rattle.cxx_hierarchy.specs.declared.records.Scalar.{Scalar}
use Rattle.cxx_hierarchy.specs.declared.records.ValueType.TheVariants.{Number as NumberType, Pointer as PointerType}
use Rattle.cxx_hierarchy.specs.Scalars.{is_signed, size_of}
use Rattle.byte_code.specs.Numbers.{number_of_bits, word_of}
use Rattle.abi_inspect.specs.declared.seen.SeenValue.{SeenValue}
use Rattle.abi_inspect.specs.declared.seen.SeenValue.TheVariants.{Unset, Number, Null, Place}
use Rattle.abi_inspect.specs.Values.{IsNumberOfLeaf, IsHeapPlace, IsValueOf, number_value_text, value_text}
use Rattle.abi_inspect.specs.invariants.Digits.{IsBelowWord, hex_word}
use Rattle.abi_inspect.specs.invariants.Readable.{IsNarrow, IsPointerValue, number_bits}
use Rattle.abi_inspect.proofs.Cuts.{same_cut}
use Rattle.abi_inspect.proofs.Hex.{digits_many, few_bytes, word_back}
use Rattle.abi_inspect.proofs.Ranges.{below_word, bits_inside, bits_of_word, bytes_of_word, from_width}
use Rattle.abi_inspect.proofs.Tokens.{no_dashes, no_digit, small_word, unset_begins}

pub number_fits : (width : Option ℕ) (t : Scalar) (word : ℕ) → IsNumberOfLeaf width t (number_of_bits (record { bits = number_bits width t; signed = is_signed t }) word)
number_fits width t word = from_width width t (number_of_bits (record { bits = number_bits width t; signed = is_signed t }) word) (bits_inside t (number_bits width t) word)

take_few : (n : ℕ) (xs : List ℕ) → length (take n xs) ≤ n
take_few zero xs = omega arith
take_few (suc n) [] = omega arith
take_few (suc n) (x ∷ xs) = let ih = take_few n xs in omega (arith, ih)

short : (t : Scalar) (z : ℤ) → length (number_value_text None (NumberType t) z) ≤ 16
short t z =
    let many = digits_many (take (size_of t) (to_le_bytes w64 (word_of z))) in
    let few = take_few (size_of t) (to_le_bytes w64 (word_of z)) in
    let size = few_bytes t in
    omega (arith, many, few, size)

pub number_each : (width : Option ℕ) (t : Scalar) (text : List ℕ) (word : ℕ) → IsNarrow width → ((n : ℕ) → width ≡ Some n → (z : ℤ) → IsBelowWord z → text ≡ signed_decimal z → word ≡ word_of z) → (width ≡ None → length text ≤ 16 → word ≡ hex_word text) →
    (z : ℤ) → IsNumberOfLeaf width t z → text ≡ number_value_text width (NumberType t) z → number_of_bits (record { bits = number_bits width t; signed = is_signed t }) word ≡ z
number_each None t text word narrow bits bytes z held is =
    let small : length text ≤ 16 = subst (λ (xs : List ℕ). length xs ≤ 16) (sym is) (short t z) in
    bytes_of_word t z word (bytes refl small ∙ (ap hex_word is ∙ word_back t (word_of z))) held
number_each (Some n) t text word narrow bits bytes z held is =
    ap (number_of_bits (record { bits = n; signed = is_signed t })) (bits n refl z (below_word t n z narrow held) is) ∙ bits_of_word t n z narrow held

-- a text that begins with `--` is of an unset leaf alone
pub dashes_unset : (width : Option ℕ) (t : Scalar) (text rest : List ℕ) (v : SeenValue) → IsNarrow width → text ≡ 45 ∷ 45 ∷ rest → IsValueOf width (NumberType t) v → text ≡ value_text width (NumberType t) v → Unset ≡ v
dashes_unset width t text rest Unset narrow begins fits is = refl
dashes_unset width t text rest (Number z) narrow begins fits is = absurd (no_dashes width t z rest narrow fits (sym is ∙ begins))
dashes_unset width t text rest Null narrow begins fits is = absurd fits
dashes_unset width t text rest (Place number place) narrow begins fits is = absurd fits

-- and any other is of a number
pub other_number : (width : Option ℕ) (t : Scalar) (text : List ℕ) (read : ℤ) (v : SeenValue) → ((rest : List ℕ) → text ≡ 45 ∷ 45 ∷ rest → ⊥) → ((z : ℤ) → IsNumberOfLeaf width t z → text ≡ number_value_text width (NumberType t) z → read ≡ z) → IsValueOf width (NumberType t) v → text ≡ value_text width (NumberType t) v → Number read ≡ v
other_number width t text read Unset begins each fits is = let b = unset_begins width (NumberType t) in absurd (begins b.0 (is ∙ b.1))
other_number width t text read (Number z) begins each fits is = ap Number (each z fits is)
other_number width t text read Null begins each fits is = absurd fits
other_number width t text read (Place number place) begins each fits is = absurd fits

-- pointers

pub grouped : (number place : ℕ) → decimal number ++ codes "+" ++ decimal place ≡ decimal number ++ 43 ∷ decimal place
grouped number place = simp append_assoc

pub plus_there : (text : List ℕ) (number place : ℕ) → (Contains text 43 → ⊥) → text ≡ decimal number ++ codes "+" ++ decimal place → ⊥
plus_there text number place none is =
    none (contains_from_has text 43 (subst (λ (xs : List ℕ). Has xs 43) (sym (is ∙ grouped number place)) (has_right (decimal number) (43 ∷ decimal place) 43 (inl refl))))

pub plus_cut : (text front back : List ℕ) (number place : ℕ) → IsHeapPlace number place → text ≡ front ++ 43 ∷ back → (Contains front 43 → ⊥) → text ≡ decimal number ++ codes "+" ++ decimal place → (front ≡ decimal number) × (back ≡ decimal place)
plus_cut text front back number place is cut before same =
    same_cut front back (decimal number) (decimal place) 43 (sym cut ∙ (same ∙ grouped number place)) (λ has. before (contains_from_has front 43 has)) (λ has. no_digit number 43 (small_word number is.high) (omega arith) has)

pub head_same : (a b : ℕ) (xs ys : List ℕ) → a ∷ xs ≡ b ∷ ys → a ≡ b
head_same a b xs ys e = cc

-- which pointer a text is of
pub hash_pointer : (width : Option ℕ) (c : ClassId) (text rest : List ℕ) (read : SeenValue) (v : SeenValue) → text ≡ 35 ∷ rest → ((number place : ℕ) → IsHeapPlace number place → rest ≡ decimal number ++ codes "+" ++ decimal place → read ≡ Place number place) → IsPointerValue v → text ≡ value_text width (PointerType c) v → read ≡ v
hash_pointer width c text rest read Unset begins each fits is =
    let b = unset_begins width (PointerType c) in
    let both : 35 ∷ rest ≡ 45 ∷ 45 ∷ b.0 = sym begins ∙ (is ∙ b.1) in
    absurd (omega (arith, head_same 35 45 rest (45 ∷ b.0) both))
hash_pointer width c text rest read (Number z) begins each fits is = absurd fits
hash_pointer width c text rest read Null begins each fits is =
    let both : 35 ∷ rest ≡ codes "null" = sym begins ∙ is in
    absurd (omega (arith, head_same 35 110 rest (codes "ull") both))
hash_pointer width c text rest read (Place number place) begins each fits is =
    let both : 35 ∷ rest ≡ 35 ∷ (decimal number ++ codes "+" ++ decimal place) = sym begins ∙ is in
    let same : rest ≡ decimal number ++ codes "+" ++ decimal place = cc in
    each number place fits same

pub null_pointer : (width : Option ℕ) (c : ClassId) (text : List ℕ) (v : SeenValue) → ((rest : List ℕ) → text ≡ 35 ∷ rest → ⊥) → length text ≡ 4 → IsPointerValue v → text ≡ value_text width (PointerType c) v → Null ≡ v
null_pointer None c text Unset begins four fits is = let many = ap length is in absurd (omega (arith, many, four))
null_pointer (Some n) c text Unset begins four fits is = let many = ap length is in absurd (omega (arith, many, four))
null_pointer width c text (Number z) begins four fits is = absurd fits
null_pointer width c text Null begins four fits is = refl
null_pointer width c text (Place number place) begins four fits is = absurd (begins (decimal number ++ codes "+" ++ decimal place) is)

pub unset_pointer : (width : Option ℕ) (c : ClassId) (text : List ℕ) (v : SeenValue) → ((rest : List ℕ) → text ≡ 35 ∷ rest → ⊥) → (length text ≡ 4 → ⊥) → IsPointerValue v → text ≡ value_text width (PointerType c) v → Unset ≡ v
unset_pointer width c text Unset begins other fits is = refl
unset_pointer width c text (Number z) begins other fits is = absurd fits
unset_pointer width c text Null begins other fits is = absurd (other (ap length is))
unset_pointer width c text (Place number place) begins other fits is = absurd (begins (decimal number ++ codes "+" ++ decimal place) is)

-- the values of a leaf that is a pointer
pub to_pointer : (width : Option ℕ) (c : ClassId) (v : SeenValue) → IsValueOf width (PointerType c) v → IsPointerValue v
to_pointer width c Unset fits = tt
to_pointer width c (Number z) fits = absurd fits
to_pointer width c Null fits = tt
to_pointer width c (Place number place) fits = fits

pub from_pointer : (width : Option ℕ) (c : ClassId) (v : SeenValue) → IsPointerValue v → IsValueOf width (PointerType c) v
from_pointer width c Unset fits = tt
from_pointer width c (Number z) fits = absurd fits
from_pointer width c Null fits = tt
from_pointer width c (Place number place) fits = fits
