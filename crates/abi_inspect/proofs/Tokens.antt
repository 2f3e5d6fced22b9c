-- The text of a value has no space, and says which kind of value it is of.
use Rattle.std.proofs.Common.{◌≡◌, ℕ, zero, suc, ◌^◌, ◌<◌, ◌≤◌, ⊎_elim, arith, inl, inr, Option, Some, None, List, [], ◌∷◌, ◌++◌, take, refl, sym, subst}
use Rattle.std.specs.Prelude.{ℤ, pos, negsuc, codes}
use Rattle.std.specs.Fmt.{decimal, signed_decimal}
use Rattle.std.specs.Int.{w64, to_le_bytes}
use Rattle.foundation.proofs.Members.{Has, has_cases}
use Rattle.cxx_hierarchy.specs.declared.records.ClassId.{ClassId}
use Rattle.cxx_hierarchy.specs.declared.records.Scalar.{Scalar}
use Rattle.cxx_hierarchy.specs.declared.records.Scalar.TheVariants.{Bool as TheBool, Char, SChar, UChar, Short, UShort, Int, UInt, Long, ULong, LongLong, ULongLong}
use Rattle.cxx_hierarchy.specs.declared.records.ValueType.{ValueType}
use Rattle.cxx_hierarchy.specs.declared.records.ValueType.TheVariants.{Number as NumberType, Pointer as PointerType}
use Rattle.cxx_hierarchy.specs.Scalars.{size_of}
use Rattle.byte_code.specs.Numbers.{word_of}
use Rattle.abi_print.specs.Texts.{location_text}
use Rattle.text_told.specs.Dumps.{unset_text}
use Rattle.abi_inspect.specs.declared.seen.SeenValue.{SeenValue}
use Rattle.abi_inspect.specs.declared.seen.SeenValue.TheVariants.{Unset, Number, Null, Place}
use Rattle.abi_inspect.specs.Values.{IsNumberOfLeaf, IsHeapPlace, IsValueOf, number_value_text, unset_value, value_text}
use Rattle.abi_inspect.specs.invariants.Digits.{IsBelowWord}
use Rattle.abi_inspect.specs.invariants.Readable.{IsNarrow}
use Rattle.abi_inspect.proofs.Digits.{decimal_digits, no_low}
use Rattle.abi_inspect.proofs.Hex.{no_space_in_bytes}
use Rattle.abi_inspect.proofs.Ranges.{below_word}

-- an unset leaf begins with `--`
pub unset_begins : (width : Option ℕ) (type : ValueType ClassId) → (r : List ℕ) × (unset_value width type ≡ 45 ∷ 45 ∷ r)
unset_begins None (NumberType TheBool) = ([], refl)
unset_begins None (NumberType Char) = ([], refl)
unset_begins None (NumberType SChar) = ([], refl)
unset_begins None (NumberType UChar) = ([], refl)
unset_begins None (NumberType Short) = (unset_text 1, refl)
unset_begins None (NumberType UShort) = (unset_text 1, refl)
unset_begins None (NumberType Int) = (unset_text 3, refl)
unset_begins None (NumberType UInt) = (unset_text 3, refl)
unset_begins None (NumberType Long) = (unset_text 7, refl)
unset_begins None (NumberType ULong) = (unset_text 7, refl)
unset_begins None (NumberType LongLong) = (unset_text 7, refl)
unset_begins None (NumberType ULongLong) = (unset_text 7, refl)
unset_begins None (PointerType c) = (unset_text 7, refl)
unset_begins (Some n) type = ([], refl)

dashes : (n c : ℕ) → c < 45 → Has (unset_text n) c → ⊥
dashes zero c low has = absurd has
dashes (suc n) c low has = ⊎_elim (λ h. dashes n c low h) last (has_cases (unset_text n) (codes "--") c has)
  where
    last : Has (codes "--") c → ⊥
    last (inl e) = absurd (omega (arith, e))
    last (inr (inl e)) = absurd (omega (arith, e))
    last (inr (inr h)) = absurd h

no_unset : (width : Option ℕ) (t : ValueType ClassId) → Has (unset_value width t) 32 → ⊥
no_unset None (NumberType t) has = dashes (size_of t) 32 (omega arith) has
no_unset None (PointerType c) has = dashes 8 32 (omega arith) has
no_unset (Some n) t has = dashes 1 32 (omega arith) has

no_signed : (z : ℤ) → IsBelowWord z → Has (signed_decimal z) 32 → ⊥
no_signed (pos a) small has = no_low (decimal a) 32 (omega arith) (decimal_digits a small) has
no_signed (negsuc a) small (inl e) = absurd (omega (arith, e))
no_signed (negsuc a) small (inr has) = no_low (decimal (suc a)) 32 (omega arith) (decimal_digits (suc a) small) has

no_number : (width : Option ℕ) (t : Scalar) (z : ℤ) → IsNarrow width → IsNumberOfLeaf width t z → Has (number_value_text width (NumberType t) z) 32 → ⊥
no_number None t z narrow held has = no_space_in_bytes (take (size_of t) (to_le_bytes w64 (word_of z))) 32 (omega arith) has
no_number (Some n) t z narrow held has = no_signed z (below_word t n z narrow held) has

no_null : Has (codes "null") 32 → ⊥
no_null (inl e) = absurd (omega (arith, e))
no_null (inr (inl e)) = absurd (omega (arith, e))
no_null (inr (inr (inl e))) = absurd (omega (arith, e))
no_null (inr (inr (inr (inl e)))) = absurd (omega (arith, e))
no_null (inr (inr (inr (inr h)))) = absurd h

pub no_digit : (n c : ℕ) → n < 2 ^ 64 → c < 48 → Has (decimal n) c → ⊥
no_digit n c lt low has = no_low (decimal n) c low (decimal_digits n lt) has

-- the places of a dump are below the numbers that digits are read of
pub small_word : (n : ℕ) → n ≤ 4294967295 → n < 2 ^ 64
small_word n le = omega arith

no_place : (number place : ℕ) → IsHeapPlace number place → Has (location_text number place) 32 → ⊥
no_place number place is (inl e) = absurd (omega (arith, e))
no_place number place is (inr has) =
    ⊎_elim front back (has_cases (decimal number ++ codes "+") (decimal place) 32 has)
  where
    plus : Has (codes "+") 32 → ⊥
    plus (inl e) = absurd (omega (arith, e))
    plus (inr h) = absurd h

    front : Has (decimal number ++ codes "+") 32 → ⊥
    front h = ⊎_elim (λ d. no_digit number 32 (small_word number is.high) (omega arith) d) plus (has_cases (decimal number) (codes "+") 32 h)

    back : Has (decimal place) 32 → ⊥
    back h = no_digit place 32 (small_word place is.near) (omega arith) h

-- no text of a value has a space
pub no_space : (width : Option ℕ) (type : ValueType ClassId) (v : SeenValue) → IsNarrow width → IsValueOf width type v → Has (value_text width type v) 32 → ⊥
no_space width (NumberType t) Unset narrow fits has = no_unset width (NumberType t) has
no_space width (NumberType t) (Number z) narrow fits has = no_number width t z narrow fits has
no_space width (NumberType t) Null narrow fits has = absurd fits
no_space width (NumberType t) (Place number place) narrow fits has = absurd fits
no_space width (PointerType c) Unset narrow fits has = no_unset width (PointerType c) has
no_space width (PointerType c) (Number z) narrow fits has = absurd fits
no_space width (PointerType c) Null narrow fits has = no_null has
no_space width (PointerType c) (Place number place) narrow fits has = no_place number place fits has

-- a number does not begin with `--`
pub no_dashes : (width : Option ℕ) (t : Scalar) (z : ℤ) (rest : List ℕ) → IsNarrow width → IsNumberOfLeaf width t z → number_value_text width (NumberType t) z ≡ 45 ∷ 45 ∷ rest → ⊥
no_dashes None t z rest narrow held e =
    no_space_in_bytes (take (size_of t) (to_le_bytes w64 (word_of z))) 45 (omega arith) (subst (λ (ds : List ℕ). Has ds 45) (sym e) (inl refl))
no_dashes (Some n) t (pos a) rest narrow held e =
    no_digit a 45 (below_word t n (pos a) narrow held) (omega arith) (subst (λ (ds : List ℕ). Has ds 45) (sym e) (inl refl))
no_dashes (Some n) t (negsuc a) rest narrow held e =
    let same : decimal (suc a) ≡ 45 ∷ rest = cc in
    no_digit (suc a) 45 (below_word t n (negsuc a) narrow held) (omega arith) (subst (λ (ds : List ℕ). Has ds 45) (sym same) (inl refl))
