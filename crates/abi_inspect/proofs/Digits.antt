-- The digits of numbers, and what is read of them.
use Rattle.std.proofs.Common.{rules, ◌≡◌, ◌∙◌, ℕ, suc, ◌+◌, ◌%◌, ◌^◌, ◌<◌, ◌≤◌, arith, inl, inr, List, [], ◌∷◌, refl, sym, subst}
use Rattle.std.specs.Prelude.{ℤ, pos, negsuc}
use Rattle.std.specs.Fmt.{decimal, signed_decimal}
use Rattle.std.specs.Str.{IsUtf8}
use Rattle.std.specs.Str.Parse.{digits_value}
use Rattle.std.proofs.lemmas.Str.{IsUtf8-from_ascii}
use Rattle.std.proofs.lemmas.Str.Parse.{IsNumeralModel, IsDigitsTest, numerals_by_value}
use Rattle.std.proofs.lemmas.Fmt.{IsAscii-decimal, digits_decimal}
use Rattle.foundation.proofs.Members.{Has}
use Rattle.byte_code.specs.Numbers.{word_of}
use Rattle.std.proofs.Math.Nat.{mod-eq_of_lt}
use Rattle.abi_inspect.specs.invariants.Digits.{IsBelowWord}

-- digits alone
abbrev pub AreDigits : List ℕ → Type 0
AreDigits [] = Unit {0}
AreDigits (d ∷ ds) = (48 ≤ d) × (d ≤ 57) × AreDigits ds

test : IsDigitsTest AreDigits
test = search rules

own : IsNumeralModel AreDigits (digits_value 10)
own = numerals_by_value AreDigits test

pub decimal_digits : (n : ℕ) → n < 2 ^ 64 → AreDigits (decimal n)
decimal_digits n lt = digits_decimal own n lt

-- a byte below the digits is none of them
pub no_low : (ds : List ℕ) (c : ℕ) → c < 48 → AreDigits ds → Has ds c → ⊥
no_low [] c low are has = absurd has
no_low (d ∷ ds) c low are (inl e) = let high : 48 ≤ d = are.0 in absurd (omega (arith, e))
no_low (d ∷ ds) c low are (inr has) = no_low ds c low are.2 has

pub utf8_digits : (n : ℕ) (text : List ℕ) → n < 2 ^ 64 → text ≡ decimal n → IsUtf8 text
utf8_digits n text lt e = subst IsUtf8 (sym e) (IsUtf8-from_ascii (decimal n) (IsAscii-decimal n lt))

-- a negative number begins with `-`, and no other
pub minus_read : (text digits : List ℕ) (z : ℤ) (read negated : ℕ) → text ≡ 45 ∷ digits → IsBelowWord z → text ≡ signed_decimal z → ((n : ℕ) → n < 2 ^ 64 → digits ≡ decimal n → read ≡ n) → (negated + read) % 2 ^ 64 ≡ 0 → negated < 2 ^ 64 → negated ≡ word_of z
minus_read text digits (pos a) read negated begins small is reads sum fits =
    absurd (no_low (decimal a) 45 (omega arith) (decimal_digits a small) (subst (λ (ds : List ℕ). Has ds 45) (sym begins ∙ is) (inl refl)))
minus_read text digits (negsuc a) read negated begins small is reads sum fits =
    let both : 45 ∷ digits ≡ 45 ∷ decimal (suc a) = sym begins ∙ is in
    let same : digits ≡ decimal (suc a) = cc in
    let value : read ≡ suc a = reads (suc a) small same in
    let low : a % 2 ^ 64 ≡ a = mod-eq_of_lt (omega arith) in
    omega arith

pub plain_read : (text : List ℕ) (z : ℤ) (read : ℕ) → ((rest : List ℕ) → text ≡ 45 ∷ rest → ⊥) → IsBelowWord z → text ≡ signed_decimal z → ((n : ℕ) → n < 2 ^ 64 → text ≡ decimal n → read ≡ n) → read ≡ word_of z
plain_read text (pos a) read begins small is reads =
    let value : read ≡ a = reads a small is in
    value ∙ sym (mod-eq_of_lt small)
plain_read text (negsuc a) read begins small is reads = absurd (begins (decimal (suc a)) is)
