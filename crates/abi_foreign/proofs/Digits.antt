-- Numbers at the front of a text.
use Rattle.std.proofs.Common.{◌≡◌, ◌∙◌, ℕ, zero, suc, ◌+◌, ◌-◌, ◌*◌, ◌<◌, ◌≤◌, ◌^◌, true, false, Some, None, List, [], ◌∷◌, ◌++◌, length, get_or, take, refl, sym, ap, subst, arith, rules}
use Rattle.std.specs.Char.{is_ascii_digit}
use Rattle.std.specs.List.{list_all}
use Rattle.std.specs.Fmt.{decimal}
use Rattle.std.proofs.lemmas.Bool.{and_parts}
use Rattle.std.proofs.lemmas.List.{append_cancel_left}
use Rattle.std.proofs.lemmas.Str.Parse.{IsDigitsTest, FoldsDigits, IsNumeralModel, numerals_by_fold, digit_at}
use Rattle.foundation.proofs.Places.{take_next, any_default}
use Rattle.std.proofs.lemmas.Fmt.{digits_decimal, digits_value-decimal, decimal_injective, decimal_nonempty, first_decimal, decimal-digits_value, length-decimal-le}
use Rattle.abi_foreign.specs.Lines.{most_number}
use Rattle.abi_foreign.specs.invariants.Pieces.{IsNotBehind, IsNoDigit, IsApart, read_on, DigitsSay, BeginsWithNumber, HasNoNumber, IsNumberBefore, HasNoneBefore}

digits_test : IsDigitsTest (λ ds. list_all is_ascii_digit ds ≡ true)
digits_test = search rules

folds : FoldsDigits read_on
folds = search rules

-- texts of digits, and the numbers that they say
own : IsNumeralModel (λ ds. list_all is_ascii_digit ds ≡ true) (read_on 0)
own = numerals_by_fold _ digits_test read_on folds

small : (n : ℕ) → n ≤ most_number → n < 2 ^ 64
small n h = omega arith

-- digits at the front of a text, up to what is no digit, are one text
pub digits_once : (a b x y : List ℕ) → list_all is_ascii_digit a ≡ true → list_all is_ascii_digit b ≡ true → IsNoDigit x → IsNoDigit y → a ++ x ≡ b ++ y → (a ≡ b) × (x ≡ y)
digits_once [] [] x y all other nx ny e = (refl, e)
digits_once [] (d ∷ b) x y all other nx ny e =
    let off : is_ascii_digit d ≡ false = subst IsNoDigit e nx in
    let on = and_parts (is_ascii_digit d) (list_all is_ascii_digit b) other in
    let is : is_ascii_digit d ≡ true = on.0 in absurd (cc)
digits_once (c ∷ a) [] x y all other nx ny e =
    let off : is_ascii_digit c ≡ false = subst IsNoDigit (sym e) ny in
    let on = and_parts (is_ascii_digit c) (list_all is_ascii_digit a) all in
    let is : is_ascii_digit c ≡ true = on.0 in absurd (cc)
digits_once (c ∷ a) (d ∷ b) x y all other nx ny e =
    let first : c ≡ d = cc in
    let rest : a ++ x ≡ b ++ y = cc in
    let more = digits_once a b x y (and_parts (is_ascii_digit c) (list_all is_ascii_digit a) all).1 (and_parts (is_ascii_digit d) (list_all is_ascii_digit b) other).1 nx ny rest in
    let same : a ≡ b = more.0 in (cc, more.1)

decimal_digits : (n : ℕ) → n ≤ most_number → list_all is_ascii_digit (decimal n) ≡ true
decimal_digits n h = digits_decimal own n (small n h)

-- what a number at the front of a text is written with
number_digits : (text digits rest : List ℕ) → text ≡ digits ++ rest → list_all is_ascii_digit digits ≡ true → IsNoDigit rest → (n : ℕ) (other : List ℕ) → BeginsWithNumber text n other → digits ≡ decimal n
number_digits text digits rest e all ends n other is =
    (digits_once digits (decimal n) rest other all (decimal_digits n is.small) ends is.ends (sym e ∙ is.is)).0

not_empty : (digits : List ℕ) → [] ≡ digits → 0 < length digits → ⊥
not_empty [] e some = omega arith
not_empty (d ∷ digits) e some = absurd (cc)

pub no_digits : (text rest : List ℕ) → text ≡ [] ++ rest → IsNoDigit rest → HasNoNumber text
no_digits text rest e ends n other is =
    let same : [] ≡ decimal n = number_digits text [] rest e refl ends n other is in
    not_empty (decimal n) same (decimal_nonempty n (small n is.small))

zero_alone : (n : ℕ) → n ≤ most_number → get_or (decimal n) 0 0 ≡ 48 → length (decimal n) ≤ 1
zero_alone zero h first = length-decimal-le 1 0 (omega arith) (omega arith) (omega arith)
zero_alone (suc n) h first =
    let positive : 0 < suc n = omega arith in
    let more : 48 < get_or (decimal (suc n)) 0 0 = first_decimal (suc n) positive (small (suc n) h) in
    absurd (omega arith)

pub leading_zero : (text rest digits : List ℕ) (second : ℕ) → text ≡ (48 ∷ second ∷ digits) ++ rest → list_all is_ascii_digit (48 ∷ second ∷ digits) ≡ true → IsNoDigit rest → HasNoNumber text
leading_zero text rest digits second e all ends n other is =
    let same : 48 ∷ second ∷ digits ≡ decimal n = number_digits text (48 ∷ second ∷ digits) rest e all ends n other is in
    let first : get_or (decimal n) 0 0 ≡ 48 = ap (λ (ds : List ℕ). get_or ds 0 0) (sym same) in
    let short = zero_alone n is.small first in
    let long : length (48 ∷ second ∷ digits) ≤ 1 = subst (λ (ds : List ℕ). length ds ≤ 1) (sym same) short in
    absurd (omega arith)

pub too_large : (text digits rest : List ℕ) → text ≡ digits ++ rest → list_all is_ascii_digit digits ≡ true → IsNoDigit rest → DigitsSay digits None → HasNoNumber text
too_large text digits rest e all ends large n other is =
    let same : digits ≡ decimal n = number_digits text digits rest e all ends n other is in
    let value : read_on 0 (decimal n) ≡ n = digits_value-decimal own n (small n is.small) in
    let more : most_number < read_on 0 (decimal n) = subst (λ (ds : List ℕ). most_number < read_on 0 ds) same large in
    let within : n ≤ most_number = is.small in
    absurd (omega arith)

pub number_read : (text digits rest : List ℕ) (n : ℕ) → text ≡ digits ++ rest → list_all is_ascii_digit digits ≡ true → IsNoDigit rest → 0 < length digits → (get_or digits 0 0 ≡ 48 → length digits ≡ 1) → DigitsSay digits (Some n) → BeginsWithNumber text n rest
number_read text digits rest n e all ends some plain value =
    let within : n ≤ most_number = value.1 in
    let is : n ≡ read_on 0 digits = value.0 in
    let below : read_on 0 digits < 2 ^ 64 = subst (λ (k : ℕ). k < 2 ^ 64) is (small n within) in
    let written : decimal (read_on 0 digits) ≡ digits = decimal-digits_value own digits all some plain below in
    record { is = e ∙ ap (λ (ds : List ℕ). ds ++ rest) (sym (ap decimal is ∙ written)); small = within; ends = ends }

no_digit : (piece other : List ℕ) → IsApart piece → IsNoDigit (piece ++ other)
no_digit [] other apart = absurd apart
no_digit (c ∷ piece) other apart = apart

pub none_before : (text piece : List ℕ) → IsApart piece → HasNoNumber text → HasNoneBefore text piece
none_before text piece apart none m other within e = none m (piece ++ other) (record { is = e; small = within; ends = no_digit piece other apart })

pub not_before : (text piece : List ℕ) (n : ℕ) (rest : List ℕ) → IsApart piece → BeginsWithNumber text n rest → IsNotBehind rest piece → HasNoneBefore text piece
not_before text piece n rest apart is none m other within e =
    none other (digits_once (decimal n) (decimal m) rest (piece ++ other) (decimal_digits n is.small) (decimal_digits m within) is.ends (no_digit piece other apart) (sym is.is ∙ e)).1

pub before_read : (text piece : List ℕ) (n : ℕ) (mid rest : List ℕ) → IsApart piece → BeginsWithNumber text n mid → mid ≡ piece ++ rest → IsNumberBefore text piece n rest
before_read text piece n mid rest apart is behind = record {
  is = is.is ∙ ap (λ (t : List ℕ). decimal n ++ t) behind;
  small = is.small;
  only = λ m other within e.
      let once = digits_once (decimal m) (decimal n) (piece ++ other) mid (decimal_digits m within) (decimal_digits n is.small) (no_digit piece other apart) is.ends (sym e ∙ is.is) in
      (decimal_injective m n (small m within) (small n is.small) once.0, append_cancel_left piece other rest (once.1 ∙ behind));
}

grows : (n : ℕ) (digits : List ℕ) → n ≤ read_on n digits
grows n [] = omega arith
grows n (d ∷ digits) = let more = grows (10 * n + (d - 48)) digits in omega arith

grows_at : (n : ℕ) (digits : List ℕ) (i : ℕ) → i < length digits → 10 * read_on n (take i digits) ≤ read_on n digits
grows_at n [] i h = absurd (omega arith)
grows_at n (d ∷ digits) zero h = let more = grows (10 * n + (d - 48)) digits in omega arith
grows_at n (d ∷ digits) (suc i) h = grows_at (10 * n + (d - 48)) digits i (omega arith)

-- digits are too many where those before the last are too large
pub too_much : (digits : List ℕ) (i value : ℕ) → i < length digits → value ≡ read_on 0 (take i digits) → 104857 < value → most_number < read_on 0 digits
too_much digits i value h is large = let more = grows_at 0 digits i h in omega arith

read_last : (n : ℕ) (digits : List ℕ) (d : ℕ) → read_on n (digits ++ d ∷ []) ≡ 10 * read_on n digits + (d - 48)
read_last n [] d = refl
read_last n (c ∷ digits) d = read_last (10 * n + (c - 48)) digits d

-- one digit more
pub read_next : (digits : List ℕ) (i d : ℕ) → i < length digits → d ≡ get_or digits i d → read_on 0 (take (i + 1) digits) ≡ 10 * read_on 0 (take i digits) + (d - 48)
read_next digits i d h is = ap (read_on 0) (take_next digits i d h is) ∙ read_last 0 (take i digits) d

pub digit_within : (digits : List ℕ) (i : ℕ) → list_all is_ascii_digit digits ≡ true → i < length digits → (48 ≤ get_or digits i 0) × (get_or digits i 0 ≤ 57)
digit_within digits i all h = let inside = digit_at digits i (own.to digits all) h in (omega arith, omega arith)

-- the number so far, with one digit more
pub next_value : (digits : List ℕ) (i value : ℕ) → list_all is_ascii_digit digits ≡ true → i < length digits → value ≡ read_on 0 (take i digits) → value ≤ 104857 →
    (10 * value + (get_or digits i 0 - 48) ≡ read_on 0 (take (i + 1) digits)) × (10 * value + (get_or digits i 0 - 48) ≤ 1048579)
next_value digits i value all h is low =
    let at = digit_within digits i all h in
    let more = read_next digits i (get_or digits i 0) h (any_default digits i 0 (get_or digits i 0) h) in
    (ap (λ (n : ℕ). 10 * n + (get_or digits i 0 - 48)) is ∙ sym more, let high = at.1 in omega arith)

-- a text that begins with no digit
pub empty_digits : (text digits rest : List ℕ) → length digits < 1 → text ≡ digits ++ rest → IsNoDigit rest → HasNoNumber text
empty_digits text [] rest none e ends = no_digits text rest e ends
empty_digits text (d ∷ digits) rest none e ends = absurd (omega arith)

pub zero_first : (text digits rest : List ℕ) → 2 ≤ length digits → get_or digits 0 0 ≡ 48 → text ≡ digits ++ rest → list_all is_ascii_digit digits ≡ true → IsNoDigit rest → HasNoNumber text
zero_first text [] rest long first e all ends = absurd (omega arith)
zero_first text (d ∷ []) rest long first e all ends = absurd (omega arith)
zero_first text (d ∷ second ∷ digits) rest long first e all ends =
    leading_zero text rest digits second (e ∙ ap (λ (c : ℕ). (c ∷ second ∷ digits) ++ rest) first) (subst (λ (c : ℕ). list_all is_ascii_digit (c ∷ second ∷ digits) ≡ true) first all) ends

-- a number and what stands behind it are written once
pub number_once : (m n : ℕ) (piece x y : List ℕ) → IsApart piece → m ≤ most_number → n ≤ most_number → decimal m ++ (piece ++ x) ≡ decimal n ++ (piece ++ y) → (m ≡ n) × (x ≡ y)
number_once m n piece x y apart low small_too e =
    let once = digits_once (decimal m) (decimal n) (piece ++ x) (piece ++ y) (decimal_digits m low) (decimal_digits n small_too) (no_digit piece x apart) (no_digit piece y apart) e in
    (decimal_injective m n (small m low) (small n small_too) once.0, append_cancel_left piece x y once.1)
