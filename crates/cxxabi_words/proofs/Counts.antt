-- The number that digits say, as a function and as a relation.
use Rattle.std.proofs.Common.{◌≡◌, ℕ, ◌≤◌, ◌<◌, ◌^◌, true, false, Ok, Err, [], ◌∷◌, Option, Some, None, length, refl, sym, ap, subst, leb-true, le-leb, rules, arith}
use Rattle.std.specs.Prelude.{nat_le, if◌then◌else◌}
use Rattle.std.specs.Char.{is_ascii_digit}
use Rattle.std.specs.List.{list_all}
use Rattle.std.specs.Str.Parse.{digits_value, ParsesUnsigned}
use Rattle.std.specs.declared.num.ParseIntError.{ParseIntError}
use Rattle.std.proofs.lemmas.Bool.{and_parts}
use Rattle.std.proofs.lemmas.Str.Parse.{IsDigitsTest, IsNumeralModel, numerals_by_value, parse_digits}
use Rattle.clap.specs.Words.{Text}
use Rattle.foundation.proofs.Truth.{is_false, not_both, split}
use Rattle.cxxabi_words.specs.Commands.{IsCount, IsBudget, budget}
use Rattle.cxxabi_words.specs.invariants.Asked.{is_count, count_in_digits, budgeted}
use Rattle.foundation.specs.Limits.{most_steps}

digits_test : IsDigitsTest (λ ds. list_all is_ascii_digit ds ≡ true)
digits_test = search rules

-- texts of digits, by the test of each byte
pub digits_by_test : IsNumeralModel (λ ds. list_all is_ascii_digit ds ≡ true) (digits_value 10)
digits_by_test = numerals_by_value _ digits_test

some_digit : (digits : Text) → 1 ≤ digits_value 10 digits → 1 ≤ length digits
some_digit [] h = h
some_digit (d ∷ ds) h = omega arith

passed : (places most : ℕ) (digits : Text) → is_count places most digits ≡ true → IsCount places most digits (digits_value 10 digits)
passed places most digits h =
    let short = and_parts (nat_le (length digits) places) _ h in
    let all = and_parts (list_all is_ascii_digit digits) _ short.1 in
    let least = and_parts (nat_le 1 (digits_value 10 digits)) (nat_le (digits_value 10 digits) most) all.1 in
    let some : 1 ≤ digits_value 10 digits = leb-true 1 (digits_value 10 digits) least.0 in
    record {
      numeral = (some_digit digits some, digits_by_test.to digits all.0);
      short = leb-true (length digits) places short.0;
      value = refl;
      least = some;
      within = leb-true (digits_value 10 digits) most least.1;
    }

-- what the function gives is what the digits say
pub counted_sound : (places most : ℕ) (digits : Text) (n : ℕ) → count_in_digits places most digits ≡ Some n → IsCount places most digits n
unfolding count_in_digits
counted_sound places most digits n =
    split (is_count places most digits) (λ b. (if b then Some (digits_value 10 digits) else None) ≡ Some n → IsCount places most digits n)
    (λ is same. let one : digits_value 10 digits ≡ n = cc in subst (λ k. IsCount places most digits k) one (passed places most digits is))
    (λ other same. cc)

passes : (places most : ℕ) (digits : Text) (n : ℕ) → IsCount places most digits n → is_count places most digits ≡ true
passes places most digits n is =
    let value = is.value in
    let least = is.least in
    let within = is.within in
    let short = le-leb (length digits) places is.short in
    let all = digits_by_test.from digits is.numeral.1 in
    let low = le-leb 1 (digits_value 10 digits) (omega arith) in
    let high = le-leb (digits_value 10 digits) most (omega arith) in
    rw (short, all, low, high) refl

-- what the digits say is what the function gives
pub counted_complete : (places most : ℕ) (digits : Text) (n : ℕ) → IsCount places most digits n → count_in_digits places most digits ≡ Some n
unfolding count_in_digits
counted_complete places most digits n is = rw (passes places most digits n is) (ap Some (sym is.value))

pub budgeted_sound : (steps : Option Text) (n : ℕ) → budgeted steps ≡ Some n → IsBudget steps n
budgeted_sound None n same = let one : budget ≡ n = cc in sym one
budgeted_sound (Some digits) n same = counted_sound 7 most_steps digits n same

pub budgeted_complete : (steps : Option Text) (n : ℕ) → IsBudget steps n → budgeted steps ≡ Some n
budgeted_complete None n is = ap Some (sym is)
budgeted_complete (Some digits) n is = counted_complete 7 most_steps digits n is

-- digits that are no number from one to the most
pub not_counted : (places most : ℕ) (digits : Text) → (IsCount places most digits (digits_value 10 digits) → ⊥) → None ≡ count_in_digits places most digits
unfolding count_in_digits
not_counted places most digits none = let off = is_false (is_count places most digits) (λ on. none (passed places most digits on)) in rw off refl

-- a word that is too long, or that has another byte than a digit
pub too_long : (places most : ℕ) (digits : Text) → places < length digits → None ≡ count_in_digits places most digits
too_long places most digits long = not_counted places most digits (λ is. let short = is.short in omega arith)

pub no_digits : (places most : ℕ) (digits : Text) → list_all is_ascii_digit digits ≡ false → None ≡ count_in_digits places most digits
no_digits places most digits off = not_counted places most digits (λ is. not_both (digits_by_test.from digits is.numeral.1) off)

module _ (places most : ℕ) (digits : Text) (all : list_all is_ascii_digit digits ≡ true) where
  -- the number that is read of digits
  pub number_read : (n : ℕ) → ParsesUnsigned {E = ParseIntError} 32 10 digits (Ok n) → length digits ≤ places → 1 ≤ n → n ≤ most → Some n ≡ count_in_digits places most digits
  number_read n read short least within =
      let is = parse_digits digits_by_test {E = ParseIntError} 32 digits (Ok n) read all in
      sym (counted_complete places most digits n (record { numeral = (is.0.0, digits_by_test.to digits all); short = short; value = is.1; least = least; within = within }))

  -- the number is none from one to the most
  pub number_off : (n : ℕ) → ParsesUnsigned {E = ParseIntError} 32 10 digits (Ok n) → (1 ≤ n → n ≤ most → ⊥) → None ≡ count_in_digits places most digits
  number_off n read off =
      let same = (parse_digits digits_by_test {E = ParseIntError} 32 digits (Ok n) read all).1 in
      not_counted places most digits (λ is. let least = is.least in let within = is.within in off (omega arith) (omega arith))

  -- no number is read, since it is too large
  pub no_number : (e : ParseIntError) → ParsesUnsigned {E = ParseIntError} 32 10 digits (Err e) → most < 2 ^ 32 → None ≡ count_in_digits places most digits
  no_number e read few =
      let none = parse_digits digits_by_test {E = ParseIntError} 32 digits (Err e) read all in
      not_counted places most digits (λ is. let within = is.within in none (is.numeral.0, omega arith))
