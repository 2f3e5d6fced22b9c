-- One token on its own.
use Rattle.std.proofs.Common.{◌≡◌, ℕ, suc, ◌+◌, ◌*◌, ◌-◌, ◌≤◌, ◌<◌, ◌^◌, Bool, true, false, not, ◌==◌, List, [], ◌∷◌, drop, length, refl, arith, sym, ◌∙◌, Some, None, if◌then◌else◌, nat_lt, get_or}
use Rattle.std.specs.List.{list_all}
use Rattle.std.proofs.lemmas.Bool.{ltb-true}
use Rattle.std.proofs.Math.Seq.{drop-cons}
use Rattle.std.proofs.lemmas.Bool.Decides.{nat_tests}
use Rattle.cxx_text.specs.declared.token.Kind.{Kind}
use Rattle.cxx_text.specs.declared.token.Kind.TheVariants.{Word, Number, Sign}
use Rattle.cxx_text.specs.Bytes.{is_letter, is_digit, is_word_byte, is_one_byte_sign, begins}
use Rattle.cxx_text.specs.OneToken.{is_numeral, decimal, decimal_from, IsToken, word, number, one_byte_sign, two_byte_sign}
use Rattle.cxx_text.specs.invariants.Front.{number_value, value_below}
use Rattle.cxx_text.proofs.Lists.{and_left, and_right, both, all_weaker}
use Rattle.cxx_text.proofs.Classes.{two_first, letter_not_digit, sign_not_letter, sign_not_digit, digit_in_word, begins_apart}

pub numeral_begins : (p : List ℕ) → is_numeral p ≡ true → begins is_digit p ≡ true
numeral_begins [] h = h
numeral_begins (d ∷ []) h = h
numeral_begins (d ∷ e ∷ ds) h =
    and_left (is_digit d) (list_all is_digit (e ∷ ds)) (and_right (not (d == 48)) (list_all is_digit (d ∷ e ∷ ds)) h)

pub numeral_digits : (p : List ℕ) → is_numeral p ≡ true → list_all is_digit p ≡ true
numeral_digits [] h = refl
numeral_digits (d ∷ []) h = both (is_digit d) true h refl
numeral_digits (d ∷ e ∷ ds) h = and_right (not (d == 48)) (list_all is_digit (d ∷ e ∷ ds)) h

pub numeral_in_word : (p : List ℕ) → is_numeral p ≡ true → list_all is_word_byte p ≡ true
numeral_in_word p h = all_weaker is_digit is_word_byte digit_in_word p (numeral_digits p h)

begins_some : (f : ℕ → Bool) (p : List ℕ) → begins f p ≡ true → 0 < length p
begins_some f [] h = absurd (cc)
begins_some f (b ∷ bs) h = omega arith

pub token_some : (p : List ℕ) (k : Kind) (v : ℕ) → IsToken p k v → 0 < length p
token_some p k v (word b bs l all len) = omega arith
token_some p k v (number ds num below) = begins_some is_digit ds (numeral_begins ds num)
token_some p k v (one_byte_sign a h) = omega arith
token_some p k v (two_byte_sign a b h) = omega arith

of_letter : (p : List ℕ) (k : Kind) (v : ℕ) → begins is_letter p ≡ true → IsToken p k v → (k ≡ Word) × (v ≡ 0)
of_letter p k v h (word b bs l all len) = (refl, refl)
of_letter p k v h (number ds num below) = absurd (begins_apart is_letter is_digit letter_not_digit ds h (numeral_begins ds num))
of_letter p k v h (one_byte_sign a s) = absurd (sign_not_letter a s h)
of_letter p k v h (two_byte_sign a b s) = absurd (sign_not_letter a (two_first a b s) h)

of_digit : (p : List ℕ) (k : Kind) (v : ℕ) → begins is_digit p ≡ true → IsToken p k v → (k ≡ Number) × (v ≡ decimal p)
of_digit p k v h (word b bs l all len) = absurd (letter_not_digit b l h)
of_digit p k v h (number ds num below) = (refl, refl)
of_digit p k v h (one_byte_sign a s) = absurd (sign_not_digit a s h)
of_digit p k v h (two_byte_sign a b s) = absurd (sign_not_digit a (two_first a b s) h)

of_sign : (p : List ℕ) (k : Kind) (v : ℕ) → begins is_one_byte_sign p ≡ true → IsToken p k v → (k ≡ Sign) × (v ≡ 0)
of_sign p k v h (word b bs l all len) = absurd (sign_not_letter b h l)
of_sign p k v h (number ds num below) = absurd (begins_apart is_one_byte_sign is_digit sign_not_digit ds h (numeral_begins ds num))
of_sign p k v h (one_byte_sign a s) = (refl, refl)
of_sign p k v h (two_byte_sign a b s) = (refl, refl)

pair_same : (k k' l : Kind) (v v' w : ℕ) → (k ≡ l) × (v ≡ w) → (k' ≡ l) × (v' ≡ w) → (k ≡ k') × (v ≡ v')
pair_same k k' l v v' w a b = (a.0 ∙ sym b.0, a.1 ∙ sym b.1)

-- a piece is one token
pub token_same : (p : List ℕ) (k k' : Kind) (v v' : ℕ) → IsToken p k v → IsToken p k' v' → (k ≡ k') × (v ≡ v')
token_same p k k' v v' (word b bs l all len) t = pair_same k k' Word v v' 0 (refl, refl) (of_letter p k' v' l t)
token_same p k k' v v' (number ds num below) t = pair_same k k' Number v v' (decimal ds) (refl, refl) (of_digit p k' v' (numeral_begins ds num) t)
token_same p k k' v v' (one_byte_sign a s) t = pair_same k k' Sign v v' 0 (refl, refl) (of_sign p k' v' s t)
token_same p k k' v v' (two_byte_sign a b s) t = pair_same k k' Sign v v' 0 (refl, refl) (of_sign p k' v' (two_first a b s) t)

below_some : (d v : ℕ) → value_below d ≡ Some v → (d < 2 ^ 63) × (v ≡ d)
below_some d v h =
    elim (nat_lt d (2 ^ 63)) as (λ b. nat_lt d (2 ^ 63) ≡ b → (if b then Some d else None) ≡ Some v → (d < 2 ^ 63) × (v ≡ d)) [
      | true ↦ λ e g. (ltb-true d (2 ^ 63) e, (cc))
      | false ↦ λ e g. absurd (cc)
    ] refl h

pub number_some : (ds : List ℕ) (v : ℕ) → number_value ds ≡ Some v → (is_numeral ds ≡ true) × (decimal ds < 2 ^ 63) × (v ≡ decimal ds)
number_some ds v h =
    elim (is_numeral ds) as (λ b. is_numeral ds ≡ b → (if b then value_below (decimal ds) else None) ≡ Some v → (is_numeral ds ≡ true) × (decimal ds < 2 ^ 63) × (v ≡ decimal ds)) [
      | true ↦ λ e g. (let s = below_some (decimal ds) v g in (e, s.0, s.1))
      | false ↦ λ e g. absurd (cc)
    ] refl h

pub number_made : (ds : List ℕ) → is_numeral ds ≡ true → decimal ds < 2 ^ 63 → number_value ds ≡ Some (decimal ds)
number_made ds h below =
    let e : nat_lt (decimal ds) (2 ^ 63) ≡ true = grind (arith, nat_tests) in rw (h, e) refl

-- more digits give no less
decimal_grows : (ds : List ℕ) (v : ℕ) → v ≤ decimal_from v ds
decimal_grows [] v = omega arith
decimal_grows (d ∷ ds) v = let g = decimal_grows ds (v * 10 + (d - 48)) in omega arith

-- a front of the digits that is too large makes them too large
pub too_large : (v i : ℕ) (xs : List ℕ) → i < length xs → 2 ^ 63 ≤ v * 10 + (get_or xs i 0 - 48) →
    decimal_from v (drop i xs) ≡ decimal xs → None ≡ value_below (decimal xs)
too_large v i xs h big e =
    let g = decimal_grows (drop (suc i) xs) (v * 10 + (get_or xs i 0 - 48)) in
    let c : decimal_from v (get_or xs i 0 ∷ drop (suc i) xs) ≡ decimal xs = rw (drop-cons xs i 0 h) at e in
    let m : 2 ^ 63 ≤ decimal xs = omega (arith, c, g, big) in
    let t : nat_lt (decimal xs) (2 ^ 63) ≡ false = grind (arith, nat_tests) in rw t refl
