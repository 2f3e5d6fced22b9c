-- The classes of bytes are apart.
use Rattle.std.proofs.Common.{◌≡◌, ℕ, Bool, true, false, ◌&&◌, ◌||◌, ◌==◌, List, [], ◌∷◌, refl, arith}
use Rattle.std.proofs.lemmas.Bool.{eqb-true}
use Rattle.std.specs.List.{list_any}
use Rattle.std.proofs.lemmas.Bool.Decides.{nat_tests}
use Rattle.cxx_text.specs.Bytes.{is_space, is_letter, is_digit, is_word_byte, is_one_byte_sign, is_two_byte_sign, one_byte_signs, begins}
use Rattle.cxx_text.proofs.Lists.{and_left}

-- what holds of a listed byte holds of some byte of the list
any_holds : (f : ℕ → Bool) (xs : List ℕ) (a : ℕ) → list_any (λ s. s == a) xs ≡ true → f a ≡ true → list_any f xs ≡ true
any_holds f [] a h k = h
any_holds f (x ∷ xs) a h k =
    elim (x == a) as (λ b. (x == a) ≡ b → (b || list_any (λ s. s == a) xs) ≡ true → (f x || list_any f xs) ≡ true) [
      | true ↦ λ e m. (let same : x ≡ a = eqb-true x a e in rw (same, k) refl)
      | false ↦ λ e m. (let ih = any_holds f xs a m k in elim (f x) as (λ v. (v || list_any f xs) ≡ true) [ true ↦ refl | false ↦ ih ])
    ] refl h

pub sign_not_word : (a : ℕ) → is_one_byte_sign a ≡ true → is_word_byte a ≡ true → ⊥
sign_not_word a h w = let e = any_holds is_word_byte one_byte_signs a h w in cc

pub letter_not_digit : (b : ℕ) → is_letter b ≡ true → is_digit b ≡ true → ⊥
letter_not_digit b l d = grind (arith, nat_tests)

pub letter_in_word : (b : ℕ) → is_letter b ≡ true → is_word_byte b ≡ true
letter_in_word b h = rw h refl

pub digit_in_word : (b : ℕ) → is_digit b ≡ true → is_word_byte b ≡ true
digit_in_word b h = rw h (elim (is_letter b) as (λ v. (v || true) ≡ true) [ true ↦ refl | false ↦ refl ])

or_elim : (p q c : Bool) → (p ≡ true → c ≡ true) → (q ≡ true → c ≡ true) → p || q ≡ true → c ≡ true
or_elim true q c f g h = f refl
or_elim false q c f g h = g h

pair_first : (x a : ℕ) (q : Bool) → is_one_byte_sign x ≡ true → (a == x) && q ≡ true → is_one_byte_sign a ≡ true
pair_first x a q s h = rw (eqb-true a x (and_left (a == x) q h)) s

-- the first byte of a sign of two is one
pub two_first : (a b : ℕ) → is_two_byte_sign a b ≡ true → is_one_byte_sign a ≡ true
two_first a b h =
    let colon : Bool = (a == 58 && b == 58) in
    let same : Bool = (a == 61 && b == 61) in
    let other : Bool = (a == 33 && b == 61) in
    let arrow : Bool = (a == 45 && b == 62) in
    let most : Bool = (a == 60 && b == 61) in
    let c : Bool = is_one_byte_sign a in
    or_elim (((colon || same) || other) || arrow) most c
    (or_elim ((colon || same) || other) arrow c
    (or_elim (colon || same) other c
    (or_elim colon same c (pair_first 58 a (b == 58) refl) (pair_first 61 a (b == 61) refl))
    (pair_first 33 a (b == 61) refl))
    (pair_first 45 a (b == 62) refl))
    (pair_first 60 a (b == 61) refl) h

pub sign_not_letter : (a : ℕ) → is_one_byte_sign a ≡ true → is_letter a ≡ true → ⊥
sign_not_letter a h l = sign_not_word a h (letter_in_word a l)

pub sign_not_digit : (a : ℕ) → is_one_byte_sign a ≡ true → is_digit a ≡ true → ⊥
sign_not_digit a h d = sign_not_word a h (digit_in_word a d)

-- a text does not begin in two classes that are apart
pub begins_apart : (f g : ℕ → Bool) → ((b : ℕ) → f b ≡ true → g b ≡ true → ⊥) → (text : List ℕ) → begins f text ≡ true → begins g text ≡ true → ⊥
begins_apart f g clash [] h k = absurd (cc)
begins_apart f g clash (b ∷ bs) h k = clash b h k

pub space_not_slash : (b : ℕ) → is_space b ≡ true → (b == 47) ≡ false
space_not_slash b h =
    elim (b == 47) as (λ v. (b == 47) ≡ v → v ≡ false) [
      | true ↦ λ e. (let same : b ≡ 47 = eqb-true b 47 e in let k : is_space 47 ≡ true = rw same at h in absurd (cc))
      | false ↦ λ e. refl
    ] refl
