-- The first line of a dump has one reading.
use Rattle.std.proofs.Common.{◌≡◌, ◌∙◌, ℕ, ◌<◌, ◌≤◌, ⊎_elim, arith, inl, inr, Bool, true, false, List, [], ◌∷◌, ◌++◌, length, take, drop, ◌-◌, refl, ap, sym, subst, append_assoc}
use Rattle.std.specs.Prelude.{Contains, codes, ◌&&◌, not, ◌==◌, slice_index_or}
use Rattle.std.specs.List.{list_all}
use Rattle.std.proofs.lemmas.List.{append_cancel_left, take_all}
use Rattle.std.proofs.lemmas.Bool.Decides.{nat_tests}
use Rattle.foundation.proofs.Members.{Has, contains_from_has, has_cases, has_from_contains, has_left, has_right}
use Rattle.cxx_text.specs.Bytes.{is_digit, is_letter, is_word_byte}
use Rattle.cxx_text.specs.OneToken.{IsToken, is_numeral}
use Rattle.cxx_text.specs.OneToken.IsToken.{word}
use Rattle.cxx_text.specs.declared.token.Kind.TheVariants.{Word}
use Rattle.abi_inspect.specs.invariants.FirstLines.{IsFirstLine}
use Rattle.abi_inspect.proofs.Cuts.{same_cut}

-- the parts with one byte between two
grouped : (n w s r : List ℕ) → codes "dump #" ++ n ++ codes " " ++ w ++ codes " " ++ s ++ codes "\n" ++ r ≡ codes "dump #" ++ ((n ++ 32 ∷ (w ++ 32 ∷ s)) ++ 10 ∷ r)
grouped n w s r = simp append_assoc

no_line_feed : (n w s : List ℕ) → (Has n 10 → ⊥) → (Has w 10 → ⊥) → (Has s 10 → ⊥) → Has (n ++ 32 ∷ (w ++ 32 ∷ s)) 10 → ⊥
no_line_feed n w s nn nw ns has = ⊎_elim nn behind (has_cases n (32 ∷ (w ++ 32 ∷ s)) 10 has)
  where
    size : Has (32 ∷ s) 10 → ⊥
    size (inl e) = absurd (omega (arith, e))
    size (inr h) = ns h

    behind : Has (32 ∷ (w ++ 32 ∷ s)) 10 → ⊥
    behind (inl e) = absurd (omega (arith, e))
    behind (inr h) = ⊎_elim nw size (has_cases w (32 ∷ s) 10 h)

as_has : (xs : List ℕ) (c : ℕ) → (Contains xs c → ⊥) → Has xs c → ⊥
as_has xs c none has = none (contains_from_has xs c has)

module _ (n w s r text : List ℕ) (line : IsFirstLine n w s r text) where
  all_grouped : text ≡ codes "dump #" ++ ((n ++ 32 ∷ (w ++ 32 ∷ s)) ++ 10 ∷ r)
  all_grouped = line.is ∙ grouped n w s r

  pub behind_front : (rest : List ℕ) → text ≡ codes "dump #" ++ rest → rest ≡ (n ++ 32 ∷ (w ++ 32 ∷ s)) ++ 10 ∷ r
  behind_front rest is = append_cancel_left (codes "dump #") rest ((n ++ 32 ∷ (w ++ 32 ∷ s)) ++ 10 ∷ r) (sym is ∙ all_grouped)

  pub has_line : (rest : List ℕ) → text ≡ codes "dump #" ++ rest → (Contains rest 10 → ⊥) → ⊥
  has_line rest is none =
      none (contains_from_has rest 10 (subst (λ (l : List ℕ). Has l 10) (sym (behind_front rest is)) (has_right (n ++ 32 ∷ (w ++ 32 ∷ s)) (10 ∷ r) 10 (inl refl))))

  in_line : Has (n ++ 32 ∷ (w ++ 32 ∷ s)) 10 → ⊥
  in_line = no_line_feed n w s (as_has n 10 line.number_in_line) (as_has w 10 line.name_in_line) (as_has s 10 line.size_in_line)

  pub line_cut : (rest front back : List ℕ) → text ≡ codes "dump #" ++ rest → rest ≡ front ++ 10 ∷ back → (Contains front 10 → ⊥) → (front ≡ n ++ 32 ∷ (w ++ 32 ∷ s)) × (back ≡ r)
  line_cut rest front back is cut none =
      same_cut front back (n ++ 32 ∷ (w ++ 32 ∷ s)) r 10 (sym cut ∙ behind_front rest is) (as_has front 10 none) in_line

  pub has_space : (front : List ℕ) → front ≡ n ++ 32 ∷ (w ++ 32 ∷ s) → (Contains front 32 → ⊥) → ⊥
  has_space front is none = none (contains_from_has front 32 (subst (λ (l : List ℕ). Has l 32) (sym is) (has_right n (32 ∷ (w ++ 32 ∷ s)) 32 (inl refl))))

  pub number_cut : (front number left : List ℕ) → front ≡ n ++ 32 ∷ (w ++ 32 ∷ s) → front ≡ number ++ 32 ∷ left → (Contains number 32 → ⊥) → (number ≡ n) × (left ≡ w ++ 32 ∷ s)
  number_cut front number left is cut none = same_cut number left n (w ++ 32 ∷ s) 32 (sym cut ∙ is) (as_has number 32 none) (as_has n 32 line.number_ends)

  pub has_other_space : (left : List ℕ) → left ≡ w ++ 32 ∷ s → (Contains left 32 → ⊥) → ⊥
  has_other_space left is none = none (contains_from_has left 32 (subst (λ (l : List ℕ). Has l 32) (sym is) (has_right w (32 ∷ s) 32 (inl refl))))

-- the parts that were cut are those of a first line
pub parts_cut : (text rest front back number left name size : List ℕ) → text ≡ codes "dump #" ++ rest → rest ≡ front ++ 10 ∷ back → (Contains front 10 → ⊥) → front ≡ number ++ 32 ∷ left → (Contains number 32 → ⊥) → left ≡ name ++ 32 ∷ size → (Contains name 32 → ⊥) → IsFirstLine number name size back text
parts_cut text rest front back number left name size begins cut no_lf number_is no_space name_is no_other =
    let whole : front ≡ number ++ 32 ∷ (name ++ 32 ∷ size) = number_is ∙ ap (λ (l : List ℕ). number ++ 32 ∷ l) name_is in
    let none : (Has (number ++ 32 ∷ (name ++ 32 ∷ size)) 10 → ⊥) = λ has. no_lf (contains_from_has front 10 (subst (λ (l : List ℕ). Has l 10) (sym whole) has)) in
    record {
      is = begins ∙ (ap (λ (l : List ℕ). codes "dump #" ++ l) (cut ∙ ap (λ (l : List ℕ). l ++ 10 ∷ back) whole) ∙ sym (grouped number name size back));
      number_ends = no_space;
      name_ends = no_other;
      number_in_line = λ has. none (has_left number (32 ∷ (name ++ 32 ∷ size)) 10 (has_from_contains number 10 has));
      name_in_line = λ has. none (has_right number (32 ∷ (name ++ 32 ∷ size)) 10 (inr (has_left name (32 ∷ size) 10 (has_from_contains name 10 has))));
      size_in_line = λ has. none (has_right number (32 ∷ (name ++ 32 ∷ size)) 10 (inr (has_right name (32 ∷ size) 10 (inr (has_from_contains size 10 has)))));
    }

-- two first lines of one text are the same
pub record AreSameParts (n w s r a b d e : List ℕ) : Type 0 where
  pub number : n ≡ a
  pub name : w ≡ b
  pub size : s ≡ d
  pub rest : r ≡ e

pub same_parts : (n w s r a b d e text : List ℕ) → IsFirstLine n w s r text → IsFirstLine a b d e text → AreSameParts n w s r a b d e
same_parts n w s r a b d e text x y =
    let rest : List ℕ = (n ++ 32 ∷ (w ++ 32 ∷ s)) ++ 10 ∷ r in
    let cut = line_cut a b d e text y ((n ++ 32 ∷ (w ++ 32 ∷ s)) ++ 10 ∷ r) (n ++ 32 ∷ (w ++ 32 ∷ s)) r (x.is ∙ grouped n w s r) refl (λ has. no_line_feed n w s (as_has n 10 x.number_in_line) (as_has w 10 x.name_in_line) (as_has s 10 x.size_in_line) (has_from_contains (n ++ 32 ∷ (w ++ 32 ∷ s)) 10 has)) in
    let number = number_cut a b d e text y (n ++ 32 ∷ (w ++ 32 ∷ s)) n (w ++ 32 ∷ s) cut.0 refl x.number_ends in
    let name = same_cut w s b d 32 number.1 (as_has w 32 x.name_ends) (as_has b 32 y.name_ends) in
    record { number = number.0; name = name.0; size = name.1; rest = cut.1 }

-- words and numerals have no byte below the digits

and_parts : (a b : Bool) → (a && b) ≡ true → (a ≡ true) × (b ≡ true)
and_parts true true e = (refl, refl)
and_parts true false e = cc
and_parts false true e = cc
and_parts false false e = cc

word_high : (b : ℕ) → is_word_byte b ≡ true → 48 ≤ b
word_high b e = grind (arith, nat_tests)

letter_high : (b : ℕ) → is_letter b ≡ true → 48 ≤ b
letter_high b e = grind (arith, nat_tests)

digit_high : (b : ℕ) → is_digit b ≡ true → 48 ≤ b
digit_high b e = grind (arith, nat_tests)

all_high : (p : ℕ → Bool) → ((b : ℕ) → p b ≡ true → 48 ≤ b) → (xs : List ℕ) → list_all p xs ≡ true → (c : ℕ) → c < 48 → Has xs c → ⊥
all_high p high [] all c low has = absurd has
all_high p high (x ∷ xs) all c low (inl e) =
    let first = and_parts (p x) (list_all p xs) all in
    let above = high x first.0 in absurd (omega (arith, e, above, low))
all_high p high (x ∷ xs) all c low (inr has) =
    let first = and_parts (p x) (list_all p xs) all in
    all_high p high xs first.1 c low has

pub word_has : (w : List ℕ) → IsToken w Word 0 → (c : ℕ) → c < 48 → Contains w c → ⊥
word_has w (word b bs first rest few) c low has = cases (has_from_contains (b ∷ bs) c has)
  where
    cases : Has (b ∷ bs) c → ⊥
    cases (inl e) = let above = letter_high b first in absurd (omega (arith, e, above, low))
    cases (inr h) = all_high is_word_byte word_high bs rest c low h

pub numeral_has : (ds : List ℕ) → is_numeral ds ≡ true → (c : ℕ) → c < 48 → Contains ds c → ⊥
numeral_has [] e c low has = absurd (has_from_contains [] c has)
numeral_has (d ∷ []) e c low has = all_high is_digit digit_high (d ∷ []) (one d e) c low (has_from_contains (d ∷ []) c has)
  where
    one : (b : ℕ) → is_digit b ≡ true → list_all is_digit (b ∷ []) ≡ true
    one b f = rw f refl
numeral_has (d ∷ f ∷ ds) e c low has = all_high is_digit digit_high (d ∷ f ∷ ds) (and_parts (not (d == 48)) (list_all is_digit (d ∷ f ∷ ds)) e).1 c low (has_from_contains (d ∷ f ∷ ds) c has)

-- a word by its first byte and those behind it

pub record HasWordParts (text : List ℕ) : Type 0 where
  pub some : 1 ≤ length text
  pub few : length text ≤ 255
  pub first : is_letter (slice_index_or text 0 0) ≡ true
  pub rest : list_all is_word_byte (take (length text - 1) (drop 1 text)) ≡ true

pub word_made : (text : List ℕ) → 1 ≤ length text → length text ≤ 255 → is_letter (slice_index_or text 0 0) ≡ true → list_all is_word_byte (take (length text - 1) (drop 1 text)) ≡ true → IsToken text Word 0
word_made [] some few first rest = absurd (omega arith)
word_made (b ∷ bs) some few first rest = word b bs first (ap (list_all is_word_byte) (sym (take_all (length (b ∷ bs) - 1) bs (omega arith))) ∙ rest) few

pub word_parts : (text : List ℕ) → IsToken text Word 0 → HasWordParts text
word_parts text (word b bs first rest few) = record {
  some = omega arith;
  few = few;
  first = first;
  rest = ap (list_all is_word_byte) (take_all (length (b ∷ bs) - 1) bs (omega arith)) ∙ rest;
}
