-- How lines follow one another in a text, and how a text is divided at its first line.
use Rattle.std.proofs.Common.{◌≡◌, ℕ, zero, suc, ◌+◌, ◌-◌, ◌<◌, ◌≤◌, Bool, true, false, not, cond, List, [], ◌∷◌, ◌++◌, take, drop, Option, Some, None, length, refl, sym, ◌∙◌, ap, subst, arith, append_assoc, append-nil, length-append, take-append-drop, ⊎_elim, get_or, slice_get}
use Rattle.std.specs.Prelude.{option_map, if◌then◌else◌, min, ◌==◌}
use Rattle.std.specs.List.{join_with_byte, onto_first, position_or_len, slice_split}
use Rattle.std.specs.Str.{bytes_eq}
use Rattle.std.proofs.lemmas.Bool.{cases_lt}
use Rattle.std.proofs.lemmas.Bool.Decides.{nat_tests}
use Rattle.std.proofs.lemmas.List.{drop-drop, drop_all, drop_at, drop_min, drop_more, length-take, take_all, take_at, take_rest}
use Rattle.std.proofs.lemmas.Slice.Eq.{bytes_eq-Decides}
use Rattle.foundation.proofs.Truth.{is_false, split}
use Rattle.cxx_text.specs.Bytes.{is_line_end}
use Rattle.cxxabi_input.specs.Division.{lines_of, divided, division, ends_inside}

length-take-le : (n : ℕ) (xs : List ℕ) → n ≤ length xs → length (take n xs) ≡ n
length-take-le n xs within = let is = length-take n xs in omega (arith, is, within)

-- where the first line of a text ends
abbrev pub first_end : List ℕ → ℕ
first_end text = position_or_len is_line_end text

line_end_is : (b : ℕ) → is_line_end b ≡ true → b ≡ 10
line_end_is b is = grind (arith, nat_tests)

end_here : (b : ℕ) (bs : List ℕ) → is_line_end b ≡ true → first_end (b ∷ bs) ≡ 0
end_here b bs is = rw is refl

end_later : (b : ℕ) (bs : List ℕ) → is_line_end b ≡ false → first_end (b ∷ bs) ≡ suc (first_end bs)
end_later b bs is = let counted : first_end (b ∷ bs) ≡ 1 + first_end bs = rw is refl in omega (arith, counted)

split_here : (b : ℕ) (bs : List ℕ) → is_line_end b ≡ true → lines_of (b ∷ bs) ≡ [] ∷ lines_of bs
split_here b bs is = rw is refl

split_later : (b : ℕ) (bs : List ℕ) → is_line_end b ≡ false → lines_of (b ∷ bs) ≡ onto_first b (lines_of bs)
split_later b bs is = rw is refl

-- the first line of a text that has a line feed, and what follows it
record HasLine (text : List ℕ) : Type 0 where
  lines : lines_of text ≡ take (first_end text) text ∷ lines_of (drop (suc (first_end text)) text)
  joined : text ≡ take (first_end text) text ++ 10 ∷ drop (suc (first_end text)) text

line_here : (b : ℕ) (bs : List ℕ) → is_line_end b ≡ true → HasLine (b ∷ bs)
line_here b bs is =
    let at = end_here b bs is in
    record {
      lines = subst (λ n. lines_of (b ∷ bs) ≡ take n (b ∷ bs) ∷ lines_of (drop (suc n) (b ∷ bs))) (sym at) (split_here b bs is);
      joined = subst (λ n. b ∷ bs ≡ take n (b ∷ bs) ++ 10 ∷ drop (suc n) (b ∷ bs)) (sym at) (ap (λ c. c ∷ bs) (line_end_is b is));
    }

line_later : (b : ℕ) (bs : List ℕ) → is_line_end b ≡ false → HasLine bs → HasLine (b ∷ bs)
line_later b bs is rest =
    let at = end_later b bs is in
    record {
      lines = subst (λ n. lines_of (b ∷ bs) ≡ take n (b ∷ bs) ∷ lines_of (drop (suc n) (b ∷ bs))) (sym at) (split_later b bs is ∙ ap (onto_first b) rest.lines);
      joined = subst (λ n. b ∷ bs ≡ take n (b ∷ bs) ++ 10 ∷ drop (suc n) (b ∷ bs)) (sym at) (ap (λ (t : List ℕ). b ∷ t) rest.joined);
    }

has_line : (text : List ℕ) → first_end text < length text → HasLine text
has_line [] below = absurd (omega (arith, below))
has_line (b ∷ bs) below =
    split (is_line_end b) (λ t. is_line_end b ≡ t → HasLine (b ∷ bs))
    (λ on is. line_here b bs on)
    (λ off is. let at = end_later b bs off in line_later b bs off (has_line bs (omega (arith, below, at)))) refl

-- a text without a line feed is one line
one_line : (text : List ℕ) → length text ≤ first_end text → lines_of text ≡ text ∷ []
one_line [] over = refl
one_line (b ∷ bs) over =
    split (is_line_end b) (λ t. is_line_end b ≡ t → lines_of (b ∷ bs) ≡ (b ∷ bs) ∷ [])
    (λ on is. let at = end_here b bs on in absurd (omega (arith, over, at)))
    (λ off is. let at = end_later b bs off in split_later b bs off ∙ ap (onto_first b) (one_line bs (omega (arith, over, at)))) refl

-- there is a first line
some_line : (text : List ℕ) → (first : List ℕ) × (rest : List (List ℕ)) × (lines_of text ≡ first ∷ rest)
some_line [] = ([], [], refl)
some_line (b ∷ bs) =
    let tail = some_line bs in
    split (is_line_end b) (λ t. is_line_end b ≡ t → (first : List ℕ) × (rest : List (List ℕ)) × (lines_of (b ∷ bs) ≡ first ∷ rest))
    (λ on is. ([], lines_of bs, split_here b bs on))
    (λ off is. (b ∷ tail.0, tail.1, split_later b bs off ∙ ap (onto_first b) tail.2)) refl

join_onto : (b : ℕ) (first : List ℕ) (rest : List (List ℕ)) → join_with_byte 10 (onto_first b (first ∷ rest)) ≡ b ∷ join_with_byte 10 (first ∷ rest)
join_onto b first [] = refl
join_onto b first (next ∷ rest) = refl

-- the lines of a text, joined, are the text
pub lines_joined : (text : List ℕ) → join_with_byte 10 (lines_of text) ≡ text
lines_joined [] = refl
lines_joined (b ∷ bs) =
    let tail = some_line bs in
    let rest = lines_joined bs in
    split (is_line_end b) (λ t. is_line_end b ≡ t → join_with_byte 10 (lines_of (b ∷ bs)) ≡ b ∷ bs)
    (λ on is.
    ap (join_with_byte 10) (split_here b bs on ∙ ap (λ (ls : List (List ℕ)). [] ∷ ls) tail.2)
    ∙ ap (λ (t : List ℕ). 10 ∷ t) (ap (join_with_byte 10) (sym tail.2) ∙ rest)
    ∙ ap (λ c. c ∷ bs) (sym (line_end_is b on)))
    (λ off is.
    ap (join_with_byte 10) (split_later b bs off ∙ ap (onto_first b) tail.2)
    ∙ join_onto b tail.0 tail.1
    ∙ ap (λ (t : List ℕ). b ∷ t) (ap (join_with_byte 10) (sym tail.2) ∙ rest)) refl

-- the line that divides
abbrev pub program_line : List ℕ
program_line = 112 ∷ 114 ∷ 111 ∷ 103 ∷ 114 ∷ 97 ∷ 109 ∷ []

is_program : (line : List ℕ) → line ≡ program_line → bytes_eq line program_line ≡ true
is_program line is = (bytes_eq-Decides line program_line).1 is

no_program : (line : List ℕ) → (line ≡ program_line → ⊥) → bytes_eq line program_line ≡ false
no_program line other = is_false (bytes_eq line program_line) (λ same. other ((bytes_eq-Decides line program_line).0 same))

abbrev pub Half : Type 0
Half = List ℕ × List ℕ

-- what stands behind a first line that divides
pub divides_here : (text : List ℕ) → take (first_end text) text ≡ program_line → first_end text < length text → division text ≡ Some ([], drop (suc (first_end text)) text)
unfolding division
divides_here text is below =
    let line = has_line text below in
    let on = is_program (take (first_end text) text) is in
    ap divided line.lines ∙ rw on (ap (λ (t : List ℕ). Some ([], t)) (lines_joined (drop (suc (first_end text)) text)))

-- a last line that divides
pub divides_at_end : (text : List ℕ) → text ≡ program_line → length text ≤ first_end text → division text ≡ Some ([], [])
unfolding division
divides_at_end text is over = ap divided (one_line text over) ∙ rw (is_program text is) refl

-- a first line that does not divide
pub divides_later : (text : List ℕ) → (take (first_end text) text ≡ program_line → ⊥) → first_end text < length text →
    division text ≡ option_map (λ (p : Half). (take (first_end text) text ++ 10 ∷ p.0, p.1)) (division (drop (suc (first_end text)) text))
unfolding division
divides_later text other below =
    let line = has_line text below in
    let off = no_program (take (first_end text) text) other in
    ap divided line.lines ∙ rw off refl

pub divides_nowhere : (text : List ℕ) → (text ≡ program_line → ⊥) → length text ≤ first_end text → division text ≡ None
unfolding division
divides_nowhere text other over = ap divided (one_line text over) ∙ rw (no_program text other) refl

-- what stands before a place is no line that divides, and what is left is divided as the whole is
pub record IsLeft (input : List ℕ) (at : ℕ) : Type 0 where
  pub before : List ℕ
  pub rest : List ℕ
  pub whole : input ≡ before ++ rest
  pub size : length before ≡ at
  pub within : at ≤ length input
  pub same : division input ≡ option_map (λ (p : Half). (before ++ p.0, p.1)) (division rest)

unchanged : (o : Option Half) → o ≡ option_map (λ (p : Half). ([] ++ p.0, p.1)) o
unchanged None = refl
unchanged (Some p) = refl

pub left_first : (input : List ℕ) → IsLeft input 0
left_first input = record { before = []; rest = input; whole = refl; size = refl; within = omega arith; same = unchanged (division input) }

module _ (input : List ℕ) (at : ℕ) (left : IsLeft input at) where
  rest_is : drop at input ≡ left.rest
  rest_is = ap (λ (t : List ℕ). drop at t) left.whole ∙ drop_at left.before left.rest at left.size

  front_is : take at input ≡ left.before
  front_is = ap (λ (t : List ℕ). take at t) left.whole ∙ take_at left.before left.rest at left.size

  sizes : length input ≡ at + length (drop at input)
  sizes =
      let whole : length input ≡ length (left.before ++ left.rest) = ap (λ (t : List ℕ). length t) left.whole in
      let both = length-append left.before left.rest in
      let one = left.size in
      let rest : length (drop at input) ≡ length left.rest = ap (λ (t : List ℕ). length t) rest_is in
      omega arith

  same_here : division input ≡ option_map (λ (p : Half). (take at input ++ p.0, p.1)) (division (drop at input))
  same_here = left.same ∙ ap (λ (t : List ℕ). option_map (λ (p : Half). (left.before ++ p.0, p.1)) (division t)) (sym rest_is) ∙ ap (λ (t : List ℕ). option_map (λ (p : Half). (t ++ p.0, p.1)) (division (drop at input))) (sym front_is)

  -- the line at this place divides
  pub found_line : (k : ℕ) → k ≡ first_end (drop at input) → k ≤ length (drop at input) → take k (drop at input) ≡ program_line → division input ≡ Some (take at input, drop (min (at + k + 1) (length input)) input)
  found_line k is within line = ⊎_elim inner last (cases_lt k (length (drop at input)))
    where
      inner : k < length (drop at input) → division input ≡ Some (take at input, drop (min (at + k + 1) (length input)) input)
      inner below =
          let text = drop at input in
          let here : division text ≡ Some ([], drop (suc (first_end text)) text) = divides_here text (subst (λ n. take n text ≡ program_line) is line) (subst (λ n. n < length text) is below) in
          let behind : drop (suc (first_end text)) text ≡ drop (min (at + k + 1) (length input)) input =
          ap (λ n. drop (suc n) text) (sym is) ∙ drop-drop (suc k) at input ∙ ap (λ n. drop n input) (let size = sizes in omega arith) ∙ sym (drop_min (at + k + 1) input) in
          same_here ∙ ap (option_map (λ (p : Half). (take at input ++ p.0, p.1))) (here ∙ ap (λ (t : List ℕ). Some ([], t)) behind)
          ∙ ap (λ (t : List ℕ). Some (t, drop (min (at + k + 1) (length input)) input)) (append-nil (take at input))

      last : length (drop at input) ≤ k → division input ≡ Some (take at input, drop (min (at + k + 1) (length input)) input)
      last over =
          let text = drop at input in
          let all : text ≡ program_line = sym (take_all k text over) ∙ line in
          let here : division text ≡ Some ([], []) = divides_at_end text all (subst (λ n. length text ≤ n) is over) in
          let behind : [] ≡ drop (min (at + k + 1) (length input)) input = sym (drop_min (at + k + 1) input ∙ drop_all (at + k + 1) input (let size = sizes in omega arith)) in
          same_here ∙ ap (option_map (λ (p : Half). (take at input ++ p.0, p.1))) (here ∙ ap (λ (t : List ℕ). Some ([], t)) behind)
          ∙ ap (λ (t : List ℕ). Some (t, drop (min (at + k + 1) (length input)) input)) (append-nil (take at input))

  -- the last line does not divide
  pub found_none : (k : ℕ) → k ≡ first_end (drop at input) → (take k (drop at input) ≡ program_line → ⊥) → k ≡ length (drop at input) → division input ≡ None
  found_none k is other all =
      let text = drop at input in
      let no : text ≡ program_line → ⊥ = λ same. other (take_all k text (omega (arith, all)) ∙ same) in
      same_here ∙ ap (option_map (λ (p : Half). (take at input ++ p.0, p.1))) (divides_nowhere text no (omega (arith, all, is)))

  together : (line : List ℕ) (o : Option Half) → option_map {U = Half} (λ (p : Half). (take at input ++ p.0, p.1)) (option_map {U = Half} (λ (p : Half). (line ++ 10 ∷ p.0, p.1)) o) ≡ option_map {U = Half} (λ (p : Half). ((take at input ++ (line ++ 10 ∷ [])) ++ p.0, p.1)) o
  together line None = refl
  together line (Some p) =
      ap (λ (t : List ℕ). Some (t, p.1)) (sym (append_assoc (take at input) (line ++ 10 ∷ []) p.0 ∙ ap (λ (t : List ℕ). take at input ++ t) (append_assoc line (10 ∷ []) p.0)))

  -- neither does the line at this place, and another one follows
  pub left_more : (k : ℕ) → k ≡ first_end (drop at input) → (take k (drop at input) ≡ program_line → ⊥) → k < length (drop at input) → IsLeft input (at + k + 1)
  left_more k is other below =
      let text = drop at input in
      let line = has_line text (subst (λ n. n < length text) is below) in
      let front : List ℕ = take at input ++ (take k text ++ 10 ∷ []) in
      let joined : text ≡ take k text ++ 10 ∷ drop (suc k) text = subst (λ n. text ≡ take n text ++ 10 ∷ drop (suc n) text) (sym is) line.joined in
      let size = sizes in
      let first : length (take at input) ≡ at = length-take-le at input (omega arith) in
      let second : length (take k text) ≡ k = length-take-le k text (omega (arith, below)) in
      let third = length-append (take k text) (10 ∷ []) in
      let all = length-append (take at input) (take k text ++ 10 ∷ []) in
      record {
        before = front;
        rest = drop (suc k) text;
        whole =
            sym (take-append-drop at input)
            ∙ ap (λ (t : List ℕ). take at input ++ t) (joined ∙ sym (append_assoc (take k text) (10 ∷ []) (drop (suc k) text)))
            ∙ sym (append_assoc (take at input) (take k text ++ 10 ∷ []) (drop (suc k) text));
        size = omega arith;
        within = omega (arith, below, size);
        same =
            same_here
            ∙ ap (option_map (λ (p : Half). (take at input ++ p.0, p.1)))
            (subst (λ n. division text ≡ option_map (λ (p : Half). (take n text ++ 10 ∷ p.0, p.1)) (division (drop (suc n) text))) (sym is)
            (divides_later text (subst (λ n. take n text ≡ program_line → ⊥) is other) (subst (λ n. n < length text) is below)))
            ∙ together (take k text) (division (drop (suc k) text));
      }

-- the last byte of a text
pub ends_by : (text : List ℕ) (i b : ℕ) → suc i ≡ length text → slice_get text i ≡ Some b → not (is_line_end b) ≡ ends_inside text
ends_by [] i b size at = absurd (omega (arith, size))
ends_by (c ∷ []) zero b size at = let same : c ≡ b = cc in ap (λ x. not (is_line_end x)) (sym same)
ends_by (c ∷ []) (suc i) b size at = absurd (omega (arith, size))
ends_by (c ∷ d ∷ text) zero b size at = absurd (omega (arith, size))
ends_by (c ∷ d ∷ text) (suc i) b size at = ends_by (d ∷ text) i b (omega (arith, size)) at

pub ends_empty : (text : List ℕ) → length text ≡ 0 → false ≡ ends_inside text
ends_empty [] none = refl
ends_empty (c ∷ text) none = absurd (omega (arith, none))

pub some_length : (text : List ℕ) (b : ℕ) → Some b ≡ slice_get text (length text - 1) → 1 ≤ length text
some_length [] b at = absurd (cc)
some_length (c ∷ text) b at = omega arith

-- the end of a line, one byte on
pub end_on : (text : List ℕ) (i b : ℕ) → i < length text → get_or text i b ≡ b → is_line_end b ≡ false → first_end (drop i text) ≡ 1 + first_end (drop (i + 1) text)
end_on text i b below at is = ap first_end (drop_more text i b below ∙ ap (λ c. c ∷ drop (i + 1) text) at) ∙ (let later = end_later b (drop (i + 1) text) is in omega (arith, later))

pub end_at : (text : List ℕ) (i b : ℕ) → i < length text → get_or text i b ≡ b → is_line_end b ≡ true → first_end (drop i text) ≡ 0
end_at text i b below at is = ap first_end (drop_more text i b below ∙ ap (λ c. c ∷ drop (i + 1) text) at) ∙ end_here b (drop (i + 1) text) is

pub end_empty : (text : List ℕ) (i : ℕ) → length text ≤ i → first_end (drop i text) ≡ 0
end_empty text i over = ap first_end (drop_all i text over)

-- what the tests at a place say
module _ (input : List ℕ) (at k : ℕ) (rest word : List ℕ) (b : Bool) (left : IsLeft input at) (rest_of : rest ≡ drop at input) (ends : k ≡ first_end rest) (within : k ≤ length rest)
    (tested : b ≡ bytes_eq (take k rest) word) (is_word : word ≡ program_line) where
  here : k ≡ first_end (drop at input)
  here = ends ∙ ap first_end rest_of

  sized : length rest ≡ length (drop at input)
  sized = ap (λ (t : List ℕ). length t) rest_of

  inside : k ≤ length (drop at input)
  inside = let size = sized in omega (arith, within, size)

  line_is : b ≡ true → take k (drop at input) ≡ program_line
  line_is on = ap (λ (t : List ℕ). take k t) (sym rest_of) ∙ (bytes_eq-Decides (take k rest) word).0 (sym tested ∙ on) ∙ is_word

  line_other : b ≡ false → take k (drop at input) ≡ program_line → ⊥
  line_other off = λ same.
      let on = (bytes_eq-Decides (take k rest) word).1 (ap (λ (t : List ℕ). take k t) rest_of ∙ same ∙ sym is_word) in
      let clash : false ≡ true = sym off ∙ tested ∙ on in
      cc

  pub answer_found : (next : ℕ) → b ≡ true → next ≡ min (at + k + 1) (length input) → division input ≡ Some (take at input, take (length input - next) (drop next input))
  answer_found next on is =
      found_line input at left k here inside (line_is on)
      ∙ ap (λ (n : ℕ). Some (take at input, drop n input)) (sym is)
      ∙ ap (λ (t : List ℕ). Some (take at input, t)) (sym (take_rest input next))

  pub answer_none : b ≡ false → k ≡ length rest → division input ≡ None
  answer_none off all = let size = sized in found_none input at left k here (line_other off) (all ∙ size)

  pub answer_more : b ≡ false → (k ≡ length rest → ⊥) → IsLeft input (at + (k + 1))
  answer_more off some =
      let size = sized in
      let less : k < length (drop at input) = ⊎_elim (λ below. omega (arith, below, size)) (λ over. absurd (some (omega (arith, over, within)))) (cases_lt k (length rest)) in
      subst (λ n. IsLeft input n) (omega arith) (left_more input at left k here (line_other off) less)
