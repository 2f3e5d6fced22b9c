use Rattle.std.proofs.Common.{◌≡◌, ℕ, ◌+◌, ◌-◌, ◌*◌, ◌<◌, ◌≤◌, ◌^◌, ⊎_elim, true, Some, List, [], ◌∷◌, ◌++◌, length, get_or, take, drop, refl, ap, sym, ◌∙◌, subst, arith, length-append, length-drop}
use Rattle.std.specs.Prelude.{nat_le}
use Rattle.std.specs.Int.{w64, to_le_bytes, from_le_bytes}
use Rattle.std.proofs.lemmas.Bool.Decides.{nat_tests}
use Rattle.std.proofs.lemmas.List.{take-append-le, drop-append-le}
use Rattle.std.proofs.lemmas.Nat.{from_le_bytes-to_le_bytes_8}
use Rattle.std.proofs.Math.Seq.{drop-append_seam}
use Rattle.foundation.proofs.Places.{get_pushed, take_next}
use Rattle.byte_code.specs.declared.code.ImageBytes.{ImageBytes}
use Rattle.byte_code.specs.Images.{image_number_at, word_at}
use Rattle.abi_image.specs.declared.TheConstants.{BASE}
use Rattle.abi_image.specs.declared.draft.Draft.{Draft}
use Rattle.abi_image.specs.invariants.Bytes.{PutsWords}
use Rattle.abi_image.specs.invariants.Drafts.{HasDraftWords}
use Rattle.foundation.proofs.Places.{length_pushed}
use Rattle.byte_code.proofs.Numbers.{number_inside}

number_value : (bytes : List ℕ) (i : ℕ) → i + 8 ≤ length bytes → image_number_at bytes i ≡ Some (from_le_bytes w64 (take 8 (drop i bytes)))
unfolding image_number_at
number_value bytes i le = let t : nat_le (i + 8) (length bytes) ≡ true = grind (arith, nat_tests) in rw t refl

eight_front : (xs ys : List ℕ) (i : ℕ) → i + 8 ≤ length xs → take 8 (drop i (xs ++ ys)) ≡ take 8 (drop i xs)
eight_front xs ys i le =
    let l = length-drop i xs in
    ap (take 8) (drop-append-le i xs ys (omega arith)) ∙ take-append-le 8 (drop i xs) ys (omega arith)

-- what can be read can be read when more bytes stand behind
pub number_front : (xs ys : List ℕ) (i w : ℕ) → image_number_at xs i ≡ Some w → image_number_at (xs ++ ys) i ≡ Some w
number_front xs ys i w e =
    let le : i + 8 ≤ length xs = number_inside xs i w e in
    let l = length-append xs ys in
    number_value (xs ++ ys) i (omega arith) ∙ ap (λ b. Some (from_le_bytes w64 b)) (eight_front xs ys i le) ∙ sym (number_value xs i le) ∙ e

length_eight : (w : ℕ) → length (to_le_bytes w64 w) ≡ 8
length_eight w = refl

-- the bytes of a word read as the word
pub number_last : (xs : List ℕ) (w : ℕ) → w < 2 ^ 64 → image_number_at (xs ++ to_le_bytes w64 w) (length xs) ≡ Some w
number_last xs w small =
    let l : length (xs ++ to_le_bytes w64 w) ≡ length xs + 8 = length-append xs (to_le_bytes w64 w) in
    let bytes : take 8 (drop (length xs) (xs ++ to_le_bytes w64 w)) ≡ to_le_bytes w64 w = ap (take 8) (drop-append_seam xs (to_le_bytes w64 w)) in
    number_value (xs ++ to_le_bytes w64 w) (length xs) (omega arith) ∙ ap (λ b. Some (from_le_bytes w64 b)) bytes ∙ ap Some (from_le_bytes-to_le_bytes_8 w small)

pub words_none : (bytes : List ℕ) → PutsWords bytes bytes []
words_none bytes = record { size = omega arith; keeps = λ i w e. e; there = λ i w e. absurd (cc) }

words_more : (old now words : List ℕ) (w : ℕ) → w < 2 ^ 64 → PutsWords old now words → PutsWords old (now ++ to_le_bytes w64 w) (words ++ w ∷ [])
words_more old now words w small h =
    let s = h.size in
    let l : length (now ++ to_le_bytes w64 w) ≡ length now + 8 = length-append now (to_le_bytes w64 w) in
    let m : length (words ++ w ∷ []) ≡ length words + 1 = length_pushed words w in
    record {
      size = omega arith;
      keeps = λ i v e. number_front now (to_le_bytes w64 w) i v (h.keeps i v e);
      there = λ i v e. ⊎_elim
          (λ before. number_front now (to_le_bytes w64 w) (length old + 8 * i) v (h.there i v before))
          (λ new. let at : length old + 8 * i ≡ length now = (let n = new.0 in omega arith) in
          ap (image_number_at (now ++ to_le_bytes w64 w)) at ∙ number_last now w small ∙ ap Some (sym new.1))
          (get_pushed words w i v e);
    }

-- the same in a loop
pub words_next : (old now next words : List ℕ) (i w : ℕ) → i < length words → w ≡ get_or words i w → w < 2 ^ 64 → next ≡ now ++ to_le_bytes w64 w → PutsWords old now (take i words) → PutsWords old next (take (i + 1) words)
words_next old now next words i w less is small e h = subst (λ l. PutsWords old next l) (sym (take_next words i w less is)) (subst (λ b. PutsWords old b (take i words ++ w ∷ [])) (sym e) (words_more old now (take i words) w small h))

word_of_bytes : (image : ImageBytes) (bytes : List ℕ) (n at w : ℕ) → image.base ≡ BASE → image.bytes ≡ bytes → at ≡ BASE + n → image_number_at bytes n ≡ Some w → word_at image at ≡ Some w
word_of_bytes image bytes n at w base is there e =
    let t : nat_le image.base at ≡ true = grind (arith, nat_tests) in
    let d : at - image.base ≡ n = omega arith in
    rw (t, is, d) e

-- the words of a draft, and its records behind them
pub draft_bytes : (image : ImageBytes) (draft : Draft) (first second : List ℕ) → image.base ≡ BASE → image.bytes ≡ second → draft.records_at ≡ BASE + 8 * length draft.words.items →
    PutsWords [] first draft.words.items → PutsWords first second draft.records.items → HasDraftWords (word_at image) draft
draft_bytes image draft first second base is place one two =
    let s : length first ≡ 8 * length draft.words.items = (let k = one.size in omega arith) in
    record {
      words = record { each = λ i w e. word_of_bytes image second (0 + 8 * i) (BASE + 8 * i) w base is (omega arith) (two.keeps (0 + 8 * i) w (one.there i w e)) };
      records = record { each = λ i w e. word_of_bytes image second (length first + 8 * i) (draft.records_at + 8 * i) w base is (omega arith) (two.there i w e) };
    }
