-- The names in a word: what is read, and what the word is made of.
use Rattle.std.proofs.Common.{◌≡◌, ◌≢◌, ℕ, zero, suc, ◌<◌, ◌≤◌, Bool, true, false, ◌&&◌, ◌==◌, List, [], ◌∷◌, ◌++◌, Option, Some, None, length, get_or, refl, sym, ◌∙◌, ap, subst, leb-true, le-leb, arith}
use Rattle.std.specs.Prelude.{nat_le, option_map, option_and_then, if◌then◌else◌}
use Rattle.std.specs.List.{list_all}
use Rattle.std.proofs.lemmas.Bool.{and_parts}
use Rattle.std.proofs.lemmas.Bool.Decides.{nat_tests}
use Rattle.foundation.proofs.Truth.{is_false, split}
use Rattle.clap.specs.Words.{Text}
use Rattle.cxx_text.specs.declared.token.Kind.{Kind}
use Rattle.cxx_text.specs.declared.token.Kind.TheVariants.{Word, Number, Sign}
use Rattle.cxx_text.specs.Bytes.{begins, is_letter, is_word_byte}
use Rattle.cxx_text.specs.OneToken.{IsToken, word, number, one_byte_sign, two_byte_sign}
use Rattle.cxxabi_words.specs.Commands.{IsNameWord}
use Rattle.cxxabi_words.specs.invariants.Asked.{is_name_word, cut_at, behind_byte, cut_scope}

-- what passes the test is a name
pub name_sound : (text : Text) → is_name_word text ≡ true → IsNameWord text
unfolding is_name_word
name_sound [] h = absurd (cc)
name_sound (b ∷ bs) h =
    let first = and_parts (is_letter b) _ h in
    let rest = and_parts (list_all is_word_byte (b ∷ bs)) (nat_le (length (b ∷ bs)) 255) first.1 in
    let all = and_parts (is_word_byte b) (list_all is_word_byte bs) rest.0 in
    word b bs first.0 all.1 (leb-true (length (b ∷ bs)) 255 rest.1)

-- a text that begins as a name, and has the bytes of one, is a name where it is short
pub name_by_length : (text : Text) → begins is_letter text ≡ true → list_all is_word_byte text ≡ true → nat_le (length text) 255 ≡ is_name_word text
unfolding is_name_word
name_by_length text first all = rw (first, all) refl

pub no_name_first : (text : Text) → begins is_letter text ≡ false → false ≡ is_name_word text
unfolding is_name_word
no_name_first text first = rw first refl

pub no_name_bytes : (text : Text) → begins is_letter text ≡ true → list_all is_word_byte text ≡ false → false ≡ is_name_word text
unfolding is_name_word
no_name_bytes text first all = rw (first, all) refl

letter_in_words : (b : ℕ) → is_letter b ≡ true → is_word_byte b ≡ true
letter_in_words b letter = rw letter refl

word_passes : (b : ℕ) (bs : List ℕ) → is_letter b ≡ true → list_all is_word_byte bs ≡ true → length (b ∷ bs) ≤ 255 → is_name_word (b ∷ bs) ≡ true
unfolding is_name_word
word_passes b bs letter all short = let low = le-leb (length (b ∷ bs)) 255 short in rw (letter, all, low) refl

passes : (text : Text) (kind : Kind) (value : ℕ) → IsToken text kind value → kind ≡ Word → is_name_word text ≡ true
passes _ _ _ (word b bs letter all short) same = word_passes b bs letter all short
passes _ _ _ (number ds numeral few) same = absurd (cc)
passes _ _ _ (one_byte_sign a is) same = absurd (cc)
passes _ _ _ (two_byte_sign a b is) same = absurd (cc)

-- a name passes the test
pub name_complete : (text : Text) → IsNameWord text → is_name_word text ≡ true
name_complete text is = passes text Word 0 is refl

-- a text has no byte of this kind
abbrev pub Lacks : ℕ → List ℕ → Type 0
Lacks c bs = (i : ℕ) → i < length bs → get_or bs i 0 ≢ c

lacks_first : (c b : ℕ) (bs : List ℕ) → Lacks c (b ∷ bs) → b ≢ c
lacks_first c b bs lacks = lacks 0 (omega arith)

lacks_rest : (c b : ℕ) (bs : List ℕ) → Lacks c (b ∷ bs) → Lacks c bs
lacks_rest c b bs lacks = λ i below. lacks (suc i) (omega (arith, below))

lacks_more : (c b : ℕ) (bs : List ℕ) → b ≢ c → Lacks c bs → Lacks c (b ∷ bs)
lacks_more c b bs first rest = by_place
  where
    by_place : (i : ℕ) → i < length (b ∷ bs) → get_or (b ∷ bs) i 0 ≢ c
    by_place zero below = first
    by_place (suc i) below = rest i (omega (arith, below))

lacks_append : (c : ℕ) (xs ys : List ℕ) → Lacks c xs → Lacks c ys → Lacks c (xs ++ ys)
lacks_append c [] ys one other = other
lacks_append c (x ∷ xs) ys one other = lacks_more c x (xs ++ ys) (lacks_first c x xs one) (lacks_append c xs ys (lacks_rest c x xs one) other)

no_byte : (c b : ℕ) → is_word_byte b ≡ true → is_word_byte c ≡ false → b ≢ c
no_byte c b in_words outside = λ same. let clash : true ≡ false = sym in_words ∙ ap is_word_byte same ∙ outside in cc

-- a name has no byte of another kind
words_lack : (c : ℕ) (bs : List ℕ) → is_word_byte c ≡ false → list_all is_word_byte bs ≡ true → Lacks c bs
words_lack c [] outside all = λ i below. absurd (omega (arith, below))
words_lack c (b ∷ bs) outside all =
    let parts = and_parts (is_word_byte b) (list_all is_word_byte bs) all in
    lacks_more c b bs (no_byte c b parts.0 outside) (words_lack c bs outside parts.1)

pub name_lacks : (c : ℕ) (text : Text) → is_word_byte c ≡ false → IsNameWord text → Lacks c text
unfolding is_name_word
name_lacks c text outside is =
    let first = and_parts (begins is_letter text) _ (name_complete text is) in
    let rest = and_parts (list_all is_word_byte text) (nat_le (length text) 255) first.1 in
    words_lack c text outside rest.0

same_byte : (b c : ℕ) → (b == c) ≡ true → b ≡ c
same_byte b c same = grind (arith, nat_tests)

pub own_byte : (c : ℕ) → (c == c) ≡ true
own_byte c = grind (arith, nat_tests)

pub other_byte : (b c : ℕ) → b ≢ c → (b == c) ≡ false
other_byte b c differ = is_false (b == c) (λ same. differ (same_byte b c same))

-- a text is cut at the first byte of this kind
pub cut_whole : (c : ℕ) (xs ys : List ℕ) → Lacks c xs → cut_at c (xs ++ c ∷ ys) ≡ Some (xs, ys)
unfolding cut_at
cut_whole c [] ys lacks = rw (own_byte c) refl
cut_whole c (x ∷ xs) ys lacks =
    let off = other_byte x c (lacks_first c x xs lacks) in
    let rest = cut_whole c xs ys (lacks_rest c x xs lacks) in
    rw (off, rest) refl

-- it is not cut where it has none
pub cut_nowhere : (c : ℕ) (bs : List ℕ) → Lacks c bs → cut_at c bs ≡ None
unfolding cut_at
cut_nowhere c [] lacks = refl
cut_nowhere c (b ∷ bs) lacks =
    let off = other_byte b c (lacks_first c b bs lacks) in
    let rest = cut_nowhere c bs (lacks_rest c b bs lacks) in
    rw (off, rest) refl

-- what it is cut into
further : (b c : ℕ) (bs : List ℕ) (p : Text × Text) (found : Option (Text × Text)) → ((q : Text × Text) → found ≡ Some q → bs ≡ q.0 ++ c ∷ q.1) →
    option_map (λ (q : Text × Text). (b ∷ q.0, q.1)) found ≡ Some p → b ∷ bs ≡ p.0 ++ c ∷ p.1
further b c bs p None rest same = absurd (cc)
further b c bs p (Some q) rest same =
    let two : (b ∷ q.0, q.1) ≡ p = cc in
    subst (λ (r : Text × Text). b ∷ bs ≡ r.0 ++ c ∷ r.1) two (ap (λ (t : List ℕ). b ∷ t) (rest q refl))

pub cut_sound : (c : ℕ) (bs : List ℕ) (p : Text × Text) → cut_at c bs ≡ Some p → bs ≡ p.0 ++ c ∷ p.1
unfolding cut_at
cut_sound c [] p is = absurd (cc)
cut_sound c (b ∷ bs) p is =
    split (b == c) (λ t. (if t then Some ([], bs) else option_map (λ (q : Text × Text). (b ∷ q.0, q.1)) (cut_at c bs)) ≡ Some p → b ∷ bs ≡ p.0 ++ c ∷ p.1)
    (λ same cut.
    let one = same_byte b c same in
    let two : ([], bs) ≡ p = cc in
    subst (λ (q : Text × Text). b ∷ bs ≡ q.0 ++ c ∷ q.1) two (ap (λ n. n ∷ bs) one))
    (λ other cut. further b c bs p (cut_at c bs) (λ q. cut_sound c bs q) cut) is

behind_sound : (c : ℕ) (bs rest : List ℕ) → behind_byte c bs ≡ Some rest → bs ≡ c ∷ rest
behind_sound c [] rest is = absurd (cc)
behind_sound c (b ∷ bs) rest is =
    split (b == c) (λ t. (if t then Some bs else None) ≡ Some rest → b ∷ bs ≡ c ∷ rest)
    (λ same there. let one : b ≡ c = same_byte b c same in let two : bs ≡ rest = cc in rw (one, two) refl)
    (λ other there. absurd (cc)) is

-- a qualified name is a class, two colons and a member
module _ (text : Text) (p : Text × Text) where
  with_member : (q : Text × Text) (member : Option Text) → cut_at 58 text ≡ Some q → behind_byte 58 q.1 ≡ member → option_map (λ m. (q.0, m)) member ≡ Some p → text ≡ p.0 ++ 58 ∷ 58 ∷ p.1
  with_member q None is there same = absurd (cc)
  with_member q (Some m) is there same =
      let two : (q.0, m) ≡ p = cc in
      subst (λ (r : Text × Text). text ≡ r.0 ++ 58 ∷ 58 ∷ r.1) two
      (cut_sound 58 text q is ∙ ap (λ (t : List ℕ). q.0 ++ 58 ∷ t) (behind_sound 58 q.1 m there))

  with_cut : (found : Option (Text × Text)) → cut_at 58 text ≡ found → option_and_then (λ (q : Text × Text). option_map (λ member. (q.0, member)) (behind_byte 58 q.1)) found ≡ Some p → text ≡ p.0 ++ 58 ∷ 58 ∷ p.1
  with_cut None is same = absurd (cc)
  with_cut (Some q) is same = with_member q (behind_byte 58 q.1) is refl same

pub scope_sound : (text : Text) (p : Text × Text) → cut_scope text ≡ Some p → text ≡ p.0 ++ 58 ∷ 58 ∷ p.1
scope_sound text p is = with_cut text p (cut_at 58 text) refl is

pub scope_whole : (class member : Text) → Lacks 58 class → cut_scope (class ++ 58 ∷ 58 ∷ member) ≡ Some (class, member)
scope_whole class member lacks = ap (option_and_then (λ (p : Text × Text). option_map (λ m. (p.0, m)) (behind_byte 58 p.1))) (cut_whole 58 class (58 ∷ member) lacks)

-- a qualified name has no `@`
pub scope_lacks : (class member : Text) → IsNameWord class → IsNameWord member → Lacks 64 (class ++ 58 ∷ 58 ∷ member)
scope_lacks class member one two =
    let other : 58 ≢ 64 = λ (same : 58 ≡ 64). omega (arith, same) in
    lacks_append 64 class (58 ∷ 58 ∷ member) (name_lacks 64 class refl one) (lacks_more 64 58 (58 ∷ member) other (lacks_more 64 58 member other (name_lacks 64 member refl two)))
