-- The longest token at the front of a text.
use Rattle.std.proofs.Common.{◌≡◌, ℕ, suc, zero, ◌≤◌, ◌<◌, min, Bool, true, false, List, [], ◌∷◌, ◌++◌, take, drop, length, refl, arith, sym, ◌∙◌, Some, None, if◌then◌else◌, slice_index_or}
use Rattle.std.specs.List.{list_all, prefix_len}
use Rattle.std.proofs.lemmas.List.{length-take-le, take-append-drop}
use Rattle.std.proofs.lemmas.List.Sums.{prefix_len-le-length}
use Rattle.std.proofs.Math.Seq.{take-append_seam}
use Rattle.cxx_text.specs.declared.token.Kind.{Kind}
use Rattle.cxx_text.specs.declared.token.Kind.TheVariants.{Word, Number, Sign}
use Rattle.cxx_text.specs.Bytes.{is_letter, is_digit, is_word_byte, is_one_byte_sign, is_two_byte_sign, begins}
use Rattle.cxx_text.specs.OneToken.{decimal, IsToken, word, number, one_byte_sign, two_byte_sign}
use Rattle.cxx_text.specs.Longest.{Stands, IsLongest, NoToken}
use Rattle.cxx_text.specs.invariants.Front.{number_value, sign_len}
use Rattle.cxx_text.proofs.Lists.{and_right, both, apart, all_within, prefix_all, rest_stops, all_exact, begins_front}
use Rattle.cxx_text.proofs.Classes.{two_first, letter_not_digit, sign_not_letter, sign_not_digit, letter_in_word, begins_apart}
use Rattle.cxx_text.proofs.Pieces.{numeral_begins, numeral_in_word, number_some, number_made, token_some}

-- the first byte of a text, as code reads it
pub begins_at : (f : ℕ → Bool) (text : List ℕ) (d : ℕ) (v : Bool) → 1 ≤ length text → v ≡ f (slice_index_or text 0 d) → v ≡ begins f text
begins_at f [] d v h e = absurd (omega arith)
begins_at f (b ∷ bs) d v h e = e

pub begins_is : (f : ℕ → Bool) (text : List ℕ) (d : ℕ) (v w : Bool) → 1 ≤ length text → v ≡ f (slice_index_or text 0 d) → v ≡ w → begins f text ≡ w
begins_is f text d v w h e k = sym (begins_at f text d v h e) ∙ k

-- a token of n bytes, the longest
abbrev pub Here : List ℕ → ℕ → Kind → ℕ → Type 0
Here text n k v = (0 < n) × (n ≤ length text) × IsLongest text (take n text) (drop n text) k v

here : (text : List ℕ) (n : ℕ) (k : Kind) (v : ℕ) → n ≤ length text → Stands (take n text) (drop n text) k v →
    ((p r : List ℕ) (k' : Kind) (v' : ℕ) → text ≡ p ++ r → Stands p r k' v' → length p ≤ n) → Here text n k v
here text n k v le s longest =
    let len = length-take-le n text le in
    let some = token_some (take n text) k v s.token in (
      omega arith,
      le,
      record {
        whole = sym (take-append-drop n text);
        stands = s;
        longest = λ p r k' v' e t. (let l = longest p r k' v' e t in omega arith);
      },
    )

-- a word: all letters and digits, up to 255
word_piece : (text : List ℕ) (n : ℕ) → begins is_letter text ≡ true → n ≤ prefix_len is_word_byte text → n ≤ 255 → 0 < n → IsToken (take n text) Word 0
word_piece [] n l h k z = absurd (cc)
word_piece (b ∷ bs) zero l h k z = absurd (omega arith)
word_piece (b ∷ bs) (suc m) l h k z =
    let in_text = prefix_len-le-length is_word_byte (b ∷ bs) in
    let len = length-take-le m bs (omega arith) in
    word b (take m bs) l (and_right (is_word_byte b) (list_all is_word_byte (take m bs)) (prefix_all is_word_byte (b ∷ bs) (suc m) h)) (omega arith)

word_first : (text : List ℕ) → begins is_letter text ≡ true → 0 < prefix_len is_word_byte text
word_first [] l = absurd (cc)
word_first (b ∷ bs) l = rw (letter_in_word b l) (omega arith)

no_longer_word : (text p r : List ℕ) (k : Kind) (v : ℕ) → begins is_letter text ≡ true → text ≡ p ++ r → IsToken p k v → (length p ≤ prefix_len is_word_byte text) × (length p ≤ 255)
no_longer_word text p r k v l e (word b bs h all len) =
    (rw e (all_within is_word_byte (b ∷ bs) r (both (is_word_byte b) (list_all is_word_byte bs) (letter_in_word b h) all)), len)
no_longer_word text p r k v l e (number ds num below) =
    absurd (begins_apart is_letter is_digit letter_not_digit text l (begins_front is_digit text ds r e (numeral_begins ds num)))
no_longer_word text p r k v l e (one_byte_sign a s) =
    absurd (begins_apart is_one_byte_sign is_letter sign_not_letter text (begins_front is_one_byte_sign text (a ∷ []) r e s) l)
no_longer_word text p r k v l e (two_byte_sign a b s) =
    absurd (begins_apart is_one_byte_sign is_letter sign_not_letter text (begins_front is_one_byte_sign text (a ∷ b ∷ []) r e (two_first a b s)) l)

pub word_here : (text : List ℕ) (n : ℕ) → begins is_letter text ≡ true → n ≡ min (prefix_len is_word_byte text) 255 → Here text n Word 0
word_here text n l e =
    let in_text = prefix_len-le-length is_word_byte text in
    let some = word_first text l in
    here text n Word 0 (omega arith)
    (record { token = word_piece text n l (omega arith) (omega arith) (omega arith); apart = λ q. absurd (cc) })
    (λ p r k v w s. (let m = no_longer_word text p r k v l w s.token in omega (arith, m.0, m.1)))

-- a number: all letters and digits
digits_all : (text p r : List ℕ) (k : Kind) (v : ℕ) → begins is_digit text ≡ true → text ≡ p ++ r → IsToken p k v → (k ≡ Number → begins is_word_byte r ≡ false) →
    (prefix_len is_word_byte text ≡ length p) × (number_value p ≡ Some (decimal p))
digits_all text p r k v d e (word b bs h all len) far =
    absurd (begins_apart is_letter is_digit letter_not_digit text (begins_front is_letter text (b ∷ bs) r e h) d)
digits_all text p r k v d e (number ds num below) far =
    (rw e (all_exact is_word_byte ds r (numeral_in_word ds num) (far refl)), number_made ds num below)
digits_all text p r k v d e (one_byte_sign a s) far =
    absurd (begins_apart is_one_byte_sign is_digit sign_not_digit text (begins_front is_one_byte_sign text (a ∷ []) r e s) d)
digits_all text p r k v d e (two_byte_sign a b s) far =
    absurd (begins_apart is_one_byte_sign is_digit sign_not_digit text (begins_front is_one_byte_sign text (a ∷ b ∷ []) r e (two_first a b s)) d)

pub number_here : (text : List ℕ) (n v : ℕ) → begins is_digit text ≡ true → n ≡ prefix_len is_word_byte text → number_value (take n text) ≡ Some v → Here text n Number v
number_here text n v d e is =
    let in_text = prefix_len-le-length is_word_byte text in
    let m = number_some (take n text) v is in
    here text n Number v (omega arith)
    (record { token = rw m.2 (number (take n text) m.0 m.1); apart = λ q. rw e (rest_stops is_word_byte text) })
    (λ p r k w q s. (let a = digits_all text p r k w d q s.token s.apart in omega (arith, a.0)))

pub no_number : (text : List ℕ) (n : ℕ) → begins is_digit text ≡ true → n ≡ prefix_len is_word_byte text → number_value (take n text) ≡ None → NoToken text
no_number text n d e none p r k v q s =
    let a = digits_all text p r k v d q s.token s.apart in
    let len : n ≡ length p = e ∙ a.0 in
    let same : take n text ≡ p = rw (len, q) (take-append_seam p r) in
    let is : number_value p ≡ None = rw same at none in
    let both : None ≡ Some (decimal p) = sym is ∙ a.1 in absurd (cc)

-- a sign: two bytes, or one
no_longer_sign : (text p r : List ℕ) (k : Kind) (v : ℕ) → begins is_letter text ≡ false → begins is_digit text ≡ false → text ≡ p ++ r → IsToken p k v → length p ≤ sign_len text
no_longer_sign text p r k v l d e (word b bs h all len) = absurd (apart (begins is_letter text) (begins_front is_letter text (b ∷ bs) r e h) l)
no_longer_sign text p r k v l d e (number ds num below) = absurd (apart (begins is_digit text) (begins_front is_digit text ds r e (numeral_begins ds num)) d)
no_longer_sign text p [] k v l d e (one_byte_sign a s) = rw (e, s) (omega arith)
no_longer_sign text p (c ∷ r) k v l d e (one_byte_sign a s) =
    rw e (elim (is_two_byte_sign a c) as (λ t. 1 ≤ (if t then 2 else (if is_one_byte_sign a then 1 else 0))) [ true ↦ omega arith | false ↦ rw s (omega arith) ])
no_longer_sign text p r k v l d e (two_byte_sign a b s) = rw (e, s) (omega arith)

sign_piece : (text : List ℕ) (n : ℕ) → n ≡ sign_len text → 0 < n → (n ≤ length text) × IsToken (take n text) Sign 0
sign_piece [] n e h = absurd (omega arith)
sign_piece (a ∷ []) n e h =
    elim (is_one_byte_sign a) as (λ t. is_one_byte_sign a ≡ t → n ≡ (if t then 1 else 0) → (n ≤ 1) × IsToken (take n (a ∷ [])) Sign 0) [
      | true ↦ λ s q. rw q (omega arith, one_byte_sign a s)
      | false ↦ λ s q. absurd (omega arith)
    ] refl e
sign_piece (a ∷ b ∷ bs) n e h =
    elim (is_two_byte_sign a b) as (λ t. is_two_byte_sign a b ≡ t → n ≡ (if t then 2 else (if is_one_byte_sign a then 1 else 0)) → (n ≤ length (a ∷ b ∷ bs)) × IsToken (take n (a ∷ b ∷ bs)) Sign 0) [
      | true ↦ λ s q. rw q (omega arith, two_byte_sign a b s)
      | false ↦ λ s q.
          elim (is_one_byte_sign a) as (λ t. is_one_byte_sign a ≡ t → n ≡ (if t then 1 else 0) → (n ≤ length (a ∷ b ∷ bs)) × IsToken (take n (a ∷ b ∷ bs)) Sign 0) [
            | true ↦ λ s q. rw q (omega arith, one_byte_sign a s)
            | false ↦ λ s q. absurd (omega arith)
          ] refl q
    ] refl e

pub sign_here : (text : List ℕ) (n : ℕ) → begins is_letter text ≡ false → begins is_digit text ≡ false → n ≡ sign_len text → 0 < n → Here text n Sign 0
sign_here text n l d e h =
    let s = sign_piece text n e h in
    here text n Sign 0 s.0
    (record { token = s.1; apart = λ q. absurd (cc) })
    (λ p r k v w t. (let m = no_longer_sign text p r k v l d w t.token in omega arith))

pub no_sign : (text : List ℕ) (n : ℕ) → begins is_letter text ≡ false → begins is_digit text ≡ false → n ≡ sign_len text → n ≡ 0 → NoToken text
no_sign text n l d e z p r k v w t =
    let m = no_longer_sign text p r k v l d w t.token in
    let some = token_some p k v t.token in absurd (omega arith)
