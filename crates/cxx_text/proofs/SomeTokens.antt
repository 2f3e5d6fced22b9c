-- A text has a list of tokens.
use Rattle.std.proofs.Common.{◌≡◌, ℕ, zero, suc, ◌+◌, ◌≤◌, ◌<◌, ◌⊎◌, inl, inr, min, Bool, true, false, List, [], ◌∷◌, ◌++◌, take, drop, length, length-append, Option, Some, None, refl, sym, arith}
use Rattle.std.specs.List.{prefix_len}
use Rattle.std.proofs.lemmas.List.{take-append-drop, length-drop}
use Rattle.cxx_text.specs.declared.token.Kind.{Kind}
use Rattle.cxx_text.specs.declared.token.Kind.TheVariants.{Word, Number, Sign, End}
use Rattle.cxx_text.specs.declared.token.Token.{Token}
use Rattle.cxx_text.specs.Bytes.{is_letter, is_digit, is_word_byte, begins}
use Rattle.cxx_text.specs.Blank.{NoBlank}
use Rattle.cxx_text.specs.Longest.{IsLongest, NoToken}
use Rattle.cxx_text.specs.Cover.{Covers, end, blank, token, stops, AreTokens, token_after}
use Rattle.cxx_text.specs.invariants.Front.{blank_len, number_value, sign_len}
use Rattle.cxx_text.proofs.Blanks.{blank_is, no_blank, blank_some}
use Rattle.cxx_text.proofs.Pieces.{token_some}
use Rattle.cxx_text.proofs.LongestPiece.{Here, word_here, number_here, no_number, sign_here, no_sign}

-- a token stands at the front, or none does
abbrev Front : List ℕ → Type 0
Front text = ((n : ℕ) × (kind : Kind) × (value : ℕ) × Here text n kind value) ⊎ NoToken text

number_or_none : (text : List ℕ) → begins is_digit text ≡ true → Front text
number_or_none text d = on (number_value (take (prefix_len is_word_byte text) text)) refl where
  on : (o : Option ℕ) → number_value (take (prefix_len is_word_byte text) text) ≡ o → Front text
  on (Some v) e = inl (prefix_len is_word_byte text, Number, v, number_here text (prefix_len is_word_byte text) v d refl e)
  on None e = inr (no_number text (prefix_len is_word_byte text) d refl e)

sign_or_none : (text : List ℕ) → begins is_letter text ≡ false → begins is_digit text ≡ false → Front text
sign_or_none text l d = on (sign_len text) refl where
  on : (n : ℕ) → n ≡ sign_len text → Front text
  on zero e = inr (no_sign text zero l d e refl)
  on (suc n) e = inl (suc n, Sign, 0, sign_here text (suc n) l d e (omega arith))

token_or_none : (text : List ℕ) → Front text
token_or_none text = by_letter (begins is_letter text) refl where
  by_digit : begins is_letter text ≡ false → (b : Bool) → begins is_digit text ≡ b → Front text
  by_digit l true d = number_or_none text d
  by_digit l false d = sign_or_none text l d

  by_letter : (b : Bool) → begins is_letter text ≡ b → Front text
  by_letter true l = inl (min (prefix_len is_word_byte text) 255, Word, 0, word_here text (min (prefix_len is_word_byte text) 255) l refl)
  by_letter false l = by_digit l (begins is_digit text) refl

-- the tokens of a text behind these bytes
abbrev Some_tokens : List ℕ → List ℕ → Type 0
Some_tokens before text = (ts : List Token) × (bad : Option ℕ) × Covers before text ts bad

some_covers : (n : ℕ) (before text : List ℕ) → length text ≤ n → Some_tokens before text
some_covers n before [] h = (token_after before [] End 0 ∷ [], None, end before [] refl)
some_covers zero before (b ∷ bs) h = absurd (omega arith)
some_covers (suc n) before (b ∷ bs) h = by_blank (λ k some. some_covers n (before ++ take k (b ∷ bs)) (drop k (b ∷ bs)) (let e = length-drop k (b ∷ bs) in omega (arith, h, some, e))) (blank_len (b ∷ bs)) refl where
  by_token : ((k : ℕ) → 0 < k → Some_tokens (before ++ take k (b ∷ bs)) (drop k (b ∷ bs))) → NoBlank (b ∷ bs) → Front (b ∷ bs) → Some_tokens before (b ∷ bs)
  by_token ih clear (inl (k, kind, value, is)) =
      let r = ih k is.0 in
      (token_after before (take k (b ∷ bs)) kind value ∷ r.0, r.1, token before (b ∷ bs) (take k (b ∷ bs)) (drop k (b ∷ bs)) kind value r.0 r.1 clear is.2 r.2)
  by_token ih clear (inr absent) = ([], Some (length before), stops before (b ∷ bs) b bs refl clear absent)

  by_blank : ((k : ℕ) → 0 < k → Some_tokens (before ++ take k (b ∷ bs)) (drop k (b ∷ bs))) → (o : Option ℕ) → blank_len (b ∷ bs) ≡ o → Some_tokens before (b ∷ bs)
  by_blank ih (Some k) e =
      let f = blank_is (b ∷ bs) k e in
      let r = ih k f.0 in
      (r.0, r.1, blank before (b ∷ bs) (take k (b ∷ bs)) (drop k (b ∷ bs)) r.0 r.1 (sym (take-append-drop k (b ∷ bs))) f.2 r.2)
  by_blank ih None e = by_token ih (no_blank (b ∷ bs) e) (token_or_none (b ∷ bs))

pub some_tokens : (text : List ℕ) → (ts : List Token) × (bad : Option ℕ) × AreTokens text ts bad
some_tokens text = some_covers (length text) [] text (omega arith)

-- there are at most as many tokens as bytes, and the end
covers_within : (before text : List ℕ) (ts : List Token) (bad : Option ℕ) → Covers before text ts bad → length ts ≤ length text + 1
covers_within before text ts bad (end _ _ e) = omega arith
covers_within before text ts bad (blank _ _ piece rest _ _ e b c) =
    let h = covers_within (before ++ piece) rest ts bad c in
    let l = length-append piece rest in
    rw e (omega (arith, h, l))
covers_within before text ts bad (token _ _ piece rest kind value us _ clear is c) =
    let h = covers_within (before ++ piece) rest us bad c in
    let l = length-append piece rest in
    let some = token_some piece kind value is.stands.token in
    rw is.whole (omega (arith, h, l, some))
covers_within before text ts bad (stops _ _ b bs e clear absent) = omega arith

pub tokens_within : (text : List ℕ) (ts : List Token) (bad : Option ℕ) → AreTokens text ts bad → length ts ≤ length text + 1
tokens_within text ts bad c = covers_within [] text ts bad c
