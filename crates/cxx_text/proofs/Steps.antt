-- Steps of the scan over white space, comments and tokens.
use Rattle.std.proofs.Common.{◌≡◌, ℕ, ◌+◌, ◌≤◌, ◌<◌, List, [], ◌∷◌, ◌++◌, take, drop, length, Option, Some, None, arith, append_assoc, sym, refl, count_by, cond}
use Rattle.std.proofs.lemmas.Grind.{common_steps}
use Rattle.std.proofs.lemmas.List.{length-take-le, take-append-drop}
use Rattle.std.proofs.lemmas.List.Sums.{sum_by-append}
use Rattle.std.proofs.Math.Seq.{take-add}
use Rattle.cxx_text.specs.declared.token.Kind.{Kind}
use Rattle.cxx_text.specs.declared.token.Kind.TheVariants.{End}
use Rattle.cxx_text.specs.declared.token.Token.{Token}
use Rattle.cxx_text.specs.Bytes.{is_line_end}
use Rattle.cxx_text.specs.Longest.{IsLongest, NoToken}
use Rattle.cxx_text.specs.Blank.{Blank, NoBlank}
use Rattle.cxx_text.specs.Cover.{Covers, end, blank, token, stops, AreTokens, token_after, line_after}

-- the tokens so far, whatever tokens follow
abbrev pub SoFar : List ℕ → ℕ → List ℕ → List Token → Type 0
SoFar text p rest out = (ts : List Token) (bad : Option ℕ) → Covers (take p text) rest ts bad → AreTokens text (out ++ ts) bad

further : (text rest : List ℕ) (p n : ℕ) (r : List ℕ) (ts : List Token) (bad : Option ℕ) → rest ≡ drop p text →
    Covers (take (p + n) text) r ts bad → Covers (take p text ++ take n rest) r ts bad
further text rest p n r ts bad e c = rw e (rw (take-add p n text) at c)

pub line_further : (text rest : List ℕ) (p n line more : ℕ) → rest ≡ drop p text → line ≡ line_after (take p text) → more ≡ count_by is_line_end (take n rest) →
    line + more ≡ line_after (take (p + n) text)
line_further text rest p n line more e l m =
    let both = sum_by-append (λ b. cond (is_line_end b) 1 0) (take p text) (take n (drop p text)) in
    let m' : more ≡ count_by is_line_end (take n (drop p text)) = rw e at m in
    rw (take-add p n text) (omega (arith, both, m', l))

pub after_blank : (text rest : List ℕ) (p n : ℕ) (out : List Token) → rest ≡ drop p text → SoFar text p rest out →
    Blank (take n rest) (drop n rest) → SoFar text (p + n) (drop n rest) out
after_blank text rest p n out e so_far b ts bad c =
    so_far ts bad (blank (take p text) rest (take n rest) (drop n rest) ts bad (sym (take-append-drop n rest)) b (further text rest p n (drop n rest) ts bad e c))

the_token : (text rest : List ℕ) (p n : ℕ) (k : Kind) (v line : ℕ) → p + length rest ≡ length text → n ≤ length rest → line ≡ line_after (take p text) →
    record { kind = k; start = p; end = p + n; line = line; value = v } ≡ token_after (take p text) (take n rest) k v
the_token text rest p n k v line e h l =
    let a = length-take-le p text (omega arith) in
    let b = length-take-le n rest h in rw (a, b, l) refl

pub after_token : (text rest : List ℕ) (p n : ℕ) (out out' : List Token) (k : Kind) (v line : ℕ) → p + length rest ≡ length text → rest ≡ drop p text → line ≡ line_after (take p text) →
    SoFar text p rest out → NoBlank rest → n ≤ length rest → IsLongest rest (take n rest) (drop n rest) k v →
    out' ≡ out ++ record { kind = k; start = p; end = p + n; line = line; value = v } ∷ [] → SoFar text (p + n) (drop n rest) out'
after_token text rest p n out out' k v line size e l so_far none h longest pushed ts bad c =
    rw (pushed, append_assoc, the_token text rest p n k v line size h l)
    (so_far _ bad (token (take p text) rest (take n rest) (drop n rest) k v ts bad none longest (further text rest p n (drop n rest) ts bad e c)))

no_items : (xs : List ℕ) → length xs ≡ 0 → xs ≡ []
no_items [] h = refl
no_items (x ∷ xs) h = absurd (omega arith)

pub at_end : (text rest : List ℕ) (p : ℕ) (out out' : List Token) (line : ℕ) → p + length rest ≡ length text → length rest ≡ 0 → line ≡ line_after (take p text) →
    SoFar text p rest out → out' ≡ out ++ record { kind = End; start = p; end = p; line = line; value = 0 } ∷ [] → AreTokens text out' None
at_end text rest p out out' line size z l so_far pushed =
    let empty : rest ≡ [] = no_items rest z in
    let a : length (take p text) ≡ p = length-take-le p text (omega arith) in
    let e : p + 0 ≡ p = omega arith in
    let last : record { kind = End; start = p; end = p; line = line; value = 0 } ≡ token_after (take p text) [] End 0 = rw (a, l, e) refl in
    rw (pushed, last) (so_far _ None (end (take p text) rest empty))

pub at_bad : (text rest : List ℕ) (p : ℕ) (out : List Token) → p + length rest ≡ length text → 0 < length rest →
    SoFar text p rest out → NoBlank rest → NoToken rest → AreTokens text out (Some p)
at_bad text [] p out size h so_far none no_token = absurd (omega arith)
at_bad text (b ∷ bs) p out size h so_far none no_token =
    let a : length (take p text) ≡ p = length-take-le p text (omega arith) in
    let nil : out ++ [] ≡ out = grind (arith, common_steps) in
    let all = so_far [] (Some (length (take p text))) (stops (take p text) (b ∷ bs) b bs refl none no_token) in
    rw (nil, a) at all
