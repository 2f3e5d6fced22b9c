-- A text has one list of tokens.
use Rattle.std.proofs.Common.{◌≡◌, ℕ, ◌<◌, List, [], ◌∷◌, ◌++◌, length, refl, arith, sym, ap, subst, ◌∙◌, Option, Some}
use Rattle.cxx_text.specs.declared.token.Kind.{Kind}
use Rattle.cxx_text.specs.declared.token.Token.{Token}
use Rattle.cxx_text.specs.Longest.{IsLongest}
use Rattle.cxx_text.specs.OneToken.{IsToken}
use Rattle.cxx_text.specs.Blank.{Blank}
use Rattle.cxx_text.specs.Cover.{Covers, end, blank, token, stops, AreTokens, token_after}
use Rattle.cxx_text.specs.invariants.Front.{blank_len}
use Rattle.cxx_text.proofs.Blanks.{blank_found, blank_some}
use Rattle.cxx_text.proofs.Pieces.{token_same, token_some}

-- two fronts of one length are one
front_same : (p p' r r' : List ℕ) → p ++ r ≡ p' ++ r' → length p ≡ length p' → (p ≡ p') × (r ≡ r')
front_same [] [] r r' e l = (refl, e)
front_same [] (b ∷ p') r r' e l = absurd (omega arith)
front_same (a ∷ p) [] r r' e l = absurd (omega arith)
front_same (a ∷ p) (b ∷ p') r r' e l =
    let i = front_same p p' r r' (cc) (omega arith) in
    let h : a ≡ b = cc in let t = i.0 in ((cc), i.1)

not_empty : (text p r : List ℕ) → text ≡ [] → text ≡ p ++ r → 0 < length p → ⊥
not_empty text [] r e w l = omega arith
not_empty text (c ∷ p) r e w l = let q : [] ≡ c ∷ (p ++ r) = sym e ∙ w in cc

blank_same : (text p p' r r' : List ℕ) → text ≡ p ++ r → Blank p r → text ≡ p' ++ r' → Blank p' r' → (p ≡ p') × (r ≡ r')
blank_same text p p' r r' e b e' b' =
    let x = blank_found p r b in let y = blank_found p' r' b' in
    let w : p ++ r ≡ p' ++ r' = sym e ∙ e' in
    let s : Some (length p) ≡ Some (length p') = sym x ∙ (ap blank_len w ∙ y) in
    front_same p p' r r' w (cc)

longest_same : (text p p' r r' : List ℕ) (k k' : Kind) (v v' : ℕ) → IsLongest text p r k v → IsLongest text p' r' k' v' → (p ≡ p') × (r ≡ r') × (k ≡ k') × (v ≡ v')
longest_same text p p' r r' k k' v v' a b =
    let x = a.longest p' r' k' v' b.whole b.stands in
    let y = b.longest p r k v a.whole a.stands in
    let f = front_same p p' r r' (sym a.whole ∙ b.whole) (omega arith) in
    let t = token_same p k k' v v' a.stands.token (subst (λ u. IsToken u k' v') (sym f.0) b.stands.token) in
    (f.0, f.1, t.0, t.1)

-- the same from here on
covers_same : (before text : List ℕ) (ts ts' : List Token) (b b' : Option ℕ) → Covers before text ts b → Covers before text ts' b' → (ts ≡ ts') × (b ≡ b')
covers_same before text ts ts' b b' (end _ _ e) (end _ _ e') = (refl, refl)
covers_same before text ts ts' b b' (end _ _ e) (blank _ _ p r _ _ w l c) = absurd (not_empty text p r e w (blank_some p r l))
covers_same before text ts ts' b b' (end _ _ e) (token _ _ p r k v _ _ n l c) = absurd (not_empty text p r e l.whole (token_some p k v l.stands.token))
covers_same before text ts ts' b b' (end _ _ e) (stops _ _ d ds w n m) = absurd (let q : [] ≡ d ∷ ds = sym e ∙ w in cc)
covers_same before text ts ts' b b' (blank _ _ p r _ _ w l c) (end _ _ e) = absurd (not_empty text p r e w (blank_some p r l))
covers_same before text ts ts' b b' (blank _ _ p r _ _ w l c) (blank _ _ p' r' _ _ w' l' c') =
    let s = blank_same text p p' r r' w l w' l' in
    let c2 = subst (λ u. Covers (before ++ u) r' ts' b') (sym s.0) c' in
    let c3 = subst (λ u. Covers (before ++ p) u ts' b') (sym s.1) c2 in
    covers_same (before ++ p) r ts ts' b b' c c3
covers_same before text ts ts' b b' (blank _ _ p r _ _ w l c) (token _ _ p' r' k v _ _ n _ c') = absurd (n p r w l)
covers_same before text ts ts' b b' (blank _ _ p r _ _ w l c) (stops _ _ d ds w' n m) = absurd (n p r w l)
covers_same before text ts ts' b b' (token _ _ p r k v us _ n l c) (end _ _ e) = absurd (not_empty text p r e l.whole (token_some p k v l.stands.token))
covers_same before text ts ts' b b' (token _ _ p r k v us _ n l c) (blank _ _ p' r' _ _ w l' c') = absurd (n p' r' w l')
covers_same before text ts ts' b b' (token _ _ p r k v us _ n l c) (token _ _ p' r' k' v' us' _ n' l' c') =
    let s = longest_same text p p' r r' k k' v v' l l' in
    let c2 = subst (λ u. Covers (before ++ u) r' us' b') (sym s.0) c' in
    let c3 = subst (λ u. Covers (before ++ p) u us' b') (sym s.1) c2 in
    let i = covers_same (before ++ p) r us us' b b' c c3 in
    (ap (λ u. token_after before u k v ∷ us) s.0 ∙ (ap (λ u. token_after before p' u v ∷ us) s.2 ∙ (ap (λ u. token_after before p' k' u ∷ us) s.3 ∙ ap (λ u. token_after before p' k' v' ∷ u) i.0)), i.1)
covers_same before text ts ts' b b' (token _ _ p r k v us _ n l c) (stops _ _ d ds w n' m) = absurd (m p r k v l.whole l.stands)
covers_same before text ts ts' b b' (stops _ _ d ds w n m) (end _ _ e) = absurd (let q : [] ≡ d ∷ ds = sym e ∙ w in cc)
covers_same before text ts ts' b b' (stops _ _ d ds w n m) (blank _ _ p r _ _ w' l c) = absurd (n p r w' l)
covers_same before text ts ts' b b' (stops _ _ d ds w n m) (token _ _ p r k v _ _ n' l c) = absurd (m p r k v l.whole l.stands)
covers_same before text ts ts' b b' (stops _ _ d ds w n m) (stops _ _ d' ds' w' n' m') = (refl, refl)

pub tokens_same : (text : List ℕ) (ts us : List Token) (bad worse : Option ℕ) → AreTokens text ts bad → AreTokens text us worse → (ts ≡ us) × (bad ≡ worse)
tokens_same text ts us bad worse a b = covers_same [] text ts us bad worse a b
