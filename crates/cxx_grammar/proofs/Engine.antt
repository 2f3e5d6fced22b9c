-- What is left of symbols after a token, for any grammar.
use Rattle.std.proofs.Common.{◌≡◌, ℕ, zero, suc, Bool, true, false, cond, ◌⊎◌, inl, inr, List, [], ◌∷◌, ◌++◌, Option, Some, None, refl, sym, ap, subst, ◌∙◌, append_assoc}
use Rattle.cxx_grammar.specs.declared.sort.Sort.{Sort}
use Rattle.cxx_grammar.specs.Sorts.{is_same}
use Rattle.cxx_grammar.specs.Grammar.{NonTerminal, Symbol, tok, part, grammar, In, Derives, token, choose}
use Rattle.cxx_grammar.proofs.Sorts.{is_same_eq, is_same_refl}

abbrev pub both : {A : Type 0} → Option (List A) → Option (List A) → Option (List A)
both None y = None
both (Some x) None = None
both (Some x) (Some y) = Some (x ++ y)

abbrev pub gather : {A B : Type 0} → (A → Option (List B)) → List A → Option (List B)
gather f [] = Some []
gather f (x ∷ xs) = both (f x) (gather f xs)

-- what may be left of the symbols after a token, or none where that is not found in n steps
abbrev pub step : ℕ → Sort → List Symbol → Option (List (List Symbol))
step zero t f = None
step (suc n) t [] = None
step (suc n) t (tok s ∷ ss) = Some (cond (is_same s t) (ss ∷ []) [])
step (suc n) t (part p ∷ ss) = gather (λ rhs. step n t (rhs ++ ss)) (grammar p)

pub In-left : {A : Type 0} (x : A) (ys zs : List A) → In x ys → In x (ys ++ zs)
In-left x [] zs h = elim h [ ]
In-left x (y ∷ ys) zs (inl e) = inl e
In-left x (y ∷ ys) zs (inr h) = inr (In-left x ys zs h)

pub In-right : {A : Type 0} (x : A) (ys zs : List A) → In x zs → In x (ys ++ zs)
In-right x [] zs h = h
In-right x (y ∷ ys) zs h = inr (In-right x ys zs h)

pub In-split : {A : Type 0} (x : A) (ys zs : List A) → In x (ys ++ zs) → In x ys ⊎ In x zs
In-split x [] zs h = inr h
In-split x (y ∷ ys) zs (inl e) = inl (inl e)
In-split x (y ∷ ys) zs (inr h) = elim (In-split x ys zs h) [ inl a ↦ inl (inr a) | inr b ↦ inr b ]

-- what `both` joins
both_some : {A : Type 0} (u v : Option (List A)) (X : List A) → both u v ≡ Some X → (U V : List A) × (u ≡ Some U) × (v ≡ Some V) × (X ≡ U ++ V)
both_some None v X e = absurd (cc)
both_some (Some U) None X e = absurd (cc)
both_some (Some U) (Some V) X e = let x : X ≡ U ++ V = cc in (U, V, refl, refl, x)

-- a gathered list has all of each alternative
pub gather_each : {A B : Type 0} (f : A → Option (List B)) (xs : List A) (X : List B) (a : A) → gather f xs ≡ Some X → In a xs
    → (Y : List B) × (f a ≡ Some Y) × ((b : B) → In b Y → In b X)
gather_each f [] X a e h = elim h [ ]
gather_each f (x ∷ xs) X a e (inl i) =
    let j = both_some (f x) (gather f xs) X e in
    (j.0, ap f i ∙ j.2, λ b k. subst (In b) (sym j.4) (In-left b j.0 j.1 k))
gather_each f (x ∷ xs) X a e (inr i) =
    let j = both_some (f x) (gather f xs) X e in
    let r = gather_each f xs j.1 a j.3 i in
    (r.0, r.1, λ b k. subst (In b) (sym j.4) (In-right b j.0 j.1 (r.2 b k)))

-- and nothing else
pub gather_some : {A B : Type 0} (f : A → Option (List B)) (xs : List A) (X : List B) (b : B) → gather f xs ≡ Some X → In b X
    → (a : A) × (Y : List B) × (In a xs) × (f a ≡ Some Y) × (In b Y)
gather_some f [] X b e h = let x : X ≡ [] = cc in absurd (subst (In b) x h)
gather_some f (x ∷ xs) X b e h =
    let j = both_some (f x) (gather f xs) X e in
    elim (In-split b j.0 j.1 (subst (In b) j.4 h)) [
      | inl k ↦ (x, j.0, inl refl, j.2, k)
      | inr k ↦ (let r = gather_some f xs j.1 b j.3 k in (r.0, r.1, inr r.2, r.3, r.4))
    ]

-- the first token of a derivation
of_token : (s t : Sort) (ss : List Symbol) (ts : List Sort) → Derives (tok s ∷ ss) (t ∷ ts) → (s ≡ t) × Derives ss ts
of_token s t ss ts (token d) = (refl, d)

of_part : (p : NonTerminal) (ss : List Symbol) (ts : List Sort) → Derives (part p ∷ ss) ts → (rhs : List Symbol) × In rhs (grammar p) × Derives (rhs ++ ss) ts
of_part p ss ts (choose rhs i d) = (rhs, i, d)

-- each derivation goes through a step
pub step_complete : (n : ℕ) (t : Sort) (f : List Symbol) (X : List (List Symbol)) (k : List Symbol) (ts : List Sort) → step n t f ≡ Some X
    → Derives (f ++ k) (t ∷ ts) → (x : List Symbol) × In x X × Derives (x ++ k) ts
step_complete zero t f X k ts e d = absurd (cc)
step_complete (suc n) t [] X k ts e d = absurd (cc)
step_complete (suc n) t (tok s ∷ ss) X k ts e d =
    let j = of_token s t (ss ++ k) ts d in
    let is : is_same s t ≡ true = subst (λ u. is_same s u ≡ true) j.0 (is_same_refl s) in
    let x : X ≡ ss ∷ [] = (let c : cond (is_same s t) (ss ∷ []) [] ≡ ss ∷ [] = rw is refl in cc) in
    (ss, subst (In ss) (sym x) (inl refl), j.1)
step_complete (suc n) t (part p ∷ ss) X k ts e d =
    let j = of_part p (ss ++ k) (t ∷ ts) d in
    let g = gather_each (λ rhs. step n t (rhs ++ ss)) (grammar p) X j.0 e j.1 in
    let d' : Derives ((j.0 ++ ss) ++ k) (t ∷ ts) = rw append_assoc j.2 in
    let r = step_complete n t (j.0 ++ ss) g.0 k ts g.1 d' in
    (r.0, g.2 r.0 r.1, r.2)

-- what a step is found for derives no empty list
pub no_step : (n : ℕ) (t : Sort) (f : List Symbol) (X : List (List Symbol)) (k : List Symbol) → step n t f ≡ Some X → Derives (f ++ k) [] → ⊥
no_step zero t f X k e d = absurd (cc)
no_step (suc n) t [] X k e d = absurd (cc)
no_step (suc n) t (tok s ∷ ss) X k e d = elim d [ ]
no_step (suc n) t (part p ∷ ss) X k e d =
    let j = of_part p (ss ++ k) [] d in
    let g = gather_each (λ rhs. step n t (rhs ++ ss)) (grammar p) X j.0 e j.1 in
    let d' : Derives ((j.0 ++ ss) ++ k) [] = rw append_assoc j.2 in
    no_step n t (j.0 ++ ss) g.0 k g.1 d'

-- and each step goes back
pub step_sound : (n : ℕ) (t : Sort) (f : List Symbol) (X : List (List Symbol)) (x k : List Symbol) (ts : List Sort) → step n t f ≡ Some X
    → In x X → Derives (x ++ k) ts → Derives (f ++ k) (t ∷ ts)
step_sound zero t f X x k ts e i d = absurd (cc)
step_sound (suc n) t [] X x k ts e i d = absurd (cc)
step_sound (suc n) t (tok s ∷ ss) X x k ts e i d = sound_token s t ss x k ts (is_same s t) refl (let c : X ≡ cond (is_same s t) (ss ∷ []) [] = cc in subst (In x) c i) d where
  sound_token : (s t : Sort) (ss x k : List Symbol) (ts : List Sort) (b : Bool) → is_same s t ≡ b → In x (cond b (ss ∷ []) []) → Derives (x ++ k) ts → Derives (tok s ∷ (ss ++ k)) (t ∷ ts)
  sound_token s t ss x k ts true e (inl i) d = subst (λ u. Derives (tok s ∷ (ss ++ k)) (u ∷ ts)) (is_same_eq s t e) (token (subst (λ y. Derives (y ++ k) ts) i d))
  sound_token s t ss x k ts true e (inr i) d = elim i [ ]
  sound_token s t ss x k ts false e i d = elim i [ ]
step_sound (suc n) t (part p ∷ ss) X x k ts e i d =
    let g = gather_some (λ rhs. step n t (rhs ++ ss)) (grammar p) X x e i in
    let d' = step_sound n t (g.0 ++ ss) g.1 x k ts g.3 g.4 d in
    let d2 : Derives (g.0 ++ (ss ++ k)) (t ∷ ts) = rw append_assoc at d' in
    choose g.0 g.2 d2
