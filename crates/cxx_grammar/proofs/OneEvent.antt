-- A list has one first event at most, and none where its front is read.
use Rattle.std.proofs.Common.{◌≡◌, ◌⊎◌, inl, inr, List, [], ◌∷◌, ◌++◌, Option, Some, None, refl, sym, ap, subst, ◌∙◌, append_assoc, arith}
use Rattle.std.proofs.lemmas.Grind.{common_steps}
use Rattle.cxx_grammar.specs.declared.sort.Sort.{Sort}
use Rattle.cxx_grammar.specs.declared.sort.Lexeme.{Lexeme}
use Rattle.cxx_hierarchy.specs.declared.stop.Stop.{Stop}
use Rattle.cxx_grammar.specs.Grammar.{Symbol, Derives, Begins, block_form, source_form}
use Rattle.cxx_grammar.specs.Table.{Task, ABlock, ItemsEnd}
use Rattle.cxx_grammar.specs.Event.{State, admit, passes, and_then, refusal, excess, sorts, Event, at_token, at_excess, DerivesPrefix}
use Rattle.cxx_grammar.proofs.Link.{forms}
use Rattle.cxx_grammar.proofs.Prefix.{no_longer}

begins_less : (f : List Symbol) (xs ys : List Sort) → Begins f (xs ++ ys) → Begins f xs
begins_less f xs ys b = (ys ++ b.0, subst (Derives f) (append_assoc xs ys b.0) b.1)

sorts_join : (xs ys : List Lexeme) → sorts (xs ++ ys) ≡ sorts xs ++ sorts ys
sorts_join [] ys = refl
sorts_join (x ∷ xs) ys = ap (λ u. x.sort ∷ u) (sorts_join xs ys)

some_state : (s t : State) → Some s ≡ Some t → s ≡ t
some_state s t h = cc

-- what passes does not go on past a token that is not admitted
no_pass : (xs ys : List Sort) (y : Sort) (s s' t : State) → passes s xs ≡ Some s' → passes s (xs ++ y ∷ ys) ≡ Some t → admit y s' ≡ None → ⊥
no_pass [] ys y s s' t h k a =
    let q : admit y s ≡ None = subst (λ u. admit y u ≡ None) (sym (some_state s s' h)) a in
    let r : None ≡ Some t = subst (λ o. and_then o (λ v. passes v ys) ≡ Some t) q k in cc
no_pass (x ∷ xs) ys y s s' t h k a = on (λ v h k. no_pass xs ys y v s' t h k a) (admit x s) h k where
  on : ((v : State) → passes v xs ≡ Some s' → passes v (xs ++ y ∷ ys) ≡ Some t → ⊥) → (o : Option State) → and_then o (λ v. passes v xs) ≡ Some s' → and_then o (λ v. passes v (xs ++ y ∷ ys)) ≡ Some t → ⊥
  on ih None h k = absurd (cc)
  on ih (Some v) h k = ih v h k

-- why reading stops at a token behind others
abbrev Why : List Symbol → List Lexeme → Lexeme → State → Stop → Type 0
Why f pre l s e =
    ((Derives f (sorts pre) → ⊥) × (Begins f (sorts (pre ++ l ∷ [])) → ⊥) × (e ≡ refusal l)) ⊎
    (Begins f (sorts (pre ++ l ∷ [])) × (admit l.sort s ≡ None) × (e ≡ excess l))

record Stands (f : List Symbol) (st : State) (ts : List Lexeme) (e : Stop) : Type 0 where
  pre : List Lexeme
  post : List Lexeme
  l : Lexeme
  state : State
  split : ts ≡ pre ++ l ∷ post
  passed : passes st (sorts pre) ≡ Some state
  begun : Begins f (sorts pre)
  why : Why f pre l state e

stands : (f : List Symbol) (st : State) (ts : List Lexeme) (e : Stop) → Event f st ts e → Stands f st ts e
stands f st ts e (at_token pre post l s split h b d n q) = record { pre = pre; post = post; l = l; state = s; split = split; passed = h; begun = b; why = inl (d, n, q) }
stands f st ts e (at_excess pre post l s split h b a q) =
    record { pre = pre; post = post; l = l; state = s; split = split; passed = h; begun = begins_less f (sorts pre) (sorts (l ∷ [])) (subst (Begins f) (sorts_join pre (l ∷ [])) b); why = inr (b, a, q) }

-- no list that begins well goes past it
first_stop : (f : List Symbol) (st s t : State) (pre mid : List Lexeme) (l : Lexeme) (e : Stop) → passes st (sorts pre) ≡ Some s → Why f pre l s e →
    Begins f (sorts (pre ++ l ∷ mid)) → passes st (sorts (pre ++ l ∷ mid)) ≡ Some t → ⊥
first_stop f st s t pre mid l e h (inl w) b p =
    let g : sorts (pre ++ l ∷ mid) ≡ sorts (pre ++ l ∷ []) ++ sorts mid = sorts_join pre (l ∷ mid) ∙ (sym (append_assoc (sorts pre) (l.sort ∷ []) (sorts mid)) ∙ ap (λ u. u ++ sorts mid) (sym (sorts_join pre (l ∷ [])))) in
    w.1 (begins_less f (sorts (pre ++ l ∷ [])) (sorts mid) (subst (Begins f) g b))
first_stop f st s t pre mid l e h (inr w) b p = no_pass (sorts pre) (sorts mid) l.sort st s t h (subst (λ u. passes st u ≡ Some t) (sorts_join pre (l ∷ mid)) p) w.1

-- two places in one list
abbrev Meet : List Lexeme → Lexeme → List Lexeme → Lexeme → Type 0
Meet xs x ys y = ((xs ≡ ys) × (x ≡ y)) ⊎ (((mid : List Lexeme) × (ys ≡ xs ++ x ∷ mid)) ⊎ ((mid : List Lexeme) × (xs ≡ ys ++ y ∷ mid)))

meet : (xs us ys vs : List Lexeme) (x y : Lexeme) → xs ++ x ∷ us ≡ ys ++ y ∷ vs → Meet xs x ys y
meet [] us [] vs x y e = let q : x ≡ y = cc in inl (refl, q)
meet [] us (z ∷ ys) vs x y e = let q : z ∷ ys ≡ x ∷ ys = cc in inr (inl (ys, q))
meet (z ∷ xs) us [] vs x y e = let q : z ∷ xs ≡ y ∷ xs = cc in inr (inr (xs, q))
meet (z ∷ xs) us (w ∷ ys) vs x y e =
    let q : z ≡ w = cc in
    let t : xs ++ x ∷ us ≡ ys ++ y ∷ vs = cc in
    on q (meet xs us ys vs x y t) where
      on : z ≡ w → Meet xs x ys y → Meet (z ∷ xs) x (w ∷ ys) y
      on q (inl (a, b)) = let p : z ∷ xs ≡ w ∷ ys = cc in inl (p, b)
      on q (inr (inl (mid, a))) = let p : w ∷ ys ≡ z ∷ (xs ++ x ∷ mid) = cc in inr (inl (mid, p))
      on q (inr (inr (mid, a))) = let p : z ∷ xs ≡ w ∷ (ys ++ y ∷ mid) = cc in inr (inr (mid, p))

why_same : (f : List Symbol) (pre : List Lexeme) (l : Lexeme) (s t : State) (d e : Stop) → Why f pre l s d → Why f pre l t e → d ≡ e
why_same f pre l s t d e (inl a) (inl b) = a.2 ∙ sym b.2
why_same f pre l s t d e (inl a) (inr b) = absurd (a.1 b.0)
why_same f pre l s t d e (inr a) (inl b) = absurd (b.1 a.0)
why_same f pre l s t d e (inr a) (inr b) = a.2 ∙ sym b.2

stands_same : (f : List Symbol) (st : State) (ts : List Lexeme) (d e : Stop) → Stands f st ts d → Stands f st ts e → d ≡ e
stands_same f st ts d e a b = on (meet a.pre a.post b.pre b.post a.l b.l (sym a.split ∙ b.split)) where
  on : Meet a.pre a.l b.pre b.l → d ≡ e
  on (inl (p, q)) = why_same f a.pre a.l a.state b.state d e a.why (subst (λ u. Why f a.pre u b.state e) (sym q) (subst (λ u. Why f u b.l b.state e) (sym p) b.why))
  on (inr (inl (mid, p))) = absurd (first_stop f st a.state b.state a.pre mid a.l d a.passed a.why (subst (λ u. Begins f (sorts u)) p b.begun) (subst (λ u. passes st (sorts u) ≡ Some b.state) p b.passed))
  on (inr (inr (mid, p))) = absurd (first_stop f st b.state a.state b.pre mid b.l e b.passed b.why (subst (λ u. Begins f (sorts u)) p a.begun) (subst (λ u. passes st (sorts u) ≡ Some a.state) p a.passed))

pub event_same : (f : List Symbol) (st : State) (ts : List Lexeme) (d e : Stop) → Event f st ts d → Event f st ts e → d ≡ e
event_same f st ts d e a b = stands_same f st ts d e (stands f st ts d a) (stands f st ts e b)

-- a front, and a place in the list
abbrev Beside : List Lexeme → List Lexeme → Lexeme → Type 0
Beside front ys y = ((mid : List Lexeme) × (front ≡ ys ++ y ∷ mid)) ⊎ ((mid : List Lexeme) × (ys ≡ front ++ mid))

beside : (front rest ys vs : List Lexeme) (y : Lexeme) → front ++ rest ≡ ys ++ y ∷ vs → Beside front ys y
beside [] rest ys vs y e = inr (ys, refl)
beside (z ∷ front) rest [] vs y e = let q : z ∷ front ≡ y ∷ front = cc in inl (front, q)
beside (z ∷ front) rest (w ∷ ys) vs y e =
    let q : z ≡ w = cc in
    let t : front ++ rest ≡ ys ++ y ∷ vs = cc in
    on q (beside front rest ys vs y t) where
      on : z ≡ w → Beside front ys y → Beside (z ∷ front) (w ∷ ys) y
      on q (inl (mid, a)) = let p : z ∷ front ≡ w ∷ (ys ++ y ∷ mid) = cc in inl (mid, p)
      on q (inr (mid, a)) = let p : w ∷ ys ≡ z ∷ (front ++ mid) = cc in inr (mid, p)

front_stands : (m : Task) (f : List Symbol) (st : State) (ts rest : List Lexeme) (e : Stop) → forms (m ∷ []) ≡ f ∷ [] → DerivesPrefix f st ts rest → Stands f st ts e → ⊥
front_stands m f st ts rest e q h a = on (beside h.prefix rest a.pre a.post a.l (sym h.split ∙ a.split)) where
  longer : (t : Sort) (ts : List Sort) → Begins f (sorts h.prefix ++ t ∷ ts) → ⊥
  longer t ts b = no_longer m f (sorts h.prefix) t ts q h.derives b

  at_end : Why f h.prefix a.l a.state e → ⊥
  at_end (inl w) = w.0 h.derives
  at_end (inr w) = longer a.l.sort [] (subst (Begins f) (sorts_join h.prefix (a.l ∷ [])) w.0)

  whole : Begins f (sorts h.prefix)
  whole = let n : sorts h.prefix ++ [] ≡ sorts h.prefix = grind (arith, common_steps) in ([], subst (Derives f) (sym n) h.derives)

  on : Beside h.prefix a.pre a.l → ⊥
  on (inl (mid, p)) = first_stop f st a.state h.after a.pre mid a.l e a.passed a.why (subst (λ u. Begins f (sorts u)) p whole) (subst (λ u. passes st (sorts u) ≡ Some h.after) p h.admitted)
  on (inr ([], p)) = let n : h.prefix ++ [] ≡ h.prefix = grind (arith, common_steps) in at_end (subst (λ u. Why f u a.l a.state e) (p ∙ n) a.why)
  on (inr (x ∷ mid, p)) = longer x.sort (sorts mid) (subst (Begins f) (sorts_join h.prefix (x ∷ mid)) (subst (λ u. Begins f (sorts u)) p a.begun))

pub no_source_event : (st : State) (ts rest : List Lexeme) (e : Stop) → DerivesPrefix source_form st ts rest → Event source_form st ts e → ⊥
no_source_event st ts rest e h a = front_stands ItemsEnd source_form st ts rest e refl h (stands source_form st ts e a)

pub no_block_event : (st : State) (ts rest : List Lexeme) (e : Stop) → DerivesPrefix block_form st ts rest → Event block_form st ts e → ⊥
no_block_event st ts rest e h a = front_stands ABlock block_form st ts rest e refl h (stands block_form st ts e a)
