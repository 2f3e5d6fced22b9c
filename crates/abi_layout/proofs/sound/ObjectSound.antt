-- Where all nodes are arranged, the tree of an object is sound at every depth.
use Rattle.std.proofs.Common.{◌≡◌, ℕ, ◌+◌, ◌*◌, ◌<◌, ◌≤◌, ◌⊎◌, inl, inr, ⊎_elim, Some, List, [], ◌∷◌, refl, ap, subst, sym, ◌∙◌, arith}
use Rattle.std.specs.List.{slice_get}
use Rattle.std.proofs.lemmas.Bool.{cases_order}
use Rattle.abi_sound.specs.Sound.{Divides}
use Rattle.abi_layout.proofs.lists.Divisions.{sum_divides, through_divides, itself_divides, zero_divides, copy_ends}
use Rattle.abi_layout.proofs.sound.ObjectTree.{Node, Placement, Step, Contents, start_of, StepsTo, Reaches, here, down, Measures, IsInPlace, LieApart, AreArranged, IsSoundTree}

in_place : (contents : Contents) (m : Measures) → AreArranged contents m → (n : Node) (s : Step) (k : Placement) → StepsTo contents n s k → IsInPlace m n k
in_place contents m all n s k h = (all.node n).each s.number k h.there

spans_below : (contents : Contents) (m : Measures) → AreArranged contents m → (n : Node) (s : Step) (k : Placement) → StepsTo contents n s k → start_of k s.copy + m.span k.node ≤ m.span n
spans_below contents m all n s k h = (in_place contents m all n s k h).spans s.copy h.within

inside : (contents : Contents) (m : Measures) → AreArranged contents m → (n k : Node) (p : List Step) (q : ℕ) → Reaches contents n p q k → q + m.span k ≤ m.span n
inside contents m all _ _ _ _ (here n) = omega arith
inside contents m all _ _ _ _ (down n k s p q c h r) = let i = inside contents m all c.node k p q r in let j = spans_below contents m all n s c h in omega arith

ends : (contents : Contents) (m : Measures) → AreArranged contents m → (n k : Node) (p : List Step) (q : ℕ) → Reaches contents n p q k → 0 < m.data_end k → 8 * q + m.data_end k ≤ m.data_end n
ends contents m all _ _ _ _ (here n) some = omega arith
ends contents m all _ _ _ _ (down n k s p q c h r) some =
    let i = ends contents m all c.node k p q r some in
    let e = (in_place contents m all n s c h).ends (omega arith) s.copy h.within in
    omega arith

-- data begins behind the beginning of the whole
starts : (contents : Contents) (m : Measures) → AreArranged contents m → (n k : Node) (p : List Step) (q : ℕ) → Reaches contents n p q k → m.data_start n ≤ 8 * q + m.data_start k
starts contents m all _ _ _ _ (here n) = omega arith
starts contents m all _ _ _ _ (down n k s p q c h r) = let e = (in_place contents m all n s c h).begins in omega (arith, e)

coarser : (contents : Contents) (m : Measures) → AreArranged contents m → (n k : Node) (p : List Step) (q : ℕ) → Reaches contents n p q k → Divides (m.align k) (m.align n)
coarser contents m all _ _ _ _ (here n) = itself_divides (m.align n)
coarser contents m all _ _ _ _ (down n k s p q c h r) = through_divides (m.align k) (m.align c.node) (m.align n) (coarser contents m all c.node k p q r) (in_place contents m all n s c h).coarser

aligned : (contents : Contents) (m : Measures) → AreArranged contents m → (n k : Node) (p : List Step) (q : ℕ) → Reaches contents n p q k → Divides (m.align k) q
aligned contents m all _ _ _ _ (here n) = zero_divides (m.align n)
aligned contents m all _ _ _ _ (down n k s p q c h r) =
    let own = (in_place contents m all n s c h).aligned s.copy h.within in
    sum_divides (m.align k) (start_of c s.copy) q (through_divides (m.align k) (m.align c.node) (start_of c s.copy) (coarser contents m all c.node k p q r) own) (aligned contents m all c.node k p q r)

abbrev step : ℕ → ℕ → Step
step a b = record { number = a; copy = b }

-- two steps: the same, to two copies of one placement, or to two placements
data Order (s t : Step) : Type 0 where
  same : s ≡ t → Order s t
  copies : s.number ≡ t.number → s.copy < t.copy → Order s t
  copies_back : s.number ≡ t.number → t.copy < s.copy → Order s t
  ahead : s.number < t.number → Order s t
  back : t.number < s.number → Order s t

order : (s t : Step) → Order s t
order s t = ⊎_elim (λ e. ⊎_elim (λ f. same (both e f)) (λ o. ⊎_elim (λ a. copies e a) (λ b. copies_back e b) o) (cases_order s.copy t.copy)) (λ o. ⊎_elim (λ a. ahead a) (λ b. back b) o) (cases_order s.number t.number)
  where
    both : s.number ≡ t.number → s.copy ≡ t.copy → s ≡ t
    both e f = let x : step s.number s.copy ≡ step t.number t.copy = ap (λ a. step a s.copy) e ∙ ap (λ b. step t.number b) f in x

-- steps of one number lead to one placement
one_placement : (contents : Contents) (n : Node) (s t : Step) (k l : Placement) → s.number ≡ t.number → StepsTo contents n s k → StepsTo contents n t l → l ≡ k
one_placement contents n s t k l e h i = let f = ap (λ z. slice_get (contents n) z) e in let a = h.there in let b = i.there in cc

-- the data of what different steps lead to lies apart
steps_apart : (contents : Contents) (m : Measures) → AreArranged contents m → (n : Node) (s t : Step) (k l : Placement) → StepsTo contents n s k → StepsTo contents n t l → (s ≡ t → ⊥) → 0 < m.data_end k.node → 0 < m.data_end l.node → LieApart m (start_of k s.copy) k.node (start_of l t.copy) l.node
steps_apart contents m all n s t k l h i differ a b = by_order (order s t)
  where
    by_order : Order s t → LieApart m (start_of k s.copy) k.node (start_of l t.copy) l.node
    by_order (same e) = absurd (differ e)
    by_order (copies e lt) =
        let f = (in_place contents m all n s k h).data_fits in
        let c = copy_ends s.copy t.copy k.stride lt in
        let less : 8 * start_of k s.copy + m.data_end k.node ≤ 8 * start_of k t.copy + m.data_start k.node = omega arith in
        inl (subst (λ (z : Placement). 8 * start_of k s.copy + m.data_end k.node ≤ 8 * start_of z t.copy + m.data_start z.node) (sym (one_placement contents n s t k l e h i)) less)
    by_order (copies_back e lt) =
        let f = (in_place contents m all n t l i).data_fits in
        let c = copy_ends t.copy s.copy l.stride lt in
        let less : 8 * start_of l t.copy + m.data_end l.node ≤ 8 * start_of l s.copy + m.data_start l.node = omega arith in
        inr (subst (λ (z : Placement). 8 * start_of l t.copy + m.data_end l.node ≤ 8 * start_of z s.copy + m.data_start z.node) (one_placement contents n s t k l e h i) less)
    by_order (ahead lt) = (all.node n).two s.number t.number k l lt h.there i.there a b s.copy t.copy h.within i.within
    by_order (back lt) = ⊎_elim inr inl ((all.node n).two t.number s.number l k lt i.there h.there b a t.copy s.copy i.within h.within)

-- two steps are one, or not
pub is_same : (s t : Step) → (s ≡ t) ⊎ (s ≡ t → ⊥)
is_same s t = by_order (order s t)
  where
    by_order : Order s t → (s ≡ t) ⊎ (s ≡ t → ⊥)
    by_order (same e) = inl e
    by_order (copies e lt) = inr (λ x. let g = ap (λ (z : Step). z.copy) x in omega arith)
    by_order (copies_back e lt) = inr (λ x. let g = ap (λ (z : Step). z.copy) x in omega arith)
    by_order (ahead lt) = inr (λ x. let g = ap (λ (z : Step). z.number) x in omega arith)
    by_order (back lt) = inr (λ x. let g = ap (λ (z : Step). z.number) x in omega arith)

same_start : (s t : Step) (k l : Placement) → s ≡ t → l ≡ k → start_of k s.copy ≡ start_of l t.copy
same_start s t k l e f = ap (λ (x : Placement). start_of x s.copy) (sym f) ∙ ap (λ (z : Step). start_of l z.copy) e

apart : (contents : Contents) (m : Measures) → AreArranged contents m → (n : Node) (p o : List Step) (q r : ℕ) (k j : Node) → Reaches contents n p q k → Reaches contents n o r j → contents k ≡ [] → contents j ≡ [] → (p ≡ o → ⊥) → 0 < m.data_end k → 0 < m.data_end j → LieApart m q k r j
apart contents m all _ _ _ _ _ _ _ (here n) (here _) e f ne a b = absurd (ne refl)
apart contents m all _ _ _ _ _ _ _ (here n) (down _ k s p q c h r) e f ne a b = let x : slice_get [] s.number ≡ Some c = subst (λ (y : List Placement). slice_get y s.number ≡ Some c) e h.there in cc
apart contents m all _ _ _ _ _ _ _ (down n k s p q c h r) (here _) e f ne a b = let x : slice_get [] s.number ≡ Some c = subst (λ (y : List Placement). slice_get y s.number ≡ Some c) f h.there in cc
apart contents m all _ _ _ _ _ _ _ (down n k s p q c h r) (down _ j t o b i h' r') e f ne pk pj =
    ⊎_elim
    (λ one. let sc = one_placement contents n s t c i (ap (λ (z : Step). z.number) one) h h' in
    let ss = same_start s t c i one sc in
    let below = apart contents m all c.node p o q b k j r (subst (λ (x : Placement). Reaches contents x.node o b j) sc r') e f (λ x. ne (ap (λ y. y ∷ p) one ∙ ap (λ y. t ∷ y) x)) pk pj in
    ⊎_elim (λ x. inl (omega arith)) (λ y. inr (omega arith)) below)
    (λ other.
    let u = ends contents m all c.node k p q r pk in
    let v = ends contents m all i.node j o b r' pj in
    let begun = starts contents m all c.node k p q r in
    let other_begun = starts contents m all i.node j o b r' in
    ⊎_elim (λ x. inl (omega arith)) (λ y. inr (omega arith)) (steps_apart contents m all n s t c i h h' other (omega arith) (omega arith)))
    (is_same s t)

-- the tree is sound
pub tree_is_sound : (contents : Contents) (m : Measures) → AreArranged contents m → IsSoundTree contents m
tree_is_sound contents m all = record {
  inside = inside contents m all;
  aligned = aligned contents m all;
  coarser = coarser contents m all;
  ends = ends contents m all;
  apart = λ n k j p o q r a b e f ne x y. apart contents m all n p o q r k j a b e f ne x y;
}
