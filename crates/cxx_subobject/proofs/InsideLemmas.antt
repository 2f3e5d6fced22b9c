-- Subobjects of subobjects.
use Rattle.std.proofs.Common.{◌≡◌, ⊎_elim, Some, List, [], ◌∷◌, ◌++◌, refl, ap, subst, sym, ◌∙◌, arith, append_assoc}
use Rattle.std.proofs.lemmas.List.{append-nil}
use Rattle.cxx_hierarchy.specs.declared.records.ClassId.{ClassId}
use Rattle.cxx_hierarchy.specs.Classes.{Classes}
use Rattle.cxx_subobject.specs.declared.Root.TheVariants.{Whole, Shared}
use Rattle.cxx_subobject.specs.declared.Subobject.{Subobject}
use Rattle.cxx_hierarchy.specs.VirtualBases.{HasVirtualBase}
use Rattle.cxx_subobject.specs.Subobjects.{Leads, IsSubobject, whole, shared, subobject, whole_of, last_of, class_of, tail_of, join_at, join, shared_base}
use Rattle.cxx_hierarchy.specs.Hierarchies.{IsHierarchy}
use Rattle.cxx_subobject.specs.Inside.{IsInside}
use Rattle.cxx_subobject.proofs.PathLemmas.{leads_more, virtual_along, virtual_through, class_of_longer, class_there, part_virtual, smaller, virtual_below, last_below}

pub join_valid : (h : Classes) (c d : ClassId) (s t : Subobject) → IsSubobject h c s → class_of s ≡ Some d → IsSubobject h d t → IsSubobject h c (join s t)
join_valid h c d _ _ (whole p l) e (whole q m) = let same : last_of c p ≡ d = cc in whole (p ++ q) (leads_more h c p q l (subst (λ (x : ClassId). Leads h x q) (sym same) m))
join_valid h c d _ _ (whole p l) e (shared v q has m) = let same : last_of c p ≡ d = cc in shared v q (virtual_along h c v p l (subst (λ (x : ClassId). HasVirtualBase h x v) (sym same) has)) m
join_valid h c d _ _ (shared w p has l) e (whole q m) = let same : last_of w p ≡ d = cc in shared w (p ++ q) has (leads_more h w p q l (subst (λ (x : ClassId). Leads h x q) (sym same) m))
join_valid h c d _ _ (shared w p hw l) e (shared v q has m) = let same : last_of w p ≡ d = cc in shared v q (virtual_through h c w v hw (virtual_along h w v p l (subst (λ (x : ClassId). HasVirtualBase h x v) (sym same) has))) m

-- what the code of `join` makes
pub join_shared : (outer inner : Subobject) (v : ClassId) → inner.root ≡ Shared v → subobject inner.root (inner.path ++ []) ≡ join outer inner
join_shared outer inner v e =
    let a : subobject inner.root (inner.path ++ []) ≡ inner = ap (λ p. subobject inner.root p) (append-nil inner.path) in
    a ∙ sym (ap (λ r. join_at r outer inner) e)

pub join_below : (outer inner : Subobject) (more : List ClassId) → inner.root ≡ Whole → more ≡ tail_of inner.path → subobject outer.root (outer.path ++ more) ≡ join outer inner
join_below outer inner more e is = ap (λ p. subobject outer.root (outer.path ++ p)) is ∙ sym (ap (λ r. join_at r outer inner) e)

pub join_class : (h : Classes) (d : ClassId) (s t : Subobject) → class_of s ≡ Some d → IsSubobject h d t → class_of (join s t) ≡ class_of t
join_class h d s _ e (whole q m) = class_of_longer s.path q d e
join_class h d s _ e (shared v q has m) = refl

pub join_join : (h : Classes) (d e : ClassId) (s t u : Subobject) → IsSubobject h d t → IsSubobject h e u → join (join s t) u ≡ join s (join t u)
join_join h d e s _ _ (whole p l) (whole q m) = ap (λ x. subobject s.root x) (append_assoc s.path p q)
join_join h d e s _ _ (whole p l) (shared v q has m) = refl
join_join h d e s _ _ (shared w p hw l) (whole q m) = refl
join_join h d e s _ _ (shared w p hw l) (shared v q has m) = refl

pub inside_itself : (h : Classes) (c : ClassId) (s : Subobject) → IsSubobject h c s → IsInside h s s
inside_itself h c s valid =
    let k = class_there h c s valid in
    let is : s ≡ join s (whole_of k.0) = ap (λ p. subobject s.root p) (sym (append-nil s.path)) in
    record { class = k.0; of_class = k.1; part = whole_of k.0; valid = whole [] tt; joined = is }

pub inside_through : (h : Classes) (s t u : Subobject) → IsInside h s t → IsInside h t u → IsInside h s u
inside_through h s t u a b =
    let part_class : class_of a.part ≡ Some b.class = sym (join_class h a.class s a.part a.of_class a.valid) ∙ (ap class_of (sym a.joined) ∙ b.of_class) in
    record {
      class = a.class;
      of_class = a.of_class;
      part = join a.part b.part;
      valid = join_valid h a.class b.class a.part b.part a.valid part_class b.valid;
      joined = b.joined ∙ (ap (λ x. join x b.part) a.joined ∙ join_join h a.class b.class s a.part b.part a.valid b.valid);
    }

pub join_whole : (s : Subobject) (c : ClassId) → join s (whole_of c) ≡ s
join_whole s c = let e : subobject s.root (s.path ++ []) ≡ subobject s.root s.path = ap (λ p. subobject s.root p) (append-nil s.path) in e

-- a subobject of a class, as one of its whole
pub whole_joined : (h : Classes) (c : ClassId) (s : Subobject) → IsSubobject h c s → join (whole_of c) s ≡ s
whole_joined h c _ (whole p l) = refl
whole_joined h c _ (shared v p has l) = refl

-- the whole has each of its subobjects in it
pub whole_inside : (h : Classes) (c : ClassId) (s : Subobject) → IsSubobject h c s → IsInside h (whole_of c) s
whole_inside h c s valid = record { class = c; of_class = refl; part = s; valid = valid; joined = sym (whole_joined h c s valid) }

-- what lies in a subobject is a subobject
pub inside_valid : (h : Classes) (c : ClassId) (s t : Subobject) → IsSubobject h c s → IsInside h s t → IsSubobject h c t
inside_valid h c s t valid k = subst (λ z. IsSubobject h c z) (sym k.joined) (join_valid h c k.class s k.part valid k.of_class k.valid)

-- the copy of a subobject is it
pub copied : (s t : Subobject) → t ≡ subobject s.root (s.path ++ []) → t ≡ s
copied s t e = e ∙ ap (λ (p : List ClassId). subobject s.root p) (append-nil s.path)

pub inside_back : (h : Classes) (s t : Subobject) → IsHierarchy h → IsInside h s t → IsInside h t s → s ≡ t
inside_back h s t keeps a b =
    let one : class_of a.part ≡ Some b.class = sym (join_class h a.class s a.part a.of_class a.valid) ∙ (ap class_of (sym a.joined) ∙ b.of_class) in
    let two : class_of b.part ≡ Some a.class = sym (join_class h b.class t b.part b.of_class b.valid) ∙ (ap class_of (sym b.joined) ∙ a.of_class) in
    ⊎_elim
    (λ e. sym (a.joined ∙ (ap (λ x. join s x) e ∙ join_whole s a.class)))
    (λ lt. ⊎_elim
    (λ e. b.joined ∙ (ap (λ x. join t x) e ∙ join_whole t b.class))
    (λ gt. absurd (omega arith))
    (smaller h keeps b.class a.class b.part b.valid two))
    (smaller h keeps a.class b.class a.part a.valid one)

-- a shared base lies in what reaches it
pub inside_shared : (h : Classes) (d v : ClassId) (s : Subobject) → class_of s ≡ Some d → HasVirtualBase h d v → IsInside h s (shared_base v)
inside_shared h d v s class has = record { class = d; of_class = class; part = shared_base v; valid = shared v [] has tt; joined = refl }

-- of two subobjects of one class neither lies in the other
pub inside_same : (h : Classes) → IsHierarchy h → (s t : Subobject) (d : ClassId) → class_of s ≡ Some d → class_of t ≡ Some d → IsInside h s t → t ≡ s
inside_same h keeps s t d class_s class_t k =
    let here : Some k.class ≡ Some d = sym k.of_class ∙ class_s in
    let same : k.class ≡ d = cc in
    let part : class_of k.part ≡ Some d = sym (join_class h k.class s k.part k.of_class k.valid) ∙ (ap class_of (sym k.joined) ∙ class_t) in
    let number : k.class.0 ≡ d.0 = ap (λ (x : ClassId). x.0) same in
    ⊎_elim
    (λ e. k.joined ∙ (ap (λ x. join s x) e ∙ join_whole s k.class))
    (λ lt. absurd (omega arith))
    (smaller h keeps k.class d k.part k.valid part)

-- what goes on from one front alike is one
same_rest : (front p q : List ClassId) → front ++ p ≡ front ++ q → p ≡ q
same_rest [] p q e = e
same_rest (c ∷ front) p q e = same_rest front p q (let f : front ++ p ≡ front ++ q = cc in f)

-- a subobject that is not shared, of an outer one, is none that is shared
never_shared : (h : Classes) → IsHierarchy h → (c d w : ClassId) (s : Subobject) (p q : List ClassId) → IsSubobject h c s → class_of s ≡ Some d → HasVirtualBase h d w → subobject s.root (s.path ++ p) ≡ subobject (Shared w) (w ∷ q) → ⊥
never_shared h keeps c d w _ p q (whole o l) e has same = let f : Whole ≡ Shared w = ap (λ (x : Subobject). x.root) same in cc
never_shared h keeps c d w _ p q (shared v o hv l) e has same =
    let f : Shared v ≡ Shared w = ap (λ (x : Subobject). x.root) same in
    let roots : v ≡ w = cc in
    let number : v.0 ≡ w.0 = ap (λ (x : ClassId). x.0) roots in
    let class : last_of v o ≡ d = cc in
    let last : (last_of v o).0 ≡ d.0 = ap (λ (x : ClassId). x.0) class in
    let low = last_below h keeps v o l in
    let lower = virtual_below h keeps d w has in
    absurd (omega arith)

-- two subobjects of the class of an outer one that are one in the whole are one
pub join_injective : (h : Classes) → IsHierarchy h → (c d : ClassId) (s t u : Subobject) → IsSubobject h c s → class_of s ≡ Some d → IsSubobject h d t → IsSubobject h d u → join s t ≡ join s u → t ≡ u
join_injective h keeps c d s _ _ valid e (whole p l) (whole q m) same =
    let paths : s.path ++ p ≡ s.path ++ q = ap (λ (x : Subobject). x.path) same in
    ap (λ (o : List ClassId). subobject Whole (d ∷ o)) (same_rest s.path p q paths)
join_injective h keeps c d s _ _ valid e (whole p l) (shared w q has m) same = absurd (never_shared h keeps c d w s p q valid e has same)
join_injective h keeps c d s _ _ valid e (shared w p has l) (whole q m) same = absurd (never_shared h keeps c d w s q p valid e has (sym same))
join_injective h keeps c d s _ _ valid e (shared w p hw l) (shared v q hv m) same = same

-- what lies in a subobject is one part of it
pub inside_part : (h : Classes) → IsHierarchy h → (c : ClassId) (s t : Subobject) → IsSubobject h c s → (a b : IsInside h s t) → a.part ≡ b.part
inside_part h keeps c s t valid a b =
    let here : Some b.class ≡ Some a.class = sym b.of_class ∙ a.of_class in
    let same : b.class ≡ a.class = cc in
    join_injective h keeps c a.class s a.part b.part valid a.of_class a.valid (subst (λ (x : ClassId). IsSubobject h x b.part) same b.valid) (sym a.joined ∙ b.joined)

-- what lies in a part lies there as a part of the whole
pub join_inside : (h : Classes) (d : ClassId) (s a b : Subobject) → class_of s ≡ Some d → IsSubobject h d a → IsInside h a b → IsInside h (join s a) (join s b)
join_inside h d s a b e valid k = record {
  class = k.class;
  of_class = join_class h d s a e valid ∙ k.of_class;
  part = k.part;
  valid = k.valid;
  joined = ap (λ x. join s x) k.joined ∙ sym (join_join h d k.class s a k.part valid k.valid);
}

-- the class of an inner subobject has no virtual base that the outer one's has not
pub inside_virtual : (h : Classes) (d e v : ClassId) (s t : Subobject) → IsInside h s t → class_of s ≡ Some d → class_of t ≡ Some e → HasVirtualBase h e v → HasVirtualBase h d v
inside_virtual h d e v s t k ds et has =
    let part_class : class_of k.part ≡ Some e = sym (join_class h k.class s k.part k.of_class k.valid) ∙ (ap class_of (sym k.joined) ∙ et) in
    let same : k.class ≡ d = let f = k.of_class in cc in
    subst (λ (x : ClassId). HasVirtualBase h x v) same (part_virtual h k.class e v k.part k.valid part_class has)

-- a shared subobject lies in each one whose class has its root as a virtual base
pub virtual_inside : (h : Classes) (s : Subobject) (d w : ClassId) (q : List ClassId) → class_of s ≡ Some d → HasVirtualBase h d w → Leads h w q → IsInside h s (subobject (Shared w) (w ∷ q))
virtual_inside h s d w q e has l = record { class = d; of_class = e; part = subobject (Shared w) (w ∷ q); valid = shared w q has l; joined = refl }
