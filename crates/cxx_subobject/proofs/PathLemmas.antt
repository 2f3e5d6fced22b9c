-- Paths of classes and virtual bases.
use Rattle.std.proofs.Common.{◌≡◌, ℕ, ◌<◌, ◌≤◌, ◌⊎◌, inl, inr, Bool, Some, List, [], ◌∷◌, ◌++◌, refl, ap, subst, sym, ◌∙◌, arith, length}
use Rattle.std.specs.Prelude.{true, false}
use Rattle.cxx_hierarchy.specs.declared.records.ClassId.{ClassId}
use Rattle.cxx_hierarchy.specs.Classes.{Classes}
use Rattle.cxx_hierarchy.specs.Hierarchies.{IsHierarchy}
use Rattle.cxx_hierarchy.specs.VirtualBases.{IsDirectBase, HasVirtualBase, direct, further}
use Rattle.cxx_subobject.specs.declared.Subobject.{Subobject}
use Rattle.cxx_subobject.specs.Subobjects.{Leads, IsSubobject, whole, shared, whole_of, last_of, class_of_path, class_of}

-- classes of one number are one
pub same_id : (x y : ClassId) → x.0 ≡ y.0 → x ≡ y
same_id x y e = let make : ℕ → ClassId = λ n. record { 0 = n } in let f : make x.0 ≡ make y.0 = ap make e in f

pub last_append : (c : ClassId) (p q : List ClassId) → last_of c (p ++ q) ≡ last_of (last_of c p) q
last_append c [] q = refl
last_append c (b ∷ p) q = last_append b p q

pub leads_more : (h : Classes) (c : ClassId) (p q : List ClassId) → Leads h c p → Leads h (last_of c p) q → Leads h c (p ++ q)
leads_more h c [] q l m = m
leads_more h c (b ∷ p) q l m = (l.0, leads_more h b p q l.1 m)

pub leads_rest : (h : Classes) (c : ClassId) (p q : List ClassId) → Leads h c (p ++ q) → Leads h (last_of c p) q
leads_rest h c [] q l = l
leads_rest h c (b ∷ p) q l = leads_rest h b p q l.1

pub leads_front : (h : Classes) (c : ClassId) (p q : List ClassId) → Leads h c (p ++ q) → Leads h c p
leads_front h c [] q l = tt
leads_front h c (b ∷ p) q l = (l.0, leads_front h b p q l.1)

-- a virtual base of a base is one of the class
pub virtual_along : (h : Classes) (c v : ClassId) (p : List ClassId) → Leads h c p → HasVirtualBase h (last_of c p) v → HasVirtualBase h c v
virtual_along h c v [] l has = has
virtual_along h c v (b ∷ p) l has = further c b v false l.0 (virtual_along h b v p l.1 has)

pub virtual_through : (h : Classes) (c v w : ClassId) → HasVirtualBase h c v → HasVirtualBase h v w → HasVirtualBase h c w
virtual_through h _ _ w (direct c v d) has = further c v w true d has
virtual_through h _ _ w (further c b v way d rest) has = further c b w way d (virtual_through h b v w rest has)

-- the class of a path that goes on
pub class_of_longer : (path q : List ClassId) (d : ClassId) → class_of_path path ≡ Some d → class_of_path (path ++ q) ≡ Some (last_of d q)
class_of_longer [] q d e = cc
class_of_longer (c ∷ p) q d e = let same : last_of c p ≡ d = cc in ap (λ x. Some x) (last_append c p q ∙ ap (λ (x : ClassId). last_of x q) same)

pub class_there : (h : Classes) (c : ClassId) (s : Subobject) → IsSubobject h c s → (d : ClassId) × (class_of s ≡ Some d)
class_there h c _ (whole p l) = (last_of c p, refl)
class_there h c _ (shared v p has l) = (last_of v p, refl)

pub class_found : (h : Classes) (c b : ClassId) (s : Subobject) → IsSubobject h c s → ((d : ClassId) → class_of s ≡ Some d → b ≡ d) → class_of s ≡ Some b
class_found h c b s valid told = let k = class_there h c s valid in k.1 ∙ ap (λ (d : ClassId). Some d) (sym (told k.0 k.1))

-- a virtual base of the class of a subobject is one of the whole's class
pub part_virtual : (h : Classes) (c d v : ClassId) (s : Subobject) → IsSubobject h c s → class_of s ≡ Some d → HasVirtualBase h d v → HasVirtualBase h c v
part_virtual h c d v _ (whole p l) e has = let same : last_of c p ≡ d = cc in virtual_along h c v p l (subst (λ (x : ClassId). HasVirtualBase h x v) (sym same) has)
part_virtual h c d v _ (shared w p hw l) e has = let same : last_of w p ≡ d = cc in virtual_through h c w v hw (virtual_along h w v p l (subst (λ (x : ClassId). HasVirtualBase h x v) (sym same) has))

pub base_before : (h : Classes) → IsHierarchy h → (c b : ClassId) (way : Bool) → IsDirectBase h c way b → b.0 < c.0
base_before h keeps c b way d = let f = keeps.bases c d.base d.listed in let e : d.base.class.0 ≡ b.0 = ap (λ (x : ClassId). x.0) d.class in omega arith

pub last_below : (h : Classes) → IsHierarchy h → (c : ClassId) (p : List ClassId) → Leads h c p → (last_of c p).0 ≤ c.0
last_below h keeps c [] l = omega arith
last_below h keeps c (b ∷ p) l = let f = base_before h keeps c b false l.0 in let r = last_below h keeps b p l.1 in omega arith

pub virtual_below : (h : Classes) → IsHierarchy h → (c v : ClassId) → HasVirtualBase h c v → v.0 < c.0
virtual_below h keeps _ _ (direct c v d) = base_before h keeps c v true d
virtual_below h keeps _ _ (further c b v way d rest) = let f = base_before h keeps c b way d in let r = virtual_below h keeps b v rest in omega arith

-- a subobject of a class is of no later class
pub class_low : (h : Classes) → IsHierarchy h → (c d : ClassId) (s : Subobject) → IsSubobject h c s → class_of s ≡ Some d → d.0 ≤ c.0
class_low h keeps c d _ (whole p l) e = let r = last_below h keeps c p l in let g : last_of c p ≡ d = cc in let n : (last_of c p).0 ≡ d.0 = ap (λ (x : ClassId). x.0) g in omega arith
class_low h keeps c d _ (shared v p has l) e =
    let f = virtual_below h keeps c v has in
    let r = last_below h keeps v p l in
    let g : last_of v p ≡ d = cc in
    let n : (last_of v p).0 ≡ d.0 = ap (λ (x : ClassId). x.0) g in omega arith

-- the class of a subobject is one of the hierarchy
pub class_inside : (h : Classes) → IsHierarchy h → (c d : ClassId) (s : Subobject) → c.0 < length h → IsSubobject h c s → class_of s ≡ Some d → d.0 < length h
class_inside h keeps c d s known valid class = let low = class_low h keeps c d s valid class in omega arith

-- a subobject of a class is the whole or of a class before
pub smaller : (h : Classes) → IsHierarchy h → (c d : ClassId) (s : Subobject) → IsSubobject h c s → class_of s ≡ Some d → (s ≡ whole_of c) ⊎ (d.0 < c.0)
smaller h keeps c d _ (whole [] l) e = inl refl
smaller h keeps c d _ (whole (b ∷ p) l) e =
    let same : last_of b p ≡ d = cc in
    let f = base_before h keeps c b false l.0 in
    let r = last_below h keeps b p l.1 in
    let g : (last_of b p).0 ≡ d.0 = ap (λ (x : ClassId). x.0) same in inr (omega arith)
smaller h keeps c d _ (shared v p has l) e =
    let same : last_of v p ≡ d = cc in
    let f = virtual_below h keeps c v has in
    let r = last_below h keeps v p l in
    let g : (last_of v p).0 ≡ d.0 = ap (λ (x : ClassId). x.0) same in inr (omega arith)

-- a path is not one that goes on from it
pub not_longer : (p q : List ClassId) (b : ClassId) → p ≡ p ++ b ∷ q → ⊥
not_longer [] q b e = absurd (cc)
not_longer (c ∷ p) q b e = not_longer p q b (let f : p ≡ p ++ b ∷ q = cc in f)
