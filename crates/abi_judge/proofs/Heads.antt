-- The heads of chains of primary bases: each chain has one, at the place of all of them, and no two share a chain.
use Rattle.std.proofs.Common.{◌≡◌, ℕ, zero, suc, ◌+◌, ◌-◌, ◌*◌, ◌<◌, ◌≤◌, ◌⊎◌, inl, inr, ⊎_elim, Bool, true, false, not, Option, Some, None, List, [], ◌∷◌, ◌++◌, length, get_or, refl, ap, subst, sym, ◌∙◌, arith, eq-eqb}
use Rattle.cxx_hierarchy.specs.declared.records.ClassId.{ClassId}
use Rattle.cxx_hierarchy.specs.declared.records.FieldType.TheVariants.{Object}
use Rattle.cxx_hierarchy.specs.Classes.{Classes}
use Rattle.cxx_hierarchy.specs.Hierarchies.{IsHierarchy}
use Rattle.cxx_hierarchy.specs.VirtualBases.{HasVirtualBase, direct, further as more_virtual}
use Rattle.cxx_subobject.specs.declared.Root.{Root}
use Rattle.cxx_subobject.specs.declared.Root.TheVariants.{Whole, Shared}
use Rattle.cxx_subobject.specs.declared.Subobject.{Subobject}
use Rattle.cxx_subobject.specs.declared.locations.Hop.{Hop}
use Rattle.cxx_subobject.specs.declared.locations.Hop.TheVariants.{Inherit, Member as MemberHop}
use Rattle.cxx_subobject.specs.Subobjects.{Leads, subobject, shared_base, whole, shared, IsSubobject, last_of, class_of, class_of_path}
use Rattle.cxx_subobject.specs.Preorder.{preorder}
use Rattle.cxx_subobject.specs.Locations.{LeadsTo, to_subobject, to_inner}
use Rattle.cxx_subobject.proofs.DecidingLemmas.{base_of_shared}
use Rattle.cxx_subobject.proofs.PathLemmas.{leads_front, class_of_longer, base_before, virtual_below, class_low}
use Rattle.cxx_subobject.proofs.TreeLemmas.{has_preorder}
use Rattle.abi_primary.specs.declared.Primary.{Primary}
use Rattle.abi_primary.specs.declared.Primary.TheVariants.{None as NoPrimary, Direct, Virtual}
use Rattle.abi_primary.specs.Kinds.{IsDynamic, shares, inherits}
use Rattle.abi_primary.specs.PrimaryBase.{is_virtual_primary, is_direct_primary}
use Rattle.abi_sound.specs.Places.{Places}
use Rattle.abi_sound.specs.Locations.{place_along_hops, element_class}
use Rattle.abi_sound.specs.Chains.{primary_part, but_last, kept_above, IsInChain, itself, further, ShareChain, downwards, upwards, in_element, above}
use Rattle.abi_sound.specs.Sound.{is_primary_of}
use Rattle.abi_sound.proofs.PlaceLemmas.{place_at_base, place_at_inner, element_class_is}
use Rattle.abi_sound.proofs.PrimaryParts.{IsPrimaryPart, by_direct, by_holder, primary_cases, primary_is}
use Rattle.abi_sound.proofs.ChainLemmas.{chain_more, last_step, primary_above, above_primary, find_has}
use Rattle.std.proofs.lemmas.Bool.{eqb-true}
use Rattle.abi_primary.proofs.PrimaryKinds.{direct_is}
use Rattle.foundation.proofs.Chosen.{find_passes}
use Rattle.cxx_subobject.proofs.PathLemmas.{same_id}
use Rattle.abi_judge.specs.Rules.{HasFirstHolders, KeepsPrimary, KeepsPlace}
use Rattle.abi_judge.specs.invariants.Things.{is_none, is_top}
use Rattle.abi_judge.proofs.WayLemmas.{LeadsToObject, at_start, through}

-- the first two rules are kept by all classes up to one
pub record KnownTo (h : Classes) (l : Places) (c : ClassId) : Type 0 where
  pub keeps : IsHierarchy h
  pub primary : (d : ClassId) → d.0 ≤ c.0 → KeepsPrimary h l d
  pub place : (d : ClassId) → d.0 ≤ c.0 → KeepsPlace h l d

front_valid : (h : Classes) (c a b : ClassId) (root : Root) (path : List ClassId) (s : Subobject) → IsSubobject h c s → s ≡ subobject root (a ∷ (path ++ b ∷ [])) → IsSubobject h c (subobject root (a ∷ path))
front_valid h c a b root path _ (whole p l) e =
    let r : Whole ≡ root = ap (λ (t : Subobject). t.root) e in
    let f : (c ∷ p) ≡ (a ∷ (path ++ b ∷ [])) = ap (λ (t : Subobject). t.path) e in
    let first : c ≡ a = cc in
    let rest : p ≡ path ++ b ∷ [] = cc in
    let valid : IsSubobject h c (subobject Whole (c ∷ path)) = whole path (leads_front h c path (b ∷ []) (subst (Leads h c) rest l)) in
    subst (λ (x : Root). IsSubobject h c (subobject x (a ∷ path))) r (subst (λ (y : ClassId). IsSubobject h c (subobject Whole (y ∷ path))) first valid)
front_valid h c a b root path _ (shared v p has l) e =
    let r : Shared v ≡ root = ap (λ (t : Subobject). t.root) e in
    let f : (v ∷ p) ≡ (a ∷ (path ++ b ∷ [])) = ap (λ (t : Subobject). t.path) e in
    let first : v ≡ a = cc in
    let rest : p ≡ path ++ b ∷ [] = cc in
    let valid : IsSubobject h c (subobject (Shared v) (v ∷ path)) = shared v path has (leads_front h v path (b ∷ []) (subst (Leads h v) rest l)) in
    subst (λ (x : Root). IsSubobject h c (subobject x (a ∷ path))) r (subst (λ (y : ClassId). IsSubobject h c (subobject (Shared v) (y ∷ path))) first valid)

-- the subobject whose primary base another is: it is of a later class, and dynamic
pub record IsAbove (h : Classes) (l : Places) (e d : ClassId) (t : Subobject) : Type 0 where
  pub class : ClassId
  pub is : class_of t ≡ Some class
  pub valid : IsSubobject h e t
  pub rises : d.0 < class.0
  pub dynamic : IsDynamic h class

virtual_dynamic : (h : Classes) (c v : ClassId) → HasVirtualBase h c v → IsDynamic h c
virtual_dynamic h _ _ (direct c v edge) = shares c v edge
virtual_dynamic h _ _ (more_virtual c b v way edge has) = inherits c b way edge (virtual_dynamic h b v has)

above_is : (h : Classes) (l : Places) (c e d : ClassId) (s t : Subobject) → KnownTo h l c → e.0 ≤ c.0 → IsSubobject h e s → class_of s ≡ Some d → primary_part l e t ≡ Some s → IsAbove h l e d t
above_is h l c e d s t known low valid class step = by_cases s t valid class (primary_cases l e t s step)
  where
    by_path : (x : Subobject) (k b : ClassId) (root : Root) (path : List ClassId) → IsSubobject h e x → x ≡ subobject root (path ++ b ∷ []) → class_of (subobject root path) ≡ Some k → IsSubobject h e (subobject root path)
    by_path x k b root [] is f of = let n : None ≡ Some k = of in cc
    by_path x k b root (a ∷ path) is f of = front_valid h e a b root path x is f

    by_cases : (x y : Subobject) → IsSubobject h e x → class_of x ≡ Some d → IsPrimaryPart l e y x → IsAbove h l e d y
    by_cases _ _ is of (by_direct y k b class primary) =
        let there = by_path (subobject y.root (y.path ++ b ∷ [])) k b y.root y.path is refl class in
        let less = class_low h known.keeps e k y there class in
        let base = (known.primary k (omega (arith, less, low))).direct b primary in
        let both : Some b ≡ Some d = sym (class_of_longer y.path (b ∷ []) k class) ∙ of in
        let same : b ≡ d = cc in
        let number : b.0 ≡ d.0 = ap (λ (z : ClassId). z.0) same in
        let falls = base_before h known.keeps k b false base.0 in
        record { class = k; is = class; valid = there; rises = omega (arith, falls, number); dynamic = inherits k b false base.0 base.1 }
    by_cases _ _ is of (by_holder y k v class primary held) =
        let has = base_of_shared h e v (shared_base v) is refl in
        let holder = (known.primary e low).held.holder v has in
        let there = has_preorder h e y (find_has (λ (z : Subobject). is_primary_of l v (class_of z)) (preorder h e) y (sym holder ∙ held)) in
        let less = class_low h known.keeps e k y there class in
        let base = (known.primary k (omega (arith, less, low))).virtual v primary in
        let both : Some v ≡ Some d = of in
        let same : v ≡ d = cc in
        let number : v.0 ≡ d.0 = ap (λ (z : ClassId). z.0) same in
        let falls = virtual_below h known.keeps k v base.0 in
        record { class = k; is = class; valid = there; rises = omega (arith, falls, number); dynamic = virtual_dynamic h k v base.0 }

-- the head of the chain of a dynamic subobject
pub record HasHead (h : Classes) (l : Places) (e : ClassId) (s : Subobject) : Type 0 where
  pub top : Subobject
  pub class : ClassId
  pub is : class_of top ≡ Some class
  pub valid : IsSubobject h e top
  pub chain : IsInChain l e top s
  pub none_above : is_top l e top ≡ true
  pub dynamic : IsDynamic h class
  pub place : l.place e top ≡ l.place e s

head_after : (h : Classes) (l : Places) (c : ClassId) → KnownTo h l c → (n : ℕ) (e d : ClassId) (s : Subobject) → e.0 ≤ c.0 → IsSubobject h e s → class_of s ≡ Some d → IsDynamic h d → e.0 < d.0 + n → HasHead h l e s
head_after h l c known zero e d s low valid class dynamic few = let less = class_low h known.keeps e d s valid class in absurd (omega (arith, less, few))
head_after h l c known (suc n) e d s low valid class dynamic few =
    by_above (above l e s) refl (λ k t is of moves more. head_after h l c known n e k t low is of moves more)
  where
    by_above : (o : Option Subobject) → above l e s ≡ o → ((k : ClassId) (t : Subobject) → IsSubobject h e t → class_of t ≡ Some k → IsDynamic h k → e.0 < k.0 + n → HasHead h l e t) → HasHead h l e s
    by_above None f next = record { top = s; class = d; is = class; valid = valid; chain = itself s; none_above = ap is_none f; dynamic = dynamic; place = refl }
    by_above (Some t) f next =
        let step = primary_above l e s t f in
        let up = above_is h l c e d s t known low valid class step in
        let rises = up.rises in
        let r = next up.class t up.valid up.is up.dynamic (omega (arith, rises, few)) in
        record {
          top = r.top;
          class = r.class;
          is = r.is;
          valid = r.valid;
          chain = chain_more l e r.top t s r.chain step;
          none_above = r.none_above;
          dynamic = r.dynamic;
          place = r.place ∙ sym ((known.place e low).one_place t s up.valid step);
        }

pub has_head : (h : Classes) (l : Places) (c : ClassId) → KnownTo h l c → (e d : ClassId) (s : Subobject) → e.0 ≤ c.0 → IsSubobject h e s → class_of s ≡ Some d → IsDynamic h d → HasHead h l e s
has_head h l c known e d s low valid class dynamic = head_after h l c known (e.0 + 1) e d s low valid class dynamic (omega arith)

first_step : (l : Places) (e : ClassId) (t u : Subobject) → IsInChain l e t u → (t ≡ u) ⊎ ((z : Subobject) × (primary_part l e t ≡ Some z) × IsInChain l e z u)
first_step l e _ _ (itself t) = inl refl
first_step l e _ _ (further t w u first rest) = inr (w, first, rest)

-- of two subobjects in one chain one is in that of the other
pub one_chain : (l : Places) (e : ClassId) (t s u : Subobject) → IsInChain l e t s → IsInChain l e t u → IsInChain l e s u ⊎ IsInChain l e u s
one_chain l e _ _ u (itself t) other = inl other
one_chain l e _ _ u (further t w s first rest) other = by_step (first_step l e t u other) (λ more. one_chain l e w s u rest more)
  where
    by_step : (t ≡ u) ⊎ ((z : Subobject) × (primary_part l e t ≡ Some z) × IsInChain l e z u) → (IsInChain l e w u → IsInChain l e s u ⊎ IsInChain l e u s) → IsInChain l e s u ⊎ IsInChain l e u s
    by_step (inl same) next = inr (subst (λ (y : Subobject). IsInChain l e y s) same (further t w s first rest))
    by_step (inr x) next =
        let both : Some x.0 ≡ Some w = sym x.1 ∙ first in
        let same : x.0 ≡ w = cc in
        next (subst (λ (y : Subobject). IsInChain l e y u) same x.2)

-- a subobject above which there is none is the first of its chain
alone : (l : Places) (e : ClassId) (s t : Subobject) → IsInChain l e s t → is_top l e t ≡ true → s ≡ t
alone l e s t chain top = ⊎_elim
    (λ same. same)
    (λ x. let f : false ≡ true = ap is_none (sym (above_primary l e t x.before x.step)) ∙ top in absurd (cc))
    (last_step l e s t chain)

abbrev pub top_in : Places → Option ClassId → Subobject → Bool
top_in l None s = false
top_in l (Some e) s = is_top l e s

-- whether the last subobject of hops is the primary base of none, from what is of class o on
abbrev pub top_at : Classes → Places → Option ClassId → List Hop → Bool
top_at h l o [] = false
top_at h l o (MemberHop m i ∷ hops) = top_at h l (element_class h o m) hops
top_at h l o (Inherit s ∷ []) = top_in l o s
top_at h l o (Inherit s ∷ hop ∷ hops) = top_at h l (class_of s) (hop ∷ hops)

-- two that share a virtual pointer, and are both the first of their chain, are one
pub heads_same : (h : Classes) (l : Places) (c : ClassId) (hops others : List Hop) → ShareChain h l c hops others → top_at h l (Some c) hops ≡ true → top_at h l (Some c) others ≡ true → hops ≡ others
heads_same h l _ _ _ (downwards c s t chain) e f = ap (λ (x : Subobject). Inherit x ∷ []) (alone l c s t chain f)
heads_same h l _ _ _ (upwards c s t chain) e f = ap (λ (x : Subobject). Inherit x ∷ []) (sym (alone l c t s chain e))
heads_same h l _ _ _ (in_element c d k s m i hops others class element rest) e f =
    let there = element_class_is h (class_of s) d m i (Object k) class element in
    ap (λ (t : List Hop). Inherit s ∷ MemberHop m i ∷ t)
    (heads_same h l k hops others rest (ap (λ (o : Option ClassId). top_at h l o hops) (sym there) ∙ e) (ap (λ (o : Option ClassId). top_at h l o others) (sym there) ∙ f))

-- from a complete object in an object on

pub front_top : (h : Classes) (l : Places) (c e : ClassId) (front : List Hop) (t : Subobject) → LeadsToObject h c front e → top_at h l (Some c) (front ++ Inherit t ∷ []) ≡ is_top l e t
front_top h l _ _ _ t (at_start c) = refl
front_top h l _ _ _ t (through c d b e s m i front valid class element rest) =
    ap (λ (o : Option ClassId). top_at h l o (front ++ Inherit t ∷ [])) (element_class_is h (class_of s) d m i (Object b) class element) ∙ front_top h l b e front t rest

pub front_leads : (h : Classes) (c e k : ClassId) (front : List Hop) (t : Subobject) → LeadsToObject h c front e → IsSubobject h e t → class_of t ≡ Some k → LeadsTo h c (front ++ Inherit t ∷ []) (Object k)
front_leads h _ _ k _ t (at_start c) valid class = to_subobject c k t valid class
front_leads h _ _ k _ t (through c d b e s m i front is of element rest) valid class =
    to_inner c d b s m i (front ++ Inherit t ∷ []) (Object k) is of element (front_leads h b e k front t rest valid class)

pub front_place : (h : Classes) (l : Places) (c e : ClassId) (front : List Hop) (s t : Subobject) → LeadsToObject h c front e → l.place e t ≡ l.place e s → place_along_hops h l c (front ++ Inherit t ∷ []) ≡ place_along_hops h l c (front ++ Inherit s ∷ [])
front_place h l _ _ _ s t (at_start c) same = place_at_base h l c t ∙ (same ∙ sym (place_at_base h l c s))
front_place h l _ _ _ u t (through c d b e s m i front is of element rest) same =
    place_at_inner h l c d b s m i (front ++ Inherit t ∷ []) of element
    ∙ (ap (λ n. l.place c s + (l.member d m + i * l.size b) + n) (front_place h l b e front u t rest same) ∙ sym (place_at_inner h l c d b s m i (front ++ Inherit u ∷ []) of element))

pub front_shares : (h : Classes) (l : Places) (c e : ClassId) (front : List Hop) (s t : Subobject) → LeadsToObject h c front e → ShareChain h l e (Inherit s ∷ []) (Inherit t ∷ []) → ShareChain h l c (front ++ Inherit s ∷ []) (front ++ Inherit t ∷ [])
front_shares h l _ _ _ s t (at_start c) share = share
front_shares h l _ _ _ u t (through c d b e s m i front is of element rest) share =
    in_element c d b s m i (front ++ Inherit u ∷ []) (front ++ Inherit t ∷ []) of element (front_shares h l b e front u t rest share)

abbrev end_class : Classes → Option ClassId → List Hop → Option ClassId
end_class h o [] = o
end_class h o (Inherit s ∷ hops) = end_class h (class_of s) hops
end_class h o (MemberHop m i ∷ hops) = end_class h (element_class h o m) hops

-- the class of the complete object that hops lead to is one
front_class : (h : Classes) (c e : ClassId) (front : List Hop) → LeadsToObject h c front e → end_class h (Some c) front ≡ Some e
front_class h _ _ _ (at_start c) = refl
front_class h _ _ _ (through c d b e s m i front is of element rest) =
    ap (λ (o : Option ClassId). end_class h o front) (element_class_is h (class_of s) d m i (Object b) of element) ∙ front_class h b e front rest

pub one_class : (h : Classes) (c d e : ClassId) (front other : List Hop) → front ≡ other → LeadsToObject h c front d → LeadsToObject h c other e → d ≡ e
one_class h c d e front other same x y =
    let both : Some d ≡ Some e = sym (front_class h c d front x) ∙ (ap (end_class h (Some c)) same ∙ front_class h c e other y) in cc

abbrev but_last_hop : List Hop → List Hop
but_last_hop [] = []
but_last_hop (x ∷ []) = []
but_last_hop (x ∷ y ∷ xs) = x ∷ but_last_hop (y ∷ xs)

but_last_is : (xs : List Hop) (x : Hop) → but_last_hop (xs ++ x ∷ []) ≡ xs
but_last_is [] x = refl
but_last_is (a ∷ []) x = refl
but_last_is (a ∷ b ∷ xs) x = ap (λ (t : List Hop). a ∷ t) (but_last_is (b ∷ xs) x)

pub one_front : (xs ys : List Hop) (x y : Hop) → xs ++ x ∷ [] ≡ ys ++ y ∷ [] → xs ≡ ys
one_front xs ys x y e = sym (but_last_is xs x) ∙ (ap but_last_hop e ∙ but_last_is ys y)

-- the class of a virtual primary base
virtual_is : (p : Primary) (v : ClassId) → is_virtual_primary p v ≡ true → p ≡ Virtual v
virtual_is NoPrimary v e = let n : false ≡ true = e in absurd (cc)
virtual_is (Direct b) v e = let n : false ≡ true = e in absurd (cc)
virtual_is (Virtual w) v e = ap Virtual (same_id w v (eqb-true w.0 v.0 e))

held_part : (l : Places) (e v : ClassId) (t : Subobject) → l.holder e v ≡ Some t → is_primary_of l v (class_of t) ≡ true → primary_part l e t ≡ Some (shared_base v)
held_part l e v t held passes = by_class (class_of t) refl passes
  where
    by_class : (o : Option ClassId) → class_of t ≡ o → is_primary_of l v o ≡ true → primary_part l e t ≡ Some (shared_base v)
    by_class None f k = let n : false ≡ true = k in absurd (cc)
    by_class (Some d) f k = primary_is l e t (shared_base v) (by_holder t d v f (virtual_is (l.primary d) v k) held)

-- a virtual base is the primary base of none exactly where none holds it
pub shared_top : (h : Classes) (l : Places) (e v : ClassId) (o : Option Subobject) → HasFirstHolders h l e → HasVirtualBase h e v → l.holder e v ≡ o → is_top l e (shared_base v) ≡ is_none o
shared_top h l e v None held has f = ap (λ (o : Option Subobject). is_none (kept_above l e (shared_base v) o)) f
shared_top h l e v (Some t) held has f =
    let found = find_passes (λ (s : Subobject). is_primary_of l v (class_of s)) (preorder h e) t (sym (held.holder v has) ∙ f) in
    ap is_none (above_primary l e (shared_base v) t (held_part l e v t f found.1))

-- the same of the virtual base that a short path names
pub short_top : (h : Classes) (l : Places) (e v : ClassId) (s : Subobject) (o : Option Subobject) → HasFirstHolders h l e → IsSubobject h e s → s.root ≡ Shared v → length s.path < 2 → l.holder e v ≡ o → is_top l e s ≡ is_none o
short_top h l e v _ o held (whole path leads) root short f = let n : Whole ≡ Shared v = root in absurd (cc)
short_top h l e v _ o held (shared w [] has leads) root short f =
    let n : Shared w ≡ Shared v = root in
    let same : w ≡ v = cc in
    subst (λ (u : ClassId). is_top l e (shared_base u) ≡ is_none o) (sym same) (shared_top h l e v o held (subst (λ (u : ClassId). HasVirtualBase h e u) same has) f)
short_top h l e v _ o held (shared w (b ∷ path) has leads) root short f = absurd (omega arith)

pub top_held : (h : Classes) (l : Places) (e v : ClassId) (s t : Subobject) → HasFirstHolders h l e → IsSubobject h e s → s.root ≡ Shared v → length s.path < 2 → Some t ≡ l.holder e v → false ≡ is_top l e s
top_held h l e v s t held valid root short f = sym (short_top h l e v s (Some t) held valid root short (sym f))

-- a longer path

but_last_class : (path : List ClassId) (b : ClassId) → but_last (path ++ b ∷ []) ≡ path
but_last_class [] b = refl
but_last_class (a ∷ []) b = refl
but_last_class (a ∷ e ∷ path) b = ap (λ (p : List ClassId). a ∷ p) (but_last_class (e ∷ path) b)

class_at_end : (front : List ClassId) (a : ClassId) → class_of_path (front ++ a ∷ []) ≡ Some a
class_at_end [] a = refl
class_at_end (x ∷ front) a = class_of_longer (x ∷ front) (a ∷ []) (last_of x front) refl

is_direct : (p : Primary) (b : ClassId) → p ≡ Direct b → is_direct_primary p b ≡ true
is_direct p b e = ap (λ (q : Primary). is_direct_primary q b) e ∙ eq-eqb b.0 b.0 refl

-- a subobject below another is its primary base exactly where its class's primary base says so
only_by_direct : (l : Places) (e a b : ClassId) (root : Root) (front : List ClassId) (s u : Subobject) → s ≡ subobject root ((front ++ a ∷ []) ++ b ∷ []) → IsPrimaryPart l e u s → l.primary a ≡ Direct b
only_by_direct l e a b root front _ _ is (by_direct u k d class f) =
    let paths : u.path ++ d ∷ [] ≡ (front ++ a ∷ []) ++ b ∷ [] = ap (λ (t : Subobject). t.path) is in
    let up : u.path ≡ front ++ a ∷ [] = sym (but_last_class u.path d) ∙ (ap but_last paths ∙ but_last_class (front ++ a ∷ []) b) in
    let last : Some d ≡ Some b = sym (class_at_end u.path d) ∙ (ap class_of_path paths ∙ class_at_end (front ++ a ∷ []) b) in
    let same : d ≡ b = cc in
    let both : Some k ≡ Some a = sym class ∙ (ap class_of_path up ∙ class_at_end front a) in
    let one : k ≡ a = cc in
    ap l.primary (sym one) ∙ (f ∙ ap Direct same)
only_by_direct l e a b root front _ _ is (by_holder u k v class f held) =
    let paths : (v ∷ []) ≡ (front ++ a ∷ []) ++ b ∷ [] = ap (λ (t : Subobject). t.path) is in
    let short : [] ≡ front ++ a ∷ [] = ap but_last paths ∙ but_last_class (front ++ a ∷ []) b in
    let none : None ≡ Some a = ap class_of_path short ∙ class_at_end front a in absurd (cc)

long_top_at : (l : Places) (e a b : ClassId) (root : Root) (front : List ClassId) → not (is_direct_primary (l.primary a) b) ≡ is_top l e (subobject root ((front ++ a ∷ []) ++ b ∷ []))
long_top_at l e a b root front = by_test (is_direct_primary (l.primary a) b) refl (above l e (subobject root ((front ++ a ∷ []) ++ b ∷ []))) refl
  where
    by_test : (p : Bool) → is_direct_primary (l.primary a) b ≡ p → (o : Option Subobject) → above l e (subobject root ((front ++ a ∷ []) ++ b ∷ [])) ≡ o → not p ≡ is_top l e (subobject root ((front ++ a ∷ []) ++ b ∷ []))
    by_test true f o g =
        let t : Subobject = subobject root (front ++ a ∷ []) in
        let step = primary_is l e t (subobject root ((front ++ a ∷ []) ++ b ∷ [])) (by_direct t a b (class_at_end front a) (direct_is (l.primary a) b f)) in
        ap is_none (sym (above_primary l e (subobject root ((front ++ a ∷ []) ++ b ∷ [])) t step))
    by_test false f None g = ap is_none (sym g)
    by_test false f (Some u) g =
        let is = only_by_direct l e a b root front (subobject root ((front ++ a ∷ []) ++ b ∷ [])) u refl (primary_cases l e u (subobject root ((front ++ a ∷ []) ++ b ∷ [])) (primary_above l e (subobject root ((front ++ a ∷ []) ++ b ∷ [])) u g)) in
        let n : true ≡ false = sym (is_direct (l.primary a) b is) ∙ f in absurd (cc)

record EndsInTwo (path : List ClassId) (d : ClassId) : Type 0 where
  front : List ClassId
  is : path ≡ (front ++ get_or path (length path - 2) d ∷ []) ++ get_or path (length path - 1) d ∷ []

ends_in_two : (path : List ClassId) (d : ClassId) → 2 ≤ length path → EndsInTwo path d
ends_in_two [] d long = absurd (omega arith)
ends_in_two (x ∷ []) d long = absurd (omega arith)
ends_in_two (x ∷ y ∷ []) d long = record { front = []; is = refl }
ends_in_two (x ∷ y ∷ z ∷ rest) d long =
    let r = ends_in_two (y ∷ z ∷ rest) d (omega arith) in
    let n = length (y ∷ z ∷ rest) in
    let e : length (x ∷ y ∷ z ∷ rest) - 2 ≡ suc (n - 2) = omega arith in
    let f : length (x ∷ y ∷ z ∷ rest) - 1 ≡ suc (n - 1) = omega arith in
    let path : List ClassId = x ∷ y ∷ z ∷ rest in
    record {
      front = x ∷ r.front;
      is = ap (λ (p : List ClassId). x ∷ p) r.is
          ∙ (ap (λ k. ((x ∷ r.front) ++ get_or path k d ∷ []) ++ get_or path (suc (n - 1)) d ∷ []) (sym e)
          ∙ ap (λ k. ((x ∷ r.front) ++ get_or path (length path - 2) d ∷ []) ++ get_or path k d ∷ []) (sym f));
    }

pub long_top : (l : Places) (e d : ClassId) (s : Subobject) (path : List ClassId) → path ≡ s.path → 2 ≤ length path
    → not (is_direct_primary (l.primary (get_or path (length path - 2) d)) (get_or path (length path - 1) d)) ≡ is_top l e s
long_top l e d s path same long =
    let r = ends_in_two path d long in
    let a = get_or path (length path - 2) d in
    let b = get_or path (length path - 1) d in
    let whole : subobject s.root ((r.front ++ a ∷ []) ++ b ∷ []) ≡ s = ap (subobject s.root) (sym r.is ∙ same) in
    long_top_at l e a b s.root r.front ∙ ap (is_top l e) whole
