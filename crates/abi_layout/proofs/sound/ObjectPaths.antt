-- Each inheritance subobject of an object is reached in its tree, at its place.
use Rattle.std.proofs.Common.{◌≡◌, ℕ, zero, suc, ◌+◌, ◌*◌, ◌<◌, ◌≤◌, inl, inr, Bool, true, false, Option, Some, None, List, [], ◌∷◌, ◌++◌, map, length, refl, ap, subst, sym, ◌∙◌, arith, append_assoc}
use Rattle.std.specs.Prelude.{Contains, filter, not, ◌||◌, if◌then◌else◌}
use Rattle.std.specs.List.{slice_get, list_any}
use Rattle.std.proofs.lemmas.Bool.{eqb-true}
use Rattle.std.proofs.lemmas.List.{append-nil}
use Rattle.cxx_hierarchy.specs.declared.records.ClassId.{ClassId}
use Rattle.cxx_hierarchy.specs.Classes.{Class, Classes, bases_of, bases_in}
use Rattle.cxx_hierarchy.specs.Hierarchies.{IsHierarchy}
use Rattle.cxx_hierarchy.specs.VirtualBases.{IsDirectBase, HasVirtualBase}
use Rattle.cxx_subobject.specs.declared.Root.{Root}
use Rattle.cxx_subobject.specs.declared.Root.TheVariants.{Whole, Shared}
use Rattle.cxx_subobject.specs.declared.Subobject.{Subobject}
use Rattle.cxx_subobject.specs.Subobjects.{Leads, subobject, whole_of, shared_base, IsSubobject, whole, shared, last_of, class_of}
use Rattle.cxx_subobject.specs.Preorder.{preorder}
use Rattle.cxx_subobject.proofs.TreeLemmas.{preorder_lists, same_itself}
use Rattle.abi_primary.specs.declared.Primary.{Primary}
use Rattle.abi_primary.specs.declared.Primary.TheVariants.{Virtual}
use Rattle.abi_primary.specs.Holder.{holder_of, IsHeld}
use Rattle.abi_primary.proofs.HolderLemmas.{held}
use Rattle.abi_sound.specs.declared.class_layout.ClassLayout.{ClassLayout}
use Rattle.cxx_subobject.proofs.PathLemmas.{last_below}
use Rattle.foundation.proofs.Members.{index_of}
use Rattle.abi_layout.specs.declared.placed_bases.PlacedBase.{PlacedBase}
use Rattle.abi_layout.specs.declared.placed_bases.PlacedBase.TheVariants.{Own, VirtualBase}
use Rattle.cxx_hierarchy.specs.Declarations.{is_plain_base}
use Rattle.abi_sound.specs.Places.{direct_base_place, place_along}
use Rattle.abi_layout.specs.Placements.{nvsize_in}
use Rattle.cxx_subobject.specs.declared.locations.Hop.{Hop}
use Rattle.cxx_subobject.specs.declared.locations.Hop.TheVariants.{Inherit, Member as Element}
use Rattle.abi_layout.specs.invariants.OwnPlaces.{is_own}
use Rattle.cxx_subobject.specs.VirtualBases.{virtual_bases}
use Rattle.abi_layout.specs.Holding.{virtual_primary_base, virtual_primary_of, holds_base}
use Rattle.abi_layout.specs.PlacedBases.{class_of_placed, subobject_of, front_bases, is_free, free_bases}
use Rattle.abi_layout.specs.Layouts.{virtual_place, place_in_class, placed_place, primary_of, fronts}
use Rattle.abi_layout.proofs.lists.Lists.{number}
use Rattle.abi_layout.proofs.rules.Stages.{Has, has_left, has_right, has_map, split}
use Rattle.abi_layout.proofs.rules.KindLemmas.{has_of, contains_of, in_filter}
use Rattle.abi_layout.proofs.rules.HoldingLemmas.{is_class, test_is}
use Rattle.abi_layout.proofs.rules.NestedLemmas.{front_has}
use Rattle.cxx_subobject.proofs.PathLemmas.{virtual_below}
use Rattle.abi_layout.proofs.sound.ObjectTree.{Node, Complete, Within, Leaf, Pointer, Placement, Step, Contents, start_of, Reaches, here, down, one_at, placed_base, inner_base, members_at, virtual_start, contents_of_object, contents_of}
use Rattle.abi_layout.proofs.rules.AgreeingParts.{primary_is_virtual}
use Rattle.abi_layout.proofs.sound.ObjectPrimaries.{HasRow}
use Rattle.cxx_subobject.proofs.VirtualBaseLemmas.{has_virtual}
use Rattle.abi_layout.proofs.sound.ObjectKnown.{IsLaidOut, row_of, before_of}

-- the hop into a node that is a class subobject
abbrev pub last_hops : Node → List Hop
last_hops (Complete c) = Inherit (whole_of c) ∷ []
last_hops (Within c s d) = Inherit s ∷ []
last_hops (Leaf d m w t) = []
last_hops Pointer = []

-- the hops of a step from n to a node, in front of those further on
abbrev pub through : Node → ℕ → ℕ → Node → List Hop → List Hop
through n m copy (Complete e) hops = last_hops n ++ Element m copy ∷ hops
through n m copy (Within c s d) hops = hops
through n m copy (Leaf d k w t) hops = last_hops n ++ Element m copy ∷ hops
through n m copy Pointer hops = hops

abbrev pub further : Node → Step → Option Placement → (Node → List Hop) → List Hop
further n s None next = []
further n s (Some k) next = through n k.member s.copy k.node (next k.node)

-- the hops of steps from a node on
abbrev pub decode : Contents → List Step → Node → List Hop
decode contents [] n = last_hops n
decode contents (s ∷ steps) n = further n s (slice_get (contents n) s.number) (decode contents steps)

-- steps lead from n to m, so many bytes further, and the hops from n on are those from m on
pub record IsReached (contents : Contents) (n m : Node) (place : ℕ) : Type 0 where
  pub steps : List Step
  pub reaches : Reaches contents n steps place m
  pub decodes : (rest : List Step) → decode contents (steps ++ rest) n ≡ decode contents rest m

pub reached_here : (contents : Contents) (n : Node) → IsReached contents n n 0
reached_here contents n = record { steps = []; reaches = here n; decodes = λ rest. refl }

pub reached_place : (contents : Contents) (n m : Node) (p q : ℕ) → p ≡ q → IsReached contents n m p → IsReached contents n m q
reached_place contents n m p q e r = subst (IsReached contents n m) e r

-- one way behind another
pub ways_joined : (contents : Contents) (n k m : Node) (p o : List Step) (q r : ℕ) → Reaches contents n p q k → Reaches contents k o r m → Reaches contents n (p ++ o) (q + r) m
ways_joined contents _ _ m _ o _ r (here n) y = subst (λ x. Reaches contents n o x m) (omega arith) y
ways_joined contents _ _ m _ o _ r (down n k s p q c to x) y =
    let t = ways_joined contents c.node k m p o q r x y in
    let e : start_of c s.copy + (q + r) ≡ (start_of c s.copy + q) + r = omega arith in
    subst (λ z. Reaches contents n (s ∷ (p ++ o)) z m) e (down n m s (p ++ o) (q + r) c to t)

pub reached_further : (contents : Contents) (n k m : Node) (p q : ℕ) → IsReached contents n k p → IsReached contents k m q → IsReached contents n m (p + q)
reached_further contents n k m p q x y = record {
  steps = x.steps ++ y.steps;
  reaches = ways_joined contents n k m x.steps y.steps p q x.reaches y.reaches;
  decodes = λ rest. ap (λ (t : List Step). decode contents t n) (append_assoc x.steps y.steps rest) ∙ (x.decodes (y.steps ++ rest) ∙ y.decodes rest);
}

-- a placement of one node is a step
pub reached_one : (contents : Contents) (n : Node) (c : ClassId) (s : Subobject) (d : ClassId) (place stride : ℕ) → Has (contents n) (one_at (Within c s d) place stride) → IsReached contents n (Within c s d) place
reached_one contents n c s d place stride has =
    let k = index_of (contents n) (one_at (Within c s d) place stride) has in
    let step : Step = record { number = k.0; copy = 0 } in
    let zero_copies : 0 * stride ≡ 0 = omega arith in
    let e : place + 0 * stride + 0 ≡ place = omega (arith, zero_copies) in
    record {
      steps = step ∷ [];
      reaches = subst (λ z. Reaches contents n (step ∷ []) z (Within c s d)) e (down n (Within c s d) step [] 0 (one_at (Within c s d) place stride) (record { there = k.1; within = omega arith }) (here (Within c s d)));
      decodes = λ rest. ap (λ (o : Option Placement). further n step o (decode contents rest)) k.1;
    }

-- the node of a subobject of class d of an object of class c
abbrev pub node_at : ClassId → Root → List ClassId → ClassId → Node
node_at c Whole [] d = Within c (subobject Whole []) d
node_at c Whole (b ∷ []) d = Complete c
node_at c Whole (b ∷ e ∷ path) d = Within c (subobject Whole (b ∷ e ∷ path)) d
node_at c (Shared v) path d = Within c (subobject (Shared v) path) d

abbrev pub node_of : ClassId → Subobject → ClassId → Node
node_of c s d = node_at c s.root s.path d

-- along a path, from a subobject in the object
pub along_path : (h : Classes) (rows : List ClassLayout) (ps : List Primary) (c d : ClassId) (s : Subobject) (path : List ClassId) → Leads h d path → IsReached (contents_of h rows ps) (Within c s d) (Within c (subobject s.root (s.path ++ path)) (last_of d path)) (place_along h rows d path)
along_path h rows ps c d s [] leads = subst (λ (p : List ClassId). IsReached (contents_of h rows ps) (Within c s d) (Within c (subobject s.root p) d) 0) (sym (append-nil s.path)) (reached_here (contents_of h rows ps) (Within c s d))
along_path h rows ps c d s (b ∷ path) leads =
    let inner = subobject s.root (s.path ++ b ∷ []) in
    let listed : Has (filter is_plain_base (bases_of h d)) leads.0.base = in_filter is_plain_base (bases_of h d) leads.0.base (has_of (bases_of h d) leads.0.base leads.0.listed) (ap not leads.0.way) in
    let mapped : Has (map (inner_base h rows c s d) (filter is_plain_base (bases_of h d))) (inner_base h rows c s d leads.0.base) = has_map (inner_base h rows c s d) (filter is_plain_base (bases_of h d)) leads.0.base listed in
    let there : Has (contents_of h rows ps (Within c s d)) (inner_base h rows c s d leads.0.base) = has_right (members_at h rows d) _ _ (has_left (map (inner_base h rows c s d) (filter is_plain_base (bases_of h d))) _ _ mapped) in
    let step : IsReached (contents_of h rows ps) (Within c s d) (Within c inner b) (direct_base_place h rows d b) = subst (λ (x : ClassId). IsReached (contents_of h rows ps) (Within c s d) (Within c (subobject s.root (s.path ++ x ∷ [])) x) (direct_base_place h rows d x)) leads.0.class
    (reached_one (contents_of h rows ps) (Within c s d) c (subobject s.root (s.path ++ leads.0.base.class ∷ [])) leads.0.base.class (direct_base_place h rows d leads.0.base.class) (nvsize_in (slice_get rows leads.0.base.class.0)) there) in
    let rest = along_path h rows ps c b inner path leads.1 in
    let joined = reached_further (contents_of h rows ps) (Within c s d) (Within c inner b) (Within c (subobject s.root ((s.path ++ b ∷ []) ++ path)) (last_of b path)) (direct_base_place h rows d b) (place_along h rows b path) step rest in
    subst (λ (p : List ClassId). IsReached (contents_of h rows ps) (Within c s d) (Within c (subobject s.root p) (last_of b path)) (direct_base_place h rows d b + place_along h rows b path)) (append_assoc s.path (b ∷ []) path) joined

-- a base that is placed in the class of the object
pub at_front : (h : Classes) (rows : List ClassLayout) (nearly : List Bool) (ps : List Primary) (c : ClassId) (r : HasRow h rows nearly ps c) (base : PlacedBase) → Has (fronts ps c r.class) base → Has (contents_of h rows ps (Complete c)) (placed_base h rows c base)
at_front h rows nearly ps c r base has = subst (λ (o : Option Class). Has (contents_of_object h rows ps c o) (placed_base h rows c base)) (sym r.there) (has_left (map (placed_base h rows c) (fronts ps c r.class)) _ _ (has_map (placed_base h rows c) (fronts ps c r.class) base has))

pub at_free : (h : Classes) (rows : List ClassLayout) (nearly : List Bool) (ps : List Primary) (c : ClassId) (r : HasRow h rows nearly ps c) (base : PlacedBase) → Has (free_bases h ps c) base → Has (contents_of h rows ps (Complete c)) (placed_base h rows c base)
at_free h rows nearly ps c r base has = subst (λ (o : Option Class). Has (contents_of_object h rows ps c o) (placed_base h rows c base)) (sym r.there)
    (has_right (map (placed_base h rows c) (fronts ps c r.class)) _ _ (has_right (members_at h rows c) _ _ (has_left (map (placed_base h rows c) (free_bases h ps c)) _ _ (has_map (placed_base h rows c) (free_bases h ps c) base has))))

reached_base : (h : Classes) (rows : List ClassLayout) (ps : List Primary) (c : ClassId) (base : PlacedBase) → Has (contents_of h rows ps (Complete c)) (placed_base h rows c base) → IsReached (contents_of h rows ps) (Complete c) (Within c (subobject_of c base) (class_of_placed base)) (placed_place h rows c base)
reached_base h rows ps c base has = reached_one (contents_of h rows ps) (Complete c) c (subobject_of c base) (class_of_placed base) (placed_place h rows c base) (nvsize_in (slice_get rows (class_of_placed base).0)) has

any_has : {X : Type 0} (p : X → Bool) (xs : List X) → list_any p xs ≡ true → (x : X) × Has xs x × (p x ≡ true)
any_has p [] e = let f : false ≡ true = e in cc
any_has {X} p (y ∷ xs) e = split (p y) (λ b. p y ≡ b → (b || list_any p xs) ≡ true → (x : X) × Has (y ∷ xs) x × (p x ≡ true))
    (λ t g _. (y, inl refl, g))
    (λ f g rest. let r = any_has p xs rest in (r.0, inr r.1, r.2)) refl e

own_is : (b : ClassId) (x : PlacedBase) → is_own b x ≡ true → x ≡ Own b
own_is b (Own d) e = ap (λ n. Own (number n)) (eqb-true d.0 b.0 e)
own_is b (VirtualBase v) e = let f : false ≡ true = e in cc

-- each direct base that is not virtual is among those before the members
pub own_front : (h : Classes) (rows : List ClassLayout) (nearly : List Bool) (ps : List Primary) (c b : ClassId) (r : HasRow h rows nearly ps c) → IsDirectBase h c false b → Has (fronts ps c r.class) (Own b)
own_front h rows nearly ps c b r edge =
    let listed : Contains r.class.bases edge.base = subst (λ (o : Option Class). Contains (bases_in o) edge.base) r.there edge.listed in
    let i = index_of r.class.bases edge.base (has_of r.class.bases edge.base listed) in
    let any = front_has (primary_of ps c) r.class.bases i.0 edge.base i.1 edge.way in
    let x = any_has (is_own edge.base.class) (fronts ps c r.class) any in
    subst (λ (k : ClassId). Has (fronts ps c r.class) (Own k)) edge.class (subst (Has (fronts ps c r.class)) (own_is edge.base.class x.0 x.2) x.1)

-- a virtual primary base is the first of them
pub virtual_front : (h : Classes) (rows : List ClassLayout) (nearly : List Bool) (ps : List Primary) (c v : ClassId) (r : HasRow h rows nearly ps c) → primary_of ps c ≡ Virtual v → Has (fronts ps c r.class) (VirtualBase v)
virtual_front h rows nearly ps c v r e = subst (λ (p : Primary). Has (front_bases p r.class.bases) (VirtualBase v)) (sym e) (inl refl)

-- a subobject in the whole, by its path
whole_reached : (h : Classes) (rows : List ClassLayout) (nearly : List Bool) (ps : List Primary) → IsLaidOut h rows nearly ps → (c : ClassId) (path : List ClassId) → c.0 < length h → Leads h c path → IsReached (contents_of h rows ps) (Complete c) (node_of c (subobject Whole (c ∷ path)) (last_of c path)) (place_in_class h rows c (subobject Whole (c ∷ path)))
whole_reached h rows nearly ps known c [] lt leads = reached_here (contents_of h rows ps) (Complete c)
whole_reached h rows nearly ps known c (b ∷ path) lt leads =
    let r = row_of h rows nearly ps known c lt in
    let contents = contents_of h rows ps in
    let first = reached_base h rows ps c (Own b) (at_front h rows nearly ps c r (Own b) (own_front h rows nearly ps c b r leads.0)) in
    let rest = along_path h rows ps c b (subobject Whole (c ∷ b ∷ [])) path leads.1 in
    let both = reached_further contents (Complete c) (Within c (subobject Whole (c ∷ b ∷ [])) b) (Within c (subobject Whole (c ∷ b ∷ path)) (last_of b path)) (placed_place h rows c (Own b)) (place_along h rows b path) first rest in
    reached_place contents (Complete c) (Within c (subobject Whole (c ∷ b ∷ path)) (last_of b path)) _ _ (omega arith) both

-- the holder of a virtual base: a subobject, of a class whose primary base that is
pub record IsHolder (h : Classes) (ps : List Primary) (c v : ClassId) (t : Subobject) : Type 0 where
  pub valid : IsSubobject h c t
  pub primary : virtual_primary_of ps t ≡ Some v

pub holder_is : (h : Classes) (ps : List Primary) (c v : ClassId) (t : Subobject) → IsHierarchy h → holder_of h ps c v ≡ Some t → IsHolder h ps c v t
holder_is h ps c v t keeps e =
    let facts : IsHeld h ps c v (Some t) = held h ps c v (preorder h c) (Some t) refl (preorder_lists h c keeps) e in
    record { valid = facts.0; primary = by_class (virtual_primary_of ps t) (sym (test_is ps v t) ∙ facts.1) }
  where
    by_class : (o : Option ClassId) → is_class o v ≡ true → o ≡ Some v
    by_class None f = let g : false ≡ true = f in cc
    by_class (Some w) f = ap (λ n. Some (number n)) (eqb-true w.0 v.0 f)

-- from the holder of a virtual base to this
pub from_holder : (h : Classes) (rows : List ClassLayout) (ps : List Primary) (c v : ClassId) (t : Subobject) (d : ClassId) → holder_of h ps c v ≡ Some t → virtual_primary_base ps d ≡ Some v → IsReached (contents_of h rows ps) (Within c t d) (Within c (shared_base v) v) 0
from_holder h rows ps c v t d e primary =
    let holds : holds_base h ps c t v ≡ true = ap (λ (o : Option Subobject). Rattle.abi_sound.specs.Chains.is_subobject_in o t) e ∙ same_itself t in
    let start : Has (virtual_start h rows ps c t (Some v)) (one_at (Within c (shared_base v) v) 0 (nvsize_in (slice_get rows v.0))) = inl (ap (λ b. one_at (if b then Within c (shared_base v) v else Pointer) 0 (nvsize_in (slice_get rows v.0))) holds) in
    let there : Has (virtual_start h rows ps c t (virtual_primary_base ps d)) (one_at (Within c (shared_base v) v) 0 (nvsize_in (slice_get rows v.0))) = subst (λ (o : Option ClassId). Has (virtual_start h rows ps c t o) (one_at (Within c (shared_base v) v) 0 (nvsize_in (slice_get rows v.0)))) (sym primary) start in
    reached_one (contents_of h rows ps) (Within c t d) c (shared_base v) v 0 (nvsize_in (slice_get rows v.0))
    (has_right (members_at h rows d) _ _ (has_right (map (inner_base h rows c t d) (filter is_plain_base (bases_of h d))) _ _ (has_left (virtual_start h rows ps c t (virtual_primary_base ps d)) _ _ there)))

-- a virtual base is reached where no subobject holds it, and else through the one that does
virtual_reached : (h : Classes) (rows : List ClassLayout) (nearly : List Bool) (ps : List Primary) → IsLaidOut h rows nearly ps → (n : ℕ) (c v : ClassId) → c.0 < length h → HasVirtualBase h c v → c.0 ≤ v.0 + n → IsReached (contents_of h rows ps) (Complete c) (Within c (shared_base v) v) (virtual_place rows c v)
virtual_reached h rows nearly ps known zero c v lt has le = let f = virtual_below h known.keeps c v has in absurd (omega arith)
virtual_reached h rows nearly ps known (suc n) c v lt has le = by_holder (holder_of h ps c v) refl (λ w base less. virtual_reached h rows nearly ps known n c w lt base (omega arith))
  where
    contents : Contents
    contents = contents_of h rows ps

    listed : Has (virtual_bases h c) v
    listed = has_virtual h known.keeps c v has

    -- a base that is placed lies at its own place
    placed : Has (contents_of h rows ps (Complete c)) (placed_base h rows c (VirtualBase v)) → IsReached contents (Complete c) (Within c (shared_base v) v) (virtual_place rows c v)
    placed there = reached_place contents (Complete c) (Within c (shared_base v) v) _ _ (omega arith) (reached_base h rows ps c (VirtualBase v) there)

    through_holder : (t : Subobject) (d : ClassId) → holder_of h ps c v ≡ Some t → virtual_primary_base ps d ≡ Some v → IsReached contents (Complete c) (Within c t d) (place_in_class h rows c t) → IsReached contents (Complete c) (Within c (shared_base v) v) (virtual_place rows c v)
    through_holder t d e primary way =
        let r = row_of h rows nearly ps known c lt in
        let at = r.laid.held v t (contains_of (virtual_bases h c) v listed) e in
        reached_place contents (Complete c) (Within c (shared_base v) v) (place_in_class h rows c t + 0) (virtual_place rows c v) (omega arith)
        (reached_further contents (Complete c) (Within c t d) (Within c (shared_base v) v) (place_in_class h rows c t) 0 way (from_holder h rows ps c v t d e primary))

    by_root : (t : Subobject) → IsSubobject h c t → holder_of h ps c v ≡ Some t → virtual_primary_of ps t ≡ Some v → ((w : ClassId) → HasVirtualBase h c w → v.0 < w.0 → IsReached contents (Complete c) (Within c (shared_base w) w) (virtual_place rows c w)) → IsReached contents (Complete c) (Within c (shared_base v) v) (virtual_place rows c v)
    by_root _ (whole [] l) e primary next = let r = row_of h rows nearly ps known c lt in placed (at_front h rows nearly ps c r (VirtualBase v) (virtual_front h rows nearly ps c v r (primary_is_virtual ps c v primary)))
    by_root _ (whole (b ∷ path) l) e primary next = through_holder (subobject Whole (c ∷ b ∷ path)) (last_of b path) e primary (whole_reached h rows nearly ps known c (b ∷ path) lt l)
    by_root _ (shared w path base l) e primary next =
        let falls = (before_of h rows nearly ps known).falls (last_of w path) v primary in
        let below = last_below h known.keeps w path l in
        through_holder (subobject (Shared w) (w ∷ path)) (last_of w path) e primary
        (reached_further contents (Complete c) (Within c (shared_base w) w) (Within c (subobject (Shared w) (w ∷ path)) (last_of w path)) (virtual_place rows c w) (place_along h rows w path) (next w base (omega arith)) (along_path h rows ps c w (shared_base w) path l))

    by_holder : (o : Option Subobject) → holder_of h ps c v ≡ o → ((w : ClassId) → HasVirtualBase h c w → v.0 < w.0 → IsReached contents (Complete c) (Within c (shared_base w) w) (virtual_place rows c w)) → IsReached contents (Complete c) (Within c (shared_base v) v) (virtual_place rows c v)
    by_holder None e next =
        let r = row_of h rows nearly ps known c lt in
        placed (at_free h rows nearly ps c r (VirtualBase v) (has_map (λ (w : ClassId). VirtualBase w) _ v (in_filter (λ (w : ClassId). is_free (holder_of h ps c w)) (virtual_bases h c) v listed (ap is_free e))))
    by_holder (Some t) e next = let x = holder_is h ps c v t known.keeps e in by_root t x.valid e x.primary next

-- each inheritance subobject is reached, at its place
pub subobject_reached : (h : Classes) (rows : List ClassLayout) (nearly : List Bool) (ps : List Primary) → IsLaidOut h rows nearly ps → (c : ClassId) (s : Subobject) (d : ClassId) → c.0 < length h → IsSubobject h c s → class_of s ≡ Some d → IsReached (contents_of h rows ps) (Complete c) (node_of c s d) (place_in_class h rows c s)
subobject_reached h rows nearly ps known c _ d lt (whole path l) e = let same : last_of c path ≡ d = cc in subst (λ (x : ClassId). IsReached (contents_of h rows ps) (Complete c) (node_of c (subobject Whole (c ∷ path)) x) (place_in_class h rows c (subobject Whole (c ∷ path)))) same (whole_reached h rows nearly ps known c path lt l)
subobject_reached h rows nearly ps known c _ d lt (shared v path has l) e =
    let same : last_of v path ≡ d = cc in
    let first = virtual_reached h rows nearly ps known c.0 c v lt has (omega arith) in
    let both = reached_further (contents_of h rows ps) (Complete c) (Within c (shared_base v) v) (Within c (subobject (Shared v) (v ∷ path)) (last_of v path)) (virtual_place rows c v) (place_along h rows v path) first (along_path h rows ps c v (shared_base v) path l) in
    subst (λ (x : ClassId). IsReached (contents_of h rows ps) (Complete c) (Within c (subobject (Shared v) (v ∷ path)) x) (virtual_place rows c v + place_along h rows v path)) same both
