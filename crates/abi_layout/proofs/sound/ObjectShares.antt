-- Two parts of an object with one chain of virtual pointers share it: one is in the chain of the other.
use Rattle.std.proofs.Common.{◌≡◌, ℕ, ◌<◌, Bool, Option, Some, None, List, [], ◌∷◌, ◌++◌, length, refl, ap, subst, sym, ◌∙◌, arith}
use Rattle.std.specs.List.{slice_get}
use Rattle.cxx_hierarchy.specs.declared.records.ClassId.{ClassId}
use Rattle.cxx_hierarchy.specs.declared.records.FieldType.{FieldType}
use Rattle.cxx_hierarchy.specs.declared.records.FieldType.TheVariants.{Value, Object}
use Rattle.cxx_hierarchy.specs.Classes.{Classes, members_of}
use Rattle.cxx_subobject.specs.declared.Subobject.{Subobject}
use Rattle.cxx_subobject.specs.Subobjects.{whole_of}
use Rattle.abi_primary.specs.declared.Primary.{Primary}
use Rattle.abi_primary.specs.Kinds.{IsDynamic}
use Rattle.abi_sound.specs.declared.class_layout.ClassLayout.{ClassLayout}
use Rattle.abi_sound.specs.Places.{Places}
use Rattle.cxx_subobject.specs.declared.locations.Hop.{Hop}
use Rattle.cxx_subobject.specs.declared.locations.Hop.TheVariants.{Inherit, Member as Element}
use Rattle.cxx_subobject.specs.Locations.{IsElement}
use Rattle.abi_sound.specs.Chains.{IsInChain, itself, further as further_part, ShareChain, downwards, upwards, in_element}
use Rattle.abi_sound.specs.Places.{places_of}
use Rattle.abi_sound.proofs.PrimaryParts.{primary_is}
use Rattle.abi_layout.proofs.lists.Lists.{has_at}
use Rattle.abi_layout.proofs.rules.KindLemmas.{has_of}
use Rattle.abi_layout.proofs.sound.ObjectTree.{Node, Complete, Within, Placement, Step, Contents, StepsTo, Reaches, here, down, class_of_node, node_of_member, contents_of}
use Rattle.abi_layout.proofs.sound.ObjectKnown.{IsLaidOut}
use Rattle.abi_layout.proofs.sound.ObjectPaths.{last_hops, through, further, decode}
use Rattle.abi_layout.proofs.sound.ObjectDecode.{IsPart, whole_part, inner_part, part_hops, part_class, part_node, element_within, IsObjectNode}
use Rattle.abi_layout.proofs.sound.ObjectSteps.{IsStepKind, to_base, to_member, to_pointer, step_kind}
use Rattle.abi_layout.proofs.sound.ObjectChains.{IsChain, last_step, next_step, chain_some, starts_chain}

same_step : (s t : Step) (p o : List Step) → (s ∷ p) ≡ (t ∷ o) → s ≡ t
same_step s t p o e = cc

same_rest : (s t : Step) (p o : List Step) → (s ∷ p) ≡ (t ∷ o) → p ≡ o
same_rest s t p o e = cc

front_empty : (p o : List Step) → (p ++ o) ≡ [] → o ≡ []
front_empty [] o e = e
front_empty (s ∷ p) o e = let f : (s ∷ (p ++ o)) ≡ [] = e in cc

-- where the first steps of a chain lead: into the chain
record IsFurtherPart (contents : Contents) (l : Places) (c : ClassId) (n : Node) (s : Subobject) (o : List Step) : Type 0 where
  part : Subobject
  chain : IsInChain l c s part
  hops : decode contents o n ≡ Inherit part ∷ []

into_chain : (contents : Contents) (l : Places) (c : ClassId) (n : Node) (s : Subobject) (a o b : List Step) → IsChain contents l c n s a → last_hops n ≡ Inherit s ∷ [] → a ≡ o ++ b → (b ≡ [] → ⊥) → IsFurtherPart contents l c n s o
into_chain contents l c n s a [] b chain hops e some = record { part = s; chain = itself s; hops = hops }
into_chain contents l c _ _ _ (y ∷ o) b (last_step n s x k to node start) hops e some = absurd (some (front_empty o b (sym (same_rest x y [] (o ++ b) e))))
into_chain contents l c _ _ _ (y ∷ o) b (next_step n s t d x k rest to node start primary chain) hops e some =
    let more = into_chain contents l c (Within c t d) t rest o b chain refl (same_rest x y rest (o ++ b) e) some in
    let step : x ≡ y = same_step x y rest (o ++ b) e in
    let there : slice_get (contents n) y.number ≡ Some k = ap (λ (z : Step). slice_get (contents n) z.number) (sym step) ∙ to.there in
    let first : decode contents (y ∷ o) n ≡ through n k.member y.copy k.node (decode contents o k.node) = ap (λ (z : Option Placement). further n y z (decode contents o)) there in
    let second : through n k.member y.copy k.node (decode contents o k.node) ≡ decode contents o (Within c t d) = ap (λ (z : Node). through n k.member y.copy z (decode contents o z)) node in
    record { part = more.part; chain = further_part s t more.part (primary_is l c s t primary) more.chain; hops = first ∙ (second ∙ more.hops) }

-- a node of one part is of no other
record IsOnePart (c e : ClassId) (s t : Subobject) : Type 0 where
  top : c ≡ e
  subobject_is : s ≡ t

parts_same : (h : Classes) (c e d f : ClassId) (n m : Node) (s t : Subobject) → n ≡ m → IsPart h c n s d → IsPart h e m t f → IsOnePart c e s t
parts_same h c e _ _ _ _ _ _ same whole_part whole_part = let is : c ≡ e = cc in record { top = is; subobject_is = ap whole_of is }
parts_same h c e _ _ _ _ _ _ same whole_part (inner_part t f valid class) = let g : Complete c ≡ Within e t f = same in cc
parts_same h c e _ _ _ _ _ _ same (inner_part s d valid class) whole_part = let g : Within c s d ≡ Complete e = same in cc
parts_same h c e _ _ _ _ _ _ same (inner_part s d valid class) (inner_part t f other class_other) = let g : Within c s d ≡ Within e t f = same in let is : c ≡ e = cc in let sub : s ≡ t = cc in record { top = is; subobject_is = sub }

-- no part lies below a node without placements that is none
none_below : (h : Classes) (contents : Contents) (n m : Node) (p : List Step) (q : ℕ) (c d : ClassId) (s : Subobject) → contents n ≡ [] → class_of_node n ≡ None → Reaches contents n p q m → IsPart h c m s d → ⊥
none_below h contents _ _ _ _ c d s empty no_class (here n) part = let e : None ≡ Some d = sym no_class ∙ part_node h c n s d part in cc
none_below h contents _ _ _ _ c d s empty no_class (down n m x p q k to way) part = let e : None ≡ Some k = ap (λ (xs : List Placement). slice_get xs x.number) (sym empty) ∙ to.there in cc

-- a part of some object with its chain
pub record HasChain (h : Classes) (rows : List ClassLayout) (ps : List Primary) (n : Node) : Type 0 where
  pub top : ClassId
  pub class : ClassId
  pub subobject_is : Subobject
  pub part : IsPart h top n subobject_is class
  pub steps : List Step
  pub chain : IsChain (contents_of h rows ps) (places_of h rows) top n subobject_is steps

-- a dynamic part, by its node, has one
pub has_chain : (h : Classes) (rows : List ClassLayout) (nearly : List Bool) (ps : List Primary) → IsLaidOut h rows nearly ps → (d : ClassId) (n : Node) → IsDynamic h d → IsObjectNode h d n → HasChain h rows ps n
has_chain h rows nearly ps known d n dynamic x =
    let y = starts_chain h rows nearly ps known x.top d n x.subobject_is x.within x.part dynamic in
    record { top = x.top; class = d; subobject_is = x.subobject_is; part = x.part; steps = y.steps; chain = y.chain }

-- the first steps of the chain of a part that begins here
from_here : (h : Classes) (rows : List ClassLayout) (ps : List Primary) (c d : ClassId) (n : Node) (s : Subobject) (o b : List Step) → IsPart h c n s d → (x : HasChain h rows ps n) → x.steps ≡ o ++ b → (b ≡ [] → ⊥) → IsFurtherPart (contents_of h rows ps) (places_of h rows) c n s o
from_here h rows ps c d n s o b part x e some =
    let same = parts_same h x.top c x.class d n n x.subobject_is s refl x.part part in
    let chain : IsChain (contents_of h rows ps) (places_of h rows) c n s x.steps =
    subst (λ (t : Subobject). IsChain (contents_of h rows ps) (places_of h rows) c n t x.steps) same.subobject_is (subst (λ (e : ClassId). IsChain (contents_of h rows ps) (places_of h rows) e n x.subobject_is x.steps) same.top x.chain) in
    into_chain (contents_of h rows ps) (places_of h rows) c n s x.steps o b chain (part_hops h c n s d part) e some

-- the hops of steps that go through a base, and of steps that go through an element
share_base : (h : Classes) (rows : List ClassLayout) (ps : List Primary) (c e : ClassId) (n : Node) (t : Subobject) (x y : Step) (k : Placement) (p o : List Step) → slice_get (contents_of h rows ps n) x.number ≡ Some k → slice_get (contents_of h rows ps n) y.number ≡ Some k → k.node ≡ Within c t e
    → ShareChain h (places_of h rows) c (decode (contents_of h rows ps) p k.node) (decode (contents_of h rows ps) o k.node) → ShareChain h (places_of h rows) c (decode (contents_of h rows ps) (x ∷ p) n) (decode (contents_of h rows ps) (y ∷ o) n)
share_base h rows ps c e n t x y k p o at_x at_y node shares =
    let a = hops_are x p at_x in
    let b = hops_are y o at_y in
    subst (λ (z : List Hop). ShareChain h (places_of h rows) c z (decode (contents_of h rows ps) (y ∷ o) n)) (sym a) (subst (λ (z : List Hop). ShareChain h (places_of h rows) c (decode (contents_of h rows ps) p k.node) z) (sym b) shares)
  where
    by_node : (z : Node) (z_is : z ≡ Within c t e) (m copy : ℕ) (hops : List Hop) → through n m copy z hops ≡ hops
    by_node z z_is m copy hops = ap (λ (w : Node). through n m copy w hops) z_is

    hops_are : (z : Step) (r : List Step) → slice_get (contents_of h rows ps n) z.number ≡ Some k → decode (contents_of h rows ps) (z ∷ r) n ≡ decode (contents_of h rows ps) r k.node
    hops_are z r at = ap (λ (w : Option Placement). further n z w (decode (contents_of h rows ps) r)) at ∙ by_node k.node node k.member z.copy (decode (contents_of h rows ps) r k.node)

share_element : (h : Classes) (rows : List ClassLayout) (ps : List Primary) (c d e : ClassId) (n : Node) (s : Subobject) (x : Step) (k : Placement) (p o : List Step) → IsPart h c n s d → slice_get (contents_of h rows ps n) x.number ≡ Some k → k.node ≡ Complete e → IsElement h d k.member x.copy (Object e)
    → ShareChain h (places_of h rows) e (decode (contents_of h rows ps) p k.node) (decode (contents_of h rows ps) o k.node) → ShareChain h (places_of h rows) c (decode (contents_of h rows ps) (x ∷ p) n) (decode (contents_of h rows ps) (x ∷ o) n)
share_element h rows ps c d e n s x k p o part at node element shares =
    let a = hops_are p in
    let b = hops_are o in
    subst (λ (z : List Hop). ShareChain h (places_of h rows) c z (decode (contents_of h rows ps) (x ∷ o) n)) (sym a) (subst (λ (z : List Hop). ShareChain h (places_of h rows) c (Inherit s ∷ Element k.member x.copy ∷ decode (contents_of h rows ps) p k.node) z) (sym b)
    (in_element c d e s k.member x.copy (decode (contents_of h rows ps) p k.node) (decode (contents_of h rows ps) o k.node) (part_class h c n s d part) element shares))
  where
    hops_are : (r : List Step) → decode (contents_of h rows ps) (x ∷ r) n ≡ Inherit s ∷ Element k.member x.copy ∷ decode (contents_of h rows ps) r k.node
    hops_are r = ap (λ (w : Option Placement). further n x w (decode (contents_of h rows ps) r)) at
        ∙ (ap (λ (z : Node). through n k.member x.copy z (decode (contents_of h rows ps) r k.node)) node
        ∙ ap (λ (t : List Hop). t ++ Element k.member x.copy ∷ decode (contents_of h rows ps) r k.node) (part_hops h c n s d part))

-- what is known at the node of a placement
abbrev SharesBelow : Classes → List ClassLayout → List Primary → Node → List Step → List Step → Type 0
SharesBelow h rows ps n p o = (c d : ClassId) (s : Subobject) → c.0 < length h → IsPart h c n s d → ShareChain h (places_of h rows) c (decode (contents_of h rows ps) p n) (decode (contents_of h rows ps) o n)

-- two ways that begin with one step
share_step : (h : Classes) (rows : List ClassLayout) (nearly : List Bool) (ps : List Primary) → IsLaidOut h rows nearly ps → (c d : ClassId) (n m : Node) (s : Subobject) (x : Step) (k : Placement) (p o : List Step) (q : ℕ) → c.0 < length h → IsPart h c n s d → StepsTo (contents_of h rows ps) n x k → Reaches (contents_of h rows ps) k.node p q m → HasChain h rows ps m
    → SharesBelow h rows ps k.node p o → ShareChain h (places_of h rows) c (decode (contents_of h rows ps) (x ∷ p) n) (decode (contents_of h rows ps) (x ∷ o) n)
share_step h rows nearly ps known c d n m s x k p o q lt part to way chained next =
    by_kind (step_kind h rows nearly ps known c d n s k lt part (has_of (contents_of h rows ps n) k (has_at (contents_of h rows ps n) x.number k to.there)))
  where
    by_type : (width : Option ℕ) (type : FieldType ClassId) → k.node ≡ node_of_member d k.member width type → IsElement h d k.member x.copy type → ShareChain h (places_of h rows) c (decode (contents_of h rows ps) (x ∷ p) n) (decode (contents_of h rows ps) (x ∷ o) n)
    by_type width (Value type) node element = absurd (none_below h (contents_of h rows ps) k.node m p q chained.top chained.class chained.subobject_is (ap (contents_of h rows ps) node) (ap class_of_node node) way chained.part)
    by_type width (Object e) node element =
        let inside = element_within h d k.member x.copy (Object e) element in
        let falls = known.keeps.objects d e element.member (has_at (members_of h d) k.member element.member element.there) element.type_is in
        share_element h rows ps c d e n s x k p o part to.there node element (next e e (whole_of e) (omega arith) (subst (λ (z : Node). IsPart h e z (whole_of e) e) (sym node) whole_part))

    by_kind : IsStepKind h c d k → ShareChain h (places_of h rows) c (decode (contents_of h rows ps) (x ∷ p) n) (decode (contents_of h rows ps) (x ∷ o) n)
    by_kind (to_base t e node valid class) = share_base h rows ps c e n t x x k p o to.there to.there node (next c e t lt (subst (λ (z : Node). IsPart h c z t e) (sym node) (inner_part t e valid class)))
    by_kind (to_member width type node each) = by_type width type node (each x.copy to.within)
    by_kind (to_pointer node) = absurd (none_below h (contents_of h rows ps) k.node m p q chained.top chained.class chained.subobject_is (ap (contents_of h rows ps) node) (ap class_of_node node) way chained.part)

-- two ways from one part that end, with the chains of where they lead, at one virtual pointer
share_from : (h : Classes) (rows : List ClassLayout) (nearly : List Bool) (ps : List Primary) → IsLaidOut h rows nearly ps → (c d : ClassId) (n m j : Node) (s : Subobject) (p o : List Step) (q r : ℕ) → c.0 < length h → IsPart h c n s d → Reaches (contents_of h rows ps) n p q m → Reaches (contents_of h rows ps) n o r j → (x : HasChain h rows ps m) (y : HasChain h rows ps j) → p ++ x.steps ≡ o ++ y.steps
    → ShareChain h (places_of h rows) c (decode (contents_of h rows ps) p n) (decode (contents_of h rows ps) o n)
share_from h rows nearly ps known c d _ _ j s _ o _ r lt part (here n) other x y e =
    let t = from_here h rows ps c d n s o y.steps part x e (chain_some (contents_of h rows ps) (places_of h rows) y.top j y.subobject_is y.steps y.chain) in
    subst (λ (z : List Hop). ShareChain h (places_of h rows) c z (decode (contents_of h rows ps) o n)) (sym (part_hops h c n s d part)) (subst (λ (z : List Hop). ShareChain h (places_of h rows) c (Inherit s ∷ []) z) (sym t.hops) (downwards c s t.part t.chain))
share_from h rows nearly ps known c d _ _ _ s _ _ _ _ lt part (down n m v p q k to way) (here _) x y e =
    let t = from_here h rows ps c d n s (v ∷ p) x.steps part y (sym e) (chain_some (contents_of h rows ps) (places_of h rows) x.top m x.subobject_is x.steps x.chain) in
    subst (λ (z : List Hop). ShareChain h (places_of h rows) c z (last_hops n)) (sym t.hops) (subst (λ (z : List Hop). ShareChain h (places_of h rows) c (Inherit t.part ∷ []) z) (sym (part_hops h c n s d part)) (upwards c t.part s t.chain))
share_from h rows nearly ps known c d _ _ _ s _ _ _ _ lt part (down n m v p q k to way) (down _ j w o r l on other) x y e =
    let step : v ≡ w = same_step v w (p ++ x.steps) (o ++ y.steps) e in
    let rest : p ++ x.steps ≡ o ++ y.steps = same_rest v w (p ++ x.steps) (o ++ y.steps) e in
    let both : Some k ≡ Some l = sym to.there ∙ (ap (λ (z : Step). slice_get (contents_of h rows ps n) z.number) step ∙ on.there) in
    let same : k ≡ l = cc in
    let there : Reaches (contents_of h rows ps) k.node o r j = subst (λ (z : Placement). Reaches (contents_of h rows ps) z.node o r j) (sym same) other in
    subst (λ (z : Step). ShareChain h (places_of h rows) c (decode (contents_of h rows ps) (v ∷ p) n) (decode (contents_of h rows ps) (z ∷ o) n)) step
    (share_step h rows nearly ps known c d n m s v k p o q lt part to way x (λ e2 f t inside below. share_from h rows nearly ps known e2 f k.node m j t p o q r inside below way there x y rest))

-- two parts of one object share a chain where their ways to a virtual pointer are one
pub share_or_differ : (h : Classes) (rows : List ClassLayout) (nearly : List Bool) (ps : List Primary) → IsLaidOut h rows nearly ps → (c : ClassId) (n m : Node) (p o : List Step) (q r : ℕ) → c.0 < length h → Reaches (contents_of h rows ps) (Complete c) p q n → Reaches (contents_of h rows ps) (Complete c) o r m → (x : HasChain h rows ps n) (y : HasChain h rows ps m) → p ++ x.steps ≡ o ++ y.steps
    → ShareChain h (places_of h rows) c (decode (contents_of h rows ps) p (Complete c)) (decode (contents_of h rows ps) o (Complete c))
share_or_differ h rows nearly ps known c n m p o q r lt a b x y e = share_from h rows nearly ps known c c (Complete c) n m (whole_of c) p o q r lt whole_part a b x y e
