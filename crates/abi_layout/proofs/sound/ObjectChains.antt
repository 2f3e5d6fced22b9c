-- Chains of virtual pointers in the tree of an object: steps by primary bases to the pointer at the start of a part.
use Rattle.std.proofs.Common.{◌≡◌, ℕ, zero, suc, ◌+◌, ◌*◌, ◌<◌, inl, Bool, true, false, Option, Some, None, List, [], ◌∷◌, ◌++◌, map, length, get_or, refl, ap, subst, sym, ◌∙◌, arith}
use Rattle.std.specs.Prelude.{filter, not, nat_eq, ◌&&◌, if◌then◌else◌, position}
use Rattle.std.specs.List.{slice_get}
use Rattle.std.proofs.lemmas.Bool.{eqb-true, eq-eqb}
use Rattle.cxx_hierarchy.specs.declared.records.ClassId.{ClassId}
use Rattle.cxx_hierarchy.specs.Classes.{Class, Classes, bases_of}
use Rattle.cxx_hierarchy.specs.VirtualBases.{IsDirectBase, HasVirtualBase}
use Rattle.cxx_subobject.specs.declared.Subobject.{Subobject}
use Rattle.cxx_subobject.specs.Subobjects.{subobject, whole_of, shared_base, IsSubobject, shared, class_of}
use Rattle.cxx_subobject.proofs.TreeLemmas.{subobject_same}
use Rattle.abi_primary.specs.declared.Primary.{Primary}
use Rattle.abi_primary.specs.declared.Primary.TheVariants.{None as NoPrimary, Direct, Virtual}
use Rattle.abi_primary.specs.Kinds.{IsDynamic}
use Rattle.abi_primary.specs.Holder.{holder_of}
use Rattle.abi_sound.specs.declared.class_layout.ClassLayout.{ClassLayout}
use Rattle.abi_layout.specs.declared.placed_bases.PlacedBase.TheVariants.{Own, VirtualBase}
use Rattle.cxx_hierarchy.specs.Declarations.{is_plain_base}
use Rattle.abi_sound.specs.Places.{Places, direct_base_place, primary_in, nth_holder, holder_in}
use Rattle.abi_layout.specs.Placements.{nvsize_in}
use Rattle.abi_sound.proofs.PrimaryParts.{IsPrimaryPart, by_direct, by_holder}
use Rattle.cxx_subobject.specs.VirtualBases.{virtual_bases}
use Rattle.abi_sound.specs.Chains.{is_subobject_in}
use Rattle.abi_layout.specs.Holding.{virtual_primary_base, holds_base}
use Rattle.abi_layout.specs.PlacedBases.{free_bases}
use Rattle.abi_layout.specs.Layouts.{primary_of, fronts, placed_place}
use Rattle.abi_sound.specs.Places.{places_of}
use Rattle.abi_layout.proofs.lists.Lists.{number}
use Rattle.abi_layout.proofs.rules.Stages.{Has, has_left, has_right, has_map, split}
use Rattle.abi_layout.proofs.rules.KindLemmas.{has_of, in_filter}
use Rattle.abi_layout.proofs.algorithm.Searches.{first_that, position_is}
use Rattle.abi_layout.proofs.algorithm.SettledLemmas.{base_below}
use Rattle.abi_layout.proofs.sound.ObjectTree.{Node, Complete, Within, Pointer, Placement, Step, Contents, start_of, StepsTo, Reaches, here, down, one_at, is_no_primary, owns_pointer, own_pointer, placed_base, inner_base, members_at, virtual_start, contents_of_object, contents_of}
use Rattle.abi_layout.proofs.sound.ObjectKinds.{dynamic_test}
use Rattle.abi_layout.proofs.rules.RowPlacesFronts.{whole_holds}
use Rattle.abi_layout.proofs.sound.ObjectPrimaries.{virtual_when_primary, virtual_at_start}
use Rattle.cxx_subobject.proofs.VirtualBaseLemmas.{has_virtual}
use Rattle.abi_layout.proofs.sound.ObjectKnown.{IsLaidOut, row_of, virtual_primary_is, direct_primary_is}
use Rattle.foundation.proofs.Members.{index_of}
use Rattle.abi_layout.proofs.sound.ObjectPaths.{at_front, own_front, virtual_front}
use Rattle.abi_layout.proofs.sound.ObjectDecode.{IsPart, whole_part, inner_part, part_valid, part_class}
use Rattle.abi_layout.proofs.sound.ObjectSteps.{subobject_more, class_more, virtual_above, part_below}
use Rattle.abi_layout.proofs.sound.ObjectStarts.{primary_at_start}

-- the steps lead, by primary bases alone, from a part of an object of class c to a virtual pointer at its start
pub data IsChain (contents : Contents) (l : Places) (c : ClassId) : Node → Subobject → List Step → Type 0 where
  last_step : (n : Node) (s : Subobject) (x : Step) (k : Placement) → StepsTo contents n x k → k.node ≡ Pointer → start_of k x.copy ≡ 0 → IsChain contents l c n s (x ∷ [])
  next_step : (n : Node) (s t : Subobject) (e : ClassId) (x : Step) (k : Placement) (rest : List Step) → StepsTo contents n x k → k.node ≡ Within c t e → start_of k x.copy ≡ 0 → IsPrimaryPart l c s t → IsChain contents l c (Within c t e) t rest → IsChain contents l c n s (x ∷ rest)

-- a chain ends at a virtual pointer, at the place of the part
pub chain_reaches : (contents : Contents) (l : Places) (c : ClassId) (n : Node) (s : Subobject) (a : List Step) → IsChain contents l c n s a → Reaches contents n a 0 Pointer
chain_reaches contents l c _ _ _ (last_step n s x k to node start) =
    let e : start_of k x.copy + 0 ≡ 0 = omega arith in
    subst (λ q. Reaches contents n (x ∷ []) q Pointer) e (down n Pointer x [] 0 k to (subst (λ (y : Node). Reaches contents y [] 0 Pointer) (sym node) (here Pointer)))
chain_reaches contents l c _ _ _ (next_step n s t d x k rest to node start primary chain) =
    let e : start_of k x.copy + 0 ≡ 0 = omega arith in
    subst (λ q. Reaches contents n (x ∷ rest) q Pointer) e (down n Pointer x rest 0 k to (subst (λ (y : Node). Reaches contents y rest 0 Pointer) (sym node) (chain_reaches contents l c (Within c t d) t rest chain)))

pub chain_some : (contents : Contents) (l : Places) (c : ClassId) (n : Node) (s : Subobject) (a : List Step) → IsChain contents l c n s a → a ≡ [] → ⊥
chain_some contents l c _ _ _ (last_step n s x k to node start) e = cc
chain_some contents l c _ _ _ (next_step n s t d x k rest to node start primary chain) e = cc

-- the primary base and the holders that the rows tell
pub primary_told : (h : Classes) (rows : List ClassLayout) (nearly : List Bool) (ps : List Primary) → IsLaidOut h rows nearly ps → (d : ClassId) → d.0 < length h → (places_of h rows).primary d ≡ primary_of ps d
primary_told h rows nearly ps known d lt = let r = row_of h rows nearly ps known d lt in ap primary_in r.row_there ∙ r.laid.primary

get_mapped : {X Y : Type 0} (f : X → Y) (xs : List X) (i : ℕ) (x : X) (d : Y) → slice_get xs i ≡ Some x → get_or (map f xs) i d ≡ f x
get_mapped f [] i x d e = let g : None ≡ Some x = e in cc
get_mapped f (y ∷ xs) zero x d e = let same : y ≡ x = cc in ap f same
get_mapped f (y ∷ xs) (suc i) x d e = get_mapped f xs i x d e

pub holder_told : (h : Classes) (rows : List ClassLayout) (nearly : List Bool) (ps : List Primary) → IsLaidOut h rows nearly ps → (c v : ClassId) → c.0 < length h → HasVirtualBase h c v → (places_of h rows).holder c v ≡ holder_of h ps c v
holder_told h rows nearly ps known c v lt has =
    let r = row_of h rows nearly ps known c lt in
    let test : ClassId → Bool = λ w. nat_eq w.0 v.0 in
    let first = first_that test (virtual_bases h c) v (has_virtual h known.keeps c v has) (eq-eqb v.0 v.0 refl) in
    let same : first.item ≡ v = ap number (eqb-true first.item.0 v.0 first.passes) in
    ap (λ (o : Option ClassLayout). holder_in o v) r.row_there
    ∙ (ap (λ (xs : List ClassId). nth_holder r.row.holders (position test xs)) r.laid.virtuals
    ∙ (ap (λ (hs : List (Option Subobject)). nth_holder hs (position test (virtual_bases h c))) r.laid.holders
    ∙ (ap (nth_holder (map (holder_of h ps c) (virtual_bases h c))) (position_is test (virtual_bases h c) first)
    ∙ (get_mapped (holder_of h ps c) (virtual_bases h c) first.index first.item None first.there
    ∙ ap (holder_of h ps c) same))))

-- a placement at the start of a part
record IsAtStart (h : Classes) (rows : List ClassLayout) (ps : List Primary) (n m : Node) : Type 0 where
  place : ℕ
  stride : ℕ
  there : Has (contents_of h rows ps n) (one_at m place stride)
  at : place ≡ 0

-- a chain from a part
pub record StartsChain (h : Classes) (rows : List ClassLayout) (ps : List Primary) (c : ClassId) (n : Node) (s : Subobject) : Type 0 where
  pub steps : List Step
  pub chain : IsChain (contents_of h rows ps) (places_of h rows) c n s steps

start_zero : (place stride : ℕ) → place ≡ 0 → place + 0 * stride ≡ 0
start_zero place stride e = let z : 0 * stride ≡ 0 = omega arith in omega arith

pointer_chain : (h : Classes) (rows : List ClassLayout) (ps : List Primary) (c : ClassId) (n : Node) (s : Subobject) → IsAtStart h rows ps n Pointer → StartsChain h rows ps c n s
pointer_chain h rows ps c n s x =
    let k = index_of (contents_of h rows ps n) (one_at Pointer x.place x.stride) x.there in
    record {
      steps = (let y : Step = record { number = k.0; copy = 0 } in y) ∷ [];
      chain = last_step n s (record { number = k.0; copy = 0 }) (one_at Pointer x.place x.stride) (record { there = k.1; within = omega arith }) refl (start_zero x.place x.stride x.at);
    }

base_chain : (h : Classes) (rows : List ClassLayout) (ps : List Primary) (c : ClassId) (n : Node) (s t : Subobject) (e : ClassId) → IsAtStart h rows ps n (Within c t e) → IsPrimaryPart (places_of h rows) c s t → StartsChain h rows ps c (Within c t e) t → StartsChain h rows ps c n s
base_chain h rows ps c n s t e x primary rest =
    let k = index_of (contents_of h rows ps n) (one_at (Within c t e) x.place x.stride) x.there in
    record {
      steps = (let y : Step = record { number = k.0; copy = 0 } in y) ∷ rest.steps;
      chain = next_step n s t e (record { number = k.0; copy = 0 }) (one_at (Within c t e) x.place x.stride) rest.steps (record { there = k.1; within = omega arith }) refl (start_zero x.place x.stride x.at) primary rest.chain;
    }

-- the pointer that the class of a part has itself
own_there : (h : Classes) (rows : List ClassLayout) (nearly : List Bool) (ps : List Primary) → IsLaidOut h rows nearly ps → (c d : ClassId) (n : Node) (s : Subobject) → c.0 < length h → IsPart h c n s d → owns_pointer h ps d ≡ true → IsAtStart h rows ps n Pointer
own_there h rows nearly ps known c _ _ _ lt whole_part owns =
    let r = row_of h rows nearly ps known c lt in
    let here_is : Has (own_pointer h ps c) (one_at Pointer 0 8) = subst (λ b. Has (if b then one_at Pointer 0 8 ∷ [] else []) (one_at Pointer 0 8)) (sym owns) (inl refl) in
    record {
      place = 0;
      stride = 8;
      there = subst (λ (o : Option Class). Has (contents_of_object h rows ps c o) (one_at Pointer 0 8)) (sym r.there)
          (has_right (map (placed_base h rows c) (fronts ps c r.class)) _ _ (has_right (members_at h rows c) _ _ (has_right (map (placed_base h rows c) (free_bases h ps c)) _ _ here_is)));
      at = refl;
    }
own_there h rows nearly ps known c _ _ _ lt (inner_part s d valid class) owns =
    let here_is : Has (own_pointer h ps d) (one_at Pointer 0 8) = subst (λ b. Has (if b then one_at Pointer 0 8 ∷ [] else []) (one_at Pointer 0 8)) (sym owns) (inl refl) in
    record {
      place = 0;
      stride = 8;
      there = has_right (members_at h rows d) _ _ (has_right (map (inner_base h rows c s d) (filter is_plain_base (bases_of h d))) _ _ (has_right (virtual_start h rows ps c s (virtual_primary_base ps d)) _ _ here_is));
      at = refl;
    }

-- the direct primary base of a part
direct_there : (h : Classes) (rows : List ClassLayout) (nearly : List Bool) (ps : List Primary) → IsLaidOut h rows nearly ps → (c d b : ClassId) (n : Node) (s : Subobject) → c.0 < length h → IsPart h c n s d → IsDirectBase h d false b → direct_base_place h rows d b ≡ 0 → IsAtStart h rows ps n (Within c (subobject s.root (s.path ++ b ∷ [])) b)
direct_there h rows nearly ps known c _ b _ _ lt whole_part edge at =
    let r = row_of h rows nearly ps known c lt in
    record {
      place = placed_place h rows c (Own b);
      stride = nvsize_in (slice_get rows b.0);
      there = at_front h rows nearly ps c r (Own b) (own_front h rows nearly ps c b r edge);
      at = omega arith;
    }
direct_there h rows nearly ps known c _ b _ _ lt (inner_part s d valid class) edge at =
    let listed : Has (filter is_plain_base (bases_of h d)) edge.base = in_filter is_plain_base (bases_of h d) edge.base (has_of (bases_of h d) edge.base edge.listed) (ap not edge.way) in
    let mapped : Has (map (inner_base h rows c s d) (filter is_plain_base (bases_of h d))) (inner_base h rows c s d edge.base) = has_map (inner_base h rows c s d) (filter is_plain_base (bases_of h d)) edge.base listed in
    let there : Has (contents_of h rows ps (Within c s d)) (inner_base h rows c s d edge.base) = has_right (members_at h rows d) _ _ (has_left (map (inner_base h rows c s d) (filter is_plain_base (bases_of h d))) _ _ mapped) in
    subst (λ (x : ClassId). direct_base_place h rows d x ≡ 0 → IsAtStart h rows ps (Within c s d) (Within c (subobject s.root (s.path ++ x ∷ [])) x)) edge.class
    (λ zero_at. record { place = direct_base_place h rows d edge.base.class; stride = nvsize_in (slice_get rows edge.base.class.0); there = there; at = zero_at }) at

-- the virtual primary base of a part, or the pointer in its place
virtual_there : (h : Classes) (rows : List ClassLayout) (ps : List Primary) (c d v : ClassId) (s : Subobject) (b : Bool) → virtual_primary_base ps d ≡ Some v → holds_base h ps c s v ≡ b → IsAtStart h rows ps (Within c s d) (if b then Within c (shared_base v) v else Pointer)
virtual_there h rows ps c d v s b e holds =
    let x = one_at (if b then Within c (shared_base v) v else Pointer) 0 (nvsize_in (slice_get rows v.0)) in
    let start : Has (virtual_start h rows ps c s (Some v)) x = inl (ap (λ o. one_at (if o then Within c (shared_base v) v else Pointer) 0 (nvsize_in (slice_get rows v.0))) holds) in
    let there : Has (virtual_start h rows ps c s (virtual_primary_base ps d)) x = subst (λ (o : Option ClassId). Has (virtual_start h rows ps c s o) x) (sym e) start in
    record {
      place = 0;
      stride = nvsize_in (slice_get rows v.0);
      there = has_right (members_at h rows d) _ _ (has_right (map (inner_base h rows c s d) (filter is_plain_base (bases_of h d))) _ _ (has_left (virtual_start h rows ps c s (virtual_primary_base ps d)) _ _ there));
      at = refl;
    }

holder_by_test : (o : Option Subobject) (s : Subobject) → is_subobject_in o s ≡ true → o ≡ Some s
holder_by_test None s e = let f : false ≡ true = e in cc
holder_by_test (Some t) s e = ap (λ (x : Subobject). Some x) (subobject_same t s e)

-- what parts of smaller classes have
abbrev HaveChains : Classes → List ClassLayout → List Primary → (c d : ClassId) → Type 0
HaveChains h rows ps c d = (t : Subobject) (e : ClassId) → e.0 < d.0 → IsSubobject h c t → class_of t ≡ Some e → IsDynamic h e → StartsChain h rows ps c (Within c t e) t

told_is : (h : Classes) (rows : List ClassLayout) (nearly : List Bool) (ps : List Primary) → IsLaidOut h rows nearly ps → (d : ClassId) (p : Primary) → d.0 < length h → primary_of ps d ≡ p → (places_of h rows).primary d ≡ p
told_is h rows nearly ps known d p inside e = primary_told h rows nearly ps known d inside ∙ e

direct_chain : (h : Classes) (rows : List ClassLayout) (nearly : List Bool) (ps : List Primary) → IsLaidOut h rows nearly ps → (c d b : ClassId) (n : Node) (s : Subobject) → c.0 < length h → IsPart h c n s d → primary_of ps d ≡ Direct b → HaveChains h rows ps c d → StartsChain h rows ps c n s
direct_chain h rows nearly ps known c d b n s lt part e next =
    let below = part_below h c n s d known.keeps part in
    let inside : d.0 < length h = omega arith in
    let is = direct_primary_is h rows nearly ps known d b inside e in
    let falls = base_below h d b known.keeps is.edge in
    let at = primary_at_start h rows nearly ps known d b inside falls e in
    let valid = part_valid h c n s d part in
    let class = part_class h c n s d part in
    let inner = subobject s.root (s.path ++ b ∷ []) in
    base_chain h rows ps c n s inner b (direct_there h rows nearly ps known c d b n s lt part is.edge at) (by_direct s d b class (told_is h rows nearly ps known d (Direct b) inside e))
    (next inner b falls (subobject_more h c s d b valid class is.edge) (class_more h c s b valid) is.dynamic)

virtual_chain : (h : Classes) (rows : List ClassLayout) (nearly : List Bool) (ps : List Primary) → IsLaidOut h rows nearly ps → (c d v : ClassId) (n : Node) (s : Subobject) → c.0 < length h → IsPart h c n s d → primary_of ps d ≡ Virtual v → HaveChains h rows ps c d → StartsChain h rows ps c n s
virtual_chain h rows nearly ps known c _ v _ _ lt whole_part e next =
    let r = row_of h rows nearly ps known c lt in
    let is = virtual_primary_is h rows nearly ps known c v lt (virtual_when_primary ps c v e) in
    let held = holder_told h rows nearly ps known c v lt is.has ∙ whole_holds h ps c v e in
    let start : IsAtStart h rows ps (Complete c) (Within c (shared_base v) v) = record {
      place = placed_place h rows c (VirtualBase v);
      stride = nvsize_in (slice_get rows v.0);
      there = at_front h rows nearly ps c r (VirtualBase v) (virtual_front h rows nearly ps c v r e);
      at = virtual_at_start h rows nearly ps c v known.keeps known.laid lt e;
    } in
    base_chain h rows ps c (Complete c) (whole_of c) (shared_base v) v start (by_holder (whole_of c) c v refl (told_is h rows nearly ps known c (Virtual v) lt e) held)
    (next (shared_base v) v is.falls (shared v [] is.has tt) refl is.dynamic)
virtual_chain h rows nearly ps known c _ v _ _ lt (inner_part s d valid class) e next =
    let below = part_below h c (Within c s d) s d known.keeps (inner_part s d valid class) in
    let inside : d.0 < length h = omega arith in
    let primary = virtual_when_primary ps d v e in
    let is = virtual_primary_is h rows nearly ps known d v inside primary in
    let has = virtual_above h c s d v valid class is.has in
    split (holds_base h ps c s v) (λ b. holds_base h ps c s v ≡ b → StartsChain h rows ps c (Within c s d) s)
    (λ t same. base_chain h rows ps c (Within c s d) s (shared_base v) v (virtual_there h rows ps c d v s true primary same)
    (by_holder s d v class (told_is h rows nearly ps known d (Virtual v) inside e) (holder_told h rows nearly ps known c v lt has ∙ holder_by_test (holder_of h ps c v) s same))
    (next (shared_base v) v is.falls (shared v [] has tt) refl is.dynamic))
    (λ f same. pointer_chain h rows ps c (Within c s d) s (virtual_there h rows ps c d v s false primary same)) refl

chain_by : (h : Classes) (rows : List ClassLayout) (nearly : List Bool) (ps : List Primary) → IsLaidOut h rows nearly ps → (c d : ClassId) (n : Node) (s : Subobject) → c.0 < length h → IsPart h c n s d → IsDynamic h d → (p : Primary) → primary_of ps d ≡ p → HaveChains h rows ps c d → StartsChain h rows ps c n s
chain_by h rows nearly ps known c d n s lt part dynamic NoPrimary e next =
    let owns : owns_pointer h ps d ≡ true = ap (λ b. b && is_no_primary (primary_of ps d)) (dynamic_test h d known.keeps dynamic) ∙ ap is_no_primary e in
    pointer_chain h rows ps c n s (own_there h rows nearly ps known c d n s lt part owns)
chain_by h rows nearly ps known c d n s lt part dynamic (Direct b) e next = direct_chain h rows nearly ps known c d b n s lt part e next
chain_by h rows nearly ps known c d n s lt part dynamic (Virtual v) e next = virtual_chain h rows nearly ps known c d v n s lt part e next

-- each dynamic part has a chain
chain_from : (h : Classes) (rows : List ClassLayout) (nearly : List Bool) (ps : List Primary) → IsLaidOut h rows nearly ps → (fuel : ℕ) (c d : ClassId) (n : Node) (s : Subobject) → d.0 < fuel → c.0 < length h → IsPart h c n s d → IsDynamic h d → StartsChain h rows ps c n s
chain_from h rows nearly ps known zero c d n s low lt part dynamic = absurd (omega arith)
chain_from h rows nearly ps known (suc fuel) c d n s low lt part dynamic =
    chain_by h rows nearly ps known c d n s lt part dynamic (primary_of ps d) refl (λ t e less inner class moves. chain_from h rows nearly ps known fuel c e (Within c t e) t (omega arith) lt (inner_part t e inner class) moves)

-- a dynamic part has a chain to the virtual pointer at its place
pub starts_chain : (h : Classes) (rows : List ClassLayout) (nearly : List Bool) (ps : List Primary) → IsLaidOut h rows nearly ps → (c d : ClassId) (n : Node) (s : Subobject) → c.0 < length h → IsPart h c n s d → IsDynamic h d → StartsChain h rows ps c n s
starts_chain h rows nearly ps known c d n s lt part dynamic = chain_from h rows nearly ps known (d.0 + 1) c d n s (omega arith) lt part dynamic
