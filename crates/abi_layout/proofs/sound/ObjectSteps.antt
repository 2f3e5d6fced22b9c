-- What a step of the tree of an object leads to: a base, an element of a member, or a virtual pointer.
use Rattle.std.proofs.Common.{◌≡◌, ℕ, suc, ◌+◌, ◌<◌, ◌≤◌, ⊎_elim, Bool, true, false, cond, Option, Some, None, List, [], ◌∷◌, ◌++◌, map, length, refl, ap, subst, sym, ◌∙◌, arith}
use Rattle.std.specs.Prelude.{Contains, filter, not, ◌&&◌, if◌then◌else◌}
use Rattle.std.specs.List.{slice_get}
use Rattle.cxx_hierarchy.specs.declared.records.ClassId.{ClassId}
use Rattle.cxx_hierarchy.specs.declared.records.Base.{Base}
use Rattle.cxx_hierarchy.specs.declared.records.Member.{Member}
use Rattle.cxx_hierarchy.specs.declared.records.FieldType.{FieldType}
use Rattle.cxx_hierarchy.specs.Classes.{Class, Classes, bases_of, members_of, bases_in}
use Rattle.cxx_hierarchy.specs.Hierarchies.{IsHierarchy}
use Rattle.cxx_hierarchy.specs.VirtualBases.{IsDirectBase, HasVirtualBase, further}
use Rattle.cxx_subobject.specs.declared.Subobject.{Subobject}
use Rattle.cxx_subobject.specs.Subobjects.{Leads, subobject, shared_base, IsSubobject, whole, shared, last_of, class_of}
use Rattle.abi_primary.specs.declared.Primary.{Primary}
use Rattle.abi_primary.specs.declared.Primary.TheVariants.{None as NoPrimary, Direct, Virtual}
use Rattle.abi_primary.specs.Holder.{holder_of}
use Rattle.abi_sound.specs.declared.class_layout.ClassLayout.{ClassLayout}
use Rattle.cxx_subobject.proofs.PathLemmas.{virtual_through}
use Rattle.abi_layout.specs.declared.placed_bases.PlacedBase.{PlacedBase}
use Rattle.abi_layout.specs.declared.placed_bases.PlacedBase.TheVariants.{Own, VirtualBase}
use Rattle.cxx_hierarchy.specs.Declarations.{is_plain_base}
use Rattle.abi_sound.specs.Places.{member_places_in}
use Rattle.abi_layout.specs.Placements.{nvsize_in}
use Rattle.cxx_hierarchy.specs.Declarations.{elements_of}
use Rattle.cxx_subobject.specs.Locations.{IsElement}
use Rattle.cxx_subobject.specs.VirtualBases.{virtual_bases}
use Rattle.abi_layout.specs.Holding.{virtual_primary_base, holds_base}
use Rattle.abi_layout.specs.PlacedBases.{class_of_placed, subobject_of, first_base, is_first_base, is_other_base, is_free, free_bases, IsPossible}
use Rattle.abi_layout.specs.Layouts.{primary_of, fronts}
use Rattle.abi_layout.proofs.rules.Stages.{Has, has_cases, split}
use Rattle.abi_layout.proofs.rules.KindLemmas.{contains_of, from_filter, from_map}
use Rattle.abi_layout.proofs.sound.ObjectTree.{Node, Within, Pointer, Placement, one_at, owns_pointer, own_pointer, placed_base, inner_base, node_of_member, placed_members, members_at, virtual_start, contents_of_object, contents_of}
use Rattle.abi_layout.proofs.sound.ObjectPrimaries.{HasRow, primary_possible}
use Rattle.cxx_subobject.proofs.VirtualBaseLemmas.{virtual_has}
use Rattle.abi_layout.proofs.sound.ObjectKnown.{IsLaidOut, row_of, virtual_primary_is}
use Rattle.cxx_subobject.proofs.PathLemmas.{last_below}
use Rattle.abi_layout.proofs.sound.ObjectDecode.{IsPart, whole_part, inner_part, member_placement, part_valid, part_class}
use Rattle.cxx_subobject.proofs.PathLemmas.{virtual_below}

-- what a placement in a part of class d, of an object of class c, leads to
pub data IsStepKind (h : Classes) (c d : ClassId) (k : Placement) : Type 0 where
  to_base : (s : Subobject) (e : ClassId) → k.node ≡ Within c s e → IsSubobject h c s → class_of s ≡ Some e → IsStepKind h c d k
  to_member : (width : Option ℕ) (type : FieldType ClassId) → k.node ≡ node_of_member d k.member width type → ((i : ℕ) → i < k.count → IsElement h d k.member i type) → IsStepKind h c d k
  to_pointer : k.node ≡ Pointer → IsStepKind h c d k

leads_more : (h : Classes) (c : ClassId) (path : List ClassId) (b : ClassId) → Leads h c path → IsDirectBase h (last_of c path) false b → Leads h c (path ++ b ∷ [])
leads_more h c [] b leads edge = (edge, tt)
leads_more h c (e ∷ path) b leads edge = (leads.0, leads_more h e path b leads.1 edge)

last_more : (c : ClassId) (path : List ClassId) (b : ClassId) → last_of c (path ++ b ∷ []) ≡ b
last_more c [] b = refl
last_more c (e ∷ path) b = last_more e path b

-- a base of a subobject is one, one class further
pub subobject_more : (h : Classes) (c : ClassId) (s : Subobject) (d b : ClassId) → IsSubobject h c s → class_of s ≡ Some d → IsDirectBase h d false b → IsSubobject h c (subobject s.root (s.path ++ b ∷ []))
subobject_more h c _ d b (whole path l) e edge = let same : last_of c path ≡ d = cc in whole (path ++ b ∷ []) (leads_more h c path b l (subst (λ (x : ClassId). IsDirectBase h x false b) (sym same) edge))
subobject_more h c _ d b (shared v path has l) e edge = let same : last_of v path ≡ d = cc in shared v (path ++ b ∷ []) has (leads_more h v path b l (subst (λ (x : ClassId). IsDirectBase h x false b) (sym same) edge))

pub class_more : (h : Classes) (c : ClassId) (s : Subobject) (b : ClassId) → IsSubobject h c s → class_of (subobject s.root (s.path ++ b ∷ [])) ≡ Some b
class_more h c _ b (whole path l) = ap (λ (x : ClassId). Some x) (last_more c path b)
class_more h c _ b (shared v path has l) = ap (λ (x : ClassId). Some x) (last_more v path b)

along_virtual : (h : Classes) (c : ClassId) (path : List ClassId) (v : ClassId) → Leads h c path → HasVirtualBase h (last_of c path) v → HasVirtualBase h c v
along_virtual h c [] v leads has = has
along_virtual h c (b ∷ path) v leads has = further c b v false leads.0 (along_virtual h b path v leads.1 has)

-- a virtual base of a subobject is one of the whole
pub virtual_above : (h : Classes) (c : ClassId) (s : Subobject) (d v : ClassId) → IsSubobject h c s → class_of s ≡ Some d → HasVirtualBase h d v → HasVirtualBase h c v
virtual_above h c _ d v (whole path l) e has = let same : last_of c path ≡ d = cc in along_virtual h c path v l (subst (λ (x : ClassId). HasVirtualBase h x v) (sym same) has)
virtual_above h c _ d v (shared w path base l) e has = let same : last_of w path ≡ d = cc in virtual_through h c w v base (along_virtual h w path v l (subst (λ (x : ClassId). HasVirtualBase h x v) (sym same) has))

-- the class of a part is the class of the whole or one before it
pub part_below : (h : Classes) (c : ClassId) (n : Node) (s : Subobject) (d : ClassId) → IsHierarchy h → IsPart h c n s d → d.0 ≤ c.0
part_below h c n s d keeps part = by_subobject s (part_valid h c n s d part) (part_class h c n s d part)
  where
    by_subobject : (t : Subobject) → IsSubobject h c t → class_of t ≡ Some d → d.0 ≤ c.0
    by_subobject _ (whole path l) e =
        let f : Some (last_of c path) ≡ Some d = e in
        let same : last_of c path ≡ d = cc in
        let number : (last_of c path).0 ≡ d.0 = ap (λ (x : ClassId). x.0) same in
        let r = last_below h keeps c path l in omega arith
    by_subobject _ (shared v path has l) e =
        let f : Some (last_of v path) ≡ Some d = e in
        let same : last_of v path ≡ d = cc in
        let number : (last_of v path).0 ≡ d.0 = ap (λ (x : ClassId). x.0) same in
        let r = last_below h keeps v path l in
        let w = virtual_below h keeps c v has in omega arith

-- a base that is placed in its class is a subobject of this
record IsPlacedIn (h : Classes) (c : ClassId) (base : PlacedBase) : Type 0 where
  valid : IsSubobject h c (subobject_of c base)
  class : class_of (subobject_of c base) ≡ Some (class_of_placed base)

own_placed : (h : Classes) (c b : ClassId) → IsDirectBase h c false b → IsPlacedIn h c (Own b)
own_placed h c b edge = record { valid = whole (b ∷ []) (edge, tt); class = refl }

virtual_placed : (h : Classes) (c v : ClassId) → HasVirtualBase h c v → IsPlacedIn h c (VirtualBase v)
virtual_placed h c v has = record { valid = shared v [] has tt; class = refl }

first_placed : (h : Classes) (c : ClassId) (primary : Primary) (base : PlacedBase) → IsPossible h c primary → Has (first_base primary) base → IsPlacedIn h c base
first_placed h c NoPrimary base possible has = absurd has
first_placed h c (Direct b) base possible has = ⊎_elim (λ e. subst (IsPlacedIn h c) e (own_placed h c b possible)) (λ r. absurd r) has
first_placed h c (Virtual v) base possible has = ⊎_elim (λ e. subst (IsPlacedIn h c) e (virtual_placed h c v possible)) (λ r. absurd r) has

filter_passes : {X : Type 0} (p : X → Bool) (xs : List X) (x : X) → Has (filter p xs) x → p x ≡ true
filter_passes p [] x h = absurd h
filter_passes {X} p (y ∷ xs) x h = split (p y) (λ b. p y ≡ b → Has (cond b (y ∷ filter p xs) (filter p xs)) x → p x ≡ true)
    (λ t g k. ⊎_elim (λ e. ap p (sym e) ∙ g) (λ r. filter_passes p xs x r) k)
    (λ f g k. filter_passes p xs x k) refl h

not_false : (b : Bool) → not b ≡ true → b ≡ false
not_false true e = let f : false ≡ true = e in cc
not_false false e = refl

both_left : (a b : Bool) → (a && b) ≡ true → a ≡ true
both_left true b e = refl
both_left false b e = e

plain_edge : (h : Classes) (d : ClassId) (base : Base ClassId) → Has (filter is_plain_base (bases_of h d)) base → IsDirectBase h d false base.class
plain_edge h d base has = record { base = base; listed = contains_of (bases_of h d) base (from_filter is_plain_base (bases_of h d) base has); class = refl; way = not_false base.is_virtual (filter_passes is_plain_base (bases_of h d) base has) }

front_placed : (h : Classes) (rows : List ClassLayout) (nearly : List Bool) (ps : List Primary) (c : ClassId) → IsHierarchy h → (r : HasRow h rows nearly ps c) (base : PlacedBase) → Has (fronts ps c r.class) base → IsPlacedIn h c base
front_placed h rows nearly ps c keeps r base has = ⊎_elim
    (λ x. first_placed h c (primary_of ps c) base (primary_possible h nearly _ c (primary_of ps c) keeps r.laid.is_primary) x)
    (λ x. let k = from_map (λ (b : Base ClassId). Own b.class) (filter (is_other_base (primary_of ps c)) r.class.bases) base x in
    let listed = from_filter (is_other_base (primary_of ps c)) r.class.bases k.0 k.1 in
    let passes = filter_passes (is_other_base (primary_of ps c)) r.class.bases k.0 k.1 in
    let edge : IsDirectBase h c false k.0.class = record {
      base = k.0;
      listed = subst (λ (o : Option Class). Contains (bases_in o) k.0) (sym r.there) (contains_of r.class.bases k.0 listed);
      class = refl;
      way = not_false k.0.is_virtual (both_left (not k.0.is_virtual) (not (is_first_base (primary_of ps c) k.0)) passes);
    } in
    subst (IsPlacedIn h c) k.2 (own_placed h c k.0.class edge))
    (has_cases (first_base (primary_of ps c)) (map (λ (b : Base ClassId). Own b.class) (filter (is_other_base (primary_of ps c)) r.class.bases)) base has)

free_placed : (h : Classes) (ps : List Primary) (c : ClassId) → IsHierarchy h → (base : PlacedBase) → Has (free_bases h ps c) base → IsPlacedIn h c base
free_placed h ps c keeps base has =
    let k = from_map (λ (v : ClassId). VirtualBase v) (filter (λ (v : ClassId). is_free (holder_of h ps c v)) (virtual_bases h c)) base has in
    subst (IsPlacedIn h c) k.2 (virtual_placed h c k.0 (virtual_has h c k.0 (from_filter (λ (v : ClassId). is_free (holder_of h ps c v)) (virtual_bases h c) k.0 k.1)))

placed_kind : (h : Classes) (rows : List ClassLayout) (c d : ClassId) (bases : List PlacedBase) (k : Placement) → ((base : PlacedBase) → Has bases base → IsPlacedIn h c base) → Has (map (placed_base h rows c) bases) k → IsStepKind h c d k
placed_kind h rows c d bases k each has =
    let x = from_map (placed_base h rows c) bases k has in
    let y = each x.0 x.1 in
    to_base (subobject_of c x.0) (class_of_placed x.0) (ap (λ (z : Placement). z.node) (sym x.2)) y.valid y.class

-- a member, by its placement
record IsMemberAt (rows : List ClassLayout) (d : ClassId) (members : List (Member ClassId)) (n : ℕ) (k : Placement) : Type 0 where
  m : ℕ
  member : Member ClassId
  there : slice_get members m ≡ Some member
  place : ℕ
  is : k ≡ member_placement rows d member place (n + m)

member_at : (rows : List ClassLayout) (d : ClassId) (n : ℕ) (members : List (Member ClassId)) (places : List ℕ) (k : Placement) → Has (placed_members rows d n members places) k → IsMemberAt rows d members n k
member_at rows d n [] places k has = absurd has
member_at rows d n (x ∷ members) [] k has = absurd has
member_at rows d n (x ∷ members) (p ∷ places) k has = ⊎_elim
    (λ e. let z : n ≡ n + 0 = omega arith in record { m = 0; member = x; there = refl; place = p; is = sym e ∙ ap (member_placement rows d x p) z })
    (λ r. let y = member_at rows d (suc n) members places k r in
    let z : suc n + y.m ≡ n + suc y.m = omega arith in
    record { m = suc y.m; member = y.member; there = y.there; place = y.place; is = y.is ∙ ap (member_placement rows d y.member y.place) z }) has

member_kind : (h : Classes) (rows : List ClassLayout) (c d : ClassId) (k : Placement) → Has (members_at h rows d) k → IsStepKind h c d k
member_kind h rows c d k has =
    let x = member_at rows d 0 (members_of h d) (member_places_in (slice_get rows d.0)) k has in
    let number : 0 + x.m ≡ x.m = omega arith in
    let count : k.count ≡ elements_of x.member.count = ap (λ (z : Placement). z.count) x.is in
    let node = ap (λ (z : Placement). z.node) x.is ∙ ap (λ n. node_of_member d n x.member.width x.member.ty) (sym (ap (λ (z : Placement). z.member) x.is)) in
    to_member x.member.width x.member.ty node (λ i lt. record {
      member = x.member;
      there = ap (slice_get (members_of h d)) (ap (λ (z : Placement). z.member) x.is ∙ number) ∙ x.there;
      type_is = refl;
      within = omega arith;
    })

pointer_kind : (h : Classes) (ps : List Primary) (c d : ClassId) (k : Placement) → Has (own_pointer h ps d) k → IsStepKind h c d k
pointer_kind h ps c d k has = split (owns_pointer h ps d) (λ b. Has (if b then one_at Pointer 0 8 ∷ [] else []) k → IsStepKind h c d k)
    (λ t x. ⊎_elim (λ e. to_pointer (ap (λ (z : Placement). z.node) (sym e))) (λ r. absurd r) x)
    (λ f x. absurd x) has

inner_kind : (h : Classes) (rows : List ClassLayout) (c d : ClassId) (s : Subobject) (k : Placement) → IsSubobject h c s → class_of s ≡ Some d → Has (map (inner_base h rows c s d) (filter is_plain_base (bases_of h d))) k → IsStepKind h c d k
inner_kind h rows c d s k valid class has =
    let x = from_map (inner_base h rows c s d) (filter is_plain_base (bases_of h d)) k has in
    to_base (subobject s.root (s.path ++ x.0.class ∷ [])) x.0.class (ap (λ (z : Placement). z.node) (sym x.2)) (subobject_more h c s d x.0.class valid class (plain_edge h d x.0 x.1)) (class_more h c s x.0.class valid)

virtual_kind : (h : Classes) (rows : List ClassLayout) (ps : List Primary) (c d : ClassId) (s : Subobject) (k : Placement) (o : Option ClassId) → ((v : ClassId) → o ≡ Some v → HasVirtualBase h c v) → Has (virtual_start h rows ps c s o) k → IsStepKind h c d k
virtual_kind h rows ps c d s k None each has = absurd has
virtual_kind h rows ps c d s k (Some v) each has =
    split (holds_base h ps c s v) (λ b. Has (one_at (if b then Within c (shared_base v) v else Pointer) 0 (nvsize_in (slice_get rows v.0)) ∷ []) k → IsStepKind h c d k)
    (λ t x. ⊎_elim (λ e. to_base (shared_base v) v (ap (λ (z : Placement). z.node) (sym e)) (shared v [] (each v refl) tt) refl) (λ r. absurd r) x)
    (λ f x. ⊎_elim (λ e. to_pointer (ap (λ (z : Placement). z.node) (sym e))) (λ r. absurd r) x) has

-- each placement of a part is one of these
pub step_kind : (h : Classes) (rows : List ClassLayout) (nearly : List Bool) (ps : List Primary) → IsLaidOut h rows nearly ps → (c d : ClassId) (n : Node) (s : Subobject) (k : Placement) → c.0 < length h → IsPart h c n s d → Has (contents_of h rows ps n) k → IsStepKind h c d k
step_kind h rows nearly ps known c _ _ _ k lt whole_part has =
    let r = row_of h rows nearly ps known c lt in
    let all : Has (contents_of_object h rows ps c (Some r.class)) k = subst (λ (o : Option Class). Has (contents_of_object h rows ps c o) k) r.there has in
    ⊎_elim
    (λ x. placed_kind h rows c c (fronts ps c r.class) k (front_placed h rows nearly ps c known.keeps r) x)
    (λ y. ⊎_elim
    (λ x. member_kind h rows c c k x)
    (λ z. ⊎_elim
    (λ x. placed_kind h rows c c (free_bases h ps c) k (free_placed h ps c known.keeps) x)
    (λ x. pointer_kind h ps c c k x)
    (has_cases (map (placed_base h rows c) (free_bases h ps c)) _ k z))
    (has_cases (members_at h rows c) _ k y))
    (has_cases (map (placed_base h rows c) (fronts ps c r.class)) _ k all)
step_kind h rows nearly ps known c _ _ _ k lt (inner_part s d valid class) has =
    let below = part_below h c (Within c s d) s d known.keeps (inner_part s d valid class) in
    ⊎_elim
    (λ x. member_kind h rows c d k x)
    (λ y. ⊎_elim
    (λ x. inner_kind h rows c d s k valid class x)
    (λ z. ⊎_elim
    (λ x. virtual_kind h rows ps c d s k (virtual_primary_base ps d) (λ v e. virtual_above h c s d v valid class (virtual_primary_is h rows nearly ps known d v (omega arith) e).has) x)
    (λ x. pointer_kind h ps c d k x)
    (has_cases (virtual_start h rows ps c s (virtual_primary_base ps d)) _ k z))
    (has_cases (map (inner_base h rows c s d) (filter is_plain_base (bases_of h d))) _ k y))
    (has_cases (members_at h rows d) _ k has)
