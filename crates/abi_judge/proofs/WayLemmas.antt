-- The list of ways has each way that leads to something, once, and no other.
use Rattle.std.proofs.Common.{◌≡◌, ℕ, zero, suc, ◌<◌, ◌≤◌, inl, inr, ⊎_elim, Option, Some, None, List, [], ◌∷◌, ◌++◌, map, length, refl, ap, subst, sym, ◌∙◌, arith}
use Rattle.std.specs.List.{slice_get, range_with_len}
use Rattle.foundation.proofs.Members.{Has, EachOnce, has_map, from_map, has_flat_map, from_flat_map, once_flat_map}
use Rattle.cxx_hierarchy.specs.declared.records.ClassId.{ClassId}
use Rattle.cxx_hierarchy.specs.declared.records.Member.{Member}
use Rattle.cxx_hierarchy.specs.declared.records.FieldType.{FieldType}
use Rattle.cxx_hierarchy.specs.declared.records.FieldType.TheVariants.{Value, Object}
use Rattle.cxx_hierarchy.specs.declared.records.ValueType.{ValueType}
use Rattle.cxx_hierarchy.specs.Classes.{Classes, members_of}
use Rattle.cxx_hierarchy.specs.Declarations.{elements_of}
use Rattle.cxx_hierarchy.specs.Hierarchies.{IsHierarchy}
use Rattle.cxx_subobject.specs.declared.Subobject.{Subobject}
use Rattle.cxx_subobject.specs.declared.locations.Hop.{Hop}
use Rattle.cxx_subobject.specs.declared.locations.Hop.TheVariants.{Inherit, Member as MemberHop}
use Rattle.cxx_subobject.specs.Subobjects.{IsSubobject, class_of}
use Rattle.cxx_subobject.specs.Preorder.{preorder}
use Rattle.cxx_subobject.specs.Locations.{IsElement, LeadsTo, to_subobject, to_value, to_inner}
use Rattle.cxx_subobject.proofs.TreeLemmas.{has_preorder, preorder_has, preorder_once}
use Rattle.cxx_subobject.proofs.PathLemmas.{class_low}
use Rattle.cxx_subobject.proofs.LocationLemmas.{element_low}
use Rattle.abi_sound.specs.Locations.{last_member}
use Rattle.abi_sound.proofs.LeafSpans.{last_element, last_inner}
use Rattle.abi_judge.specs.invariants.Ways.{End, to_leaf, to_part, Way, way, behind_hop, typed_ways, member_ways, own_ways, base_ways, ways_within}
use Rattle.abi_judge.proofs.Ranges.{range_below, range_has, range_once, map_flat, AllBegin, apart_begun, each_apart, once_map}

abbrev pub last_hop : List Hop → Option Hop
last_hop [] = None
last_hop (x ∷ []) = Some x
last_hop (x ∷ y ∷ xs) = last_hop (y ∷ xs)

-- the hops lead, from an object of class c, to a complete object of class e in it
pub data LeadsToObject (h : Classes) : ClassId → List Hop → ClassId → Type 0 where
  at_start : (c : ClassId) → LeadsToObject h c [] c
  through : (c d b e : ClassId) (s : Subobject) (m i : ℕ) (front : List Hop) → IsSubobject h c s → class_of s ≡ Some d → IsElement h d m i (Object b) → LeadsToObject h b front e → LeadsToObject h c (Inherit s ∷ MemberHop m i ∷ front) e

-- a way to a number or a pointer
pub record IsLeafWay (h : Classes) (c : ClassId) (hops : List Hop) (d : ClassId) (m : ℕ) (type : ValueType ClassId) : Type 0 where
  pub leads : LeadsTo h c hops (Value type)
  pub last : last_member h (Some c) hops ≡ Some (d, m)
  pub index : ℕ
  pub element : IsElement h d m index (Value type)
  pub ends : last_hop hops ≡ Some (MemberHop m index)

-- a way to a class subobject
pub record IsPartWay (h : Classes) (c : ClassId) (hops : List Hop) (e : ClassId) (s : Subobject) (d : ClassId) : Type 0 where
  pub leads : LeadsTo h c hops (Object d)
  pub front : List Hop
  pub is : hops ≡ front ++ Inherit s ∷ []
  pub valid : IsSubobject h e s
  pub class : class_of s ≡ Some d
  pub low : e.0 ≤ c.0
  pub reaches : LeadsToObject h c front e

abbrev pub IsWayTo : Classes → ClassId → List Hop → End → Type 0
IsWayTo h c hops (to_leaf d m type) = IsLeafWay h c hops d m type
IsWayTo h c hops (to_part e s d) = IsPartWay h c hops e s d

-- hops that lead somewhere are some
first_hop : (h : Classes) (c : ClassId) (hops : List Hop) (type : FieldType ClassId) → LeadsTo h c hops type → (hop : Hop) × (rest : List Hop) × (hops ≡ hop ∷ rest)
first_hop h _ _ _ (to_subobject c d s valid class) = (Inherit s, [], refl)
first_hop h _ _ _ (to_value c d s m i type valid class element) = (Inherit s, MemberHop m i ∷ [], refl)
first_hop h _ _ _ (to_inner c d b s m i hops type valid class element leads) = (Inherit s, MemberHop m i ∷ hops, refl)

-- a way through an element that is an object
way_inner : (h : Classes) → IsHierarchy h → (c d b : ClassId) (s : Subobject) (m i : ℕ) (hops : List Hop) (end : End) → IsSubobject h c s → class_of s ≡ Some d → IsElement h d m i (Object b) → IsWayTo h b hops end → IsWayTo h c (Inherit s ∷ MemberHop m i ∷ hops) end
way_inner h keeps c d b s m i hops (to_leaf e n type) valid class element inner =
    let f = first_hop h b hops (Value type) inner.leads in
    record {
      leads = to_inner c d b s m i hops (Value type) valid class element inner.leads;
      last =
          ap (λ (t : List Hop). last_member h (Some c) (Inherit s ∷ MemberHop m i ∷ t)) f.2
          ∙ (last_inner h (Some c) d b s m i f.0 f.1 class element
          ∙ (ap (last_member h (Some b)) (sym f.2) ∙ inner.last));
      index = inner.index;
      element = inner.element;
      ends = ap (λ (t : List Hop). last_hop (Inherit s ∷ MemberHop m i ∷ t)) f.2 ∙ (ap last_hop (sym f.2) ∙ inner.ends);
    }
way_inner h keeps c d b s m i hops (to_part e t k) valid class element inner =
    let low = inner.low in
    let first = element_low h keeps d b m i element in
    let next = class_low h keeps c d s valid class in
    record {
      leads = to_inner c d b s m i hops (Object k) valid class element inner.leads;
      front = Inherit s ∷ MemberHop m i ∷ inner.front;
      is = ap (λ (t : List Hop). Inherit s ∷ MemberHop m i ∷ t) inner.is;
      valid = inner.valid;
      class = inner.class;
      low = omega (arith, low, first, next);
      reaches = through c d b e s m i inner.front valid class element inner.reaches;
    }

typed_valid : (h : Classes) → IsHierarchy h → (inside : ClassId → List Way) (c d : ClassId) (s : Subobject) (m : ℕ) (member : Member ClassId) (type : FieldType ClassId) (v : Way) → IsSubobject h c s → class_of s ≡ Some d → slice_get (members_of h d) m ≡ Some member → member.ty ≡ type
    → Has (typed_ways inside d m (elements_of member.count) type) v → ((b : ClassId) (u : Way) → Has (inside b) u → IsWayTo h b u.hops u.end) → IsWayTo h c (Inherit s ∷ v.hops) v.end
typed_valid h keeps inside c d s m member (Value type) v valid class there is has next =
    let r = from_map (λ i. way (MemberHop m i ∷ []) (to_leaf d m type)) (range_with_len 0 (elements_of member.count)) v has in
    let lt = (range_below 0 (elements_of member.count) r.0 r.1).1 in
    let element : IsElement h d m r.0 (Value type) = record { member = member; there = there; type_is = is; within = omega (arith, lt) } in
    subst (λ (w : Way). IsWayTo h c (Inherit s ∷ w.hops) w.end) r.2
    (record { leads = to_value c d s m r.0 type valid class element; last = last_element h (Some c) d s m r.0 class; index = r.0; element = element; ends = refl })
typed_valid h keeps inside c d s m member (Object b) v valid class there is has next =
    let r = from_flat_map (λ i. map (behind_hop (MemberHop m i)) (inside b)) (range_with_len 0 (elements_of member.count)) v has in
    let lt = (range_below 0 (elements_of member.count) r.0 r.1).1 in
    let element : IsElement h d m r.0 (Object b) = record { member = member; there = there; type_is = is; within = omega (arith, lt) } in
    let q = from_map (behind_hop (MemberHop m r.0)) (inside b) v r.2 in
    subst (λ (w : Way). IsWayTo h c (Inherit s ∷ w.hops) w.end) q.2 (way_inner h keeps c d b s m r.0 q.0.hops q.0.end valid class element (next b q.0 q.1))

member_valid : (h : Classes) → IsHierarchy h → (inside : ClassId → List Way) (c d : ClassId) (s : Subobject) (m : ℕ) (o : Option (Member ClassId)) (v : Way) → IsSubobject h c s → class_of s ≡ Some d → slice_get (members_of h d) m ≡ o
    → Has (member_ways inside d m o) v → ((b : ClassId) (u : Way) → Has (inside b) u → IsWayTo h b u.hops u.end) → IsWayTo h c (Inherit s ∷ v.hops) v.end
member_valid h keeps inside c d s m None v valid class there has next = absurd has
member_valid h keeps inside c d s m (Some member) v valid class there has next = typed_valid h keeps inside c d s m member member.ty v valid class there refl has next

base_valid : (h : Classes) → IsHierarchy h → (inside : ClassId → List Way) (c : ClassId) (s : Subobject) (o : Option ClassId) (w : Way) → IsSubobject h c s → class_of s ≡ o
    → Has (base_ways h inside c s o) w → ((b : ClassId) (u : Way) → Has (inside b) u → IsWayTo h b u.hops u.end) → IsWayTo h c w.hops w.end
base_valid h keeps inside c s None w valid class has next = absurd has
base_valid h keeps inside c s (Some d) w valid class has next = ⊎_elim
    (λ same. subst (λ (v : Way). IsWayTo h c v.hops v.end) same (record { leads = to_subobject c d s valid class; front = []; is = refl; valid = valid; class = class; low = omega arith; reaches = at_start c }))
    (λ more.
    let r = from_map (behind_hop (Inherit s)) (own_ways h inside d) w more in
    let q = from_flat_map (λ m. member_ways inside d m (slice_get (members_of h d) m)) (range_with_len 0 (length (members_of h d))) r.0 r.1 in
    subst (λ (v : Way). IsWayTo h c v.hops v.end) r.2 (member_valid h keeps inside c d s q.0 (slice_get (members_of h d) q.0) r.0 valid class refl q.2 next))
    has

-- each way of the list leads to something
pub ways_valid : (h : Classes) → IsHierarchy h → (n : ℕ) (c : ClassId) (w : Way) → Has (ways_within h n c) w → IsWayTo h c w.hops w.end
ways_valid h keeps zero c w has = absurd has
ways_valid h keeps (suc n) c w has =
    let r = from_flat_map (λ s. base_ways h (ways_within h n) c s (class_of s)) (preorder h c) w has in
    base_valid h keeps (ways_within h n) c r.0 (class_of r.0) w (has_preorder h c r.0 r.1) refl r.2 (λ b u k. ways_valid h keeps n b u k)

-- the end is one of this type
abbrev pub IsEnd : FieldType ClassId → End → Type 0
IsEnd (Value type) (to_leaf d m t) = t ≡ type
IsEnd (Value type) (to_part e s k) = ⊥
IsEnd (Object d) (to_leaf e m t) = ⊥
IsEnd (Object d) (to_part e s k) = k ≡ d

pub record IsListed (h : Classes) (n : ℕ) (c : ClassId) (hops : List Hop) (type : FieldType ClassId) : Type 0 where
  pub end : End
  pub has : Has (ways_within h n c) (way hops end)
  pub is : IsEnd type end

base_listed : (h : Classes) → IsHierarchy h → (n : ℕ) (c d : ClassId) (s : Subobject) (w : Way) → IsSubobject h c s → class_of s ≡ Some d → Has (base_ways h (ways_within h n) c s (Some d)) w → Has (ways_within h (suc n) c) w
base_listed h keeps n c d s w valid class has =
    has_flat_map (λ t. base_ways h (ways_within h n) c t (class_of t)) (preorder h c) s w (preorder_has h c keeps s valid)
    (subst (λ (o : Option ClassId). Has (base_ways h (ways_within h n) c s o) w) (sym class) has)

member_listed : (h : Classes) → IsHierarchy h → (n : ℕ) (c d : ClassId) (s : Subobject) (m i : ℕ) (type : FieldType ClassId) (v : Way) → IsSubobject h c s → class_of s ≡ Some d → (element : IsElement h d m i type)
    → Has (typed_ways (ways_within h n) d m (elements_of element.member.count) type) v → Has (ways_within h (suc n) c) (behind_hop (Inherit s) v)
member_listed h keeps n c d s m i type v valid class element has =
    let inside = ways_within h n in
    let by_type : Has (member_ways inside d m (Some element.member)) v = subst (λ (t : FieldType ClassId). Has (typed_ways inside d m (elements_of element.member.count) t) v) (sym element.type_is) has in
    let at : Has (member_ways inside d m (slice_get (members_of h d) m)) v = subst (λ (o : Option (Member ClassId)). Has (member_ways inside d m o) v) (sym element.there) by_type in
    let within = below (members_of h d) m element.member element.there in
    let own : Has (own_ways h inside d) v = has_flat_map (λ k. member_ways inside d k (slice_get (members_of h d) k)) (range_with_len 0 (length (members_of h d))) m v (range_has 0 (length (members_of h d)) m (omega arith) (omega (arith, within))) at in
    base_listed h keeps n c d s (behind_hop (Inherit s) v) valid class (inr (has_map (behind_hop (Inherit s)) (own_ways h inside d) v own))
  where
    below : (xs : List (Member ClassId)) (k : ℕ) (x : Member ClassId) → slice_get xs k ≡ Some x → k < length xs
    below [] k x e = let f : None ≡ Some x = e in cc
    below (y ∷ xs) zero x e = omega arith
    below (y ∷ xs) (suc k) x e = let r = below xs k x e in omega arith

-- the list has each way that leads to something
pub ways_listed : (h : Classes) → IsHierarchy h → (n : ℕ) (c : ClassId) (hops : List Hop) (type : FieldType ClassId) → c.0 < n → LeadsTo h c hops type → IsListed h n c hops type
ways_listed h keeps zero c hops type low leads = absurd (omega arith)
ways_listed h keeps (suc n) _ _ _ low (to_subobject c d s valid class) =
    record { end = to_part c s d; has = base_listed h keeps n c d s (way (Inherit s ∷ []) (to_part c s d)) valid class (inl refl); is = refl }
ways_listed h keeps (suc n) _ _ _ low (to_value c d s m i type valid class element) =
    let within = element.within in
    let at = has_map (λ k. way (MemberHop m k ∷ []) (to_leaf d m type)) (range_with_len 0 (elements_of element.member.count)) i (range_has 0 (elements_of element.member.count) i (omega arith) (omega (arith, within))) in
    record { end = to_leaf d m type; has = member_listed h keeps n c d s m i (Value type) (way (MemberHop m i ∷ []) (to_leaf d m type)) valid class element at; is = refl }
ways_listed h keeps (suc n) _ _ _ low (to_inner c d b s m i hops type valid class element leads) =
    let within = element.within in
    let first = element_low h keeps d b m i element in
    let next = class_low h keeps c d s valid class in
    let r = ways_listed h keeps n b hops type (omega (arith, low, first, next)) leads in
    let v = way hops r.end in
    let at : Has (typed_ways (ways_within h n) d m (elements_of element.member.count) (Object b)) (behind_hop (MemberHop m i) v) =
    has_flat_map (λ k. map (behind_hop (MemberHop m k)) (ways_within h n b)) (range_with_len 0 (elements_of element.member.count)) i (behind_hop (MemberHop m i) v) (range_has 0 (elements_of element.member.count) i (omega arith) (omega (arith, within)))
    (has_map (behind_hop (MemberHop m i)) (ways_within h n b) v r.has) in
    record { end = r.end; has = member_listed h keeps n c d s m i (Object b) (behind_hop (MemberHop m i) v) valid class element at; is = r.is }

abbrev pub hops_in : List Way → List (List Hop)
hops_in ws = map (λ (w : Way). w.hops) ws

-- one hop further outside
behind_hops : (hop : Hop) (ws : List Way) → hops_in (map (behind_hop hop) ws) ≡ map (λ (t : List Hop). hop ∷ t) (hops_in ws)
behind_hops hop [] = refl
behind_hops hop (w ∷ ws) = ap (λ (t : List (List Hop)). (hop ∷ w.hops) ∷ t) (behind_hops hop ws)

behind_once : (hop : Hop) (ws : List Way) → EachOnce (hops_in ws) → EachOnce (hops_in (map (behind_hop hop) ws))
behind_once hop ws once = subst (λ (t : List (List Hop)). EachOnce t) (sym (behind_hops hop ws)) (once_map (λ (t : List Hop). hop ∷ t) (λ x y e. let f : (hop ∷ x) ≡ (hop ∷ y) = e in cc) (hops_in ws) once)

behind_begins : (hop : Hop) (ws : List Way) → AllBegin hop (hops_in (map (behind_hop hop) ws))
behind_begins hop ws = record {
  begins = λ x has.
      let r = from_map (λ (t : List Hop). hop ∷ t) (hops_in ws) x (subst (λ (t : List (List Hop)). Has t x) (behind_hops hop ws) has) in
      (r.0, sym r.2);
}

member_hop : (m i j : ℕ) → MemberHop m i ≡ MemberHop m j → i ≡ j
member_hop m i j e = let f : MemberHop m i ≡ MemberHop m j = e in cc

typed_once : (inside : ClassId → List Way) (d : ClassId) (m count : ℕ) (type : FieldType ClassId) → ((b : ClassId) → EachOnce (hops_in (inside b))) → EachOnce (hops_in (typed_ways inside d m count type))
typed_once inside d m count (Value type) next =
    subst (λ (t : List (List Hop)). EachOnce t) (sym (mapped (range_with_len 0 count)))
    (once_map (λ i. MemberHop m i ∷ []) (λ i j e. member_hop m i j (let f : (MemberHop m i ∷ []) ≡ (MemberHop m j ∷ []) = e in cc)) (range_with_len 0 count) (range_once 0 count))
  where
    mapped : (is : List ℕ) → hops_in (map (λ i. way (MemberHop m i ∷ []) (to_leaf d m type)) is) ≡ map (λ i. MemberHop m i ∷ []) is
    mapped [] = refl
    mapped (i ∷ is) = ap (λ (t : List (List Hop)). (MemberHop m i ∷ []) ∷ t) (mapped is)
typed_once inside d m count (Object b) next =
    let f = λ (i : ℕ). map (behind_hop (MemberHop m i)) (inside b) in
    subst (λ (t : List (List Hop)). EachOnce t) (sym (map_flat (λ (w : Way). w.hops) f (range_with_len 0 count)))
    (once_flat_map (λ i. hops_in (f i)) (range_with_len 0 count) (λ i has. behind_once (MemberHop m i) (inside b) (next b))
    (each_apart (λ i. hops_in (f i)) (range_with_len 0 count) (range_once 0 count)
    (λ i j differ. apart_begun (MemberHop m i) (MemberHop m j) (hops_in (f i)) (hops_in (f j)) (λ e. differ (member_hop m i j e)) (behind_begins (MemberHop m i) (inside b)) (behind_begins (MemberHop m j) (inside b)))))

-- hops of a member begin with its number
pub record AllOfMember (m : ℕ) (xs : List (List Hop)) : Type 0 where
  pub begins : (x : List Hop) → Has xs x → (i : ℕ) × (rest : List Hop) × (x ≡ MemberHop m i ∷ rest)

typed_begins : (inside : ClassId → List Way) (d : ClassId) (m count : ℕ) (type : FieldType ClassId) → AllOfMember m (hops_in (typed_ways inside d m count type))
typed_begins inside d m count (Value type) = record {
  begins = λ x has.
      let r = from_map (λ (w : Way). w.hops) (typed_ways inside d m count (Value type)) x has in
      let q = from_map (λ i. way (MemberHop m i ∷ []) (to_leaf d m type)) (range_with_len 0 count) r.0 r.1 in
      (q.0, [], sym r.2 ∙ sym (ap (λ (w : Way). w.hops) q.2));
}
typed_begins inside d m count (Object b) = record {
  begins = λ x has.
      let r = from_map (λ (w : Way). w.hops) (typed_ways inside d m count (Object b)) x has in
      let q = from_flat_map (λ i. map (behind_hop (MemberHop m i)) (inside b)) (range_with_len 0 count) r.0 r.1 in
      let p = from_map (behind_hop (MemberHop m q.0)) (inside b) r.0 q.2 in
      (q.0, p.0.hops, sym r.2 ∙ sym (ap (λ (w : Way). w.hops) p.2));
}

member_once : (inside : ClassId → List Way) (d : ClassId) (m : ℕ) (o : Option (Member ClassId)) → ((b : ClassId) → EachOnce (hops_in (inside b))) → EachOnce (hops_in (member_ways inside d m o))
member_once inside d m None next = tt
member_once inside d m (Some member) next = typed_once inside d m (elements_of member.count) member.ty next

member_begins : (inside : ClassId → List Way) (d : ClassId) (m : ℕ) (o : Option (Member ClassId)) → AllOfMember m (hops_in (member_ways inside d m o))
member_begins inside d m None = record { begins = λ x has. absurd has }
member_begins inside d m (Some member) = typed_begins inside d m (elements_of member.count) member.ty

one_member : (m k i j : ℕ) (x rest others : List Hop) → x ≡ MemberHop m i ∷ rest → x ≡ MemberHop k j ∷ others → m ≡ k
one_member m k i j x rest others e f = let g : (MemberHop m i ∷ rest) ≡ (MemberHop k j ∷ others) = sym e ∙ f in cc

own_once : (h : Classes) (inside : ClassId → List Way) (d : ClassId) → ((b : ClassId) → EachOnce (hops_in (inside b))) → EachOnce (hops_in (own_ways h inside d))
own_once h inside d next =
    let f = λ (m : ℕ). member_ways inside d m (slice_get (members_of h d) m) in
    let all = range_with_len 0 (length (members_of h d)) in
    subst (λ (t : List (List Hop)). EachOnce t) (sym (map_flat (λ (w : Way). w.hops) f all))
    (once_flat_map (λ m. hops_in (f m)) all (λ m has. member_once inside d m (slice_get (members_of h d) m) next)
    (each_apart (λ m. hops_in (f m)) all (range_once 0 (length (members_of h d)))
    (λ m k differ. record {
      none = λ x here there.
          let p = (member_begins inside d m (slice_get (members_of h d) m)).begins x here in
          let q = (member_begins inside d k (slice_get (members_of h d) k)).begins x there in
          differ (one_member m k p.0 q.0 x p.1 q.1 p.2 q.2);
    })))

longer : (first second : Hop) (x rest : List Hop) → x ≡ second ∷ rest → (first ∷ x) ≡ (first ∷ []) → ⊥
longer first second x rest e f =
    let none : x ≡ [] = cc in
    let some : (second ∷ rest) ≡ [] = sym e ∙ none in
    cc

base_once : (h : Classes) (inside : ClassId → List Way) (e : ClassId) (s : Subobject) (o : Option ClassId) → ((b : ClassId) → EachOnce (hops_in (inside b))) → EachOnce (hops_in (base_ways h inside e s o))
base_once h inside e s None next = tt
base_once h inside e s (Some d) next = (λ has. alone has, behind_once (Inherit s) (own_ways h inside d) (own_once h inside d next))
  where
    alone : Has (hops_in (map (behind_hop (Inherit s)) (own_ways h inside d))) (Inherit s ∷ []) → ⊥
    alone has =
        let r = from_map (λ (t : List Hop). Inherit s ∷ t) (hops_in (own_ways h inside d)) (Inherit s ∷ []) (subst (λ (t : List (List Hop)). Has t (Inherit s ∷ [])) (behind_hops (Inherit s) (own_ways h inside d)) has) in
        let f = λ (m : ℕ). member_ways inside d m (slice_get (members_of h d) m) in
        let all = range_with_len 0 (length (members_of h d)) in
        let q = from_flat_map (λ m. hops_in (f m)) all r.0 (subst (λ (t : List (List Hop)). Has t r.0) (map_flat (λ (w : Way). w.hops) f all) r.1) in
        let p = (member_begins inside d q.0 (slice_get (members_of h d) q.0)).begins r.0 q.2 in
        longer (Inherit s) (MemberHop q.0 p.0) r.0 p.1 p.2 r.2

base_begins : (h : Classes) (inside : ClassId → List Way) (e : ClassId) (s : Subobject) (o : Option ClassId) → AllBegin (Inherit s) (hops_in (base_ways h inside e s o))
base_begins h inside e s None = record { begins = λ x has. absurd has }
base_begins h inside e s (Some d) = record {
  begins = λ x has. ⊎_elim (λ same. ([], sym same)) (λ more. (behind_begins (Inherit s) (own_ways h inside d)).begins x more) has;
}

-- the list has no way twice
pub ways_once : (h : Classes) (n : ℕ) (c : ClassId) → EachOnce (hops_in (ways_within h n c))
ways_once h zero c = tt
ways_once h (suc n) c =
    let f = λ (s : Subobject). base_ways h (ways_within h n) c s (class_of s) in
    subst (λ (t : List (List Hop)). EachOnce t) (sym (map_flat (λ (w : Way). w.hops) f (preorder h c)))
    (once_flat_map (λ s. hops_in (f s)) (preorder h c) (λ s has. base_once h (ways_within h n) c s (class_of s) (λ b. ways_once h n b))
    (each_apart (λ s. hops_in (f s)) (preorder h c) (preorder_once h c)
    (λ s t differ. apart_begun (Inherit s) (Inherit t) (hops_in (f s)) (hops_in (f t)) (λ e. differ (let g : Inherit s ≡ Inherit t = e in cc)) (base_begins h (ways_within h n) c s (class_of s)) (base_begins h (ways_within h n) c t (class_of t)))))
