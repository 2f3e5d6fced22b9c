-- The members that are objects of an object, and the places in them.
use Rattle.std.proofs.Common.{◌≡◌, ◌∙◌, ℕ, zero, suc, ◌+◌, ◌*◌, ◌<◌, ◌≤◌, inl, inr, ⊎_elim, false, ◌&&◌, Option, Some, None, List, [], ◌∷◌, map, length, refl, ap, subst, arith}
use Rattle.std.specs.Prelude.{Contains}
use Rattle.std.specs.List.{slice_get, flat_map, range_with_len}
use Rattle.std.proofs.lemmas.Option.{slice_get_past}
use Rattle.foundation.proofs.Members.{Has, from_flat_map, from_map, has_cases}
use Rattle.foundation.proofs.Chosen.{has_filter, filter_none}
use Rattle.foundation.proofs.Places.{contains_at, get_none}
use Rattle.foundation.proofs.Truth.{is_false}
use Rattle.cxx_hierarchy.specs.declared.records.ClassId.{ClassId}
use Rattle.cxx_hierarchy.specs.declared.records.Member.{Member}
use Rattle.cxx_hierarchy.specs.declared.records.FieldType.{FieldType}
use Rattle.cxx_hierarchy.specs.declared.records.FieldType.TheVariants.{Value, Object}
use Rattle.cxx_hierarchy.specs.Classes.{Classes, members_of}
use Rattle.cxx_hierarchy.specs.Declarations.{elements_of}
use Rattle.cxx_hierarchy.specs.Hierarchies.{IsHierarchy}
use Rattle.cxx_subobject.specs.declared.Subobject.{Subobject}
use Rattle.cxx_subobject.specs.declared.locations.Hop.{Hop}
use Rattle.cxx_subobject.specs.declared.locations.Hop.TheVariants.{Inherit, Member as MemberHop}
use Rattle.cxx_subobject.specs.Subobjects.{IsSubobject, whole, shared, class_of, whole_of}
use Rattle.cxx_subobject.specs.Preorder.{preorder}
use Rattle.cxx_subobject.specs.Locations.{IsElement, LeadsTo, to_subobject, to_value, to_inner}
use Rattle.cxx_subobject.proofs.PathLemmas.{class_low, class_inside}
use Rattle.cxx_subobject.proofs.TreeLemmas.{has_preorder}
use Rattle.abi_primary.specs.Kinds.{IsDynamic}
use Rattle.abi_sound.specs.declared.class_layout.ClassLayout.{ClassLayout}
use Rattle.abi_sound.specs.Places.{Places, places_of, place_or_zero, member_places_in}
use Rattle.abi_sound.specs.Locations.{element_class, element_place, place_along_hops, place_behind, stride_in, size_of_type}
use Rattle.abi_sound.specs.Sound.{IsSoundLayout}
use Rattle.abi_slots.specs.Views.{by_part, heads, is_dynamic, is_dynamic_class, is_first, is_head, whole_view}
use Rattle.abi_slots.proofs.Dynamics.{dynamic_whole}
use Rattle.abi_slots.proofs.Heads.{test_dynamic}
use Rattle.abi_slots.proofs.HeadsOnce.{part_valid}
use Rattle.text_told.specs.declared.pointers.TablePointer.{TablePointer}
use Rattle.text_told.specs.declared.pointers.MemberObjects.{MemberObjects}
use Rattle.text_told.specs.Pointers.{table_pointer_at, own_pointers, objects_by_type, objects_by_member, objects_in, member_objects, moved_pointer, pointers_in, pointers_within}
use Rattle.text_told.proofs.Leading.{element_is, ends_below, object_below, object_inside}

-- the numbers of a range are below its end
pub range_has : (a n i : ℕ) → Has (range_with_len a n) i → i < a + n
range_has a zero i has = absurd has
range_has a (suc n) i (inl e) = omega arith
range_has a (suc n) i (inr has) = let lt : i < a + 1 + n = range_has (a + 1) n i has in omega arith

-- where the objects of a member come from
pub record AreMembers (h : Classes) (l : Places) (c : ClassId) (x : MemberObjects) : Type 0 where
  pub sub : Subobject
  pub valid : IsSubobject h c sub
  pub owner : ClassId
  pub class : class_of sub ≡ Some owner
  pub member : ℕ
  pub declared : Member ClassId
  pub there : slice_get (members_of h owner) member ≡ Some declared
  pub is : declared.ty ≡ Object x.class
  pub element : (i : ℕ) → i < x.count → IsElement h owner member i (Object x.class)
  pub stride : stride_in l (slice_get (members_of h owner) member) ≡ l.size x.class
  pub at : x.place ≡ l.place c sub + l.member owner member

by_type : (h : Classes) (l : Places) (c : ClassId) (s : Subobject) (b : ClassId) (m : ℕ) (member : Member ClassId) (type : FieldType ClassId) (x : MemberObjects) → IsSubobject h c s → class_of s ≡ Some b → slice_get (members_of h b) m ≡ Some member → member.ty ≡ type →
    Has (objects_by_type (l.place c s + l.member b m) (elements_of member.count) type) x → AreMembers h l c x
by_type h l c s b m member (Value t) x valid class there is has = absurd has
by_type h l c s b m member (Object d) x valid class there is (inr none) = absurd none
by_type h l c s b m member (Object d) x valid class there is (inl e) =
    subst (AreMembers h l c) e (record {
      sub = s;
      valid = valid;
      owner = b;
      class = class;
      member = m;
      declared = member;
      there = there;
      is = is;
      element = λ i lt. record { member = member; there = there; type_is = is; within = lt };
      stride = ap (stride_in l) there ∙ ap (size_of_type l) is;
      at = refl;
    })

by_member : (h : Classes) (l : Places) (c : ClassId) (s : Subobject) (b : ClassId) (m : ℕ) (o : Option (Member ClassId)) (x : MemberObjects) → IsSubobject h c s → class_of s ≡ Some b → slice_get (members_of h b) m ≡ o →
    Has (objects_by_member (l.place c s + l.member b m) o) x → AreMembers h l c x
by_member h l c s b m None x valid class there has = absurd has
by_member h l c s b m (Some member) x valid class there has = by_type h l c s b m member member.ty x valid class there refl has

by_class : (h : Classes) (l : Places) (c : ClassId) (s : Subobject) (o : Option ClassId) (x : MemberObjects) → IsSubobject h c s → class_of s ≡ o → Has (objects_in h l (l.place c s) o) x → AreMembers h l c x
by_class h l c s None x valid class has = absurd has
by_class h l c s (Some b) x valid class has =
    let f = from_flat_map (λ m. objects_by_member (l.place c s + l.member b m) (slice_get (members_of h b) m)) (range_with_len 0 (length (members_of h b))) x has in
    by_member h l c s b f.0 (slice_get (members_of h b) f.0) x valid class refl f.2

pub are_members : (h : Classes) (l : Places) (c : ClassId) (x : MemberObjects) → Has (member_objects h l c) x → AreMembers h l c x
are_members h l c x has =
    let f = from_flat_map (λ s. objects_in h l (l.place c s) (class_of s)) (preorder h c) x has in
    by_class h l c f.0 (class_of f.0) x (has_preorder h c f.0 f.1) refl f.2

-- the place of what lies in an element, behind the hops to it
inner_place : (h : Classes) (l : Places) (c : ClassId) (x : MemberObjects) (of : AreMembers h l c x) (i : ℕ) (hops : List Hop) → i < x.count →
    place_along_hops h l c (Inherit of.sub ∷ MemberHop of.member i ∷ hops) ≡ (x.place + i * l.size x.class) + place_along_hops h l x.class hops
inner_place h l c x of i hops lt =
    let e : element_place h l (class_of of.sub) of.member i ≡ l.member of.owner of.member + i * l.size x.class = ap (λ o. element_place h l o of.member i) of.class ∙ ap (λ k. l.member of.owner of.member + i * k) of.stride in
    let k : element_class h (class_of of.sub) of.member ≡ Some x.class = ap (λ o. element_class h o of.member) of.class ∙ element_is h of.owner of.member i (Object x.class) (of.element i lt) in
    let r : place_behind h l (element_class h (class_of of.sub) of.member) hops ≡ place_along_hops h l x.class hops = ap (λ o. place_behind h l o hops) k in
    let at : x.place ≡ l.place c of.sub + l.member of.owner of.member = of.at in
    omega arith

inner_leads : (h : Classes) (l : Places) (c : ClassId) (x : MemberObjects) (of : AreMembers h l c x) (i : ℕ) (hops : List Hop) (type : FieldType ClassId) → i < x.count → LeadsTo h x.class hops type →
    LeadsTo h c (Inherit of.sub ∷ MemberHop of.member i ∷ hops) type
inner_leads h l c x of i hops type lt leads = to_inner c of.owner x.class of.sub of.member i hops type of.valid of.class (of.element i lt) leads

pub whole_leads : (h : Classes) (d : ClassId) → LeadsTo h d (Inherit (whole_of d) ∷ []) (Object d)
whole_leads h d = to_subobject d d (whole_of d) (whole [] tt) refl

-- elements lie in the first megabyte
pub element_below : (h : Classes) (rows : List ClassLayout) → IsSoundLayout h rows → (c : ClassId) (x : MemberObjects) → c.0 < length h → Has (member_objects h (places_of h rows) c) x → (i : ℕ) → i < x.count →
    x.place + i * (places_of h rows).size x.class < 1048576
element_below h rows sound c x known has i lt =
    let l = places_of h rows in
    let of = are_members h l c x has in
    let hops : List Hop = Inherit (whole_of x.class) ∷ [] in
    let ends = object_below h rows sound c x.class (Inherit of.sub ∷ MemberHop of.member i ∷ hops) known (inner_leads h l c x of i hops (Object x.class) lt (whole_leads h x.class)) in
    let at = inner_place h l c x of i hops lt in omega arith

pub objects_lower : (h : Classes) → IsHierarchy h → (l : Places) (c : ClassId) (x : MemberObjects) → Has (member_objects h l c) x → x.class.0 < c.0
objects_lower h keeps l c x has =
    let of = are_members h l c x has in
    let low : x.class.0 < of.owner.0 = keeps.objects of.owner x.class of.declared (contains_at (members_of h of.owner) of.member of.declared of.there) of.is in
    let up : of.owner.0 ≤ c.0 = class_low h keeps c of.owner of.sub of.valid of.class in omega arith

row_there : (rows : List ClassLayout) (n m : ℕ) → (o : Option ClassLayout) → slice_get rows n ≡ o → n < length rows → ((row : ClassLayout) → slice_get rows n ≡ Some row → length row.member_places ≤ m) → place_or_zero (slice_get (member_places_in o) m) ≡ 0
row_there rows n m None e lt rule = absurd (let le : length rows ≤ n = get_none rows n e in omega arith)
row_there rows n m (Some row) e lt rule = ap place_or_zero (slice_get_past row.member_places m (rule row e))

no_member : (h : Classes) (rows : List ClassLayout) → IsSoundLayout h rows → (b : ClassId) → b.0 < length h → (m : ℕ) → slice_get (members_of h b) m ≡ None → (places_of h rows).member b m ≡ 0
no_member h rows sound b inside m there =
    let all : length rows ≡ length h = sound.full.one_each in
    let past : length (members_of h b) ≤ m = get_none (members_of h b) m there in
    row_there rows b.0 m (slice_get rows b.0) refl (omega arith)
    (λ row e. let each : length row.member_places ≡ length (members_of h b) = (sound.full.each b row e).each_member in omega arith)

-- a member of a subobject lies in the first megabyte
pub member_below : (h : Classes) (rows : List ClassLayout) → IsHierarchy h → IsSoundLayout h rows → (c b : ClassId) (s : Subobject) → c.0 < length h → IsSubobject h c s → class_of s ≡ Some b → (m : ℕ) →
    (places_of h rows).place c s + (places_of h rows).member b m < 1048576
member_below h rows keeps sound c b s known valid class m = by_there (slice_get (members_of h b) m) refl
  where
    l : Places
    l = places_of h rows

    inside : b.0 < length h
    inside = class_inside h keeps c b s known valid class

    lies : (d : ClassId) (hops : List Hop) (type : FieldType ClassId) (i : ℕ) → LeadsTo h c (Inherit s ∷ MemberHop m i ∷ hops) type → l.place c s + l.member b m < 1048576
    lies d hops type i leads =
        let ends = ends_below h rows keeps sound c (Inherit s ∷ MemberHop m i ∷ hops) type known leads in
        let e : element_place h l (class_of s) m i ≡ l.member b m + i * stride_in l (slice_get (members_of h b) m) = ap (λ o. element_place h l o m i) class in omega arith

    some_element : (member : Member ClassId) → slice_get (members_of h b) m ≡ Some member → (count : Option ℕ) → member.count ≡ count → 0 < elements_of count
    some_element member there None e = omega arith
    some_element member there (Some n) e = let k = keeps.counts b member n (contains_at (members_of h b) m member there) e in let one : 1 ≤ n = k.0 in omega arith

    by_kind : (member : Member ClassId) → slice_get (members_of h b) m ≡ Some member → (type : FieldType ClassId) → member.ty ≡ type → l.place c s + l.member b m < 1048576
    by_kind member there (Value t) is = lies b [] (Value t) 0 (to_value c b s m 0 t valid class (record { member = member; there = there; type_is = is; within = some_element member there member.count refl }))
    by_kind member there (Object d) is = lies d (Inherit (whole_of d) ∷ []) (Object d) 0 (to_inner c b d s m 0 (Inherit (whole_of d) ∷ []) (Object d) valid class (record { member = member; there = there; type_is = is; within = some_element member there member.count refl }) (whole_leads h d))

    by_there : (o : Option (Member ClassId)) → slice_get (members_of h b) m ≡ o → l.place c s + l.member b m < 1048576
    by_there (Some member) there = by_kind member there member.ty refl
    by_there None there =
        let ends = object_below h rows sound c b (Inherit s ∷ []) known (to_subobject c b s valid class) in
        let none : l.member b m ≡ 0 = no_member h rows sound b inside m there in omega arith

-- the class of a subobject that a list has, all of which are subobjects of an object, is one of the hierarchy
pub listed_known : (h : Classes) → IsHierarchy h → (c b : ClassId) (s : Subobject) (items listed : List Subobject) → c.0 < length h → items ≡ listed → ((part : Subobject) → Contains listed part → IsSubobject h c part) → Contains items s → class_of s ≡ Some b → b.0 < length h
listed_known h keeps c b s items listed known same valid has class =
    class_inside h keeps c b s known (valid s (subst (λ (xs : List Subobject). Contains xs s) same has)) class

-- and a member of it lies in the first megabyte
pub listed_below : (h : Classes) (rows : List ClassLayout) → IsHierarchy h → IsSoundLayout h rows → (c b : ClassId) (s : Subobject) (items listed : List Subobject) → c.0 < length h → items ≡ listed → ((part : Subobject) → Contains listed part → IsSubobject h c part) → Contains items s → class_of s ≡ Some b → (m : ℕ) →
    (places_of h rows).place c s + (places_of h rows).member b m < 1048576
listed_below h rows keeps sound c b s items listed known same valid has class =
    member_below h rows keeps sound c b s known (valid s (subst (λ (xs : List Subobject). Contains xs s) same has)) class

-- which subobjects are heads

pub head_valid : (h : Classes) (l : Places) (c : ClassId) (s : Subobject) → Has (heads h l (whole_view c)) s → IsSubobject h c s
head_valid h l c s has = part_valid h c s (has_filter (is_head h l (whole_view c)) (by_part h c) s has).0

-- a class that is not dynamic has no table
pub no_heads : (h : Classes) → IsHierarchy h → (l : Places) (c : ClassId) → (IsDynamic h c → ⊥) → heads h l (whole_view c) ≡ []
no_heads h keeps l c plain = filter_none (is_head h l (whole_view c)) (by_part h c) (λ s has. by_class_of s (part_valid h c s has) (class_of s) refl)
  where
    not_dynamic : (s : Subobject) → IsSubobject h c s → (o : Option ClassId) → class_of s ≡ o → is_dynamic_class h o ≡ false
    not_dynamic s valid None e = refl
    not_dynamic s valid (Some d) e = is_false (is_dynamic h d) (λ yes. plain (dynamic_whole h c d s valid e (test_dynamic h keeps d yes)))

    by_class_of : (s : Subobject) → IsSubobject h c s → (o : Option ClassId) → class_of s ≡ o → is_head h l (whole_view c) s ≡ false
    by_class_of s valid o e = ap (λ b. b && is_first h l (whole_view c) s) (ap (is_dynamic_class h) e ∙ not_dynamic s valid o e)

-- the pointers in an object lie where its class subobjects do

some_class : (h : Classes) (c : ClassId) (s : Subobject) → IsSubobject h c s → class_of s ≡ None → ⊥
some_class h c _ (whole path l) e = cc
some_class h c _ (shared v path has l) e = cc

pub record LeadsThere (h : Classes) (l : Places) (c : ClassId) (place : ℕ) : Type 0 where
  pub hops : List Hop
  pub class : ClassId
  pub leads : LeadsTo h c hops (Object class)
  pub at : place_along_hops h l c hops ≡ place

own_there : (h : Classes) (l : Places) (c : ClassId) (s : Subobject) → IsSubobject h c s → (o : Option ClassId) → class_of s ≡ o → LeadsThere h l c (l.place c s)
own_there h l c s valid None e = absurd (some_class h c s valid e)
own_there h l c s valid (Some d) e = record { hops = Inherit s ∷ []; class = d; leads = to_subobject c d s valid e; at = omega arith }

from_own : (h : Classes) (l : Places) (c : ClassId) (p : TablePointer) → ((s : Subobject) × Has (heads h l (whole_view c)) s × (table_pointer_at l c s ≡ p)) → LeadsThere h l c p.place
from_own h l c p f = subst (λ (q : TablePointer). LeadsThere h l c q.place) f.2 (own_there h l c f.0 (head_valid h l c f.0 f.1) (class_of f.0) refl)

moved_there : (h : Classes) (l : Places) (c : ClassId) (x : MemberObjects) → AreMembers h l c x → (i : ℕ) → i < x.count → (place : ℕ) → LeadsThere h l x.class place → LeadsThere h l c ((x.place + i * l.size x.class) + place)
moved_there h l c x of i lt place there = record {
  hops = Inherit of.sub ∷ MemberHop of.member i ∷ there.hops;
  class = there.class;
  leads = inner_leads h l c x of i there.hops (Object there.class) lt there.leads;
  at = inner_place h l c x of i there.hops lt ∙ ap (λ k. (x.place + i * l.size x.class) + k) there.at;
}

from_more : (h : Classes) (l : Places) (inside : ClassId → List TablePointer) → ((d : ClassId) (q : TablePointer) → Has (inside d) q → LeadsThere h l d q.place) → (c : ClassId) (p : TablePointer) →
    Has (flat_map (pointers_in l inside) (member_objects h l c)) p → LeadsThere h l c p.place
from_more h l inside rule c p has =
    let f = from_flat_map (pointers_in l inside) (member_objects h l c) p has in
    let x = f.0 in
    let g = from_flat_map (λ i. map (moved_pointer (x.place + i * l.size x.class)) (inside x.class)) (range_with_len 0 x.count) p f.2 in
    let q = from_map (moved_pointer (x.place + g.0 * l.size x.class)) (inside x.class) p g.2 in
    let lt : g.0 < 0 + x.count = range_has 0 x.count g.0 g.1 in
    subst (λ (r : TablePointer). LeadsThere h l c r.place) q.2 (moved_there h l c x (are_members h l c x f.1) g.0 (omega arith) q.0.place (rule x.class q.0 q.1))

pub pointer_there : (h : Classes) (l : Places) (n : ℕ) (c : ClassId) (p : TablePointer) → Has (pointers_within h l n c) p → LeadsThere h l c p.place
pointer_there h l zero c p has = absurd has
pointer_there h l (suc n) c p has = ⊎_elim
    (λ own. from_own h l c p (from_map (table_pointer_at l c) (heads h l (whole_view c)) p own))
    (λ more. from_more h l (pointers_within h l n) (λ d q at. pointer_there h l n d q at) c p more)
    (has_cases (own_pointers h l c) (flat_map (pointers_in l (pointers_within h l n)) (member_objects h l c)) p has)

pub pointer_inside : (h : Classes) (rows : List ClassLayout) → IsSoundLayout h rows → (n : ℕ) (c : ClassId) (p : TablePointer) → c.0 < length h → Has (pointers_within h (places_of h rows) n c) p → p.place < (places_of h rows).size c
pointer_inside h rows sound n c p known has =
    let there = pointer_there h (places_of h rows) n c p has in
    subst (λ k. k < (places_of h rows).size c) there.at (object_inside h rows sound c there.class there.hops known there.leads)

pub pointer_below : (h : Classes) (rows : List ClassLayout) → IsSoundLayout h rows → (n : ℕ) (c : ClassId) (p : TablePointer) → c.0 < length h → Has (pointers_within h (places_of h rows) n c) p → p.place < 1048576
pointer_below h rows sound n c p known has =
    let there = pointer_there h (places_of h rows) n c p has in
    subst (λ k. k < 1048576) there.at (object_below h rows sound c there.class there.hops known there.leads)
