-- The members of all subobjects of an object: where they come from, and where their elements lie.
use Rattle.std.proofs.Common.{◌≡◌, ◌∙◌, ℕ, ◌+◌, ◌*◌, ◌<◌, ◌≤◌, Option, Some, None, List, [], ◌∷◌, length, get_or, refl, subst, sym, arith}
use Rattle.std.specs.List.{slice_get, range_with_len}
use Rattle.foundation.proofs.Members.{Has, from_flat_map, from_map}
use Rattle.foundation.proofs.Places.{contains_at}
use Rattle.cxx_hierarchy.specs.declared.records.ClassId.{ClassId}
use Rattle.cxx_hierarchy.specs.declared.records.Member.{Member}
use Rattle.cxx_hierarchy.specs.declared.records.ValueType.{ValueType}
use Rattle.cxx_hierarchy.specs.declared.records.FieldType.{FieldType}
use Rattle.cxx_hierarchy.specs.declared.records.FieldType.TheVariants.{Value, Object}
use Rattle.cxx_hierarchy.specs.Classes.{Classes, members_of}
use Rattle.cxx_hierarchy.specs.Declarations.{elements_of}
use Rattle.cxx_hierarchy.specs.Hierarchies.{IsHierarchy}
use Rattle.cxx_subobject.specs.declared.Subobject.{Subobject}
use Rattle.cxx_subobject.specs.declared.locations.Hop.{Hop}
use Rattle.cxx_subobject.specs.declared.locations.Hop.TheVariants.{Inherit, Member as MemberHop}
use Rattle.cxx_subobject.specs.Subobjects.{IsSubobject, class_of, whole_of}
use Rattle.cxx_subobject.specs.Preorder.{preorder}
use Rattle.cxx_subobject.specs.Locations.{IsElement, LeadsTo, to_value, to_inner}
use Rattle.cxx_subobject.proofs.PathLemmas.{class_low, class_inside}
use Rattle.cxx_subobject.proofs.TreeLemmas.{has_preorder}
use Rattle.abi_sound.specs.declared.class_layout.ClassLayout.{ClassLayout}
use Rattle.abi_sound.specs.Places.{Places, places_of, size_of_value}
use Rattle.abi_sound.specs.Locations.{place_along_hops}
use Rattle.abi_sound.specs.Sound.{IsSoundLayout}
use Rattle.abi_sound.proofs.PlaceLemmas.{place_at_inner, place_at_value}
use Rattle.abi_print.specs.LayoutTexts.{subobject_text}
use Rattle.text_told.specs.Fields.{before_field}
use Rattle.text_told.proofs.Leading.{ends_below, object_below as ends_before}
use Rattle.text_told.proofs.Objects.{range_has, whole_leads}
use Rattle.text_told.proofs.Steps.{item_has}
use Rattle.text_bytes.specs.declared.members.PlacedMember.{PlacedMember}
use Rattle.text_bytes.specs.LeafRows.{placed_in, placed_member, placed_members}

-- where a placed member comes from
pub record IsPlaced (h : Classes) (l : Places) (c : ClassId) (x : PlacedMember) : Type 0 where
  pub sub : Subobject
  pub valid : IsSubobject h c sub
  pub class : class_of sub ≡ Some x.class
  pub there : x.number < length (members_of h x.class)
  pub place : x.place ≡ l.place c sub + l.member x.class x.number
  pub first : x.first ≡ l.first x.class x.number

by_class : (h : Classes) (l : Places) (c : ClassId) (s : Subobject) (before : List ℕ) (o : Option ClassId) (x : PlacedMember) → IsSubobject h c s → class_of s ≡ o → Has (placed_in h l (l.place c s) before o) x → IsPlaced h l c x
by_class h l c s before None x valid class has = absurd has
by_class h l c s before (Some b) x valid class has =
    let f = from_map (placed_member l (l.place c s) before b) (range_with_len 0 (length (members_of h b))) x has in
    let lt : f.0 < 0 + length (members_of h b) = range_has 0 (length (members_of h b)) f.0 f.1 in
    subst (IsPlaced h l c) f.2 (record { sub = s; valid = valid; class = class; there = omega arith; place = refl; first = refl })

pub placed : (h : Classes) (l : Places) (c : ClassId) (x : PlacedMember) → Has (placed_members h l c) x → IsPlaced h l c x
placed h l c x has =
    let f = from_flat_map (λ s. placed_in h l (l.place c s) (before_field (subobject_text h s)) (class_of s)) (preorder h c) x has in
    by_class h l c f.0 (before_field (subobject_text h f.0)) (class_of f.0) x (has_preorder h c f.0 f.1) refl f.2

-- and so does one that is read from the list of them
pub placed_at : (h : Classes) (l : Places) (c : ClassId) (members listed : List PlacedMember) (i : ℕ) (x : PlacedMember) → members ≡ listed → listed ≡ placed_members h l c → i < length members → x ≡ get_or members i x → IsPlaced h l c x
placed_at h l c members listed i x read same lt at = placed h l c x (subst (Has (placed_members h l c)) (sym at) (item_has members (placed_members h l c) i x (read ∙ same) lt))

-- the class that declares it is one of the hierarchy
pub placed_known : (h : Classes) → IsHierarchy h → (l : Places) (c : ClassId) (x : PlacedMember) → c.0 < length h → IsPlaced h l c x → x.class.0 < length h
placed_known h keeps l c x known of = class_inside h keeps c x.class of.sub known of.valid of.class

-- an object that is a member is of a class of a smaller number
pub placed_lower : (h : Classes) → IsHierarchy h → (l : Places) (c : ClassId) (x : PlacedMember) (member : Member ClassId) (d : ClassId) → IsPlaced h l c x → slice_get (members_of h x.class) x.number ≡ Some member → member.ty ≡ Object d → d.0 < c.0
placed_lower h keeps l c x member d of there is =
    let low : d.0 < x.class.0 = keeps.objects x.class d member (contains_at (members_of h x.class) x.number member there) is in
    let up : x.class.0 ≤ c.0 = class_low h keeps c x.class of.sub of.valid of.class in omega arith

-- elements

pub element : (h : Classes) (x : PlacedMember) (member : Member ClassId) (type : FieldType ClassId) (i : ℕ) → slice_get (members_of h x.class) x.number ≡ Some member → member.ty ≡ type → i < elements_of member.count → IsElement h x.class x.number i type
element h x member type i there is lt = record { member = member; there = there; type_is = is; within = lt }

-- hops to an element that is a number or a pointer
pub value_leads : (h : Classes) (l : Places) (c : ClassId) (x : PlacedMember) (member : Member ClassId) (t : ValueType ClassId) (i : ℕ) → (of : IsPlaced h l c x) → slice_get (members_of h x.class) x.number ≡ Some member → member.ty ≡ Value t → i < elements_of member.count →
    LeadsTo h c (Inherit of.sub ∷ MemberHop x.number i ∷ []) (Value t)
value_leads h l c x member t i of there is lt = to_value c x.class of.sub x.number i t of.valid of.class (element h x member (Value t) i there is lt)

pub value_place : (h : Classes) (l : Places) (c : ClassId) (x : PlacedMember) (member : Member ClassId) (t : ValueType ClassId) (i : ℕ) → (of : IsPlaced h l c x) → slice_get (members_of h x.class) x.number ≡ Some member → member.ty ≡ Value t → i < elements_of member.count →
    place_along_hops h l c (Inherit of.sub ∷ MemberHop x.number i ∷ []) ≡ x.place + i * size_of_value t
value_place h l c x member t i of there is lt =
    let at = place_at_value h l c x.class of.sub x.number i t of.class (element h x member (Value t) i there is lt) in
    let start = of.place in omega arith

-- and to what lies in one that is an object
pub inner_leads : (h : Classes) (l : Places) (c : ClassId) (x : PlacedMember) (member : Member ClassId) (d : ClassId) (i : ℕ) (hops : List Hop) (type : FieldType ClassId) → (of : IsPlaced h l c x) → slice_get (members_of h x.class) x.number ≡ Some member → member.ty ≡ Object d → i < elements_of member.count → LeadsTo h d hops type →
    LeadsTo h c (Inherit of.sub ∷ MemberHop x.number i ∷ hops) type
inner_leads h l c x member d i hops type of there is lt leads = to_inner c x.class d of.sub x.number i hops type of.valid of.class (element h x member (Object d) i there is lt) leads

pub inner_place : (h : Classes) (l : Places) (c : ClassId) (x : PlacedMember) (member : Member ClassId) (d : ClassId) (i : ℕ) (hops : List Hop) → (of : IsPlaced h l c x) → slice_get (members_of h x.class) x.number ≡ Some member → member.ty ≡ Object d → i < elements_of member.count →
    place_along_hops h l c (Inherit of.sub ∷ MemberHop x.number i ∷ hops) ≡ (x.place + i * l.size d) + place_along_hops h l d hops
inner_place h l c x member d i hops of there is lt =
    let at = place_at_inner h l c x.class d of.sub x.number i hops of.class (element h x member (Object d) i there is lt) in
    let start = of.place in omega arith

-- all elements lie in the first megabyte

pub value_below : (h : Classes) (rows : List ClassLayout) → IsHierarchy h → IsSoundLayout h rows → (c : ClassId) (x : PlacedMember) (member : Member ClassId) (t : ValueType ClassId) → c.0 < length h → IsPlaced h (places_of h rows) c x → slice_get (members_of h x.class) x.number ≡ Some member → member.ty ≡ Value t → (i : ℕ) → i < elements_of member.count →
    x.place + i * size_of_value t < 1048576
value_below h rows keeps sound c x member t known of there is i lt =
    let l = places_of h rows in
    let below = ends_below h rows keeps sound c (Inherit of.sub ∷ MemberHop x.number i ∷ []) (Value t) known (value_leads h l c x member t i of there is lt) in
    let at = value_place h l c x member t i of there is lt in omega arith

pub object_below : (h : Classes) (rows : List ClassLayout) → IsSoundLayout h rows → (c : ClassId) (x : PlacedMember) (member : Member ClassId) (d : ClassId) → c.0 < length h → IsPlaced h (places_of h rows) c x → slice_get (members_of h x.class) x.number ≡ Some member → member.ty ≡ Object d → (i : ℕ) → i < elements_of member.count →
    x.place + i * (places_of h rows).size d < 1048576
object_below h rows sound c x member d known of there is i lt =
    let l = places_of h rows in
    let hops : List Hop = Inherit (whole_of d) ∷ [] in
    let below = ends_before h rows sound c d (Inherit of.sub ∷ MemberHop x.number i ∷ hops) known (inner_leads h l c x member d i hops (Object d) of there is lt (whole_leads h d)) in
    let at = inner_place h l c x member d i hops of there is lt in omega arith
