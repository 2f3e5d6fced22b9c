-- Parts of objects that were made: what their parts are, which classes are theirs, and where they lie.
use Rattle.std.proofs.Common.{◌≡◌, ℕ, ◌+◌, ◌*◌, ◌<◌, Option, Some, List, [], ◌∷◌, ◌++◌, length, refl, ap, subst, sym, ◌∙◌, arith, append_assoc}
use Rattle.std.specs.Prelude.{Contains, slice_get}
use Rattle.cxx_hierarchy.specs.declared.records.Base.{Base}
use Rattle.cxx_hierarchy.specs.declared.records.ClassId.{ClassId}
use Rattle.cxx_hierarchy.specs.declared.records.ValueType.{ValueType}
use Rattle.cxx_hierarchy.specs.declared.records.FieldType.TheVariants.{Value, Object}
use Rattle.cxx_hierarchy.specs.Classes.{Classes, bases_of, members_of, width_in, width_of_member}
use Rattle.cxx_hierarchy.specs.Hierarchies.{IsHierarchy}
use Rattle.cxx_hierarchy.specs.VirtualBases.{HasVirtualBase}
use Rattle.foundation.proofs.Places.{contains_at}
use Rattle.cxx_subobject.specs.declared.Root.TheVariants.{Whole, Shared}
use Rattle.cxx_subobject.specs.declared.Subobject.{Subobject}
use Rattle.cxx_subobject.specs.Subobjects.{IsSubobject, whole, shared, whole_of, shared_base, class_of}
use Rattle.cxx_subobject.specs.declared.locations.Hop.{Hop}
use Rattle.cxx_subobject.specs.declared.locations.Hop.TheVariants.{Inherit, Member as MemberHop}
use Rattle.cxx_subobject.specs.Locations.{IsElement, LeadsTo, ObjectPart, Step, IsOwner, hops_of, hops_of_steps, hops_to_element}
use Rattle.cxx_subobject.proofs.LocationLemmas.{hops_lead, hops_lead_to_leaf}
use Rattle.cxx_subobject.proofs.PathLemmas.{class_low}
use Rattle.cxx_subobject.proofs.TestLemmas.{base_class}
use Rattle.path_plan.specs.Places.{part, base_part, shared_part, element}
use Rattle.path_plan.proofs.Valid.{base_valid}
use Rattle.path_model.specs.Values.{Leaf, inner_part}
use Rattle.path_model.specs.Places.{owner_class}
use Rattle.path_model.specs.TypedStates.{IsPartMade, IsLeafMade}
use Rattle.path_model.proofs.TypedPlaces.{element_made}
use Rattle.path_model.proofs.TypedValues.{inner_made}
use Rattle.path_model.proofs.TypedViews.{owner_is}
use Rattle.abi_sound.specs.Places.{Places, size_of_value}
use Rattle.abi_sound.specs.Locations.{base_place_in, owner_place, place_along_hops, last_member, span_of, leaf_span, bits_of_type, bits_of_value, bits_of_member, class_at_steps as class_behind}
use Rattle.abi_sound.proofs.PlaceLemmas.{owner_class_is, owner_place_is, behind_steps, place_at_value, element_place_is}
use Rattle.agree_parts.specs.Heaps.{Heap, object_start}
use Rattle.agree_parts.specs.Addresses.{part_place, address, leaf_address, span, member_within, leaf_bits}

-- parts of parts

pub whole_made : (h : Classes) (g : Heap) (k : ℕ) (c : ClassId) → slice_get g.classes k ≡ Some c → IsPartMade h g.classes (part k [] (whole_of c)) c
whole_made h g k c there = record { class = c; made = there; inside = (c, refl, whole [] tt); of_class = refl }

-- the class of the complete object that a part belongs to, and the part as its subobject
pub owner_made : (h : Classes) (g : Heap) (p : ObjectPart) (c : ClassId) → (m : IsPartMade h g.classes p c) → owner_class h g.classes p.object p.owner ≡ Some m.inside.0
owner_made h g p c m = owner_is h g.classes p.object m.class m.inside.0 p.owner m.made m.inside.1

pub owner_there : (h : Classes) (g : Heap) (p : ObjectPart) (c : ClassId) → IsPartMade h g.classes p c → (d : ClassId) × (owner_class h g.classes p.object p.owner ≡ Some d) × IsSubobject h d p.at
owner_there h g p c m = (m.inside.0, owner_made h g p c m, m.inside.2)

pub owner_same : (h : Classes) (g : Heap) (p : ObjectPart) (c d : ClassId) → (m : IsPartMade h g.classes p c) → owner_class h g.classes p.object p.owner ≡ Some d → m.inside.0 ≡ d
owner_same h g p c d m e = let f : Some m.inside.0 ≡ Some d = sym (owner_made h g p c m) ∙ e in cc

-- only the whole of its complete object is the whole of a class
whole_in : (h : Classes) (c d : ClassId) (s : Subobject) → IsSubobject h d s → s ≡ whole_of c → d ≡ c
whole_in h c d _ (whole path leads) e = let paths : d ∷ path ≡ c ∷ [] = ap (λ (s : Subobject). s.path) e in cc
whole_in h c d _ (shared v path has leads) e = let roots : Shared v ≡ Whole = ap (λ (s : Subobject). s.root) e in cc

pub whole_complete : (h : Classes) (g : Heap) (p : ObjectPart) (c : ClassId) → (m : IsPartMade h g.classes p c) → p.at ≡ whole_of c → m.inside.0 ≡ c
whole_complete h g p c m at_whole = whole_in h c m.inside.0 p.at m.inside.2 at_whole

pub whole_owner : (h : Classes) (g : Heap) (p : ObjectPart) (c : ClassId) → IsPartMade h g.classes p c → p.at ≡ whole_of c → owner_class h g.classes p.object p.owner ≡ Some c
whole_owner h g p c m at_whole = owner_made h g p c m ∙ ap (λ (x : ClassId). Some x) (whole_complete h g p c m at_whole)

pub element_owner : (h : Classes) (g : Heap) (p : ObjectPart) (c d : ClassId) (m i : ℕ) → IsPartMade h g.classes p c → IsElement h c m i (Object d) → owner_class h g.classes p.object (element p m i d).owner ≡ Some d
element_owner h g p c d m i made is = owner_is h g.classes p.object made.class d (element p m i d).owner made.made (made.inside.0, c, made.inside.1, made.inside.2, made.of_class, is)

-- any subobject of the complete object that a part belongs to
pub other_made : (h : Classes) (g : Heap) (p : ObjectPart) (c d e : ClassId) (s : Subobject) → IsPartMade h g.classes p c → owner_class h g.classes p.object p.owner ≡ Some d → IsSubobject h d s → class_of s ≡ Some e → IsPartMade h g.classes (part p.object p.owner s) e
other_made h g p c d e s m owner valid class = record {
  class = m.class;
  made = m.made;
  inside = (d, subst (λ (x : ClassId). IsOwner h m.class p.owner x) (owner_same h g p c d m owner) m.inside.1, valid);
  of_class = class;
}

pub complete_made : (h : Classes) (g : Heap) (p : ObjectPart) (c d : ClassId) → IsPartMade h g.classes p c → owner_class h g.classes p.object p.owner ≡ Some d → IsPartMade h g.classes (part p.object p.owner (whole_of d)) d
complete_made h g p c d m e = other_made h g p c d d (whole_of d) m e (whole [] tt) refl

pub base_made : (h : Classes) (g : Heap) (p : ObjectPart) (c : ClassId) (b : Base ClassId) → IsPartMade h g.classes p c → Contains (bases_of h c) b → IsPartMade h g.classes (base_part p b) b.class
base_made h g p c b m listed = record {
  class = m.class;
  made = m.made;
  inside = (m.inside.0, m.inside.1, base_valid h m.inside.0 c p.at b m.inside.2 m.of_class listed);
  of_class = base_class p.at c b m.of_class;
}

pub shared_made : (h : Classes) (g : Heap) (p : ObjectPart) (c v : ClassId) → IsPartMade h g.classes p c → HasVirtualBase h c v → IsPartMade h g.classes (shared_part p v) v
shared_made h g p c v m has = inner_made h g.classes p c v (shared_base v) m (shared v [] has tt) refl

pub inner_is_made : (h : Classes) (g : Heap) (p : ObjectPart) (c d : ClassId) (s : Subobject) → IsPartMade h g.classes p c → IsSubobject h c s → class_of s ≡ Some d → IsPartMade h g.classes (inner_part p s) d
inner_is_made h g p c d s m valid class = inner_made h g.classes p c d s m valid class

pub element_is_made : (h : Classes) (g : Heap) (p : ObjectPart) (c d : ClassId) (m i : ℕ) → IsPartMade h g.classes p c → IsElement h c m i (Object d) → IsPartMade h g.classes (element p m i d) d
element_is_made h g p c d m i made element = element_made h g.classes p c d m i made element

-- classes

owner_low : (h : Classes) → IsHierarchy h → (c : ClassId) (o : List Step) (d : ClassId) → c.0 < length h → IsOwner h c o d → d.0 < length h
owner_low h keeps c [] d lt owner = subst (λ (x : ClassId). x.0 < length h) (sym owner) lt
owner_low h keeps c (step ∷ rest) e lt (d, b, up, valid, class, element) =
    let around = owner_low h keeps c rest d lt up in
    let base = class_low h keeps d b step.base valid class in
    let below = keeps.objects b e element.member (contains_at _ step.member element.member element.there) element.type_is in
    omega arith

pub complete_known : (h : Classes) (g : Heap) (p : ObjectPart) (c : ClassId) → IsHierarchy h → ((k : ℕ) (d : ClassId) → slice_get g.classes k ≡ Some d → d.0 < length h) → (m : IsPartMade h g.classes p c) → m.inside.0.0 < length h
complete_known h g p c keeps known m = owner_low h keeps m.class p.owner m.inside.0 (known p.object m.class m.made) m.inside.1

pub class_known : (h : Classes) (g : Heap) (p : ObjectPart) (c : ClassId) → IsHierarchy h → ((k : ℕ) (d : ClassId) → slice_get g.classes k ≡ Some d → d.0 < length h) → IsPartMade h g.classes p c → c.0 < length h
class_known h g p c keeps known m =
    let around = complete_known h g p c keeps known m in
    let low = class_low h keeps m.inside.0 c p.at m.inside.2 m.of_class in
    omega arith

-- places

-- the address of a part, by the place of its complete object and its own there
pub address_in : (h : Classes) (l : Places) (g : Heap) (p : ObjectPart) (c d : ClassId) → slice_get g.classes p.object ≡ Some c → IsOwner h c p.owner d → address h l g p ≡ object_start g p.object + (owner_place h l c p.owner + l.place d p.at)
address_in h l g p c d made owner =
    let in_object : part_place h l (slice_get g.classes p.object) p ≡ part_place h l (Some c) p = ap (λ (o : Option ClassId). part_place h l o p) made in
    let own : base_place_in l (class_behind h c p.owner) p.at ≡ l.place d p.at = ap (λ (o : Option ClassId). base_place_in l o p.at) (owner_class_is h c d p.owner owner) in
    omega (arith, in_object, own)

-- the hops of a part lead to it, and lie where it does
pub part_leads : (h : Classes) (g : Heap) (p : ObjectPart) (c : ClassId) → (m : IsPartMade h g.classes p c) → LeadsTo h m.class (hops_of p.owner p.at) (Object c)
part_leads h g p c m = hops_lead h m.class p.owner m.inside.0 c p.at m.inside.1 m.inside.2 m.of_class

pub part_at : (h : Classes) (l : Places) (g : Heap) (p : ObjectPart) (c : ClassId) → (m : IsPartMade h g.classes p c) → address h l g p ≡ object_start g p.object + place_along_hops h l m.class (hops_of p.owner p.at)
part_at h l g p c m = let own = address_in h l g p m.class m.inside.0 m.made m.inside.1 in let place = owner_place_is h l m.class m.inside.0 p.owner p.at m.inside.1 in omega (arith, own, place)

-- the address of a leaf, from that of its part
pub leaf_from_part : (h : Classes) (l : Places) (g : Heap) (a : Leaf) (c : ClassId) (t : ValueType ClassId) → class_of a.part.at ≡ Some c → IsElement h c a.member a.index (Value t) →
    leaf_address h l g a ≡ address h l g a.part + (l.member c a.member + a.index * size_of_value t)
leaf_from_part h l g a c t class element = ap (λ n. address h l g a.part + n) (element_place_is h l (class_of a.part.at) c a.member a.index (Value t) class element)

abbrev pub leaf_hops : Leaf → List Hop
leaf_hops a = hops_to_element a.part.owner a.part.at a.member a.index

pub leaf_leads : (h : Classes) (g : Heap) (a : Leaf) (t : ValueType ClassId) → (m : IsLeafMade h g.classes a t) → LeadsTo h m.part.class (leaf_hops a) (Value t)
leaf_leads h g a t m = hops_lead_to_leaf h m.part.class a.part.owner m.part.inside.0 m.class a.part.at a.member a.index t m.part.inside.1 m.part.inside.2 m.part.of_class m.element

pub leaf_at : (h : Classes) (l : Places) (g : Heap) (a : Leaf) (t : ValueType ClassId) → (m : IsLeafMade h g.classes a t) → leaf_address h l g a ≡ object_start g a.part.object + place_along_hops h l m.part.class (leaf_hops a)
leaf_at h l g a t m =
    let from_part = leaf_from_part h l g a m.class t m.part.of_class m.element in
    let own = address_in h l g a.part m.part.class m.part.inside.0 m.part.made m.part.inside.1 in
    let behind = behind_steps h l m.part.class m.part.inside.0 a.part.owner (Inherit a.part.at ∷ MemberHop a.member a.index ∷ []) m.part.inside.1 in
    let value = place_at_value h l m.part.inside.0 m.class a.part.at a.member a.index t m.part.of_class m.element in
    omega (arith, from_part, own, behind, value)

-- bits

-- the member in which hops end behind steps
last_behind : (h : Classes) (c d : ClassId) (steps : List Step) (s : Subobject) (hops : List Hop) → IsOwner h c steps d → last_member h (Some c) (hops_of_steps steps ++ Inherit s ∷ hops) ≡ last_member h (class_of s) hops
last_behind h c d [] s hops is = refl
last_behind h c d (step ∷ rest) s hops is =
    let more : List Hop = MemberHop step.member step.index ∷ Inherit s ∷ hops in
    let regrouped : (hops_of_steps rest ++ Inherit step.base ∷ MemberHop step.member step.index ∷ []) ++ Inherit s ∷ hops ≡ hops_of_steps rest ++ Inherit step.base ∷ more = append_assoc (hops_of_steps rest) (Inherit step.base ∷ MemberHop step.member step.index ∷ []) (Inherit s ∷ hops) in
    ap (last_member h (Some c)) regrouped ∙ (last_behind h c is.0 rest step.base more is.2 ∙ ap (λ (o : Option ClassId). last_member h o more) is.4)

pub leaf_last : (h : Classes) (g : Heap) (a : Leaf) (t : ValueType ClassId) → (m : IsLeafMade h g.classes a t) → last_member h (Some m.part.class) (leaf_hops a) ≡ Some (m.class, a.member)
leaf_last h g a t m =
    last_behind h m.part.class m.part.inside.0 a.part.owner a.part.at (MemberHop a.member a.index ∷ []) m.part.inside.1
    ∙ ap (λ (o : Option ClassId). last_member h o (MemberHop a.member a.index ∷ [])) m.part.of_class

-- the bits of an element that is a number or a pointer
pub element_bits : (h : Classes) (c : ClassId) (m i : ℕ) (t : ValueType ClassId) → IsElement h c m i (Value t) → bits_of_member (slice_get (members_of h c) m) ≡ bits_of_value (width_of_member h c m) t
element_bits h c m i t is =
    ap bits_of_member is.there
    ∙ (ap (bits_of_type is.member.width) is.type_is ∙ ap (λ (o : Option ℕ). bits_of_value o t) (sym (ap width_in is.there)))

-- those of a leaf, by the class of its part
pub bits_from_part : (h : Classes) (l : Places) (g : Heap) (a : Leaf) (c : ClassId) (t : ValueType ClassId) → class_of a.part.at ≡ Some c → IsElement h c a.member a.index (Value t) →
    leaf_bits h l g a ≡ span (8 * leaf_address h l g a + l.first c a.member) (bits_of_value (width_of_member h c a.member) t)
bits_from_part h l g a c t class is =
    ap (λ (o : Option ClassId). span_of h l (leaf_address h l g a) (member_within o a.member)) class
    ∙ ap (span (8 * leaf_address h l g a + l.first c a.member)) (element_bits h c a.member a.index t is)

-- and by where its object starts
pub leaf_span_is : (h : Classes) (l : Places) (g : Heap) (a : Leaf) (t : ValueType ClassId) → (m : IsLeafMade h g.classes a t) →
    leaf_bits h l g a ≡ span (8 * object_start g a.part.object + (leaf_span h l m.part.class (leaf_hops a)).start) (leaf_span h l m.part.class (leaf_hops a)).length
leaf_span_is h l g a t m =
    let place = place_along_hops h l m.part.class (leaf_hops a) in
    let first = l.first m.class a.member in
    let bits = bits_of_member (slice_get (members_of h m.class) a.member) in
    let at = leaf_at h l g a t m in
    let sum : 8 * leaf_address h l g a + first ≡ 8 * object_start g a.part.object + (8 * place + first) = omega (arith, at) in
    ap (λ (o : Option ClassId). span_of h l (leaf_address h l g a) (member_within o a.member)) m.part.of_class
    ∙ (ap (λ n. span n bits) sum
    ∙ ap (λ (o : Option (ClassId × ℕ)). span (8 * object_start g a.part.object + (span_of h l place o).start) (span_of h l place o).length) (sym (leaf_last h g a t m)))
