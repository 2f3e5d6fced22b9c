-- How far parts lie from each other.
use Rattle.std.proofs.Common.{◌≡◌, ℕ, ◌+◌, ◌*◌, false, Some, List, [], ◌∷◌, ◌++◌, ap, ◌∙◌, arith}
use Rattle.std.specs.Prelude.{Contains}
use Rattle.cxx_hierarchy.specs.declared.records.Base.{Base}
use Rattle.cxx_hierarchy.specs.declared.records.ClassId.{ClassId}
use Rattle.cxx_hierarchy.specs.declared.records.ValueType.{ValueType}
use Rattle.cxx_hierarchy.specs.declared.records.FieldType.TheVariants.{Value, Object}
use Rattle.cxx_hierarchy.specs.Classes.{Classes, bases_of, width_of_member}
use Rattle.cxx_hierarchy.specs.VirtualBases.{HasVirtualBase}
use Rattle.cxx_subobject.specs.declared.Root.TheVariants.{Whole}
use Rattle.cxx_subobject.specs.declared.Subobject.{Subobject}
use Rattle.cxx_subobject.specs.Subobjects.{IsSubobject, shared, subobject, whole_of, shared_base, class_of, join}
use Rattle.cxx_subobject.specs.Locations.{IsElement, ObjectPart}
use Rattle.cxx_subobject.proofs.PathLemmas.{class_there}
use Rattle.cxx_subobject.proofs.TreeLemmas.{base_down}
use Rattle.cxx_subobject.proofs.InsideLemmas.{whole_joined}
use Rattle.path_plan.specs.Places.{part, base_part, shared_part, element}
use Rattle.path_model.specs.Values.{Leaf, inner_part}
use Rattle.path_model.specs.Places.{owner_class}
use Rattle.path_model.specs.TypedStates.{IsPartMade}
use Rattle.path_model.proofs.TypedValues.{inner_made}
use Rattle.abi_sound.specs.declared.class_layout.ClassLayout.{ClassLayout}
use Rattle.abi_sound.specs.Places.{places_of, size_of_value, direct_base_place}
use Rattle.abi_sound.specs.Locations.{base_place_in, bits_of_value, class_at_steps as class_behind}
use Rattle.abi_sound.proofs.PlaceLemmas.{joined, direct_place, owner_class_is, element_place_is}
use Rattle.agree_parts.specs.Heaps.{Heap}
use Rattle.agree_parts.specs.Addresses.{address, leaf_address, span, leaf_bits}
use Rattle.agree_parts.proofs.Made.{owner_same, whole_complete, address_in, leaf_from_part, bits_from_part}

-- from the whole of its complete object a part lies its place in that
pub from_complete : (h : Classes) (rows : List ClassLayout) (g : Heap) (p : ObjectPart) (c d : ClassId) → IsPartMade h g.classes p c → owner_class h g.classes p.object p.owner ≡ Some d →
    address h (places_of h rows) g p ≡ address h (places_of h rows) g (part p.object p.owner (whole_of d)) + (places_of h rows).place d p.at
from_complete h rows g p c d m owner =
    let l = places_of h rows in
    let own = address_in h l g p m.class m.inside.0 m.made m.inside.1 in
    let complete = address_in h l g (part p.object p.owner (whole_of d)) m.class m.inside.0 m.made m.inside.1 in
    let whole : l.place m.inside.0 (whole_of d) ≡ l.place d (whole_of d) = ap (λ (x : ClassId). l.place x (whole_of d)) (owner_same h g p c d m owner) in
    let place : l.place m.inside.0 p.at ≡ l.place d p.at = ap (λ (x : ClassId). l.place x p.at) (owner_same h g p c d m owner) in
    omega arith

-- and so does a subobject of its class
pub in_view : (h : Classes) (rows : List ClassLayout) (g : Heap) (p : ObjectPart) (c d : ClassId) (s : Subobject) → IsPartMade h g.classes p c → owner_class h g.classes p.object p.owner ≡ Some d → IsSubobject h c s →
    address h (places_of h rows) g (inner_part p s) ≡ address h (places_of h rows) g (part p.object p.owner (whole_of d)) + (places_of h rows).place d (join p.at s)
in_view h rows g p c d s m owner valid = let there = class_there h c s valid in from_complete h rows g (inner_part p s) there.0 d (inner_made h g.classes p c there.0 s m valid there.1) owner

-- a subobject in no virtual base lies its place in the part's class behind the part
pub to_inner : (h : Classes) (rows : List ClassLayout) (g : Heap) (p : ObjectPart) (c : ClassId) (s : Subobject) → IsPartMade h g.classes p c → IsSubobject h c s → s.root ≡ Whole →
    address h (places_of h rows) g (inner_part p s) ≡ address h (places_of h rows) g p + (places_of h rows).place c s
to_inner h rows g p c s m valid root =
    let l = places_of h rows in
    let own = address_in h l g p m.class m.inside.0 m.made m.inside.1 in
    let inner = address_in h l g (inner_part p s) m.class m.inside.0 m.made m.inside.1 in
    let sum = joined h rows m.inside.0 c p.at s m.inside.2 m.of_class valid root in
    omega arith

-- from the whole of a complete object each subobject lies its place
pub from_whole : (h : Classes) (rows : List ClassLayout) (g : Heap) (p : ObjectPart) (c : ClassId) (s : Subobject) → IsPartMade h g.classes p c → IsSubobject h c s → p.at ≡ whole_of c →
    address h (places_of h rows) g (inner_part p s) ≡ address h (places_of h rows) g p + (places_of h rows).place c s
from_whole h rows g p c s m valid at_whole =
    let l = places_of h rows in
    let own = address_in h l g p m.class m.inside.0 m.made m.inside.1 in
    let inner = address_in h l g (inner_part p s) m.class m.inside.0 m.made m.inside.1 in
    let complete : m.inside.0 ≡ c = whole_complete h g p c m at_whole in
    let here : l.place m.inside.0 p.at ≡ l.place c (whole_of c) = ap (l.place m.inside.0) at_whole ∙ ap (λ (x : ClassId). l.place x (whole_of c)) complete in
    let behind : l.place m.inside.0 (join p.at s) ≡ l.place c s = ap (λ (x : Subobject). l.place m.inside.0 (join x s)) at_whole ∙ (ap (λ (x : ClassId). l.place x (join (whole_of c) s)) complete ∙ ap (l.place c) (whole_joined h c s valid)) in
    omega arith

pub to_shared : (h : Classes) (rows : List ClassLayout) (g : Heap) (p : ObjectPart) (c v : ClassId) → IsPartMade h g.classes p c → p.at ≡ whole_of c → HasVirtualBase h c v →
    address h (places_of h rows) g (shared_part p v) ≡ address h (places_of h rows) g p + (places_of h rows).place c (shared_base v)
to_shared h rows g p c v m at_whole has = from_whole h rows g p c (shared_base v) m (shared v [] has tt) at_whole

-- a direct base that is not virtual lies its place behind the part
pub to_base : (h : Classes) (rows : List ClassLayout) (g : Heap) (p : ObjectPart) (c : ClassId) (b : Base ClassId) → IsPartMade h g.classes p c → Contains (bases_of h c) b → b.is_virtual ≡ false →
    address h (places_of h rows) g (base_part p b) ≡ address h (places_of h rows) g p + (places_of h rows).place c (subobject Whole (c ∷ b.class ∷ []))
to_base h rows g p c b m listed plain =
    let l = places_of h rows in
    let own = address_in h l g p m.class m.inside.0 m.made m.inside.1 in
    let base = address_in h l g (base_part p b) m.class m.inside.0 m.made m.inside.1 in
    let longer : l.place m.inside.0 (base_part p b).at ≡ l.place m.inside.0 (subobject p.at.root (p.at.path ++ b.class ∷ [])) = ap (l.place m.inside.0) (base_down p.at b plain) in
    let sum : l.place m.inside.0 (subobject p.at.root (p.at.path ++ b.class ∷ [])) ≡ l.place m.inside.0 p.at + direct_base_place h rows c b.class = direct_place h rows m.inside.0 c b.class p.at m.of_class in
    let direct : l.place c (subobject Whole (c ∷ b.class ∷ [])) ≡ direct_base_place h rows c b.class = omega arith in
    omega arith

-- an element that is an object lies behind the part by the member's place and the elements before it
pub to_element : (h : Classes) (rows : List ClassLayout) (g : Heap) (p : ObjectPart) (c d : ClassId) (m i : ℕ) → IsPartMade h g.classes p c → IsElement h c m i (Object d) →
    address h (places_of h rows) g (element p m i d) ≡ address h (places_of h rows) g p + ((places_of h rows).member c m + i * (places_of h rows).size d)
to_element h rows g p c d n i m is =
    let l = places_of h rows in
    let own = address_in h l g p m.class m.inside.0 m.made m.inside.1 in
    let inner = address_in h l g (element p n i d) m.class d m.made (m.inside.0, c, m.inside.1, m.inside.2, m.of_class, is) in
    let base : base_place_in l (class_behind h m.class p.owner) p.at ≡ l.place m.inside.0 p.at = ap (λ (o : _). base_place_in l o p.at) (owner_class_is h m.class m.inside.0 p.owner m.inside.1) in
    let place = element_place_is h l (class_of p.at) c n i (Object d) m.of_class is in
    omega arith

-- and a leaf too
pub to_leaf : (h : Classes) (rows : List ClassLayout) (g : Heap) (a : Leaf) (c : ClassId) (t : ValueType ClassId) → IsPartMade h g.classes a.part c → IsElement h c a.member a.index (Value t) →
    leaf_address h (places_of h rows) g a ≡ address h (places_of h rows) g a.part + ((places_of h rows).member c a.member + a.index * size_of_value t)
to_leaf h rows g a c t m is = leaf_from_part h (places_of h rows) g a c t m.of_class is

-- whose bits the part's class tells
pub to_bits : (h : Classes) (rows : List ClassLayout) (g : Heap) (a : Leaf) (c : ClassId) (t : ValueType ClassId) → IsPartMade h g.classes a.part c → IsElement h c a.member a.index (Value t) →
    leaf_bits h (places_of h rows) g a ≡ span (8 * leaf_address h (places_of h rows) g a + (places_of h rows).first c a.member) (bits_of_value (width_of_member h c a.member) t)
to_bits h rows g a c t m is = bits_from_part h (places_of h rows) g a c t m.of_class is
