-- Parts, leaves and virtual pointers lie inside their objects.
use Rattle.std.proofs.Common.{◌≡◌, ℕ, ◌+◌, ◌*◌, ◌<◌, ◌≤◌, ◌^◌, Option, Some, None, List, length, sym, subst, arith}
use Rattle.cxx_hierarchy.specs.declared.records.ClassId.{ClassId}
use Rattle.cxx_hierarchy.specs.declared.records.ValueType.{ValueType}
use Rattle.cxx_hierarchy.specs.declared.records.FieldType.TheVariants.{Value}
use Rattle.cxx_hierarchy.specs.Classes.{Classes, width_of_member}
use Rattle.cxx_subobject.specs.Locations.{IsElement, ObjectPart, hops_of}
use Rattle.path_model.specs.Values.{Leaf}
use Rattle.path_model.specs.Places.{owner_class}
use Rattle.path_model.specs.TypedStates.{IsPartMade, IsLeafMade}
use Rattle.abi_primary.specs.Kinds.{IsDynamic}
use Rattle.abi_sound.specs.declared.class_layout.ClassLayout.{ClassLayout}
use Rattle.abi_sound.specs.Places.{places_of}
use Rattle.abi_sound.specs.Locations.{Span, place_along_hops, leaf_span, bits_of_value}
use Rattle.abi_sound.specs.Sound.{IsAligned}
use Rattle.byte_memory.specs.Store.{byte_span}
use Rattle.agree_parts.specs.Heaps.{Heap, object_start}
use Rattle.agree_parts.specs.Addresses.{address, leaf_address, span, leaf_bits}
use Rattle.agree_parts.specs.Placed.{IsObject, AreObjectsLaid, LieIn, BitsLieIn}
use Rattle.agree_parts.proofs.Objects.{object_there, bytes_touched}
use Rattle.agree_parts.proofs.Sizes.{value_word, element_some}
use Rattle.agree_parts.proofs.Made.{owner_same, complete_known, class_known, part_leads, part_at, leaf_hops, leaf_leads, leaf_last, bits_from_part, leaf_span_is}

-- the object of a part
pub object_of : (h : Classes) (rows : List ClassLayout) (g : Heap) (p : ObjectPart) (c : ClassId) → AreObjectsLaid h rows g → (m : IsPartMade h g.classes p c) → IsObject g p.object m.class (object_start g p.object)
object_of h rows g p c laid m = object_there h (places_of h rows) g p.object m.class laid.placed m.made

pub some_object : (h : Classes) (rows : List ClassLayout) (g : Heap) (p : ObjectPart) (c : ClassId) → AreObjectsLaid h rows g → IsPartMade h g.classes p c → (d : ClassId) × (start : ℕ) × IsObject g p.object d start
some_object h rows g p c laid m = (m.class, object_start g p.object, object_of h rows g p c laid m)

pub known_complete : (h : Classes) (rows : List ClassLayout) (g : Heap) (p : ObjectPart) (c d : ClassId) → AreObjectsLaid h rows g → IsPartMade h g.classes p c → owner_class h g.classes p.object p.owner ≡ Some d → d.0 < length h
known_complete h rows g p c d laid m owner = subst (λ (x : ClassId). x.0 < length h) (owner_same h g p c d m owner) (complete_known h g p c laid.hierarchy laid.placed.known m)

pub known_class : (h : Classes) (rows : List ClassLayout) (g : Heap) (p : ObjectPart) (c : ClassId) → AreObjectsLaid h rows g → IsPartMade h g.classes p c → c.0 < length h
known_class h rows g p c laid m = class_known h g p c laid.hierarchy laid.placed.known m

pub part_inside : (h : Classes) (rows : List ClassLayout) (g : Heap) (p : ObjectPart) (c : ClassId) → AreObjectsLaid h rows g → IsPartMade h g.classes p c → LieIn (places_of h rows) g p.object (address h (places_of h rows) g p) 1
part_inside h rows g p c laid m =
    let l = places_of h rows in
    let at = part_at h l g p c m in
    let below = (laid.sound.each m.class (laid.placed.known p.object m.class m.made)).begins_inside c (hops_of p.owner p.at) (part_leads h g p c m) in
    record { class = m.class; start = object_start g p.object; object = object_of h rows g p c laid m; low = omega arith; high = omega arith }

pub part_positive : (h : Classes) (rows : List ClassLayout) (g : Heap) (p : ObjectPart) (c : ClassId) → AreObjectsLaid h rows g → IsPartMade h g.classes p c → 0 < address h (places_of h rows) g p
part_positive h rows g p c laid m = let at = part_at h (places_of h rows) g p c m in let above = laid.placed.positive p.object m.class (object_start g p.object) (object_of h rows g p c laid m) in omega arith

pub part_limit : (h : Classes) (rows : List ClassLayout) (g : Heap) (p : ObjectPart) (c : ClassId) → AreObjectsLaid h rows g → IsPartMade h g.classes p c → address h (places_of h rows) g p < 2 ^ 41
part_limit h rows g p c laid m =
    let inside = part_inside h rows g p c laid m in
    let high = inside.high in
    let limit = laid.placed.limit p.object inside.class inside.start inside.object in
    omega arith

pub leaf_inside : (h : Classes) (rows : List ClassLayout) (g : Heap) (a : Leaf) (t : ValueType ClassId) → AreObjectsLaid h rows g → IsLeafMade h g.classes a t → BitsLieIn (places_of h rows) g a.part.object (leaf_bits h (places_of h rows) g a)
leaf_inside h rows g a t laid m =
    let l = places_of h rows in
    let here = leaf_span h l m.part.class (leaf_hops a) in
    let below = (laid.sound.each m.part.class (laid.placed.known a.part.object m.part.class m.part.made)).leaf_inside t (leaf_hops a) (leaf_leads h g a t m) in
    let shifted : BitsLieIn l g a.part.object (span (8 * object_start g a.part.object + here.start) here.length) =
    record { class = m.part.class; start = object_start g a.part.object; object = object_of h rows g a.part m.class laid m.part; low = omega arith; high = omega arith } in
    subst (BitsLieIn l g a.part.object) (sym (leaf_span_is h l g a t m)) shifted

pub leaf_some_bits : (h : Classes) (rows : List ClassLayout) (g : Heap) (a : Leaf) (t : ValueType ClassId) → AreObjectsLaid h rows g → IsLeafMade h g.classes a t → 0 < (leaf_bits h (places_of h rows) g a).length
leaf_some_bits h rows g a t laid m =
    subst (λ (x : Span). 0 < x.length) (sym (bits_from_part h (places_of h rows) g a m.class t m.part.of_class m.element)) (element_some h m.class a.member a.index t laid.hierarchy m.element).0

-- how a leaf is aligned
aligned : (h : Classes) (rows : List ClassLayout) (g : Heap) (a : Leaf) (c : ClassId) (t : ValueType ClassId) → AreObjectsLaid h rows g → (m : IsPartMade h g.classes a.part c) → IsElement h c a.member a.index (Value t) →
    IsAligned (width_of_member h c a.member) t (place_along_hops h (places_of h rows) m.class (leaf_hops a)) ((places_of h rows).first c a.member)
aligned h rows g a c t laid m is =
    let made : IsLeafMade h g.classes a t = record { class = c; part = m; element = is } in
    (laid.sound.each m.class (laid.placed.known a.part.object m.class m.made)).aligned t (leaf_hops a) c a.member (leaf_leads h g a t made) (leaf_last h g a t made)

-- its bits lie in the 8 bytes from its address on
pub leaf_near : (h : Classes) (rows : List ClassLayout) (g : Heap) (a : Leaf) (c : ClassId) (t : ValueType ClassId) → AreObjectsLaid h rows g → IsPartMade h g.classes a.part c → IsElement h c a.member a.index (Value t) →
    ((places_of h rows).first c a.member < 8) × ((places_of h rows).first c a.member + bits_of_value (width_of_member h c a.member) t ≤ 64)
leaf_near h rows g a c t laid m is = by_width (width_of_member h c a.member) (aligned h rows g a c t laid m is)
  where
    by_width : (o : Option ℕ) → IsAligned o t (place_along_hops h (places_of h rows) m.class (leaf_hops a)) ((places_of h rows).first c a.member) → ((places_of h rows).first c a.member < 8) × ((places_of h rows).first c a.member + bits_of_value o t ≤ 64)
    by_width None e = let word = value_word t in let first = e.1 in (omega arith, omega arith)
    by_width (Some n) e = e

-- and fill its bytes where it is no bit-field
pub leaf_whole : (h : Classes) (rows : List ClassLayout) (g : Heap) (a : Leaf) (c : ClassId) (t : ValueType ClassId) → AreObjectsLaid h rows g → IsPartMade h g.classes a.part c → IsElement h c a.member a.index (Value t) → width_of_member h c a.member ≡ None →
    (places_of h rows).first c a.member ≡ 0
leaf_whole h rows g a c t laid m is whole =
    (subst (λ (o : Option ℕ). IsAligned o t (place_along_hops h (places_of h rows) m.class (leaf_hops a)) ((places_of h rows).first c a.member)) whole (aligned h rows g a c t laid m is)).1

pub leaf_bytes : (h : Classes) (rows : List ClassLayout) (g : Heap) (a : Leaf) (c : ClassId) (t : ValueType ClassId) → AreObjectsLaid h rows g → IsPartMade h g.classes a.part c → IsElement h c a.member a.index (Value t) →
    LieIn (places_of h rows) g a.part.object (leaf_address h (places_of h rows) g a) (byte_span ((places_of h rows).first c a.member) (bits_of_value (width_of_member h c a.member) t))
leaf_bytes h rows g a c t laid m is =
    let l = places_of h rows in
    let inside = leaf_inside h rows g a t laid (record { class = c; part = m; element = is }) in
    bytes_touched l g a.part.object (leaf_address h l g a) (l.first c a.member) (bits_of_value (width_of_member h c a.member) t) (leaf_near h rows g a c t laid m is).0
    (subst (BitsLieIn l g a.part.object) (bits_from_part h l g a c t m.of_class is) inside)

pub pointer_inside : (h : Classes) (rows : List ClassLayout) (g : Heap) (p : ObjectPart) (c : ClassId) → AreObjectsLaid h rows g → IsPartMade h g.classes p c → IsDynamic h c → LieIn (places_of h rows) g p.object (address h (places_of h rows) g p) 8
pointer_inside h rows g p c laid m dynamic =
    let l = places_of h rows in
    let at = part_at h l g p c m in
    let below = (laid.sound.each m.class (laid.placed.known p.object m.class m.made)).pointer_inside c (hops_of p.owner p.at) dynamic (part_leads h g p c m) in
    record { class = m.class; start = object_start g p.object; object = object_of h rows g p c laid m; low = omega arith; high = omega arith }
