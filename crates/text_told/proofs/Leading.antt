-- Hops from an object: what the first ones are, and where they end.
use Rattle.std.proofs.Common.{◌≡◌, ◌∙◌, ℕ, ◌+◌, ◌*◌, ◌/◌, ◌<◌, ◌≤◌, Option, Some, None, List, [], ◌∷◌, length, refl, ap, subst, sym, arith}
use Rattle.std.specs.List.{slice_get}
use Rattle.foundation.proofs.Places.{contains_at}
use Rattle.cxx_hierarchy.specs.declared.records.ClassId.{ClassId}
use Rattle.cxx_hierarchy.specs.declared.records.FieldType.{FieldType}
use Rattle.cxx_hierarchy.specs.declared.records.FieldType.TheVariants.{Value, Object}
use Rattle.cxx_hierarchy.specs.declared.records.ValueType.{ValueType}
use Rattle.cxx_hierarchy.specs.declared.records.ValueType.TheVariants.{Number, Pointer}
use Rattle.cxx_hierarchy.specs.declared.records.Scalar.{Scalar}
use Rattle.cxx_hierarchy.specs.declared.records.Scalar.TheVariants.{Bool as TheBool, Char, SChar, UChar, Short, UShort, Int, UInt, Long, ULong, LongLong, ULongLong}
use Rattle.cxx_hierarchy.specs.Scalars.{most_bits, size_of}
use Rattle.cxx_hierarchy.specs.Classes.{Classes, members_of, width_in, width_of_member}
use Rattle.cxx_hierarchy.specs.Hierarchies.{IsHierarchy}
use Rattle.cxx_subobject.specs.declared.Subobject.{Subobject}
use Rattle.cxx_subobject.specs.declared.locations.Hop.{Hop}
use Rattle.cxx_subobject.specs.declared.locations.Hop.TheVariants.{Inherit, Member as MemberHop}
use Rattle.cxx_subobject.specs.Subobjects.{IsSubobject, class_of}
use Rattle.cxx_subobject.specs.Locations.{IsElement, LeadsTo, to_subobject, to_value, to_inner}
use Rattle.cxx_subobject.proofs.PathLemmas.{class_low, class_inside}
use Rattle.abi_sound.specs.declared.class_layout.ClassLayout.{ClassLayout}
use Rattle.abi_sound.specs.Places.{places_of, size_of_value}
use Rattle.abi_sound.specs.Locations.{bits_of_member, bits_of_type, bits_of_value, class_of_member, class_of_type, element_class, last_member, place_along_hops, span_of}
use Rattle.abi_sound.specs.Sound.{IsAligned, IsSoundLayout}
use Rattle.cxx_hierarchy.specs.declared.records.Member.{Member}
use Rattle.cxx_subobject.proofs.LocationLemmas.{element_low}
use Rattle.text_told.specs.Fields.{first_value_bit, member_at, bit_field_width}
use Rattle.text_told.specs.Dumps.{bytes_touched}
use Rattle.text_told.specs.invariants.Leading.{AreKnownHops, IsKnownClass}

pub known_class : (h : Classes) → IsHierarchy h → (c : ClassId) (s : Subobject) → c.0 < length h → IsSubobject h c s → IsKnownClass h (class_of s)
known_class h keeps c s known valid = by_class (class_of s) refl
  where
    by_class : (o : Option ClassId) → class_of s ≡ o → IsKnownClass h o
    by_class None e = tt
    by_class (Some d) e = class_inside h keeps c d s known valid e

-- what an element of a member is, by its type
pub element_is : (h : Classes) (d : ClassId) (m i : ℕ) (type : FieldType ClassId) → IsElement h d m i type → element_class h (Some d) m ≡ class_of_type type
element_is h d m i type element = ap class_of_member element.there ∙ ap class_of_type element.type_is

-- hops that lead to something go along
pub go_along : (h : Classes) → IsHierarchy h → (c : ClassId) (hops : List Hop) (type : FieldType ClassId) → c.0 < length h → LeadsTo h c hops type → AreKnownHops h (Some c) hops
go_along h keeps _ _ _ known (to_subobject c d s valid class) = ((known, valid), tt)
go_along h keeps _ _ _ known (to_value c d s m i type valid class element) = ((known, valid), (known_class h keeps c s known valid, tt))
go_along h keeps _ _ _ known (to_inner c d b s m i hops type valid class element leads) =
    let e : element_class h (class_of s) m ≡ Some b = ap (λ o. element_class h o m) class ∙ element_is h d m i (Object b) element in
    let low : d.0 ≤ c.0 = class_low h keeps c d s valid class in
    let lower : b.0 < d.0 = element_low h keeps d b m i element in
    let inside : b.0 < length h = omega arith in
    ((known, valid), (known_class h keeps c s known valid, subst (λ (o : Option ClassId). AreKnownHops h o hops) (sym e) (go_along h keeps b hops type inside leads)))

some_scalar : (t : Scalar) → 1 ≤ size_of t
some_scalar TheBool = omega arith
some_scalar Char = omega arith
some_scalar SChar = omega arith
some_scalar UChar = omega arith
some_scalar Short = omega arith
some_scalar UShort = omega arith
some_scalar Int = omega arith
some_scalar UInt = omega arith
some_scalar Long = omega arith
some_scalar ULong = omega arith
some_scalar LongLong = omega arith
some_scalar ULongLong = omega arith

some_size : (type : ValueType ClassId) → 1 ≤ size_of_value type
some_size (Number t) = some_scalar t
some_size (Pointer c) = omega arith

most_scalar : (t : Scalar) → size_of t ≤ 8
most_scalar TheBool = omega arith
most_scalar Char = omega arith
most_scalar SChar = omega arith
most_scalar UChar = omega arith
most_scalar Short = omega arith
most_scalar UShort = omega arith
most_scalar Int = omega arith
most_scalar UInt = omega arith
most_scalar Long = omega arith
most_scalar ULong = omega arith
most_scalar LongLong = omega arith
most_scalar ULongLong = omega arith

pub most_size : (type : ValueType ClassId) → size_of_value type ≤ 8
most_size (Number t) = most_scalar t
most_size (Pointer c) = omega arith

few_bits : (t : Scalar) → most_bits t ≤ 64
few_bits TheBool = omega arith
few_bits Char = omega arith
few_bits SChar = omega arith
few_bits UChar = omega arith
few_bits Short = omega arith
few_bits UShort = omega arith
few_bits Int = omega arith
few_bits UInt = omega arith
few_bits Long = omega arith
few_bits ULong = omega arith
few_bits LongLong = omega arith
few_bits ULongLong = omega arith

-- a bit-field has 1 to 64 bits
pub width_near : (h : Classes) → IsHierarchy h → (d : ClassId) (m n : ℕ) → width_of_member h d m ≡ Some n → (1 ≤ n) × (n ≤ 64)
width_near h keeps d m n e = by_member (slice_get (members_of h d) m) refl
  where
    by_member : (o : Option (Member ClassId)) → slice_get (members_of h d) m ≡ o → (1 ≤ n) × (n ≤ 64)
    by_member None there = let none : Some n ≡ None = sym e ∙ ap width_in there in absurd cc
    by_member (Some member) there =
        let field = keeps.widths d member n (contains_at (members_of h d) m member there) (sym (ap width_in there) ∙ e) in
        let low = field.low in
        let high = field.high in
        let few = few_bits field.type in
        (low, omega arith)

-- the element in which hops to a number or a pointer end
pub record EndsIn (h : Classes) (c : ClassId) (hops : List Hop) (type : ValueType ClassId) : Type 0 where
  pub class : ClassId
  pub member : ℕ
  pub index : ℕ
  pub last : last_member h (Some c) hops ≡ Some (class, member)
  pub element : IsElement h class member index (Value type)

-- hops that lead to something begin in a subobject
first_hop : (h : Classes) (c : ClassId) (hops : List Hop) (type : FieldType ClassId) → LeadsTo h c hops type → (s : Subobject) × (rest : List Hop) × (hops ≡ Inherit s ∷ rest)
first_hop h _ _ _ (to_subobject c d s valid class) = (s, [], refl)
first_hop h _ _ _ (to_value c d s m i type valid class element) = (s, MemberHop m i ∷ [], refl)
first_hop h _ _ _ (to_inner c d b s m i hops type valid class element leads) = (s, MemberHop m i ∷ hops, refl)

-- the last member behind a member that is an object
pub last_inner : (h : Classes) (c d b : ClassId) (s : Subobject) (m i : ℕ) (hops : List Hop) (type : FieldType ClassId) → class_of s ≡ Some d → IsElement h d m i (Object b) → LeadsTo h b hops type →
    last_member h (Some c) (Inherit s ∷ MemberHop m i ∷ hops) ≡ last_member h (Some b) hops
last_inner h c d b s m i hops type class element leads =
    let f = first_hop h b hops type leads in
    ap (λ (o : Option ClassId). last_member h o (MemberHop m i ∷ hops)) class
    ∙ (ap (λ (xs : List Hop). last_member h (Some d) (MemberHop m i ∷ xs)) f.2
    ∙ (ap (λ (xs : List Hop). last_member h (element_class h (Some d) m) xs) (sym f.2)
    ∙ ap (λ (o : Option ClassId). last_member h o hops) (element_is h d m i (Object b) element)))

ends_of : (h : Classes) (c : ClassId) (hops : List Hop) (found : FieldType ClassId) (type : ValueType ClassId) → LeadsTo h c hops found → found ≡ Value type → EndsIn h c hops type
ends_of h _ _ _ type (to_subobject c d s valid class) e = absurd cc
ends_of h _ _ _ type (to_value c d s m i t valid class element) e = record {
  class = d;
  member = m;
  index = i;
  last = ap (λ (o : Option ClassId). last_member h o (MemberHop m i ∷ [])) class;
  element = subst (IsElement h d m i) e element;
}
ends_of h _ _ _ type (to_inner c d b s m i hops found valid class element leads) e =
    let inside = ends_of h b hops found type leads e in
    record {
      class = inside.class;
      member = inside.member;
      index = inside.index;
      last = last_inner h c d b s m i hops found class element leads ∙ inside.last;
      element = inside.element;
    }

pub ends_in : (h : Classes) (c : ClassId) (hops : List Hop) (type : ValueType ClassId) → LeadsTo h c hops (Value type) → EndsIn h c hops type
ends_in h c hops type leads = ends_of h c hops (Value type) type leads refl

-- it has a bit
some_bits : (h : Classes) → IsHierarchy h → (d : ClassId) (m i : ℕ) (type : ValueType ClassId) → IsElement h d m i (Value type) → 1 ≤ bits_of_member (slice_get (members_of h d) m)
some_bits h keeps d m i type is =
    subst (λ (k : ℕ). 1 ≤ k) (sym (ap bits_of_member is.there ∙ (ap (bits_of_type is.member.width) is.type_is ∙ ap (λ (o : Option ℕ). bits_of_value o type) (sym (ap width_in is.there))))) (by_width (width_of_member h d m) refl)
  where
    by_width : (o : Option ℕ) → width_of_member h d m ≡ o → 1 ≤ bits_of_value o type
    by_width None e = let some = some_size type in omega arith
    by_width (Some n) e = (width_near h keeps d m n e).0

-- a class subobject begins before the end of the object
pub object_inside : (h : Classes) (rows : List ClassLayout) → IsSoundLayout h rows → (c d : ClassId) (hops : List Hop) → c.0 < length h → LeadsTo h c hops (Object d) → place_along_hops h (places_of h rows) c hops < (places_of h rows).size c
object_inside h rows sound c d hops known leads = (sound.each c known).begins_inside d hops leads

pub object_below : (h : Classes) (rows : List ClassLayout) → IsSoundLayout h rows → (c d : ClassId) (hops : List Hop) → c.0 < length h → LeadsTo h c hops (Object d) → place_along_hops h (places_of h rows) c hops < 1048576
object_below h rows sound c d hops known leads =
    let ends = object_inside h rows sound c d hops known leads in
    let most = (sound.each c known).bounded in omega arith

-- and so does all that hops lead to
pub ends_inside : (h : Classes) (rows : List ClassLayout) → IsHierarchy h → IsSoundLayout h rows → (c : ClassId) (hops : List Hop) (type : FieldType ClassId) → c.0 < length h → LeadsTo h c hops type →
    place_along_hops h (places_of h rows) c hops < (places_of h rows).size c
ends_inside h rows keeps sound c hops (Object d) known leads = object_inside h rows sound c d hops known leads
ends_inside h rows keeps sound c hops (Value type) known leads =
    let l = places_of h rows in
    let e = ends_in h c hops type leads in
    let place = place_along_hops h l c hops in
    let ends : 8 * place + l.first e.class e.member + bits_of_member (slice_get (members_of h e.class) e.member) ≤ 8 * l.size c =
    subst (λ (o : Option (ClassId × ℕ)). (span_of h l place o).start + (span_of h l place o).length ≤ 8 * l.size c) e.last ((sound.each c known).leaf_inside type hops leads) in
    let some = some_bits h keeps e.class e.member e.index type e.element in omega arith

pub ends_below : (h : Classes) (rows : List ClassLayout) → IsHierarchy h → IsSoundLayout h rows → (c : ClassId) (hops : List Hop) (type : FieldType ClassId) → c.0 < length h → LeadsTo h c hops type →
    place_along_hops h (places_of h rows) c hops < 1048576
ends_below h rows keeps sound c hops type known leads =
    let ends = ends_inside h rows keeps sound c hops type known leads in
    let most = (sound.each c known).bounded in omega arith

-- the bits of a leaf begin in the byte at its place, and end in the 8 bytes from there, whatever its type
pub aligned_near : (o : Option ℕ) (type : ValueType ClassId) (place first : ℕ) → IsAligned o type place first → (first < 8) × ((t : ValueType ClassId) → first + bits_of_value o t ≤ 64)
aligned_near None type place first is = let none = is.1 in (omega arith, λ t. let most = most_size t in omega arith)
aligned_near (Some n) type place first is = (is.0, λ t. is.1)

pub leaf_near : (h : Classes) (rows : List ClassLayout) → IsSoundLayout h rows → (c : ClassId) (hops : List Hop) (type : ValueType ClassId) → c.0 < length h → LeadsTo h c hops (Value type) →
    (first_value_bit (places_of h rows) (last_member h (Some c) hops) < 8) × ((t : ValueType ClassId) → first_value_bit (places_of h rows) (last_member h (Some c) hops) + bits_of_value (bit_field_width h (last_member h (Some c) hops)) t ≤ 64)
leaf_near h rows sound c hops type known leads =
    let l = places_of h rows in
    let e = ends_in h c hops type leads in
    subst (λ (o : Option (ClassId × ℕ)). (first_value_bit l o < 8) × ((t : ValueType ClassId) → first_value_bit l o + bits_of_value (bit_field_width h o) t ≤ 64)) (sym e.last)
    (aligned_near (width_of_member h e.class e.member) type (place_along_hops h l c hops) (l.first e.class e.member) ((sound.each c known).aligned type hops e.class e.member leads e.last))

-- so it has bits in 8 bytes at most
pub few_touched : (first bits : ℕ) → first + bits ≤ 64 → bytes_touched first bits ≤ 8
few_touched first bits few = omega arith

-- the class of a member that is an object has a row
pub object_known : (h : Classes) (rows : List ClassLayout) → IsHierarchy h → IsSoundLayout h rows → (d e : ClassId) (m : ℕ) (member : Member ClassId) → d.0 < length h → member_at h (Some d) m ≡ Some member → member.ty ≡ Object e →
    e.0 < length rows
object_known h rows keeps sound d e m member known there is =
    let low : e.0 < d.0 = keeps.objects d e member (contains_at (members_of h d) m member there) is in
    let all : length rows ≡ length h = sound.full.one_each in omega arith
