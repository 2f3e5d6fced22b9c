-- The bits of numbers and pointers: in which element hops end, and how many bits that has.
use Rattle.std.proofs.Common.{◌≡◌, ℕ, ◌+◌, ◌*◌, ◌≤◌, Option, Some, None, List, [], ◌∷◌, refl, ap, subst, sym, ◌∙◌, arith}
use Rattle.std.specs.List.{slice_get}
use Rattle.cxx_hierarchy.specs.declared.records.ClassId.{ClassId}
use Rattle.cxx_hierarchy.specs.declared.records.Member.{Member}
use Rattle.cxx_hierarchy.specs.declared.records.Scalar.{Scalar}
use Rattle.cxx_hierarchy.specs.declared.records.Scalar.TheVariants.{Bool as TheBool, Char, SChar, UChar, Short, UShort, Int, UInt, Long, ULong, LongLong, ULongLong}
use Rattle.cxx_hierarchy.specs.declared.records.ValueType.{ValueType}
use Rattle.cxx_hierarchy.specs.declared.records.ValueType.TheVariants.{Number, Pointer}
use Rattle.cxx_hierarchy.specs.declared.records.FieldType.TheVariants.{Value, Object}
use Rattle.cxx_hierarchy.specs.Scalars.{size_of}
use Rattle.cxx_hierarchy.specs.Classes.{Classes, members_of, width_in, width_of_member}
use Rattle.cxx_hierarchy.specs.Hierarchies.{IsHierarchy}
use Rattle.foundation.proofs.Places.{contains_at}
use Rattle.cxx_subobject.specs.declared.Subobject.{Subobject}
use Rattle.cxx_subobject.specs.Subobjects.{class_of}
use Rattle.cxx_subobject.specs.declared.locations.Hop.{Hop}
use Rattle.cxx_subobject.specs.declared.locations.Hop.TheVariants.{Inherit, Member as MemberHop}
use Rattle.cxx_subobject.specs.Locations.{IsElement}
use Rattle.abi_sound.specs.Places.{Places, size_of_value}
use Rattle.abi_sound.specs.Locations.{place_along_hops, last_member, Span, bits_of_value, bits_of_type, bits_of_member, span_of, leaf_span}
use Rattle.abi_sound.proofs.PlaceLemmas.{element_class_is}

-- the hops to an element end in its member
pub last_element : (h : Classes) (c : Option ClassId) (d : ClassId) (s : Subobject) (m i : ℕ) → class_of s ≡ Some d → last_member h c (Inherit s ∷ MemberHop m i ∷ []) ≡ Some (d, m)
last_element h c d s m i e = ap (λ (x : Option ClassId). last_member h x (MemberHop m i ∷ [])) e

-- hops through an element end where those behind it do
pub last_inner : (h : Classes) (c : Option ClassId) (d e : ClassId) (s : Subobject) (m i : ℕ) (hop : Hop) (hops : List Hop) → class_of s ≡ Some d → IsElement h d m i (Object e) →
    last_member h c (Inherit s ∷ MemberHop m i ∷ hop ∷ hops) ≡ last_member h (Some e) (hop ∷ hops)
last_inner h c d e s m i hop hops class is =
    ap (λ (x : Option ClassId). last_member h x (MemberHop m i ∷ hop ∷ hops)) class
    ∙ ap (λ (x : Option ClassId). last_member h x (hop ∷ hops)) (element_class_is h (Some d) d m i (Object e) refl is)

abbrev class_of_key : Option (ClassId × ℕ) → Option ClassId
class_of_key None = None
class_of_key (Some key) = Some key.0

abbrev number_of_key : Option (ClassId × ℕ) → Option ℕ
number_of_key None = None
number_of_key (Some key) = Some key.1

-- hops end in one member
pub one_member : (key : Option (ClassId × ℕ)) (d e : ClassId) (m n : ℕ) → key ≡ Some (d, m) → key ≡ Some (e, n) → (d ≡ e) × (m ≡ n)
one_member key d e m n x y =
    let both = sym x ∙ y in
    let class : Some d ≡ Some e = ap class_of_key both in
    let number : Some m ≡ Some n = ap number_of_key both in
    (cc, cc)

-- how many bits an element has
pub bits_of_element : (h : Classes) (d : ClassId) (m i : ℕ) (type : ValueType ClassId) → IsElement h d m i (Value type) → bits_of_member (slice_get (members_of h d) m) ≡ bits_of_value (width_of_member h d m) type
bits_of_element h d m i type is =
    ap bits_of_member is.there
    ∙ (ap (bits_of_type is.member.width) is.type_is
    ∙ ap (λ (o : Option (Member ClassId)). bits_of_value (width_in o) type) (sym is.there))

-- the bits of a value of the member m of class d, at a place
abbrev pub value_span : Classes → Places → ClassId → ℕ → ValueType ClassId → ℕ → Span
value_span h l d m type place = record { start = 8 * place + l.first d m; length = bits_of_value (width_of_member h d m) type }

-- hops lead to an element of this member, which is a number or a pointer
pub record EndsIn (h : Classes) (c : ClassId) (hops : List Hop) (type : ValueType ClassId) : Type 0 where
  pub class : ClassId
  pub member : ℕ
  pub index : ℕ
  pub last : last_member h (Some c) hops ≡ Some (class, member)
  pub element : IsElement h class member index (Value type)

-- the bits of a leaf, by the member in which its hops end
pub span_is : (h : Classes) (l : Places) (c : ClassId) (hops : List Hop) (type : ValueType ClassId) (x : EndsIn h c hops type) → leaf_span h l c hops ≡ value_span h l x.class x.member type (place_along_hops h l c hops)
span_is h l c hops type x =
    ap (span_of h l (place_along_hops h l c hops)) x.last
    ∙ ap (λ n. let s : Span = record { start = 8 * place_along_hops h l c hops + l.first x.class x.member; length = n } in s) (bits_of_element h x.class x.member x.index type x.element)

size_positive : (type : ValueType ClassId) → 1 ≤ size_of_value type
size_positive (Pointer c) = omega arith
size_positive (Number t) = of t
  where
    of : (t : Scalar) → 1 ≤ size_of t
    of TheBool = omega arith
    of Char = omega arith
    of SChar = omega arith
    of UChar = omega arith
    of Short = omega arith
    of UShort = omega arith
    of Int = omega arith
    of UInt = omega arith
    of Long = omega arith
    of ULong = omega arith
    of LongLong = omega arith
    of ULongLong = omega arith

-- a leaf has a bit at least
pub some_bits : (h : Classes) → IsHierarchy h → (d : ClassId) (m i : ℕ) (type : ValueType ClassId) → IsElement h d m i (Value type) → 1 ≤ bits_of_value (width_of_member h d m) type
some_bits h keeps d m i type is = subst (λ (o : Option (Member ClassId)). 1 ≤ bits_of_value (width_in o) type) (sym is.there) (by_width is.member.width refl)
  where
    by_width : (w : Option ℕ) → is.member.width ≡ w → 1 ≤ bits_of_value is.member.width type
    by_width None e = subst (λ w. 1 ≤ bits_of_value w type) (sym e) (let some = size_positive type in omega (arith, some))
    by_width (Some n) e = subst (λ w. 1 ≤ bits_of_value w type) (sym e) (keeps.widths d is.member n (contains_at (members_of h d) m is.member is.there) e).low
