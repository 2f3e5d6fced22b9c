-- A small layout with an object as a member: `struct E { char c; }; struct F { char a; E e; };`. E is aligned to 1 as a whole object and to
-- 4 as a base, and lies at place 1 of F. It keeps the laws; with E aligned to 4 it does not.
use Rattle.std.proofs.Common.{◌≡◌, ℕ, zero, suc, ◌+◌, ◌*◌, ◌<◌, ◌≤◌, inl, inr, Bool, true, false, Option, Some, None, List, [], ◌∷◌, ◌++◌, refl, ap, subst, sym, ◌∙◌, arith}
use Rattle.std.specs.Prelude.{Contains}
use Rattle.std.specs.List.{slice_get}
use Rattle.cxx_hierarchy.specs.declared.records.ClassId.{ClassId}
use Rattle.cxx_hierarchy.specs.declared.records.Base.{Base}
use Rattle.cxx_hierarchy.specs.declared.records.Member.{Member}
use Rattle.cxx_hierarchy.specs.declared.records.Destructor.TheVariants.{Implicit}
use Rattle.cxx_hierarchy.specs.declared.records.Scalar.TheVariants.{Char}
use Rattle.cxx_hierarchy.specs.declared.records.ValueType.{ValueType}
use Rattle.cxx_hierarchy.specs.declared.records.ValueType.TheVariants.{Number}
use Rattle.cxx_hierarchy.specs.declared.records.FieldType.{FieldType}
use Rattle.cxx_hierarchy.specs.declared.records.FieldType.TheVariants.{Value, Object}
use Rattle.cxx_hierarchy.specs.Classes.{Class, Classes, bases_in, members_in, width_of_member, class_by_number}
use Rattle.cxx_hierarchy.specs.Declarations.{elements_of, has_virtual_function}
use Rattle.cxx_hierarchy.specs.VirtualBases.{IsDirectBase, HasVirtualBase, direct, further}
use Rattle.cxx_subobject.specs.declared.locations.Hop.{Hop}
use Rattle.cxx_subobject.specs.declared.locations.Hop.TheVariants.{Inherit, Member as MemberHop}
use Rattle.cxx_subobject.specs.declared.Subobject.{Subobject}
use Rattle.cxx_subobject.specs.Locations.{IsElement, LeadsTo, to_subobject, to_value, to_inner}
use Rattle.cxx_subobject.specs.Subobjects.{whole, shared, whole_of, IsSubobject, class_of}
use Rattle.abi_primary.specs.declared.Primary.TheVariants.{None as NoPrimary, Direct, Virtual}
use Rattle.abi_primary.specs.Kinds.{IsDynamic, declares, shares, inherits}
use Rattle.abi_sound.specs.declared.class_layout.Bits.{Bits}
use Rattle.abi_sound.specs.declared.class_layout.ClassLayout.{ClassLayout}
use Rattle.abi_sound.specs.Places.{Places, places_of}
use Rattle.abi_sound.specs.Locations.{place_along_hops, last_member, Span, AreDisjoint, leaf_span}
use Rattle.abi_sound.specs.Chains.{primary_part}
use Rattle.abi_sound.specs.Sound.{Divides, IsAligned, IsFullRow, IsSoundLayout}
use Rattle.abi_sound.proofs.LeafSpans.{one_member}

abbrev member_of : FieldType ClassId → Member ClassId
member_of type = record { name = []; ty = type; count = None; width = None; width_at = 0; is_public = true; at = 0 }

abbrev char : FieldType ClassId
char = Value (Number Char)

abbrev class_with : List (Member ClassId) → Class
class_with members = record { name = []; at = 0; bases = []; members = members; functions = []; order = []; has_constructor = false; destructor = Implicit }

abbrev pub e_f : Classes
e_f = class_with (member_of char ∷ []) ∷ class_with (member_of char ∷ member_of (Object (class_by_number 0)) ∷ []) ∷ []

abbrev one_byte : Bits
one_byte = record { first = 0; width = 8 }

abbrev row_with : (size align : ℕ) → List ℕ → List Bits → ClassLayout
row_with size align members bits = record { size = size; align = align; dsize = size; nvsize = size; nvalign = 4; primary = NoPrimary; base_places = []; virtual_bases = []; virtual_places = []; holders = []; member_places = members; member_bits = bits }

-- with E aligned so
abbrev pub e_at_one : ℕ → List ClassLayout
e_at_one align = row_with 1 align (0 ∷ []) (one_byte ∷ []) ∷ row_with 2 1 (0 ∷ 1 ∷ []) (one_byte ∷ one_byte ∷ []) ∷ []

abbrev l : Places
l = places_of e_f (e_at_one 1)

no_bases : (n : ℕ) → bases_in (slice_get e_f n) ≡ []
no_bases zero = refl
no_bases (suc zero) = refl
no_bases (suc (suc n)) = refl

no_edge : (c b : ClassId) (way : Bool) → IsDirectBase e_f c way b → ⊥
no_edge c b way edge = let k : Contains [] edge.base = subst (λ (xs : List (Base ClassId)). Contains xs edge.base) (no_bases c.0) edge.listed in let lt = k.1 in absurd (omega (arith, lt))

no_virtual : (c v : ClassId) → HasVirtualBase e_f c v → ⊥
no_virtual _ _ (direct c v edge) = no_edge c v true edge
no_virtual _ _ (further c b v way edge rest) = no_edge c b way edge

only_whole : (c : ClassId) (s : Subobject) → IsSubobject e_f c s → s ≡ whole_of c
only_whole c _ (whole [] l) = refl
only_whole c _ (whole (b ∷ path) l) = absurd (no_edge c b false l.0)
only_whole c _ (shared v path has l) = absurd (no_virtual c v has)

by_class : (class : Class) (n : ℕ) → slice_get e_f n ≡ Some class → has_virtual_function class ≡ true → ⊥
by_class class zero e says = let same : class_with (member_of char ∷ []) ≡ class = cc in let t : false ≡ true = ap has_virtual_function same ∙ says in cc
by_class class (suc zero) e says = let same : class_with (member_of char ∷ member_of (Object (class_by_number 0)) ∷ []) ≡ class = cc in let t : false ≡ true = ap has_virtual_function same ∙ says in cc
by_class class (suc (suc n)) e says = let k : None ≡ Some class = e in cc

not_dynamic : (c : ClassId) → IsDynamic e_f c → ⊥
not_dynamic _ (declares c class there says) = by_class class c.0 there says
not_dynamic _ (shares c b edge) = no_edge c b true edge
not_dynamic _ (inherits c b way edge rest) = no_edge c b way edge

-- the elements of members
data IsPart : ClassId → ℕ → ℕ → FieldType ClassId → Type 0 where
  c_of_e : IsPart (class_by_number 0) 0 0 char
  a_of_f : IsPart (class_by_number 1) 0 0 char
  e_of_f : IsPart (class_by_number 1) 1 0 (Object (class_by_number 0))

elements : (d : ClassId) (m i : ℕ) (type : FieldType ClassId) → IsElement e_f d m i type → IsPart d m i type
elements d m i type e = by_number d.0 refl e.there
  where
    of : (n k : ℕ) (t : FieldType ClassId) → d.0 ≡ n → m ≡ k → member_of t ≡ e.member → IsPart (class_by_number n) k 0 t → IsPart d m i type
    of n k t number place same part =
        let within : i < elements_of (member_of t).count = subst (λ (x : Member ClassId). i < elements_of x.count) (sym same) e.within in
        let first : 0 ≡ i = omega (arith, within) in
        let class : class_by_number n ≡ d = ap class_by_number (sym number) in
        let of_type : t ≡ type = ap (λ (x : Member ClassId). x.ty) same ∙ e.type_is in
        subst (λ (x : ClassId). IsPart x m i type) class (subst (λ k. IsPart (class_by_number n) k i type) (sym place) (subst (λ j. IsPart (class_by_number n) k j type) first (subst (IsPart (class_by_number n) k 0) of_type part)))

    in_e : (k : ℕ) → d.0 ≡ 0 → m ≡ k → slice_get (member_of char ∷ []) k ≡ Some e.member → IsPart d m i type
    in_e zero number place there = of 0 0 char number place (let same : member_of char ≡ e.member = cc in same) c_of_e
    in_e (suc k) number place there = let g : None ≡ Some e.member = there in cc

    in_f : (k : ℕ) → d.0 ≡ 1 → m ≡ k → slice_get (member_of char ∷ member_of (Object (class_by_number 0)) ∷ []) k ≡ Some e.member → IsPart d m i type
    in_f zero number place there = of 1 0 char number place (let same : member_of char ≡ e.member = cc in same) a_of_f
    in_f (suc zero) number place there = of 1 1 (Object (class_by_number 0)) number place (let same : member_of (Object (class_by_number 0)) ≡ e.member = cc in same) e_of_f
    in_f (suc (suc k)) number place there = let g : None ≡ Some e.member = there in cc

    by_number : (n : ℕ) → d.0 ≡ n → slice_get (members_in (slice_get e_f n)) m ≡ Some e.member → IsPart d m i type
    by_number zero number there = in_e m number refl there
    by_number (suc zero) number there = in_f m number refl there
    by_number (suc (suc n)) number there = let g : None ≡ Some e.member = there in cc

abbrev whole_hop : ℕ → Hop
whole_hop n = Inherit (whole_of (class_by_number n))

-- the numbers in each class, with their places
data IsLeafAt : ClassId → List Hop → ℕ → Type 0 where
  c_in_e : IsLeafAt (class_by_number 0) (whole_hop 0 ∷ MemberHop 0 0 ∷ []) 0
  a_in_f : IsLeafAt (class_by_number 1) (whole_hop 1 ∷ MemberHop 0 0 ∷ []) 0
  c_in_f : IsLeafAt (class_by_number 1) (whole_hop 1 ∷ MemberHop 1 0 ∷ whole_hop 0 ∷ MemberHop 0 0 ∷ []) 1

-- the objects in each class, with their classes and places
data IsObjectAt : ClassId → ClassId → List Hop → ℕ → Type 0 where
  whole_e : IsObjectAt (class_by_number 0) (class_by_number 0) (whole_hop 0 ∷ []) 0
  whole_f : IsObjectAt (class_by_number 1) (class_by_number 1) (whole_hop 1 ∷ []) 0
  e_in_f : IsObjectAt (class_by_number 1) (class_by_number 0) (whole_hop 1 ∷ MemberHop 1 0 ∷ whole_hop 0 ∷ []) 1

record HasLeaf (c : ClassId) (hops : List Hop) (type : ValueType ClassId) : Type 0 where
  place : ℕ
  is : IsLeafAt c hops place
  type_is : type ≡ Number Char

record HasObject (c d : ClassId) (hops : List Hop) : Type 0 where
  place : ℕ
  is : IsObjectAt c d hops place

same_class : (c d : ClassId) (s : Subobject) → s ≡ whole_of c → class_of s ≡ Some d → c ≡ d
same_class c d s e f = let k : Some c ≡ Some d = sym (ap class_of e) ∙ f in cc

value_way : (d : ClassId) (m i : ℕ) (t : FieldType ClassId) (type : ValueType ClassId) → IsPart d m i t → t ≡ Value type → HasLeaf d (Inherit (whole_of d) ∷ MemberHop m i ∷ []) type
value_way _ _ _ _ type c_of_e e = record { place = 0; is = c_in_e; type_is = let k : Value (Number Char) ≡ Value type = e in cc }
value_way _ _ _ _ type a_of_f e = record { place = 0; is = a_in_f; type_is = let k : Value (Number Char) ≡ Value type = e in cc }
value_way _ _ _ _ type e_of_f e = let k : Object (class_by_number 0) ≡ Value type = e in cc

leaf_inside_e : (e : ClassId) (hops : List Hop) (n : ℕ) (type : ValueType ClassId) → IsLeafAt e hops n → e.0 ≡ 0 → type ≡ Number Char → HasLeaf (class_by_number 1) (whole_hop 1 ∷ MemberHop 1 0 ∷ hops) type
leaf_inside_e _ _ _ type c_in_e z is = record { place = 1; is = c_in_f; type_is = is }
leaf_inside_e _ _ _ type _ z is = absurd (omega (arith, z))

inner_leaf : (d e : ClassId) (m i : ℕ) (t : FieldType ClassId) (hops : List Hop) (type : ValueType ClassId) → IsPart d m i t → t ≡ Object e → HasLeaf e hops type → HasLeaf d (Inherit (whole_of d) ∷ MemberHop m i ∷ hops) type
inner_leaf _ e _ _ _ hops type c_of_e f x = let k : Value (Number Char) ≡ Object e = f in cc
inner_leaf _ e _ _ _ hops type a_of_f f x = let k : Value (Number Char) ≡ Object e = f in cc
inner_leaf _ e _ _ _ hops type e_of_f f x = let k : class_by_number 0 ≡ e = (let g : Object (class_by_number 0) ≡ Object e = f in cc) in leaf_inside_e e hops x.place type x.is (sym (ap (λ (y : ClassId). y.0) k)) x.type_is

object_inside_e : (e d : ClassId) (hops : List Hop) (n : ℕ) → IsObjectAt e d hops n → e.0 ≡ 0 → HasObject (class_by_number 1) d (whole_hop 1 ∷ MemberHop 1 0 ∷ hops)
object_inside_e _ _ _ _ whole_e z = record { place = 1; is = e_in_f }
object_inside_e _ _ _ _ _ z = absurd (omega (arith, z))

inner_object : (c e d : ClassId) (m i : ℕ) (t : FieldType ClassId) (hops : List Hop) → IsPart c m i t → t ≡ Object e → HasObject e d hops → HasObject c d (Inherit (whole_of c) ∷ MemberHop m i ∷ hops)
inner_object _ e d _ _ _ hops c_of_e f x = let k : Value (Number Char) ≡ Object e = f in cc
inner_object _ e d _ _ _ hops a_of_f f x = let k : Value (Number Char) ≡ Object e = f in cc
inner_object _ e d _ _ _ hops e_of_f f x = let k : class_by_number 0 ≡ e = (let g : Object (class_by_number 0) ≡ Object e = f in cc) in object_inside_e e d hops x.place x.is (sym (ap (λ (y : ClassId). y.0) k))

whole_object : (n : ℕ) → n < 2 → HasObject (class_by_number n) (class_by_number n) (whole_hop n ∷ [])
whole_object zero lt = record { place = 0; is = whole_e }
whole_object (suc zero) lt = record { place = 0; is = whole_f }
whole_object (suc (suc n)) lt = absurd (omega arith)

leaves : (c : ClassId) (hops : List Hop) (t : FieldType ClassId) (type : ValueType ClassId) → LeadsTo e_f c hops t → t ≡ Value type → HasLeaf c hops type
leaves _ _ _ type (to_subobject c d s valid class) e = let k : Object d ≡ Value type = e in cc
leaves _ _ _ type (to_value c d s m i t valid class element) e =
    let is = only_whole c s valid in
    let same = same_class c d s is class in
    subst (λ (x : Subobject). HasLeaf c (Inherit x ∷ MemberHop m i ∷ []) type) (sym is)
    (subst (λ (x : ClassId). HasLeaf x (Inherit (whole_of x) ∷ MemberHop m i ∷ []) type) (sym same) (value_way d m i (Value t) type (elements d m i (Value t) element) e))
leaves _ _ _ type (to_inner c d k s m i hops t valid class element rest) e =
    let is = only_whole c s valid in
    let same = same_class c d s is class in
    subst (λ (x : Subobject). HasLeaf c (Inherit x ∷ MemberHop m i ∷ hops) type) (sym is)
    (subst (λ (x : ClassId). HasLeaf x (Inherit (whole_of x) ∷ MemberHop m i ∷ hops) type) (sym same) (inner_leaf d k m i (Object k) hops type (elements d m i (Object k) element) refl (leaves k hops t type rest e)))

objects : (c d : ClassId) (hops : List Hop) (t : FieldType ClassId) → c.0 < 2 → LeadsTo e_f c hops t → t ≡ Object d → HasObject c d hops
objects _ d _ _ lt (to_subobject c e s valid class) f =
    let is = only_whole c s valid in
    let same = same_class c e s is class in
    let two : e ≡ d = (let k : Object e ≡ Object d = f in cc) in
    subst (λ (x : Subobject). HasObject c d (Inherit x ∷ [])) (sym is) (subst (λ (x : ClassId). HasObject c x (Inherit (whole_of c) ∷ [])) (same ∙ two) (whole_object c.0 lt))
objects _ d _ _ lt (to_value c e s m i t valid class element) f = let k : Value t ≡ Object d = f in cc
objects _ d _ _ lt (to_inner c e k s m i hops t valid class element rest) f =
    let is = only_whole c s valid in
    let same = same_class c e s is class in
    let part = elements e m i (Object k) element in
    subst (λ (x : Subobject). HasObject c d (Inherit x ∷ MemberHop m i ∷ hops)) (sym is)
    (subst (λ (x : ClassId). HasObject x d (Inherit (whole_of x) ∷ MemberHop m i ∷ hops)) (sym same) (inner_object e k d m i (Object k) hops part refl (objects k d hops t (inner_class e k m i (Object k) part refl) rest f)))
  where
    inner_class : (c k : ClassId) (m i : ℕ) (t : FieldType ClassId) → IsPart c m i t → t ≡ Object k → k.0 < 2
    inner_class _ k _ _ _ c_of_e g = let j : Value (Number Char) ≡ Object k = g in cc
    inner_class _ k _ _ _ a_of_f g = let j : Value (Number Char) ≡ Object k = g in cc
    inner_class _ k _ _ _ e_of_f g = let j : class_by_number 0 ≡ k = (let x : Object (class_by_number 0) ≡ Object k = g in cc) in let z : 0 ≡ k.0 = ap (λ (y : ClassId). y.0) j in omega (arith, z)

-- a byte from a place on
abbrev byte_at : ℕ → Span
byte_at place = record { start = 8 * place; length = 8 }

leaf_bits : (c : ClassId) (hops : List Hop) (n : ℕ) → IsLeafAt c hops n → leaf_span e_f l c hops ≡ byte_at n
leaf_bits _ _ _ c_in_e = refl
leaf_bits _ _ _ a_in_f = refl
leaf_bits _ _ _ c_in_f = refl

leaf_fits : (c : ClassId) (hops : List Hop) (n : ℕ) → IsLeafAt c hops n → n + 1 ≤ l.size c
leaf_fits _ _ _ c_in_e = omega arith
leaf_fits _ _ _ a_in_f = omega arith
leaf_fits _ _ _ c_in_f = omega arith

leaves_differ : (c d : ClassId) (hops others : List Hop) (n m : ℕ) → IsLeafAt c hops n → IsLeafAt d others m → c.0 ≡ d.0 → (hops ≡ others → ⊥) → AreDisjoint (byte_at n) (byte_at m)
leaves_differ _ _ _ _ _ _ c_in_e c_in_e same differ = absurd (differ refl)
leaves_differ _ _ _ _ _ _ a_in_f a_in_f same differ = absurd (differ refl)
leaves_differ _ _ _ _ _ _ c_in_f c_in_f same differ = absurd (differ refl)
leaves_differ _ _ _ _ _ _ a_in_f c_in_f same differ = inl (omega arith)
leaves_differ _ _ _ _ _ _ c_in_f a_in_f same differ = inr (omega arith)
leaves_differ _ _ _ _ _ _ _ _ same differ = absurd (omega (arith, same))

-- a `char` that is the member m of class d is aligned
char_aligned : (n m place : ℕ) (e : ClassId) (k : ℕ) → width_of_member e_f (class_by_number n) m ≡ None → l.first (class_by_number n) m ≡ 0 → (class_by_number n ≡ e) × (m ≡ k) → IsAligned (width_of_member e_f e k) (Number Char) place (l.first e k)
char_aligned n m place e k none first same =
    subst (λ (x : ClassId). IsAligned (width_of_member e_f x k) (Number Char) place (l.first x k)) same.0
    (subst (λ j. IsAligned (width_of_member e_f (class_by_number n) j) (Number Char) place (l.first (class_by_number n) j)) same.1
    (subst (λ (w : Option ℕ). IsAligned w (Number Char) place (l.first (class_by_number n) m)) (sym none) (record { times = place; is = omega arith }, first)))

leaf_aligned : (c : ClassId) (hops : List Hop) (n : ℕ) (e : ClassId) (k : ℕ) → IsLeafAt c hops n → last_member e_f (Some c) hops ≡ Some (e, k) → IsAligned (width_of_member e_f e k) (Number Char) (place_along_hops e_f l c hops) (l.first e k)
leaf_aligned c hops n e k leaf last = by_leaf c hops n leaf last
  where
    by_leaf : (c : ClassId) (hops : List Hop) (n : ℕ) → IsLeafAt c hops n → last_member e_f (Some c) hops ≡ Some (e, k) → IsAligned (width_of_member e_f e k) (Number Char) (place_along_hops e_f l c hops) (l.first e k)
    by_leaf c hops _ c_in_e last = char_aligned 0 0 (place_along_hops e_f l c hops) e k refl refl (one_member (last_member e_f (Some c) hops) (class_by_number 0) e 0 k refl last)
    by_leaf c hops _ a_in_f last = char_aligned 1 0 (place_along_hops e_f l c hops) e k refl refl (one_member (last_member e_f (Some c) hops) (class_by_number 1) e 0 k refl last)
    by_leaf c hops _ c_in_f last = char_aligned 0 0 (place_along_hops e_f l c hops) e k refl refl (one_member (last_member e_f (Some c) hops) (class_by_number 0) e 0 k refl last)

object_place : (c d : ClassId) (hops : List Hop) (n : ℕ) → IsObjectAt c d hops n → place_along_hops e_f l c hops ≡ n
object_place _ _ _ _ whole_e = refl
object_place _ _ _ _ whole_f = refl
object_place _ _ _ _ e_in_f = refl

begins_inside : (c d : ClassId) (hops : List Hop) (n : ℕ) → IsObjectAt c d hops n → n < l.size c
begins_inside _ _ _ _ whole_e = omega arith
begins_inside _ _ _ _ whole_f = omega arith
begins_inside _ _ _ _ e_in_f = omega arith

object_multiple : (c d : ClassId) (hops : List Hop) (n : ℕ) → IsObjectAt c d hops n → Divides (l.align d) n
object_multiple _ _ _ _ whole_e = record { times = 0; is = refl }
object_multiple _ _ _ _ whole_f = record { times = 0; is = refl }
object_multiple _ _ _ _ e_in_f = record { times = 1; is = refl }

one_object : (c d b e : ClassId) (hops others : List Hop) (n m : ℕ) → IsObjectAt c d hops n → IsObjectAt b e others m → c.0 ≡ b.0 → d.0 ≡ e.0 → hops ≡ others
one_object _ _ _ _ _ _ _ _ whole_e whole_e same is = refl
one_object _ _ _ _ _ _ _ _ whole_f whole_f same is = refl
one_object _ _ _ _ _ _ _ _ e_in_f e_in_f same is = refl
one_object _ _ _ _ _ _ _ _ _ _ same is = absurd (omega (arith, same, is))

-- the last hop, where it is one into a subobject
abbrev last_base : Option Subobject → List Hop → Option Subobject
last_base s [] = s
last_base s (Inherit t ∷ hops) = last_base (Some t) hops
last_base s (MemberHop m i ∷ hops) = last_base None hops

last_behind : (o : Option Subobject) (front : List Hop) (s : Subobject) → last_base o (front ++ Inherit s ∷ []) ≡ Some s
last_behind o [] s = refl
last_behind o (Inherit t ∷ front) s = last_behind (Some t) front s
last_behind o (MemberHop m i ∷ front) s = last_behind None front s

ends_whole : (c d : ClassId) (hops : List Hop) (n : ℕ) → IsObjectAt c d hops n → last_base None hops ≡ Some (whole_of d)
ends_whole _ _ _ _ whole_e = refl
ends_whole _ _ _ _ whole_f = refl
ends_whole _ _ _ _ e_in_f = refl

no_base : (c d : ClassId) (front : List Hop) (s : Subobject) (n : ℕ) → IsObjectAt c d (front ++ Inherit s ∷ []) n → s ≡ whole_of d
no_base c d front s n is = let k : Some s ≡ Some (whole_of d) = sym (last_behind None front s) ∙ ends_whole c d (front ++ Inherit s ∷ []) n is in cc

spans_apart : (a b r s : Span) → a ≡ r → b ≡ s → AreDisjoint r s → AreDisjoint a b
spans_apart a b r s e f apart = subst (λ (k : Span). AreDisjoint k b) (sym e) (subst (AreDisjoint r) (sym f) apart)

each_class : (P : ClassId → Type 0) → P (class_by_number 0) → P (class_by_number 1) → (c : ClassId) → c.0 < 2 → P c
each_class P a b c lt = by_number c.0 lt
  where
    by_number : (n : ℕ) → n < 2 → P (class_by_number n)
    by_number zero lt = a
    by_number (suc zero) lt = b
    by_number (suc (suc n)) lt = absurd (omega arith)

row_full : (n : ℕ) (c : ClassId) (row : ClassLayout) → c.0 ≡ n → slice_get (e_at_one 1) n ≡ Some row → IsFullRow e_f c row
row_full n c row e there = let first : class_by_number n ≡ c = ap class_by_number (sym e) in subst (λ (x : ClassId). IsFullRow e_f x row) first (by_number n there)
  where
    of : (k : ℕ) (x : ClassLayout) → x ≡ row → IsFullRow e_f (class_by_number k) x → IsFullRow e_f (class_by_number k) row
    of k x same is = subst (IsFullRow e_f (class_by_number k)) same is

    by_number : (k : ℕ) → slice_get (e_at_one 1) k ≡ Some row → IsFullRow e_f (class_by_number k) row
    by_number zero f = of 0 (row_with 1 1 (0 ∷ []) (one_byte ∷ [])) (let same : row_with 1 1 (0 ∷ []) (one_byte ∷ []) ≡ row = cc in same) (record { each_base = refl; virtuals = refl; each_virtual = refl; each_holder = refl; each_member = refl; each_bits = refl })
    by_number (suc zero) f = of 1 (row_with 2 1 (0 ∷ 1 ∷ []) (one_byte ∷ one_byte ∷ [])) (let same : row_with 2 1 (0 ∷ 1 ∷ []) (one_byte ∷ one_byte ∷ []) ≡ row = cc in same) (record { each_base = refl; virtuals = refl; each_virtual = refl; each_holder = refl; each_member = refl; each_bits = refl })
    by_number (suc (suc k)) f = let g : None ≡ Some row = f in cc

-- the layout with E at place 1, and aligned to 1 there, is sound
pub member_at_one : IsSoundLayout e_f (e_at_one 1)
member_at_one = record {
  full = record { one_each = refl; each = λ c row there. row_full c.0 c row refl there };
  each = λ c lt. record {
    direct = λ b e. absurd (each_class (λ (c : ClassId). l.primary c ≡ Direct b → ⊥) (λ g. cc) (λ g. cc) c lt e);
    virtual = λ v e. absurd (each_class (λ (c : ClassId). l.primary c ≡ Virtual v → ⊥) (λ g. cc) (λ g. cc) c lt e);
    holder = λ v has. absurd (no_virtual c v has);
    positive = each_class (λ (c : ClassId). 1 ≤ l.size c) (omega arith) (omega arith) c lt;
    bounded = each_class (λ (c : ClassId). l.size c ≤ 1048576) (omega arith) (omega arith) c lt;
    one_place = λ s t valid e. absurd (each_class (λ (c : ClassId). primary_part l c (whole_of c) ≡ Some t → ⊥) (λ f. cc) (λ f. cc) c lt (ap (primary_part l c) (sym (only_whole c s valid)) ∙ e));
    aligned = λ type hops d m leads last.
        let x = leaves c hops (Value type) type leads refl in
        subst (λ (t : ValueType ClassId). IsAligned (width_of_member e_f d m) t (place_along_hops e_f l c hops) (l.first d m)) (sym x.type_is) (leaf_aligned c hops x.place d m x.is last);
    base_multiple = λ d front s leads proper. let x = objects c d (front ++ Inherit s ∷ []) (Object d) lt leads refl in absurd (proper (no_base c d front s x.place x.is));
    object_multiple = λ d front leads.
        let x = objects c d (front ++ Inherit (whole_of d) ∷ []) (Object d) lt leads refl in
        subst (Divides (l.align d)) (sym (object_place c d (front ++ Inherit (whole_of d) ∷ []) x.place x.is)) (object_multiple c d (front ++ Inherit (whole_of d) ∷ []) x.place x.is);
    leaf_inside = λ type hops leads.
        let x = leaves c hops (Value type) type leads refl in
        let i = leaf_fits c hops x.place x.is in
        subst (λ (s : Span). s.start + s.length ≤ 8 * l.size c) (sym (leaf_bits c hops x.place x.is)) (omega (arith, i));
    pointer_inside = λ d hops dynamic leads. absurd (not_dynamic d dynamic);
    begins_inside = λ d hops leads. let x = objects c d hops (Object d) lt leads refl in let p = object_place c d hops x.place x.is in let i = begins_inside c d hops x.place x.is in omega (arith, p, i);
    leaves_apart = λ type other hops others leads also differ.
        let x = leaves c hops (Value type) type leads refl in
        let y = leaves c others (Value other) other also refl in
        spans_apart (leaf_span e_f l c hops) (leaf_span e_f l c others) (byte_at x.place) (byte_at y.place) (leaf_bits c hops x.place x.is) (leaf_bits c others y.place y.is) (leaves_differ c c hops others x.place y.place x.is y.is refl differ);
    leaf_and_pointer = λ d type hops others dynamic leads also. absurd (not_dynamic d dynamic);
    pointers_apart = λ d e hops others dynamic moves leads also. absurd (not_dynamic d dynamic);
    distinct = λ d hops others leads also same.
        let x = objects c d hops (Object d) lt leads refl in
        let y = objects c d others (Object d) lt also refl in
        one_object c d c d hops others x.place y.place x.is y.is refl refl;
  };
}

-- aligned to 4, E may not lie there
pub align_refused : IsSoundLayout e_f (e_at_one 4) → ⊥
align_refused sound =
    let inner : LeadsTo e_f (class_by_number 0) (whole_hop 0 ∷ []) (Object (class_by_number 0)) = to_subobject (class_by_number 0) (class_by_number 0) (whole_of (class_by_number 0)) (whole [] tt) refl in
    let leads : LeadsTo e_f (class_by_number 1) (whole_hop 1 ∷ MemberHop 1 0 ∷ whole_hop 0 ∷ []) (Object (class_by_number 0)) =
    to_inner (class_by_number 1) (class_by_number 1) (class_by_number 0) (whole_of (class_by_number 1)) 1 0 (whole_hop 0 ∷ []) (Object (class_by_number 0)) (whole [] tt) refl (record { member = member_of (Object (class_by_number 0)); there = refl; type_is = refl; within = omega arith }) inner in
    let multiple : Divides 4 1 = (sound.each (class_by_number 1) (omega arith)).object_multiple (class_by_number 0) (whole_hop 1 ∷ MemberHop 1 0 ∷ []) leads in
    let is = multiple.is in
    absurd (omega (arith, is))
