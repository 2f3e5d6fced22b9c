-- Small layouts that try the laws: one class of two numbers, without bases. Its layout is sound exactly where each number is aligned
-- and inside, and no bit is one of both.
use Rattle.std.proofs.Common.{◌≡◌, ℕ, zero, suc, ◌+◌, ◌*◌, ◌<◌, ◌≤◌, ◌⊎◌, inl, inr, ⊎_elim, Bool, true, false, Option, Some, None, List, [], ◌∷◌, ◌++◌, refl, ap, subst, sym, ◌∙◌, arith}
use Rattle.std.specs.Prelude.{Contains}
use Rattle.std.specs.List.{slice_get}
use Rattle.cxx_hierarchy.specs.declared.records.ClassId.{ClassId}
use Rattle.cxx_hierarchy.specs.declared.records.Base.{Base}
use Rattle.cxx_hierarchy.specs.declared.records.Member.{Member}
use Rattle.cxx_hierarchy.specs.declared.records.Destructor.TheVariants.{Implicit}
use Rattle.cxx_hierarchy.specs.declared.records.Scalar.TheVariants.{Char, Int}
use Rattle.cxx_hierarchy.specs.declared.records.ValueType.{ValueType}
use Rattle.cxx_hierarchy.specs.declared.records.ValueType.TheVariants.{Number}
use Rattle.cxx_hierarchy.specs.declared.records.FieldType.{FieldType}
use Rattle.cxx_hierarchy.specs.declared.records.FieldType.TheVariants.{Value, Object}
use Rattle.cxx_hierarchy.specs.Classes.{Class, Classes, bases_in, members_in, width_of_member}
use Rattle.cxx_hierarchy.specs.Declarations.{elements_of, has_virtual_function}
use Rattle.cxx_hierarchy.specs.VirtualBases.{IsDirectBase, HasVirtualBase, direct, further}
use Rattle.cxx_subobject.specs.declared.locations.Hop.{Hop}
use Rattle.cxx_subobject.specs.declared.locations.Hop.TheVariants.{Inherit, Member as MemberHop}
use Rattle.cxx_subobject.specs.declared.Subobject.{Subobject}
use Rattle.cxx_subobject.specs.Locations.{IsElement, LeadsTo, to_subobject, to_value, to_inner}
use Rattle.cxx_subobject.specs.Subobjects.{whole, shared, whole_of, IsSubobject, class_of}
use Rattle.abi_primary.specs.declared.Primary.TheVariants.{None as NoPrimary}
use Rattle.abi_primary.specs.Kinds.{IsDynamic, declares, shares, inherits}
use Rattle.abi_sound.specs.declared.class_layout.Bits.{Bits}
use Rattle.abi_sound.specs.declared.class_layout.ClassLayout.{ClassLayout}
use Rattle.abi_sound.specs.Places.{Places, places_of}
use Rattle.abi_sound.specs.Locations.{place_along_hops, last_member, Span, AreDisjoint, bits_of_value, leaf_span}
use Rattle.abi_sound.specs.Chains.{primary_part}
use Rattle.abi_sound.specs.Sound.{IsAligned, IsFullRow, IsSoundClass, IsSoundLayout}
use Rattle.abi_sound.proofs.LeafSpans.{last_element, one_member}

-- a number that the class has: its type, how wide it is where it is a bit-field, and where it lies
pub record Field : Type 0 where
  pub type : ValueType ClassId
  pub width : Option ℕ
  pub place : ℕ
  pub first : ℕ

abbrev member_of : Field → Member ClassId
member_of x = record { name = []; ty = Value x.type; count = None; width = x.width; width_at = 0; is_public = true; at = 0 }

abbrev span_of_field : Field → Span
span_of_field x = record { start = 8 * x.place + x.first; length = bits_of_value x.width x.type }

abbrev bits_of_field : Field → Bits
bits_of_field x = record { first = x.first; width = bits_of_value x.width x.type }

abbrev the_class : ClassId
the_class = record { 0 = 0 }

abbrev pub class_with : Field → Field → Class
class_with x y = record { name = []; at = 0; bases = []; members = member_of x ∷ member_of y ∷ []; functions = []; order = []; has_constructor = false; destructor = Implicit }

abbrev pub classes_with : Field → Field → Classes
classes_with x y = class_with x y ∷ []

-- a layout of it of this size, aligned to 4
abbrev pub row_with : ℕ → Field → Field → ClassLayout
row_with size x y = record { size = size; align = 4; dsize = size; nvsize = size; nvalign = 4; primary = NoPrimary; base_places = []; virtual_bases = []; virtual_places = []; holders = []; member_places = x.place ∷ y.place ∷ []; member_bits = bits_of_field x ∷ bits_of_field y ∷ [] }

abbrev pub rows_with : ℕ → Field → Field → List ClassLayout
rows_with size x y = row_with size x y ∷ []

-- the number is aligned and inside
pub record IsInPlace (size : ℕ) (x : Field) : Type 0 where
  pub aligned : IsAligned x.width x.type x.place x.first
  pub inside : (span_of_field x).start + (span_of_field x).length ≤ 8 * size

abbrev hops_to : ClassId → ℕ → List Hop
hops_to c m = Inherit (whole_of c) ∷ MemberHop m 0 ∷ []

-- hops are those to the member m, which is this number
record IsLeafAt (c : ClassId) (hops : List Hop) (type : ValueType ClassId) (m : ℕ) (x : Field) : Type 0 where
  hops_are : hops ≡ hops_to c m
  type_is : type ≡ x.type

-- an element is this number
record IsMember (m i : ℕ) (type : FieldType ClassId) (number : ℕ) (x : Field) : Type 0 where
  member : m ≡ number
  index : i ≡ 0
  type_is : type ≡ Value x.type

ends_so : (front : List Hop) (s w : Subobject) → (front ++ Inherit s ∷ []) ≡ (Inherit w ∷ []) → s ≡ w
ends_so [] s w e = cc
ends_so (x ∷ front) s w e = let f : front ++ Inherit s ∷ [] ≡ [] = cc in absurd (none front f)
  where
    none : (hops : List Hop) → hops ++ Inherit s ∷ [] ≡ [] → ⊥
    none [] f = cc
    none (y ∷ hops) f = cc

-- what holds of the one class holds of each
first_class : (P : ClassId → Type 0) → P the_class → (c : ClassId) → c.0 < 1 → P c
first_class P p c lt = let z : 0 ≡ c.0 = omega (arith, lt) in let e : the_class ≡ c = ap (λ n. let x : ClassId = record { 0 = n } in x) z in subst P e p

module _ (size : ℕ) (x y : Field) where
  abbrev h : Classes
  h = classes_with x y

  abbrev l : Places
  l = places_of (classes_with x y) (rows_with size x y)

  no_bases : (n : ℕ) → bases_in (slice_get (classes_with x y) n) ≡ []
  no_bases zero = refl
  no_bases (suc n) = refl

  no_edge : (c b : ClassId) (way : Bool) → IsDirectBase (classes_with x y) c way b → ⊥
  no_edge c b way edge = let k : Contains [] edge.base = subst (λ (xs : List (Base ClassId)). Contains xs edge.base) (no_bases c.0) edge.listed in let lt = k.1 in absurd (omega (arith, lt))

  no_virtual : (c v : ClassId) → HasVirtualBase (classes_with x y) c v → ⊥
  no_virtual _ _ (direct c v edge) = no_edge c v true edge
  no_virtual _ _ (further c b v way edge rest) = no_edge c b way edge

  only_whole : (c : ClassId) (s : Subobject) → IsSubobject (classes_with x y) c s → s ≡ whole_of c
  only_whole c _ (whole [] l) = refl
  only_whole c _ (whole (b ∷ path) l) = absurd (no_edge c b false l.0)
  only_whole c _ (shared v path has l) = absurd (no_virtual c v has)

  by_class : (class : Class) (n : ℕ) → slice_get (classes_with x y) n ≡ Some class → has_virtual_function class ≡ true → ⊥
  by_class class zero e says = let same : class_with x y ≡ class = cc in let t : false ≡ true = ap has_virtual_function same ∙ says in cc
  by_class class (suc n) e says = let k : None ≡ Some class = e in cc

  not_dynamic : (c : ClassId) → IsDynamic (classes_with x y) c → ⊥
  not_dynamic _ (declares c class there says) = by_class class c.0 there says
  not_dynamic _ (shares c b edge) = no_edge c b true edge
  not_dynamic _ (inherits c b way edge rest) = no_edge c b way edge

  -- an element is one of both numbers
  members : (d : ClassId) (m i : ℕ) (type : FieldType ClassId) → IsElement (classes_with x y) d m i type → IsMember m i type 0 x ⊎ IsMember m i type 1 y
  members d m i type e = by_number d.0 e.there
    where
      of : (z : Field) (number : ℕ) → member_of z ≡ e.member → m ≡ number → IsMember m i type number z
      of z number same is =
          let within : i < elements_of (member_of z).count = subst (λ (k : Member ClassId). i < elements_of k.count) (sym same) e.within in
          record { member = is; index = omega (arith, within); type_is = sym e.type_is ∙ ap (λ (k : Member ClassId). k.ty) (sym same) }

      by_member : (n : ℕ) → m ≡ n → slice_get (class_with x y).members n ≡ Some e.member → IsMember m i type 0 x ⊎ IsMember m i type 1 y
      by_member zero is f = let same : member_of x ≡ e.member = cc in inl (of x 0 same is)
      by_member (suc zero) is f = let same : member_of y ≡ e.member = cc in inr (of y 1 same is)
      by_member (suc (suc n)) is f = let k : None ≡ Some e.member = f in cc

      by_number : (n : ℕ) → slice_get (members_in (slice_get (classes_with x y) n)) m ≡ Some e.member → IsMember m i type 0 x ⊎ IsMember m i type 1 y
      by_number zero f = by_member m refl f
      by_number (suc n) f = let k : None ≡ Some e.member = f in cc

  leaf_of : (c : ClassId) (s : Subobject) (m i : ℕ) (type : ValueType ClassId) (number : ℕ) (z : Field) → s ≡ whole_of c → IsMember m i (Value type) number z → IsLeafAt c (Inherit s ∷ MemberHop m i ∷ []) type number z
  leaf_of c s m i type number z same k = record {
    hops_are = ap (λ (t : Subobject). Inherit t ∷ MemberHop m i ∷ []) same ∙ (ap (λ j. Inherit (whole_of c) ∷ MemberHop m j ∷ []) k.index ∙ ap (hops_to c) k.member);
    type_is = let e = k.type_is in cc;
  }

  no_object : (d e : ClassId) (m i : ℕ) → IsElement (classes_with x y) d m i (Object e) → ⊥
  no_object d e m i is = ⊎_elim (λ k. let f = k.type_is in cc) (λ k. let f = k.type_is in cc) (members d m i (Object e) is)

  leaves : (c : ClassId) (hops : List Hop) (t : FieldType ClassId) (type : ValueType ClassId) → LeadsTo (classes_with x y) c hops t → t ≡ Value type → IsLeafAt c hops type 0 x ⊎ IsLeafAt c hops type 1 y
  leaves _ _ _ type (to_subobject c d s valid class) e = let f : Object d ≡ Value type = e in cc
  leaves _ _ _ type (to_value c d s m i t valid class element) e =
      let same : t ≡ type = cc in
      let is = only_whole c s valid in
      ⊎_elim (λ k. inl (leaf_of c s m i type 0 x is k)) (λ k. inr (leaf_of c s m i type 1 y is k))
      (members d m i (Value type) (subst (λ (k : ValueType ClassId). IsElement (classes_with x y) d m i (Value k)) same element))
  leaves _ _ _ type (to_inner c d e s m i hops t valid class element rest) f = absurd (no_object d e m i element)

  objects : (c d : ClassId) (hops : List Hop) (t : FieldType ClassId) → LeadsTo (classes_with x y) c hops t → t ≡ Object d → (hops ≡ Inherit (whole_of c) ∷ []) × (d ≡ c)
  objects _ d _ _ (to_subobject c e s valid class) f =
      let is = only_whole c s valid in
      let one : Some c ≡ Some e = sym (ap class_of is) ∙ class in
      let two : e ≡ d = cc in
      (ap (λ (k : Subobject). Inherit k ∷ []) is, let same : c ≡ e = cc in cc)
  objects _ d _ _ (to_value c e s m i t valid class element) f = let k : Value t ≡ Object d = f in cc
  objects _ d _ _ (to_inner c e k s m i hops t valid class element rest) f = absurd (no_object e k m i element)

  -- where the numbers lie
  abbrev LiesAt : ClassId → ℕ → Field → Type 0
  LiesAt c m z = (place_along_hops h l c (hops_to c m) ≡ z.place) × (leaf_span h l c (hops_to c m) ≡ span_of_field z)

  lie_first : LiesAt the_class 0 x
  lie_first = (omega arith, ap (λ n. let s : Span = record { start = n; length = bits_of_value x.width x.type } in s) (omega arith))

  lie_second : LiesAt the_class 1 y
  lie_second = (omega arith, ap (λ n. let s : Span = record { start = n; length = bits_of_value y.width y.type } in s) (omega arith))

  place_of_leaf : (c : ClassId) (hops : List Hop) (type : ValueType ClassId) (m : ℕ) (z : Field) → IsLeafAt c hops type m z → LiesAt c m z → place_along_hops h l c hops ≡ z.place
  place_of_leaf c hops type m z k at = ap (place_along_hops h l c) k.hops_are ∙ at.0

  span_of_leaf : (c : ClassId) (hops : List Hop) (type : ValueType ClassId) (m : ℕ) (z : Field) → IsLeafAt c hops type m z → LiesAt c m z → leaf_span h l c hops ≡ span_of_field z
  span_of_leaf c hops type m z k at = ap (leaf_span h l c) k.hops_are ∙ at.1

  apart_as : (a b r s : Span) → a ≡ r → b ≡ s → AreDisjoint r s → AreDisjoint a b
  apart_as a b r s e f apart = subst (λ (k : Span). AreDisjoint k b) (sym e) (subst (AreDisjoint r) (sym f) apart)

  turned : (a b : Span) → AreDisjoint a b → AreDisjoint b a
  turned a b apart = ⊎_elim inr inl apart

  place_whole : (c : ClassId) (d : ClassId) (hops : List Hop) → c.0 < 1 → LeadsTo h c hops (Object d) → place_along_hops h l c hops ≡ 0
  place_whole c d hops lt leads =
      ap (place_along_hops h l c) (objects c d hops (Object d) leads refl).0
      ∙ first_class (λ (k : ClassId). place_along_hops h l k (Inherit (whole_of k) ∷ []) ≡ 0) refl c lt

  width_of : (c : ClassId) (hops : List Hop) (type : ValueType ClassId) (n : ℕ) (z : Field) → IsLeafAt c hops type n z → LiesAt c n z → IsInPlace size z → (w : Option ℕ) (first : ℕ) → w ≡ z.width → first ≡ z.first → IsAligned w type (place_along_hops h l c hops) first
  width_of c hops type n z k at is w first e f =
      subst (λ (v : Option ℕ). IsAligned v type (place_along_hops h l c hops) first) (sym e)
      (subst (λ (t : ValueType ClassId). IsAligned z.width t (place_along_hops h l c hops) first) (sym k.type_is)
      (subst (λ (p : ℕ). IsAligned z.width z.type p first) (sym (place_of_leaf c hops type n z k at))
      (subst (λ (b : ℕ). IsAligned z.width z.type z.place b) (sym f) is.aligned)))

  -- the one class keeps the laws
  class_is_sound : 1 ≤ size → size ≤ 1048576 → IsInPlace size x → IsInPlace size y → AreDisjoint (span_of_field x) (span_of_field y) → IsSoundClass h l the_class
  class_is_sound some few left right apart = record {
    direct = λ b e. cc;
    virtual = λ v e. cc;
    holder = λ v has. absurd (no_virtual the_class v has);
    positive = some;
    bounded = few;
    one_place = λ s t valid e. let k : None ≡ Some t = sym (ap (primary_part l the_class) (only_whole the_class s valid)) ∙ e in cc;
    aligned = λ type hops d m leads last. ⊎_elim
        (λ k. of_number d m type hops 0 x k lie_first left (one_member (last_member h (Some the_class) hops) d the_class m 0 last (ap (last_member h (Some the_class)) k.hops_are ∙ last_element h (Some the_class) the_class (whole_of the_class) 0 0 refl)) refl refl)
        (λ k. of_number d m type hops 1 y k lie_second right (one_member (last_member h (Some the_class) hops) d the_class m 1 last (ap (last_member h (Some the_class)) k.hops_are ∙ last_element h (Some the_class) the_class (whole_of the_class) 1 0 refl)) refl refl)
        (leaves the_class hops (Value type) type leads refl);
    base_multiple = λ d front s leads proper.
        let k = objects the_class d (front ++ Inherit s ∷ []) (Object d) leads refl in
        absurd (proper (ends_so front s (whole_of the_class) k.0 ∙ ap whole_of (sym k.1)));
    object_multiple = λ d front leads. let p = place_whole the_class d (front ++ Inherit (whole_of d) ∷ []) (omega arith) leads in record { times = 0; is = omega (arith, p) };
    leaf_inside = λ type hops leads. ⊎_elim
        (λ k. subst (λ (s : Span). s.start + s.length ≤ 8 * size) (sym (span_of_leaf the_class hops type 0 x k lie_first)) left.inside)
        (λ k. subst (λ (s : Span). s.start + s.length ≤ 8 * size) (sym (span_of_leaf the_class hops type 1 y k lie_second)) right.inside)
        (leaves the_class hops (Value type) type leads refl);
    pointer_inside = λ d hops dynamic leads. absurd (not_dynamic d dynamic);
    begins_inside = λ d hops leads. let p = place_whole the_class d hops (omega arith) leads in omega (arith, p, some);
    leaves_apart = λ type other hops others leads also differ. ⊎_elim
        (λ k. ⊎_elim
        (λ j. absurd (differ (k.hops_are ∙ sym j.hops_are)))
        (λ j. apart_as (leaf_span h l the_class hops) (leaf_span h l the_class others) (span_of_field x) (span_of_field y) (span_of_leaf the_class hops type 0 x k lie_first) (span_of_leaf the_class others other 1 y j lie_second) apart)
        (leaves the_class others (Value other) other also refl))
        (λ k. ⊎_elim
        (λ j. apart_as (leaf_span h l the_class hops) (leaf_span h l the_class others) (span_of_field y) (span_of_field x) (span_of_leaf the_class hops type 1 y k lie_second) (span_of_leaf the_class others other 0 x j lie_first) (turned (span_of_field x) (span_of_field y) apart))
        (λ j. absurd (differ (k.hops_are ∙ sym j.hops_are)))
        (leaves the_class others (Value other) other also refl))
        (leaves the_class hops (Value type) type leads refl);
    leaf_and_pointer = λ d type hops others dynamic leads also. absurd (not_dynamic d dynamic);
    pointers_apart = λ d e hops others dynamic moves leads also. absurd (not_dynamic d dynamic);
    distinct = λ d hops others leads also same. (objects the_class d hops (Object d) leads refl).0 ∙ sym (objects the_class d others (Object d) also refl).0;
  }
    where
      of_number : (d : ClassId) (m : ℕ) (type : ValueType ClassId) (hops : List Hop) (n : ℕ) (z : Field) (k : IsLeafAt the_class hops type n z) → LiesAt the_class n z → IsInPlace size z → (d ≡ the_class) × (m ≡ n)
          → width_of_member h the_class n ≡ z.width → l.first the_class n ≡ z.first → IsAligned (width_of_member h d m) type (place_along_hops h l the_class hops) (l.first d m)
      of_number d m type hops n z k at is same w f =
          let class : d ≡ the_class = same.0 in
          let number : m ≡ n = same.1 in
          width_of the_class hops type n z k at is (width_of_member h d m) (l.first d m)
          (ap (λ (q : ClassId). width_of_member h q m) class ∙ (ap (width_of_member h the_class) number ∙ w))
          (ap (λ (q : ClassId). l.first q m) class ∙ (ap (l.first the_class) number ∙ f))

  full_row : IsFullRow h the_class (row_with size x y)
  full_row = record { each_base = refl; virtuals = refl; each_virtual = refl; each_holder = refl; each_member = refl; each_bits = refl }

  row_of : (c : ClassId) (row : ClassLayout) (n : ℕ) → c.0 ≡ n → slice_get (rows_with size x y) n ≡ Some row → IsFullRow h c row
  row_of c row zero e there =
      let same : row_with size x y ≡ row = cc in
      let first : the_class ≡ c = ap (λ n. let k : ClassId = record { 0 = n } in k) (sym e) in
      subst (λ (k : ClassId). IsFullRow h k row) first (subst (IsFullRow h the_class) same full_row)
  row_of c row (suc n) e there = let k : None ≡ Some row = there in cc

  pub pair_is_sound : 1 ≤ size → size ≤ 1048576 → IsInPlace size x → IsInPlace size y → AreDisjoint (span_of_field x) (span_of_field y) → IsSoundLayout h (rows_with size x y)
  pair_is_sound some few left right apart = record {
    full = record { one_each = refl; each = λ c row there. row_of c row c.0 refl there };
    each = λ c lt. first_class (IsSoundClass h l) (class_is_sound some few left right apart) c lt;
  }

  first_leads : LeadsTo h the_class (hops_to the_class 0) (Value x.type)
  first_leads = to_value the_class the_class (whole_of the_class) 0 0 x.type (whole [] tt) refl (record { member = member_of x; there = refl; type_is = refl; within = omega arith })

  second_leads : LeadsTo h the_class (hops_to the_class 1) (Value y.type)
  second_leads = to_value the_class the_class (whole_of the_class) 1 0 y.type (whole [] tt) refl (record { member = member_of y; there = refl; type_is = refl; within = omega arith })

  -- a sound layout has them apart
  pub pair_is_apart : IsSoundLayout h (rows_with size x y) → AreDisjoint (span_of_field x) (span_of_field y)
  pair_is_apart sound =
      subst (λ (s : Span). AreDisjoint s (span_of_field y)) lie_first.1
      (subst (AreDisjoint (leaf_span h l the_class (hops_to the_class 0))) lie_second.1
      ((sound.each the_class (omega arith)).leaves_apart x.type y.type (hops_to the_class 0) (hops_to the_class 1) first_leads second_leads (λ e. cc)))

  -- and a sound layout has the second one aligned
  pub second_is_aligned : IsSoundLayout h (rows_with size x y) → IsAligned y.width y.type y.place y.first
  second_is_aligned sound =
      subst (λ (p : ℕ). IsAligned y.width y.type p y.first) lie_second.0
      ((sound.each the_class (omega arith)).aligned y.type (hops_to the_class 1) the_class 1 second_leads refl)

abbrev number : ValueType ClassId → ℕ → Field
number type place = record { type = type; width = None; place = place; first = 0 }

abbrev bit_field : ℕ → ℕ → ℕ → Field
bit_field width place first = record { type = Number Int; width = Some width; place = place; first = first }

-- `struct P { int x; char c; }` of 9 bytes, which are no multiple of 4, is sound
pub nine_bytes : IsSoundLayout (classes_with (number (Number Int) 0) (number (Number Char) 8)) (rows_with 9 (number (Number Int) 0) (number (Number Char) 8))
nine_bytes = pair_is_sound 9 (number (Number Int) 0) (number (Number Char) 8) (omega arith) (omega arith)
    (record { aligned = (record { times = 0; is = refl }, refl); inside = omega arith })
    (record { aligned = (record { times = 8; is = refl }, refl); inside = omega arith })
    (inl (omega arith))

-- with the `char` in the last byte of the `int` it is none
pub overlap_refused : IsSoundLayout (classes_with (number (Number Int) 0) (number (Number Char) 3)) (rows_with 9 (number (Number Int) 0) (number (Number Char) 3)) → ⊥
overlap_refused sound = ⊎_elim (λ a. absurd (omega (arith, a))) (λ a. absurd (omega (arith, a))) (pair_is_apart 9 (number (Number Int) 0) (number (Number Char) 3) sound)

-- `struct B { int a : 3; int b : 5; }` with both in one byte is sound, also behind a byte that no bit of them is in
pub one_byte : IsSoundLayout (classes_with (bit_field 3 1 0) (bit_field 5 1 3)) (rows_with 4 (bit_field 3 1 0) (bit_field 5 1 3))
one_byte = pair_is_sound 4 (bit_field 3 1 0) (bit_field 5 1 3) (omega arith) (omega arith)
    (record { aligned = (omega arith, omega arith); inside = omega arith })
    (record { aligned = (omega arith, omega arith); inside = omega arith })
    (inl (omega arith))

-- with one bit in both it is none
pub shared_bit_refused : IsSoundLayout (classes_with (bit_field 3 0 0) (bit_field 5 0 2)) (rows_with 4 (bit_field 3 0 0) (bit_field 5 0 2)) → ⊥
shared_bit_refused sound = ⊎_elim (λ a. absurd (omega (arith, a))) (λ a. absurd (omega (arith, a))) (pair_is_apart 4 (bit_field 3 0 0) (bit_field 5 0 2) sound)

-- nor is it one where a bit-field begins behind the byte at its place
pub late_bit_refused : IsSoundLayout (classes_with (bit_field 3 0 0) (bit_field 5 0 8)) (rows_with 4 (bit_field 3 0 0) (bit_field 5 0 8)) → ⊥
late_bit_refused sound = let low = (second_is_aligned 4 (bit_field 3 0 0) (bit_field 5 0 8) sound).0 in absurd (omega (arith, low))
