-- A small layout with a virtual pointer at 12: `struct N { int n; }; struct V { virtual void f(); int v; }; struct D : N, V {};`,
-- all aligned to 4. It keeps the laws.
use Rattle.std.proofs.Common.{◌≡◌, ℕ, zero, suc, ◌+◌, ◌*◌, ◌<◌, ◌≤◌, ◌⊎◌, inl, inr, ⊎_elim, Bool, true, false, Option, Some, None, List, [], ◌∷◌, ◌++◌, refl, ap, subst, sym, ◌∙◌, arith}
use Rattle.std.specs.Prelude.{Contains}
use Rattle.std.specs.List.{slice_get}
use Rattle.cxx_hierarchy.specs.declared.records.ClassId.{ClassId}
use Rattle.cxx_hierarchy.specs.declared.records.Base.{Base}
use Rattle.cxx_hierarchy.specs.declared.records.Function.{Function}
use Rattle.cxx_hierarchy.specs.declared.records.Member.{Member}
use Rattle.cxx_hierarchy.specs.declared.records.Destructor.TheVariants.{Implicit}
use Rattle.cxx_hierarchy.specs.declared.records.ReturnType.TheVariants.{Void}
use Rattle.cxx_hierarchy.specs.declared.records.Scalar.TheVariants.{Int}
use Rattle.cxx_hierarchy.specs.declared.records.ValueType.{ValueType}
use Rattle.cxx_hierarchy.specs.declared.records.ValueType.TheVariants.{Number}
use Rattle.cxx_hierarchy.specs.declared.records.FieldType.{FieldType}
use Rattle.cxx_hierarchy.specs.declared.records.FieldType.TheVariants.{Value, Object}
use Rattle.cxx_hierarchy.specs.Classes.{Class, Classes, bases_in, members_in, width_of_member, class_by_number}
use Rattle.cxx_hierarchy.specs.Declarations.{elements_of, has_virtual_function}
use Rattle.cxx_hierarchy.specs.VirtualBases.{IsDirectBase, HasVirtualBase, direct, further}
use Rattle.cxx_subobject.specs.declared.locations.Hop.{Hop}
use Rattle.cxx_subobject.specs.declared.locations.Hop.TheVariants.{Inherit, Member as MemberHop}
use Rattle.cxx_subobject.specs.declared.Root.TheVariants.{Whole}
use Rattle.cxx_subobject.specs.declared.Subobject.{Subobject}
use Rattle.cxx_subobject.specs.Locations.{IsElement, LeadsTo, to_subobject, to_value, to_inner}
use Rattle.cxx_subobject.specs.Subobjects.{Leads, whole, shared, subobject, whole_of, IsSubobject, class_of}
use Rattle.foundation.proofs.Places.{place_of as listed_at}
use Rattle.abi_primary.specs.declared.Primary.TheVariants.{None as NoPrimary, Direct, Virtual}
use Rattle.abi_primary.specs.Kinds.{IsDynamic, declares, shares, inherits}
use Rattle.abi_sound.specs.declared.class_layout.Bits.{Bits}
use Rattle.abi_sound.specs.declared.class_layout.ClassLayout.{ClassLayout}
use Rattle.abi_sound.specs.Places.{places_of, size_of_value}
use Rattle.abi_sound.specs.Locations.{place_along_hops, last_member, Span, AreDisjoint, leaf_span}
use Rattle.abi_sound.specs.Chains.{primary_part, itself, ShareChain, downwards}
use Rattle.abi_sound.specs.Sound.{Divides, IsAligned, IsFullRow, IsSoundLayout}
use Rattle.abi_sound.proofs.LeafSpans.{last_element, one_member}

abbrev int : ValueType ClassId
int = Number Int

abbrev an_int : Member ClassId
an_int = record { name = []; ty = Value int; count = None; width = None; width_at = 0; is_public = true; at = 0 }

abbrev a_function : Function ClassId
a_function = record { name = []; params = []; ret = Void; is_virtual = true; is_pure = false; at = 0 }

abbrev base_of : ℕ → Base ClassId
base_of n = record { class = class_by_number n; is_virtual = false; is_public = true; at = 0 }

abbrev class_with : List (Base ClassId) → List (Member ClassId) → List (Function ClassId) → Class
class_with bases members functions = record { name = []; at = 0; bases = bases; members = members; functions = functions; order = []; has_constructor = false; destructor = Implicit }

abbrev pub n_v_d : Classes
n_v_d = class_with [] (an_int ∷ []) [] ∷ class_with [] (an_int ∷ []) (a_function ∷ []) ∷ class_with (base_of 0 ∷ base_of 1 ∷ []) [] [] ∷ []

abbrev int_bits : Bits
int_bits = record { first = 0; width = 32 }

abbrev row_of : ℕ → List ℕ → List ℕ → List Bits → ClassLayout
row_of size bases members bits = record { size = size; align = 4; dsize = size; nvsize = size; nvalign = 4; primary = NoPrimary; base_places = bases; virtual_bases = []; virtual_places = []; holders = []; member_places = members; member_bits = bits }

-- N of 4 bytes; V of 12, its pointer first; D of 24: its pointer, N at 8, V at 12
abbrev pub packed : List ClassLayout
packed = row_of 4 [] (0 ∷ []) (int_bits ∷ []) ∷ row_of 12 [] (8 ∷ []) (int_bits ∷ []) ∷ row_of 24 (8 ∷ 12 ∷ []) [] [] ∷ []

-- D's bases are the only edges
data IsEdge : ClassId → Bool → ClassId → Type 0 where
  to_n : IsEdge (class_by_number 2) false (class_by_number 0)
  to_v : IsEdge (class_by_number 2) false (class_by_number 1)

edges : (c b : ClassId) (way : Bool) → IsDirectBase n_v_d c way b → IsEdge c way b
edges c b way edge = by_number c.0 refl edge.listed
  where
    is_edge : (x : Base ClassId) → IsEdge (class_by_number 2) false x.class → c.0 ≡ 2 → x ≡ edge.base → x.is_virtual ≡ false → IsEdge c way b
    is_edge x e two same plain =
        let first : class_by_number 2 ≡ c = ap class_by_number (sym two) in
        let class : x.class ≡ b = ap (λ (y : Base ClassId). y.class) same ∙ edge.class in
        let kind : false ≡ way = sym plain ∙ (ap (λ (y : Base ClassId). y.is_virtual) same ∙ edge.way) in
        subst (λ (y : ClassId). IsEdge y way b) first (subst (λ (y : ClassId). IsEdge (class_by_number 2) way y) class (subst (λ w. IsEdge (class_by_number 2) w x.class) kind e))

    by_place : (k : ℕ) → c.0 ≡ 2 → slice_get (base_of 0 ∷ base_of 1 ∷ []) k ≡ Some edge.base → IsEdge c way b
    by_place zero two e = is_edge (base_of 0) to_n two (let same : base_of 0 ≡ edge.base = cc in same) refl
    by_place (suc zero) two e = is_edge (base_of 1) to_v two (let same : base_of 1 ≡ edge.base = cc in same) refl
    by_place (suc (suc k)) two e = let g : None ≡ Some edge.base = e in cc

    by_number : (n : ℕ) → c.0 ≡ n → Contains (bases_in (slice_get n_v_d n)) edge.base → IsEdge c way b
    by_number zero e k = let lt = k.1 in absurd (omega (arith, lt))
    by_number (suc zero) e k = let lt = k.1 in absurd (omega (arith, lt))
    by_number (suc (suc zero)) e k = let r = listed_at (base_of 0 ∷ base_of 1 ∷ []) edge.base k in by_place r.0 e r.1
    by_number (suc (suc (suc n))) e k = let lt = k.1 in absurd (omega (arith, lt))

from_d : (c b : ClassId) (way : Bool) → IsEdge c way b → c.0 ≡ 2
from_d _ _ _ to_n = refl
from_d _ _ _ to_v = refl

is_plain : (c b : ClassId) (way : Bool) → IsEdge c way b → way ≡ false
is_plain _ _ _ to_n = refl
is_plain _ _ _ to_v = refl

no_virtual : (c v : ClassId) → HasVirtualBase n_v_d c v → ⊥
no_virtual _ _ (direct c v edge) = let k : true ≡ false = is_plain c v true (edges c v true edge) in cc
no_virtual _ _ (further c b v way edge rest) = no_virtual b v rest

-- the class subobjects of each class, with their places
data IsSpot : ClassId → Subobject → ClassId → ℕ → Type 0 where
  whole_n : IsSpot (class_by_number 0) (whole_of (class_by_number 0)) (class_by_number 0) 0
  whole_v : IsSpot (class_by_number 1) (whole_of (class_by_number 1)) (class_by_number 1) 0
  whole_d : IsSpot (class_by_number 2) (whole_of (class_by_number 2)) (class_by_number 2) 0
  n_in_d : IsSpot (class_by_number 2) (subobject Whole (class_by_number 2 ∷ class_by_number 0 ∷ [])) (class_by_number 0) 8
  v_in_d : IsSpot (class_by_number 2) (subobject Whole (class_by_number 2 ∷ class_by_number 1 ∷ [])) (class_by_number 1) 12

record HasSpot (c : ClassId) (s : Subobject) : Type 0 where
  class : ClassId
  place : ℕ
  is : IsSpot c s class place

whole_spot : (n : ℕ) → n < 3 → HasSpot (class_by_number n) (whole_of (class_by_number n))
whole_spot zero lt = record { class = class_by_number 0; place = 0; is = whole_n }
whole_spot (suc zero) lt = record { class = class_by_number 1; place = 0; is = whole_v }
whole_spot (suc (suc zero)) lt = record { class = class_by_number 2; place = 0; is = whole_d }
whole_spot (suc (suc (suc n))) lt = absurd (omega arith)

base_spot : (c b : ClassId) (way : Bool) (path : List ClassId) → IsEdge c way b → Leads n_v_d b path → HasSpot c (subobject Whole (c ∷ b ∷ path))
base_spot _ _ _ [] to_n l = record { class = class_by_number 0; place = 8; is = n_in_d }
base_spot _ _ _ [] to_v l = record { class = class_by_number 1; place = 12; is = v_in_d }
base_spot _ _ _ (e ∷ path) to_n l = let two = from_d (class_by_number 0) e false (edges (class_by_number 0) e false l.0) in absurd (omega (arith, two))
base_spot _ _ _ (e ∷ path) to_v l = let two = from_d (class_by_number 1) e false (edges (class_by_number 1) e false l.0) in absurd (omega (arith, two))

spot : (c : ClassId) (s : Subobject) → c.0 < 3 → IsSubobject n_v_d c s → HasSpot c s
spot c _ lt (whole [] l) = whole_spot c.0 lt
spot c _ lt (whole (b ∷ path) l) = base_spot c b false path (edges c b false l.0) l.1
spot c _ lt (shared v path has l) = absurd (no_virtual c v has)

class_is : (c : ClassId) (s : Subobject) (d : ClassId) (n : ℕ) → IsSpot c s d n → class_of s ≡ Some d
class_is _ _ _ _ whole_n = refl
class_is _ _ _ _ whole_v = refl
class_is _ _ _ _ whole_d = refl
class_is _ _ _ _ n_in_d = refl
class_is _ _ _ _ v_in_d = refl

spot_place : (c : ClassId) (s : Subobject) (d : ClassId) (n : ℕ) → IsSpot c s d n → place_along_hops n_v_d (places_of n_v_d packed) c (Inherit s ∷ []) ≡ n
spot_place _ _ _ _ whole_n = refl
spot_place _ _ _ _ whole_v = refl
spot_place _ _ _ _ whole_d = refl
spot_place _ _ _ _ n_in_d = refl
spot_place _ _ _ _ v_in_d = refl

not_n : (d : ClassId) → IsDynamic n_v_d d → d.0 ≡ 0 → ⊥
not_n _ (declares c class there says) e =
    let k : Some (class_with [] (an_int ∷ []) []) ≡ Some class = sym (ap (slice_get n_v_d) e) ∙ there in
    let same : class_with [] (an_int ∷ []) [] ≡ class = cc in
    let t : false ≡ true = ap has_virtual_function same ∙ says in cc
not_n _ (shares c b edge) e = let two = from_d c b true (edges c b true edge) in absurd (omega (arith, e, two))
not_n _ (inherits c b way edge rest) e = let two = from_d c b way (edges c b way edge) in absurd (omega (arith, e, two))

-- a member is the `int` of N or that of V
record IsInt (d : ClassId) (m i : ℕ) (type : FieldType ClassId) : Type 0 where
  class : d.0 < 2
  member : m ≡ 0
  index : i ≡ 0
  type_is : type ≡ Value int

ints : (d : ClassId) (m i : ℕ) (type : FieldType ClassId) → IsElement n_v_d d m i type → IsInt d m i type
ints d m i type e = by_number d.0 refl e.there
  where
    by_member : (k : ℕ) → d.0 < 2 → m ≡ k → slice_get (an_int ∷ []) k ≡ Some e.member → IsInt d m i type
    by_member zero lt is there =
        let same : an_int ≡ e.member = cc in
        let within : i < elements_of an_int.count = subst (λ (x : Member ClassId). i < elements_of x.count) (sym same) e.within in
        record { class = lt; member = is; index = omega (arith, within); type_is = sym e.type_is ∙ ap (λ (x : Member ClassId). x.ty) (sym same) }
    by_member (suc k) lt is there = let g : None ≡ Some e.member = there in cc

    by_number : (n : ℕ) → d.0 ≡ n → slice_get (members_in (slice_get n_v_d n)) m ≡ Some e.member → IsInt d m i type
    by_number zero is there = by_member m (omega (arith, is)) refl there
    by_number (suc zero) is there = by_member m (omega (arith, is)) refl there
    by_number (suc (suc zero)) is there = let g : None ≡ Some e.member = there in cc
    by_number (suc (suc (suc n))) is there = let g : None ≡ Some e.member = there in cc

record IsLeafAt (c : ClassId) (hops : List Hop) (type : ValueType ClassId) : Type 0 where
  at : Subobject
  class : ClassId
  place : ℕ
  spot : IsSpot c at class place
  small : class.0 < 2
  hops_are : hops ≡ Inherit at ∷ MemberHop 0 0 ∷ []
  type_is : type ≡ int

leaves : (c : ClassId) (hops : List Hop) (t : FieldType ClassId) (type : ValueType ClassId) → c.0 < 3 → LeadsTo n_v_d c hops t → t ≡ Value type → IsLeafAt c hops type
leaves _ _ _ type lt (to_subobject c d s valid class) e = let g : Object d ≡ Value type = e in cc
leaves _ _ _ type lt (to_value c d s m i t valid class element) e =
    let x = spot c s lt valid in
    let k = ints d m i (Value t) element in
    let both : Some x.class ≡ Some d = sym (class_is c s x.class x.place x.is) ∙ class in
    let same : x.class ≡ d = cc in
    let number : x.class.0 ≡ d.0 = ap (λ (y : ClassId). y.0) same in
    let one : t ≡ type = cc in
    let two : t ≡ int = let g = k.type_is in cc in
    let low = k.class in
    record {
      at = s;
      class = x.class;
      place = x.place;
      spot = x.is;
      small = omega (arith, number, low);
      hops_are = ap (λ n. Inherit s ∷ MemberHop n i ∷ []) k.member ∙ ap (λ n. Inherit s ∷ MemberHop 0 n ∷ []) k.index;
      type_is = sym one ∙ two;
    }
leaves _ _ _ type lt (to_inner c d k s m i hops t valid class element rest) e = let g = (ints d m i (Object k) element).type_is in cc

record IsObjectAt (c d : ClassId) (hops : List Hop) : Type 0 where
  at : Subobject
  place : ℕ
  spot : IsSpot c at d place
  hops_are : hops ≡ Inherit at ∷ []

objects : (c d : ClassId) (hops : List Hop) (t : FieldType ClassId) → c.0 < 3 → LeadsTo n_v_d c hops t → t ≡ Object d → IsObjectAt c d hops
objects _ d _ _ lt (to_subobject c e s valid class) f =
    let x = spot c s lt valid in
    let both : Some x.class ≡ Some e = sym (class_is c s x.class x.place x.is) ∙ class in
    let one : x.class ≡ e = cc in
    let two : e ≡ d = cc in
    record { at = s; place = x.place; spot = subst (λ (y : ClassId). IsSpot c s y x.place) (one ∙ two) x.is; hops_are = refl }
objects _ d _ _ lt (to_value c e s m i t valid class element) f = let g : Value t ≡ Object d = f in cc
objects _ d _ _ lt (to_inner c e k s m i hops t valid class element rest) f = let g = (ints e m i (Object k) element).type_is in cc

-- where the `int` of a class subobject lies: behind the pointer in V
abbrev int_offset : ℕ → ℕ
int_offset zero = 0
int_offset (suc n) = 8

leaf_place_is : (c : ClassId) (s : Subobject) (d : ClassId) (n : ℕ) → IsSpot c s d n → d.0 < 2 → place_along_hops n_v_d (places_of n_v_d packed) c (Inherit s ∷ MemberHop 0 0 ∷ []) ≡ n + int_offset d.0
leaf_place_is _ _ _ _ whole_n lt = refl
leaf_place_is _ _ _ _ whole_v lt = refl
leaf_place_is _ _ _ _ whole_d lt = absurd (omega arith)
leaf_place_is _ _ _ _ n_in_d lt = refl
leaf_place_is _ _ _ _ v_in_d lt = refl

leaf_inside : (c : ClassId) (s : Subobject) (d : ClassId) (n : ℕ) → IsSpot c s d n → d.0 < 2 → (n + int_offset d.0) + 4 ≤ (places_of n_v_d packed).size c
leaf_inside _ _ _ _ whole_n lt = omega arith
leaf_inside _ _ _ _ whole_v lt = omega arith
leaf_inside _ _ _ _ whole_d lt = absurd (omega arith)
leaf_inside _ _ _ _ n_in_d lt = omega arith
leaf_inside _ _ _ _ v_in_d lt = omega arith

leaf_multiple : (c : ClassId) (s : Subobject) (d : ClassId) (n : ℕ) → IsSpot c s d n → d.0 < 2 → Divides 4 (n + int_offset d.0)
leaf_multiple _ _ _ _ whole_n lt = record { times = 0; is = refl }
leaf_multiple _ _ _ _ whole_v lt = record { times = 2; is = refl }
leaf_multiple _ _ _ _ whole_d lt = absurd (omega arith)
leaf_multiple _ _ _ _ n_in_d lt = record { times = 2; is = refl }
leaf_multiple _ _ _ _ v_in_d lt = record { times = 5; is = refl }

abbrev Apart : (a width b other : ℕ) → Type 0
Apart a width b other = (a + width ≤ b) ⊎ (b + other ≤ a)

leaf_apart : (c : ClassId) (s : Subobject) (d : ClassId) (n : ℕ) (e : ClassId) (t : Subobject) (k : ClassId) (m : ℕ) → IsSpot c s d n → IsSpot e t k m → c.0 ≡ e.0 → d.0 < 2 → k.0 < 2 → (s ≡ t → ⊥) → Apart (n + int_offset d.0) 4 (m + int_offset k.0) 4
leaf_apart _ _ _ _ _ _ _ _ whole_n whole_n same lt low differ = absurd (differ refl)
leaf_apart _ _ _ _ _ _ _ _ whole_v whole_v same lt low differ = absurd (differ refl)
leaf_apart _ _ _ _ _ _ _ _ n_in_d n_in_d same lt low differ = absurd (differ refl)
leaf_apart _ _ _ _ _ _ _ _ v_in_d v_in_d same lt low differ = absurd (differ refl)
leaf_apart _ _ _ _ _ _ _ _ n_in_d v_in_d same lt low differ = inl (omega arith)
leaf_apart _ _ _ _ _ _ _ _ v_in_d n_in_d same lt low differ = inr (omega arith)
leaf_apart _ _ _ _ _ _ _ _ _ _ same lt low differ = absurd (omega (arith, same, lt, low))

begins_inside : (c : ClassId) (s : Subobject) (d : ClassId) (n : ℕ) → IsSpot c s d n → n < (places_of n_v_d packed).size c
begins_inside _ _ _ _ whole_n = omega arith
begins_inside _ _ _ _ whole_v = omega arith
begins_inside _ _ _ _ whole_d = omega arith
begins_inside _ _ _ _ n_in_d = omega arith
begins_inside _ _ _ _ v_in_d = omega arith

one_spot : (c : ClassId) (s : Subobject) (d : ClassId) (n : ℕ) (e : ClassId) (t : Subobject) (k : ClassId) (m : ℕ) → IsSpot c s d n → IsSpot e t k m → c.0 ≡ e.0 → d.0 ≡ k.0 → s ≡ t
one_spot _ _ _ _ _ _ _ _ whole_n whole_n same is = refl
one_spot _ _ _ _ _ _ _ _ whole_v whole_v same is = refl
one_spot _ _ _ _ _ _ _ _ whole_d whole_d same is = refl
one_spot _ _ _ _ _ _ _ _ n_in_d n_in_d same is = refl
one_spot _ _ _ _ _ _ _ _ v_in_d v_in_d same is = refl
one_spot _ _ _ _ _ _ _ _ _ _ same is = absurd (omega (arith, same, is))

base_multiple : (c : ClassId) (s : Subobject) (d : ClassId) (n : ℕ) → IsSpot c s d n → Divides ((places_of n_v_d packed).base_align d) n
base_multiple _ _ _ _ whole_n = record { times = 0; is = refl }
base_multiple _ _ _ _ whole_v = record { times = 0; is = refl }
base_multiple _ _ _ _ whole_d = record { times = 0; is = refl }
base_multiple _ _ _ _ n_in_d = record { times = 2; is = refl }
base_multiple _ _ _ _ v_in_d = record { times = 3; is = refl }

object_multiple : (c : ClassId) (s : Subobject) (d : ClassId) (n : ℕ) → IsSpot c s d n → Divides ((places_of n_v_d packed).align d) n
object_multiple _ _ _ _ whole_n = record { times = 0; is = refl }
object_multiple _ _ _ _ whole_v = record { times = 0; is = refl }
object_multiple _ _ _ _ whole_d = record { times = 0; is = refl }
object_multiple _ _ _ _ n_in_d = record { times = 2; is = refl }
object_multiple _ _ _ _ v_in_d = record { times = 3; is = refl }

pointer_inside : (c : ClassId) (s : Subobject) (d : ClassId) (n : ℕ) → IsSpot c s d n → (d.0 ≡ 0 → ⊥) → n + 8 ≤ (places_of n_v_d packed).size c
pointer_inside _ _ _ _ whole_n moves = absurd (moves refl)
pointer_inside _ _ _ _ whole_v moves = omega arith
pointer_inside _ _ _ _ whole_d moves = omega arith
pointer_inside _ _ _ _ n_in_d moves = absurd (moves refl)
pointer_inside _ _ _ _ v_in_d moves = omega arith

pointer_and_leaf : (c : ClassId) (s : Subobject) (d : ClassId) (n : ℕ) (e : ClassId) (t : Subobject) (k : ClassId) (m : ℕ) → IsSpot c s d n → IsSpot e t k m → c.0 ≡ e.0 → (d.0 ≡ 0 → ⊥) → k.0 < 2 → Apart n 8 (m + int_offset k.0) 4
pointer_and_leaf _ _ _ _ _ _ _ _ whole_n y same moves low = absurd (moves refl)
pointer_and_leaf _ _ _ _ _ _ _ _ n_in_d y same moves low = absurd (moves refl)
pointer_and_leaf _ _ _ _ _ _ _ _ whole_v whole_v same moves low = inl (omega arith)
pointer_and_leaf _ _ _ _ _ _ _ _ whole_d n_in_d same moves low = inl (omega arith)
pointer_and_leaf _ _ _ _ _ _ _ _ whole_d v_in_d same moves low = inl (omega arith)
pointer_and_leaf _ _ _ _ _ _ _ _ v_in_d n_in_d same moves low = inr (omega arith)
pointer_and_leaf _ _ _ _ _ _ _ _ v_in_d v_in_d same moves low = inl (omega arith)
pointer_and_leaf _ _ _ _ _ _ _ _ _ _ same moves low = absurd (omega (arith, same, low))

-- two pointers are those of one subobject, or lie apart
pointers : (c : ClassId) (s : Subobject) (d : ClassId) (n : ℕ) (e : ClassId) (t : Subobject) (k : ClassId) (m : ℕ) → IsSpot c s d n → IsSpot e t k m → c.0 ≡ e.0 → (d.0 ≡ 0 → ⊥) → (k.0 ≡ 0 → ⊥) → (s ≡ t) ⊎ Apart n 8 m 8
pointers _ _ _ _ _ _ _ _ whole_n y same moves also = absurd (moves refl)
pointers _ _ _ _ _ _ _ _ n_in_d y same moves also = absurd (moves refl)
pointers _ _ _ _ _ _ _ _ x whole_n same moves also = absurd (also refl)
pointers _ _ _ _ _ _ _ _ x n_in_d same moves also = absurd (also refl)
pointers _ _ _ _ _ _ _ _ whole_v whole_v same moves also = inl refl
pointers _ _ _ _ _ _ _ _ whole_d whole_d same moves also = inl refl
pointers _ _ _ _ _ _ _ _ v_in_d v_in_d same moves also = inl refl
pointers _ _ _ _ _ _ _ _ whole_d v_in_d same moves also = inr (inl (omega arith))
pointers _ _ _ _ _ _ _ _ v_in_d whole_d same moves also = inr (inr (omega arith))
pointers _ _ _ _ _ _ _ _ _ _ same moves also = absurd (omega (arith, same))

no_primary : (c : ClassId) (s : Subobject) (d : ClassId) (n : ℕ) → IsSpot c s d n → primary_part (places_of n_v_d packed) c s ≡ None
no_primary _ _ _ _ whole_n = refl
no_primary _ _ _ _ whole_v = refl
no_primary _ _ _ _ whole_d = refl
no_primary _ _ _ _ n_in_d = refl
no_primary _ _ _ _ v_in_d = refl

each_class : (P : ClassId → Type 0) → P (class_by_number 0) → P (class_by_number 1) → P (class_by_number 2) → (c : ClassId) → c.0 < 3 → P c
each_class P a b d c lt = by_number c.0 lt
  where
    by_number : (n : ℕ) → n < 3 → P (class_by_number n)
    by_number zero lt = a
    by_number (suc zero) lt = b
    by_number (suc (suc zero)) lt = d
    by_number (suc (suc (suc n))) lt = absurd (omega arith)

abbrev at : ClassId → List Hop → ℕ
at c hops = place_along_hops n_v_d (places_of n_v_d packed) c hops

leaf_at : (c : ClassId) (hops : List Hop) (type : ValueType ClassId) (x : IsLeafAt c hops type) → at c hops ≡ x.place + int_offset x.class.0
leaf_at c hops type x = ap (at c) x.hops_are ∙ leaf_place_is c x.at x.class x.place x.spot x.small

object_at : (c d : ClassId) (hops : List Hop) (x : IsObjectAt c d hops) → at c hops ≡ x.place
object_at c d hops x = ap (at c) x.hops_are ∙ spot_place c x.at d x.place x.spot

width : (c : ClassId) (hops : List Hop) (type : ValueType ClassId) → IsLeafAt c hops type → size_of_value type ≡ 4
width c hops type x = ap size_of_value x.type_is

-- the bits of so many bytes
abbrev bytes : ℕ → ℕ → Span
bytes place size = record { start = 8 * place; length = 8 * size }

bytes_apart : (a width b other : ℕ) → Apart a width b other → AreDisjoint (bytes a width) (bytes b other)
bytes_apart a width b other apart = ⊎_elim (λ x. inl (omega (arith, x))) (λ x. inr (omega (arith, x))) apart

int_span : (c : ClassId) (s : Subobject) (d : ClassId) (n : ℕ) → IsSpot c s d n → d.0 < 2 → leaf_span n_v_d (places_of n_v_d packed) c (Inherit s ∷ MemberHop 0 0 ∷ []) ≡ bytes (n + int_offset d.0) 4
int_span _ _ _ _ whole_n lt = refl
int_span _ _ _ _ whole_v lt = refl
int_span _ _ _ _ whole_d lt = absurd (omega arith)
int_span _ _ _ _ n_in_d lt = refl
int_span _ _ _ _ v_in_d lt = refl

span_at : (c : ClassId) (hops : List Hop) (type : ValueType ClassId) (x : IsLeafAt c hops type) → leaf_span n_v_d (places_of n_v_d packed) c hops ≡ bytes (x.place + int_offset x.class.0) 4
span_at c hops type x = ap (leaf_span n_v_d (places_of n_v_d packed) c) x.hops_are ∙ int_span c x.at x.class x.place x.spot x.small

spans_apart : (a b r s : Span) → a ≡ r → b ≡ s → AreDisjoint r s → AreDisjoint a b
spans_apart a b r s e f apart = subst (λ (k : Span). AreDisjoint k b) (sym e) (subst (AreDisjoint r) (sym f) apart)

-- the `int` is no bit-field
no_width : (d : ClassId) → d.0 < 2 → width_of_member n_v_d d 0 ≡ None
no_width d lt = by_number d.0 lt
  where
    by_number : (n : ℕ) → n < 2 → width_of_member n_v_d (class_by_number n) 0 ≡ None
    by_number zero lt = refl
    by_number (suc zero) lt = refl
    by_number (suc (suc n)) lt = absurd (omega arith)

no_first : (d : ClassId) → d.0 < 2 → (places_of n_v_d packed).first d 0 ≡ 0
no_first d lt = by_number d.0 lt
  where
    by_number : (n : ℕ) → n < 2 → (places_of n_v_d packed).first (class_by_number n) 0 ≡ 0
    by_number zero lt = refl
    by_number (suc zero) lt = refl
    by_number (suc (suc n)) lt = absurd (omega arith)

leaf_aligned : (c : ClassId) (hops : List Hop) (type : ValueType ClassId) (d : ClassId) (m : ℕ) → IsLeafAt c hops type → last_member n_v_d (Some c) hops ≡ Some (d, m) → IsAligned (width_of_member n_v_d d m) type (at c hops) ((places_of n_v_d packed).first d m)
leaf_aligned c hops type d m x last =
    let known = ap (last_member n_v_d (Some c)) x.hops_are ∙ last_element n_v_d (Some c) x.class x.at 0 0 (class_is c x.at x.class x.place x.spot) in
    let pair = one_member (last_member n_v_d (Some c) hops) x.class d 0 m known last in
    let class : x.class ≡ d = pair.0 in
    let number : 0 ≡ m = pair.1 in
    subst (λ (q : ClassId). IsAligned (width_of_member n_v_d q m) type (at c hops) ((places_of n_v_d packed).first q m)) class
    (subst (λ n. IsAligned (width_of_member n_v_d x.class n) type (at c hops) ((places_of n_v_d packed).first x.class n)) number
    (subst (λ (w : Option ℕ). IsAligned w type (at c hops) ((places_of n_v_d packed).first x.class 0)) (sym (no_width x.class x.small)) (
      subst (λ w. Divides w (at c hops)) (sym (width c hops type x)) (subst (Divides 4) (sym (leaf_at c hops type x)) (leaf_multiple c x.at x.class x.place x.spot x.small)),
      no_first x.class x.small,
    )))

row_full : (n : ℕ) (c : ClassId) (row : ClassLayout) → c.0 ≡ n → slice_get packed n ≡ Some row → IsFullRow n_v_d c row
row_full n c row e there = let first : class_by_number n ≡ c = ap class_by_number (sym e) in subst (λ (x : ClassId). IsFullRow n_v_d x row) first (by_number n there)
  where
    of : (k : ℕ) (x : ClassLayout) → x ≡ row → IsFullRow n_v_d (class_by_number k) x → IsFullRow n_v_d (class_by_number k) row
    of k x same is = subst (IsFullRow n_v_d (class_by_number k)) same is

    by_number : (k : ℕ) → slice_get packed k ≡ Some row → IsFullRow n_v_d (class_by_number k) row
    by_number zero f = of 0 (row_of 4 [] (0 ∷ []) (int_bits ∷ [])) (let same : row_of 4 [] (0 ∷ []) (int_bits ∷ []) ≡ row = cc in same) (record { each_base = refl; virtuals = refl; each_virtual = refl; each_holder = refl; each_member = refl; each_bits = refl })
    by_number (suc zero) f = of 1 (row_of 12 [] (8 ∷ []) (int_bits ∷ [])) (let same : row_of 12 [] (8 ∷ []) (int_bits ∷ []) ≡ row = cc in same) (record { each_base = refl; virtuals = refl; each_virtual = refl; each_holder = refl; each_member = refl; each_bits = refl })
    by_number (suc (suc zero)) f = of 2 (row_of 24 (8 ∷ 12 ∷ []) [] []) (let same : row_of 24 (8 ∷ 12 ∷ []) [] [] ≡ row = cc in same) (record { each_base = refl; virtuals = refl; each_virtual = refl; each_holder = refl; each_member = refl; each_bits = refl })
    by_number (suc (suc (suc k))) f = let g : None ≡ Some row = f in cc

-- the layout with a virtual pointer at 12 is sound
pub pointer_at_twelve : IsSoundLayout n_v_d packed
pointer_at_twelve = record {
  full = record { one_each = refl; each = λ c row there. row_full c.0 c row refl there };
  each = λ c lt. record {
    direct = λ b e. absurd (each_class (λ (c : ClassId). (places_of n_v_d packed).primary c ≡ Direct b → ⊥) (λ g. cc) (λ g. cc) (λ g. cc) c lt e);
    virtual = λ v e. absurd (each_class (λ (c : ClassId). (places_of n_v_d packed).primary c ≡ Virtual v → ⊥) (λ g. cc) (λ g. cc) (λ g. cc) c lt e);
    holder = λ v has. absurd (no_virtual c v has);
    positive = each_class (λ (c : ClassId). 1 ≤ (places_of n_v_d packed).size c) (omega arith) (omega arith) (omega arith) c lt;
    bounded = each_class (λ (c : ClassId). (places_of n_v_d packed).size c ≤ 1048576) (omega arith) (omega arith) (omega arith) c lt;
    one_place = λ s t valid e. let x = spot c s lt valid in let g : None ≡ Some t = sym (no_primary c s x.class x.place x.is) ∙ e in cc;
    aligned = λ type hops d m leads last. leaf_aligned c hops type d m (leaves c hops (Value type) type lt leads refl) last;
    base_multiple = λ d front s leads proper.
        let x = objects c d (front ++ Inherit s ∷ []) (Object d) lt leads refl in
        subst (Divides ((places_of n_v_d packed).base_align d)) (sym (object_at c d (front ++ Inherit s ∷ []) x)) (base_multiple c x.at d x.place x.spot);
    object_multiple = λ d front leads.
        let x = objects c d (front ++ Inherit (whole_of d) ∷ []) (Object d) lt leads refl in
        subst (Divides ((places_of n_v_d packed).align d)) (sym (object_at c d (front ++ Inherit (whole_of d) ∷ []) x)) (object_multiple c x.at d x.place x.spot);
    leaf_inside = λ type hops leads.
        let x = leaves c hops (Value type) type lt leads refl in
        let i = leaf_inside c x.at x.class x.place x.spot x.small in
        subst (λ (s : Span). s.start + s.length ≤ 8 * (places_of n_v_d packed).size c) (sym (span_at c hops type x)) (omega (arith, i));
    pointer_inside = λ d hops dynamic leads. let x = objects c d hops (Object d) lt leads refl in let p = object_at c d hops x in let i = pointer_inside c x.at d x.place x.spot (not_n d dynamic) in omega (arith, p, i);
    begins_inside = λ d hops leads. let x = objects c d hops (Object d) lt leads refl in let p = object_at c d hops x in let i = begins_inside c x.at d x.place x.spot in omega (arith, p, i);
    leaves_apart = λ type other hops others leads also differ.
        let x = leaves c hops (Value type) type lt leads refl in
        let y = leaves c others (Value other) other lt also refl in
        spans_apart (leaf_span n_v_d (places_of n_v_d packed) c hops) (leaf_span n_v_d (places_of n_v_d packed) c others) (bytes (x.place + int_offset x.class.0) 4) (bytes (y.place + int_offset y.class.0) 4)
        (span_at c hops type x) (span_at c others other y)
        (bytes_apart (x.place + int_offset x.class.0) 4 (y.place + int_offset y.class.0) 4
        (leaf_apart c x.at x.class x.place c y.at y.class y.place x.spot y.spot refl x.small y.small
        (λ same. differ (x.hops_are ∙ (ap (λ (s : Subobject). Inherit s ∷ MemberHop 0 0 ∷ []) same ∙ sym y.hops_are)))));
    leaf_and_pointer = λ d type hops others dynamic leads also.
        let x = objects c d hops (Object d) lt leads refl in
        let y = leaves c others (Value type) type lt also refl in
        spans_apart (bytes (at c hops) 8) (leaf_span n_v_d (places_of n_v_d packed) c others) (bytes x.place 8) (bytes (y.place + int_offset y.class.0) 4)
        (ap (λ n. bytes n 8) (object_at c d hops x)) (span_at c others type y)
        (bytes_apart x.place 8 (y.place + int_offset y.class.0) 4
        (pointer_and_leaf c x.at d x.place c y.at y.class y.place x.spot y.spot refl (not_n d dynamic) y.small));
    pointers_apart = λ d e hops others dynamic moves leads also.
        let x = objects c d hops (Object d) lt leads refl in
        let y = objects c e others (Object e) lt also refl in
        ⊎_elim
        (λ same. inl (subst (λ (a : List Hop). ShareChain n_v_d (places_of n_v_d packed) c a others) (sym x.hops_are)
        (subst (λ (b : List Hop). ShareChain n_v_d (places_of n_v_d packed) c (Inherit x.at ∷ []) b) (ap (λ (s : Subobject). Inherit s ∷ []) same ∙ sym y.hops_are)
        (downwards c x.at x.at (itself x.at)))))
        (λ apart. inr (spans_apart (bytes (at c hops) 8) (bytes (at c others) 8) (bytes x.place 8) (bytes y.place 8)
        (ap (λ n. bytes n 8) (object_at c d hops x)) (ap (λ n. bytes n 8) (object_at c e others y))
        (bytes_apart x.place 8 y.place 8 apart)))
        (pointers c x.at d x.place c y.at e y.place x.spot y.spot refl (not_n d dynamic) (not_n e moves));
    distinct = λ d hops others leads also same.
        let x = objects c d hops (Object d) lt leads refl in
        let y = objects c d others (Object d) lt also refl in
        x.hops_are ∙ (ap (λ (s : Subobject). Inherit s ∷ []) (one_spot c x.at d x.place c y.at d y.place x.spot y.spot refl refl) ∙ sym y.hops_are);
  };
}
