-- The tests of one direct part after the other tell which one holds a number.
use Rattle.std.proofs.Common.{◌≡◌, ℕ, ◌+◌, ◌-◌, ◌*◌, ◌<◌, ◌≤◌, ◌⊎◌, ⊎_elim, Bool, false, Option, Some, None, List, [], length, get_or, refl, ap, subst, sym, ◌∙◌, arith}
use Rattle.std.specs.Prelude.{slice_get}
use Rattle.std.proofs.lemmas.Option.{slice_get_past, slice_get_within, slice_get-get_or}
use Rattle.foundation.proofs.Members.{has_at, index_of}
use Rattle.cxx_hierarchy.specs.declared.records.ClassId.{ClassId}
use Rattle.cxx_hierarchy.specs.declared.records.Base.{Base}
use Rattle.cxx_hierarchy.specs.declared.records.Member.{Member}
use Rattle.cxx_hierarchy.specs.declared.records.ValueType.{ValueType}
use Rattle.cxx_hierarchy.specs.declared.records.FieldType.TheVariants.{Value, Object}
use Rattle.cxx_hierarchy.specs.Declarations.{elements_of}
use Rattle.cxx_hierarchy.specs.Classes.{Classes, bases_in, members_in}
use Rattle.cxx_hierarchy.specs.Hierarchies.{IsHierarchy}
use Rattle.cxx_hierarchy.specs.VirtualBases.{HasVirtualBase}
use Rattle.path_plan.specs.declared.form.Form.TheVariants.{InFull, AsBase}
use Rattle.path_plan.specs.Plans.{virtual_order}
use Rattle.cxx_subobject.proofs.PathLemmas.{same_id, virtual_below}
use Rattle.path_plan.proofs.Order.{order_has, order_virtual}
use Rattle.path_numbers.specs.Sizes.{sizes_of, base_offset, member_offset, shared_offset}
use Rattle.path_numbers.specs.Numbers.{IsSharedAt}
use Rattle.path_numbers.proofs.Placed.{shared_number_at}
use Rattle.path_heap.proofs.Reaching.{virtual_past}
use Rattle.path_places.specs.declared.kids.Way.TheVariants.{Element as ElementWay}
use Rattle.path_places.specs.invariants.Kids.{IsRest, IsItem, IsBaseRest, IsMemberRest, IsElementKid, IsSharedRest, IsSharedFound, IsKidFound}

-- no item so far
pub record NoneTo {X : Type 0} (P : ℕ → X → Type 0) (xs : List X) (i : ℕ) : Type 0 where
  pub none : (j : ℕ) (x : X) → j < i → slice_get xs j ≡ Some x → P j x

pub none_start : {X : Type 0} (P : ℕ → X → Type 0) (xs : List X) → NoneTo P xs 0
none_start P xs = record { none = λ j x lt at. absurd (omega arith) }

pub none_next : {X : Type 0} (P : ℕ → X → Type 0) (xs : List X) (i : ℕ) (d : X) → i < length xs → NoneTo P xs i → P i (get_or xs i d) → NoneTo P xs (i + 1)
none_next {X} P xs i d lt before here = record {
  none = λ j x less at. ⊎_elim
      (λ (low : j < i). before.none j x low at)
      (λ (same : j ≡ i).
      let a = slice_get-get_or xs i d lt in
      let b : slice_get xs i ≡ Some x = ap (slice_get xs) (sym same) ∙ at in
      let e : get_or xs i d ≡ x = cc in
      subst (λ (k : ℕ). P k x) (sym same) (subst (λ (y : X). P i y) e here))
      (split_less j i less);
}
  where
    split_less : (j i : ℕ) → j < i + 1 → (j < i) ⊎ (j ≡ i)
    split_less j i less = grind arith

pub none_all : {X : Type 0} (P : ℕ → X → Type 0) (xs ys : List X) (i : ℕ) → xs ≡ ys → length xs ≤ i → NoneTo P xs i → (j : ℕ) (x : X) → slice_get ys j ≡ Some x → P j x
none_all {X} P xs ys i same past before j x at =
    let f : slice_get xs j ≡ Some x = ap (λ (l : List X). slice_get l j) same ∙ at in
    before.none j x (let lt = slice_get_within xs j x f in omega arith) f

-- a direct base

pub base_rest_is : (h : Classes) (c : ClassId) (n i : ℕ) (b : Base ClassId) → b.is_virtual ≡ false → (offset size : ℕ) → offset ≡ base_offset h (sizes_of h) c i → size ≡ sizes_of h AsBase b.class → (r : Option ℕ) → IsRest n offset size r → IsBaseRest h c n i b r
base_rest_is h c n i b own offset size o s None rest = λ _. subst (λ k. IsRest n k (sizes_of h AsBase b.class) None) o (subst (λ k. IsRest n offset k None) s rest)
base_rest_is h c n i b own offset size o s (Some r) rest = (own, subst (λ k. IsRest n k (sizes_of h AsBase b.class) (Some r)) o (subst (λ k. IsRest n offset k (Some r)) s rest))

-- a member

pub member_before : (h : Classes) (c : ClassId) (n m : ℕ) (member : Member ClassId) (offset : ℕ) → offset ≡ member_offset h (sizes_of h) c m → n < offset → IsMemberRest h c n m member None
member_before h c n m member offset o lt = λ i d r ty within is rest. omega arith

pub member_value : (h : Classes) (c : ClassId) (n m : ℕ) (member : Member ClassId) (t : ValueType ClassId) → member.ty ≡ Value t → IsMemberRest h c n m member None
member_value h c n m member t value = λ i d r ty within is rest. absurd (let e : Value t ≡ Object d = sym value ∙ ty in cc)

pub member_past : (h : Classes) (c : ClassId) (n m : ℕ) (member : Member ClassId) (d : ClassId) → member.ty ≡ Object d → (offset size count : ℕ) → offset ≡ member_offset h (sizes_of h) c m → offset ≤ n → size ≡ sizes_of h InFull d → count ≡ elements_of member.count
    → IsItem (n - offset) size count None → IsMemberRest h c n m member None
member_past h c n m member d object offset size count o le s k none = λ i e r ty within is rest.
    let f : Object d ≡ Object e = sym object ∙ ty in
    let same : e ≡ d = cc in
    let t : size ≡ sizes_of h InFull e = s ∙ ap (λ (x : ClassId). sizes_of h InFull x) (sym same) in
    let product : i * size ≡ i * sizes_of h InFull e = ap (λ x. i * x) t in
    none i r (omega arith) (omega arith) (omega arith)

pub member_holds : (h : Classes) (c : ClassId) (n m : ℕ) (member : Member ClassId) (d : ClassId) → member.ty ≡ Object d → (offset size count : ℕ) → offset ≡ member_offset h (sizes_of h) c m → offset ≤ n → size ≡ sizes_of h InFull d → count ≡ elements_of member.count
    → (item : ℕ × ℕ) → IsItem (n - offset) size count (Some item) → IsElementKid h c n m member (record { way = ElementWay m item.0; class = d; rest = item.1 })
member_holds h c n m member d object offset size count o le s k item (within, is, rest) =
    let product : item.0 * size ≡ item.0 * sizes_of h InFull d = ap (λ x. item.0 * x) s in
    record {
      index = item.0;
      type = object;
      within = omega arith;
      is = omega arith;
      rest = omega arith;
      way = refl;
    }

-- a virtual base

listed_virtual : (h : Classes) → IsHierarchy h → (c v : ClassId) (j : ℕ) → slice_get (virtual_order h c) j ≡ Some v → HasVirtualBase h c v
listed_virtual h keeps c v j at = order_virtual h keeps c v (has_at (virtual_order h c) j v at)

pub shared_none : (h : Classes) → IsHierarchy h → (c v : ClassId) (n : ℕ) → IsSharedAt h c v None → IsSharedRest h c n v None
shared_none h keeps c v n at = λ j listed. absurd (at (listed_virtual h keeps c v j listed))

pub shared_rest_is : (h : Classes) → IsHierarchy h → (c v : ClassId) (n offset size : ℕ) → IsSharedAt h c v (Some offset) → size ≡ sizes_of h AsBase v → (r : Option ℕ) → IsRest n offset size r → IsSharedRest h c n v r
shared_rest_is h keeps c v n offset size at s None rest = λ j listed.
    let o : offset ≡ shared_offset h (sizes_of h) c j = at.1 ∙ shared_number_at h c v j listed in
    subst (λ k. IsRest n k (sizes_of h AsBase v) None) o (subst (λ k. IsRest n offset k None) s rest)
shared_rest_is h keeps c v n offset size at s (Some r) rest =
    let place = index_of (virtual_order h c) v (order_has h keeps c v at.0) in
    let o : offset ≡ shared_offset h (sizes_of h) c place.0 = at.1 ∙ shared_number_at h c v place.0 place.1 in
    (place.0, place.1, subst (λ k. IsRest n k (sizes_of h AsBase v) (Some r)) o (subst (λ k. IsRest n offset k (Some r)) s rest))

-- the virtual bases stand behind all else
pub shared_early : (h : Classes) (c : ClassId) (n size : ℕ) → size ≡ sizes_of h AsBase c → n < size → IsSharedFound h c n None
unfolding shared_offset
shared_early h c n size s lt = λ v j listed r is rest. omega arith

pub shared_next : (h : Classes) (c : ClassId) (n i : ℕ) → ((v : ClassId) → v.0 < i → IsSharedRest h c n v None) → IsSharedRest h c n (record { 0 = i }) None → (v : ClassId) → v.0 < i + 1 → IsSharedRest h c n v None
shared_next h c n i before here v lt = ⊎_elim (λ low. before v low) (λ same. subst (λ (w : ClassId). IsSharedRest h c n w None) (same_id (record { 0 = i }) v (sym same)) here) (split_less v.0 i lt)
  where
    split_less : (j i : ℕ) → j < i + 1 → (j < i) ⊎ (j ≡ i)
    split_less j i less = grind arith

pub shared_all : (h : Classes) → IsHierarchy h → (c : ClassId) (n i : ℕ) → c.0 ≤ i → ((v : ClassId) → v.0 < i → IsSharedRest h c n v None) → IsSharedFound h c n None
shared_all h keeps c n i past before = λ v j listed. let lt = virtual_below h keeps c v (listed_virtual h keeps c v j listed) in before v (omega arith) j listed

-- a class past the end has nothing
pub none_past : (h : Classes) → IsHierarchy h → (c : ClassId) (full : Bool) (n : ℕ) → length h ≤ c.0 → IsKidFound h c full n None
none_past h keeps c full n past = (
  λ i b at. absurd (let e : slice_get [] i ≡ Some b = subst (λ (l : List (Base ClassId)). slice_get l i ≡ Some b) (ap bases_in (slice_get_past h c.0 past)) at in cc),
  λ m member at. absurd (let e : slice_get [] m ≡ Some member = subst (λ (l : List (Member ClassId)). slice_get l m ≡ Some member) (ap members_in (slice_get_past h c.0 past)) at in cc),
  λ _ v j listed. absurd (virtual_past h c v (listed_virtual h keeps c v j listed) past),
)
