-- That marks from the first class on say which classes need a cookie.
use Rattle.std.proofs.Common.{◌≡◌, ℕ, ◌+◌, ◌<◌, ◌≤◌, ◌⊎◌, inl, inr, ⊎_elim, Bool, true, false, List, length, get_or, set, refl, sym, ◌∙◌, ap, subst, arith}
use Rattle.std.specs.Prelude.{◌↔◌, Some, Contains, not, ◌||◌}
use Rattle.std.specs.List.{list_any}
use Rattle.std.proofs.lemmas.List.{get_or-set_same, get_or-set_other}
use Rattle.std.proofs.lemmas.Bool.{cases_lt}
use Rattle.foundation.proofs.Truth.{split, or_left, or_right, is_false}
use Rattle.foundation.proofs.Members.{Has, has_from_contains, contains_from_has}
use Rattle.foundation.proofs.Chosen.{HasAny, any_has, has_any}
use Rattle.cxx_hierarchy.specs.declared.records.ClassId.{ClassId}
use Rattle.cxx_hierarchy.specs.declared.records.Base.{Base}
use Rattle.cxx_hierarchy.specs.declared.records.Member.{Member}
use Rattle.cxx_hierarchy.specs.declared.records.Destructor.{Destructor}
use Rattle.cxx_hierarchy.specs.declared.records.FieldType.{FieldType}
use Rattle.cxx_hierarchy.specs.declared.records.FieldType.TheVariants.{Value, Object}
use Rattle.cxx_hierarchy.specs.Classes.{Class, Classes, class_at, bases_in, bases_of, members_in, members_of}
use Rattle.cxx_hierarchy.specs.Declarations.{is_implicit}
use Rattle.cxx_hierarchy.specs.Hierarchies.{IsHierarchy}
use Rattle.cxx_hierarchy.specs.VirtualBases.{IsDirectBase}
use Rattle.abi_cookie.specs.Cookies.{NeedsCookie, declared, by_base, by_member}
use Rattle.abi_cookie.specs.invariants.Marks.{mark_of_class, mark_of_type, has_destructor, AreMarked}

not_true : (b : Bool) → not b ≡ true → b ≡ false
not_true true e = cc
not_true false e = refl

not_false : (b : Bool) → b ≡ false → not b ≡ true
not_false true e = cc
not_false false e = refl

or_cases : (a b : Bool) → (a || b) ≡ true → (a ≡ true) ⊎ (b ≡ true)
or_cases true b e = inl refl
or_cases false b e = inr e

-- a member whose type is marked
record IsMarkedObject (marks : List Bool) (type : FieldType ClassId) : Type 0 where
  class : ClassId
  is : type ≡ Object class
  marked : mark_of_class marks class ≡ true

marked_object : (marks : List Bool) (type : FieldType ClassId) → mark_of_type marks type ≡ true → IsMarkedObject marks type
marked_object marks (Value type) e = cc
marked_object marks (Object c) e = record { class = c; is = refl; marked = e }

-- the next class, where those before it are marked
module _ (h : Classes) (keeps : IsHierarchy h) (marks : List Bool) (c : ClassId) (class : Class) (at : class_at h c ≡ Some class) (are : AreMarked h marks c.0) where
  own_bases : bases_of h c ≡ class.bases
  own_bases = ap bases_in at

  own_members : members_of h c ≡ class.members
  own_members = ap members_in at

  base_needs : HasAny (λ (base : Base ClassId). mark_of_class marks base.class) class.bases → NeedsCookie h c
  base_needs any =
      let listed : Contains (bases_of h c) any.item = subst (λ (bases : List (Base ClassId)). Contains bases any.item) (sym own_bases) (contains_from_has class.bases any.item any.has) in
      by_base c any.item.class any.item.is_virtual (record { base = any.item; listed = listed; class = refl; way = refl }) ((are.each any.item.class (keeps.bases c any.item listed)).0 any.passes)

  member_needs : HasAny (λ (member : Member ClassId). mark_of_type marks member.ty) class.members → NeedsCookie h c
  member_needs any =
      let listed : Contains (members_of h c) any.item = subst (λ (members : List (Member ClassId)). Contains members any.item) (sym own_members) (contains_from_has class.members any.item any.has) in
      let object = marked_object marks any.item.ty any.passes in
      by_member c object.class any.item listed object.is ((are.each object.class (keeps.objects c object.class any.item listed object.is)).0 object.marked)

  pub needs : has_destructor marks class ≡ true → NeedsCookie h c
  needs e = ⊎_elim
      (λ first. ⊎_elim
      (λ own. declared c class at (not_true (is_implicit class.destructor) own))
      (λ bases. base_needs (any_has (λ (base : Base ClassId). mark_of_class marks base.class) class.bases bases))
      (or_cases (not (is_implicit class.destructor)) (list_any (λ (base : Base ClassId). mark_of_class marks base.class) class.bases) first))
      (λ members. member_needs (any_has (λ (member : Member ClassId). mark_of_type marks member.ty) class.members members))
      (or_cases (not (is_implicit class.destructor) || list_any (λ (base : Base ClassId). mark_of_class marks base.class) class.bases) (list_any (λ (member : Member ClassId). mark_of_type marks member.ty) class.members) e)

  by_own : is_implicit class.destructor ≡ false → has_destructor marks class ≡ true
  by_own e = or_left (not (is_implicit class.destructor) || list_any (λ (base : Base ClassId). mark_of_class marks base.class) class.bases) (list_any (λ (member : Member ClassId). mark_of_type marks member.ty) class.members)
      (or_left (not (is_implicit class.destructor)) (list_any (λ (base : Base ClassId). mark_of_class marks base.class) class.bases) (not_false (is_implicit class.destructor) e))

  by_bases : (base : Base ClassId) → Contains (bases_of h c) base → NeedsCookie h base.class → has_destructor marks class ≡ true
  by_bases base listed need =
      let has : Has class.bases base = has_from_contains class.bases base (subst (λ (bases : List (Base ClassId)). Contains bases base) own_bases listed) in
      or_left (not (is_implicit class.destructor) || list_any (λ (base : Base ClassId). mark_of_class marks base.class) class.bases) (list_any (λ (member : Member ClassId). mark_of_type marks member.ty) class.members)
      (or_right (not (is_implicit class.destructor)) (list_any (λ (base : Base ClassId). mark_of_class marks base.class) class.bases)
      (has_any (λ (base : Base ClassId). mark_of_class marks base.class) class.bases base has ((are.each base.class (keeps.bases c base listed)).1 need)))

  by_members : (d : ClassId) (m : Member ClassId) → Contains (members_of h c) m → m.ty ≡ Object d → NeedsCookie h d → has_destructor marks class ≡ true
  by_members d m listed type need =
      let has : Has class.members m = has_from_contains class.members m (subst (λ (members : List (Member ClassId)). Contains members m) own_members listed) in
      let marked : mark_of_type marks m.ty ≡ true = ap (mark_of_type marks) type ∙ (are.each d (keeps.objects c d m listed type)).1 need in
      or_right (not (is_implicit class.destructor) || list_any (λ (base : Base ClassId). mark_of_class marks base.class) class.bases) (list_any (λ (member : Member ClassId). mark_of_type marks member.ty) class.members)
      (has_any (λ (member : Member ClassId). mark_of_type marks member.ty) class.members m has marked)

pub needed : (h : Classes) → IsHierarchy h → (marks : List Bool) (c : ClassId) (class : Class) → class_at h c ≡ Some class → AreMarked h marks c.0 → NeedsCookie h c → has_destructor marks class ≡ true
needed h keeps marks _ class at are (declared c own at_own e) =
    let same : own ≡ class = cc in
    by_own h keeps marks c class at are (ap (λ (x : Class). is_implicit x.destructor) (sym same) ∙ e)
needed h keeps marks _ class at are (by_base c b way edge need) =
    by_bases h keeps marks c class at are edge.base edge.listed (subst (λ (d : ClassId). NeedsCookie h d) (sym edge.class) need)
needed h keeps marks _ class at are (by_member c d m listed type need) = by_members h keeps marks c class at are d m listed type need

-- no class is marked yet
pub none_marked : (h : Classes) (marks : List Bool) → AreMarked h marks 0
none_marked h marks = record { each = λ c lt. absurd (omega arith) }

same_id : (x y : ClassId) → x.0 ≡ y.0 → x ≡ y
same_id x y e = let make : ℕ → ClassId = λ k. record { 0 = k } in let f : make x.0 ≡ make y.0 = ap make e in f

-- a class more
pub one_marked : (h : Classes) → IsHierarchy h → (marks new : List Bool) (c : ClassId) (class : Class) → class_at h c ≡ Some class → AreMarked h marks c.0 →
    ((k : ℕ) → k < c.0 → get_or new k false ≡ get_or marks k false) → get_or new c.0 false ≡ has_destructor marks class → AreMarked h new (c.0 + 1)
one_marked h keeps marks new c class at are kept here = record {
  each = λ d lt. ⊎_elim
      (λ small. subst (λ (b : Bool). (b ≡ true) ↔ NeedsCookie h d) (sym (kept d.0 small)) (are.each d small))
      (λ past.
      let same : c ≡ d = same_id c d (omega arith) in
      subst (λ (x : ClassId). (mark_of_class new x ≡ true) ↔ NeedsCookie h x) same
      (λ marked. needs h keeps marks c class at are (sym here ∙ marked), λ need. here ∙ needed h keeps marks c class at are need))
      (cases_lt d.0 c.0);
}

-- the class of this number is marked as well
pub marked_set : (h : Classes) → IsHierarchy h → (marks : List Bool) (number : ℕ) (class : Class) (b : Bool) → number < length marks → class_at h (record { 0 = number }) ≡ Some class → AreMarked h marks number →
    b ≡ has_destructor marks class → AreMarked h (set marks number b) (number + 1)
marked_set h keeps marks number class b lt at are is =
    one_marked h keeps marks (set marks number b) (record { 0 = number }) class at are
    (λ k less. get_or-set_other marks number k b false (λ same. omega arith))
    (get_or-set_same marks number b false lt ∙ is)
