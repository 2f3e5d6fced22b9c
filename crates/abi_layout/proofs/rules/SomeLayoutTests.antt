-- Every class has a primary base or none, and is nearly empty or not.
use Rattle.std.proofs.Common.{◌≡◌, ℕ, zero, suc, ◌<◌, ◌≤◌, ⊎_elim, Bool, true, false, Some, List, [], ◌∷◌, refl, ap, subst, sym, ◌∙◌, arith}
use Rattle.std.specs.Prelude.{IsTrue, ◌↔◌, not, ◌&&◌, ◌||◌, Contains, count_by}
use Rattle.std.specs.List.{slice_get, list_all}
use Rattle.std.proofs.lemmas.Bool.{not-true, and_parts, or_left, or_right, cases_order}
use Rattle.foundation.proofs.Truth.{never, always}
use Rattle.cxx_hierarchy.specs.declared.records.ClassId.{ClassId}
use Rattle.cxx_hierarchy.specs.declared.records.Base.{Base}
use Rattle.cxx_hierarchy.specs.declared.records.Member.{Member}
use Rattle.cxx_hierarchy.specs.Classes.{Classes, bases_of, members_of}
use Rattle.cxx_hierarchy.specs.Hierarchies.{IsHierarchy}
use Rattle.cxx_subobject.specs.Preorder.{preorder}
use Rattle.abi_primary.specs.declared.Primary.{Primary}
use Rattle.abi_primary.specs.declared.Primary.TheVariants.{None as NoPrimary, Direct, Virtual}
use Rattle.abi_primary.specs.Kinds.{IsDynamic}
use Rattle.abi_primary.specs.NearlyEmpty.{is_nearly, IsLight, is_virtual as by_way, is_empty as by_kind, is_nearly_empty as by_list, is_pointer_base, IsNearlyEmpty}
use Rattle.abi_primary.specs.PrimaryBase.{IsDynamicBase, HasNoDynamicBase, IsFirstDynamic, virtual_primary, IsPrimary, of_direct, of_virtual}
use Rattle.abi_layout.specs.Kinds.{is_kind, is_empty}
use Rattle.abi_layout.specs.Layouts.{primary_of, HasPointer}
use Rattle.abi_layout.proofs.rules.Parts.{split, opposed}
use Rattle.abi_layout.proofs.rules.KindLemmas.{contains_of, has_of, all_each, one_fails}
use Rattle.abi_layout.proofs.sound.ObjectTree.{dynamic_kind, is_no_primary, owns_pointer}
use Rattle.abi_layout.proofs.sound.ObjectKinds.{dynamic_test, dynamic_by_test}

-- the test of a base that is not virtual, of a dynamic class
abbrev passes : Classes → Base ClassId → Bool
passes h base = not base.is_virtual && is_kind dynamic_kind h base.class

passing : (h : Classes) (base : Base ClassId) → passes h base ≡ true → IsDynamicBase h base
passing h base e = let r = and_parts (not base.is_virtual) (is_kind dynamic_kind h base.class) e in record { way = not-true base.is_virtual r.0; dynamic = dynamic_by_test h base.class r.1 }

failing : (h : Classes) (base : Base ClassId) → IsHierarchy h → passes h base ≡ false → IsDynamicBase h base → ⊥
failing h base keeps e is = opposed (ap (λ b. not b && is_kind dynamic_kind h base.class) is.way ∙ dynamic_test h base.class keeps is.dynamic) e

-- a list of bases has a first dynamic one that is not virtual, or has none
data FirstOrNone (h : Classes) (bases : List (Base ClassId)) : Type 0 where
  a_first : (b : ClassId) → IsFirstDynamic h bases b → FirstOrNone h bases
  has_none : HasNoDynamicBase h bases → FirstOrNone h bases

later : (h : Classes) (x : Base ClassId) (bases : List (Base ClassId)) → (IsDynamicBase h x → ⊥) → FirstOrNone h bases → FirstOrNone h (x ∷ bases)
later h x bases fails (a_first b f) = a_first b (record {
  number = suc f.number;
  base = f.base;
  there = f.there;
  class = f.class;
  dynamic = f.dynamic;
  before = before;
})
  where
    before : (i : ℕ) (y : Base ClassId) → i < suc f.number → slice_get (x ∷ bases) i ≡ Some y → IsDynamicBase h y → ⊥
    before zero y lt e is = let same : x ≡ y = cc in fails (subst (IsDynamicBase h) (sym same) is)
    before (suc i) y lt e is = f.before i y (omega arith) e is
later h x bases fails (has_none nothing) = has_none (λ base has is. ⊎_elim
    (λ same. fails (subst (IsDynamicBase h) (sym same) is))
    (λ rest. nothing base (contains_of bases base rest) is)
    (has_of (x ∷ bases) base has))

first_or_none : (h : Classes) → IsHierarchy h → (bases : List (Base ClassId)) → FirstOrNone h bases
first_or_none h keeps [] = has_none (λ base has is. has_of [] base has)
first_or_none h keeps (x ∷ bases) = split (passes h x) (λ b. FirstOrNone h (x ∷ bases))
    (λ t. a_first x.class (record { number = 0; base = x; there = refl; class = refl; dynamic = passing h x t; before = λ i y lt e is. absurd (omega arith) }))
    (λ f. later h x bases (failing h x keeps f) (first_or_none h keeps bases))

-- the primary base of a class, or that it has none
pub record HasPrimary (h : Classes) (nearly : List Bool) (earlier : List Primary) (c : ClassId) : Type 0 where
  pub primary : Primary
  pub is : IsPrimary h nearly earlier c primary

-- every class has a primary base or none
pub primary_exists : (h : Classes) (nearly : List Bool) (earlier : List Primary) (c : ClassId) → IsHierarchy h → HasPrimary h nearly earlier c
primary_exists h nearly earlier c keeps = of (first_or_none h keeps (bases_of h c))
  where
    of : FirstOrNone h (bases_of h c) → HasPrimary h nearly earlier c
    of (a_first b f) = record { primary = Direct b; is = of_direct b f }
    of (has_none nothing) = record { primary = virtual_primary nearly earlier (preorder h c); is = of_virtual nothing }

-- the test of a virtual pointer of its own is exact
pub pointer_told : (h : Classes) (ps : List Primary) (c : ClassId) → IsHierarchy h → HasPointer h ps c (owns_pointer h ps c)
pointer_told h ps c keeps = (
  λ t. let r = and_parts (is_kind dynamic_kind h c) (is_no_primary (primary_of ps c)) t in (dynamic_by_test h c r.0, nothing (primary_of ps c) r.1),
  λ x. ap (λ b. b && is_no_primary (primary_of ps c)) (dynamic_test h c keeps x.0) ∙ ap is_no_primary x.1,
)
  where
    nothing : (p : Primary) → is_no_primary p ≡ true → p ≡ NoPrimary
    nothing NoPrimary e = refl
    nothing (Direct b) e = let f : false ≡ true = e in cc
    nothing (Virtual v) e = let f : false ≡ true = e in cc

-- a fact and a test of it
pub record IsTold (P : Type 0) : Type 0 where
  pub is : Bool
  pub told : IsTrue is ↔ P

it_holds : {P : Type 0} → P → IsTold P
it_holds p = record { is = true; told = always p }

it_fails : {P : Type 0} → (P → ⊥) → IsTold P
it_fails f = record { is = false; told = never f }

-- the test of a base that adds no data
abbrev is_light : Classes → List Bool → Base ClassId → Bool
is_light h nearly base = base.is_virtual || (is_empty h base.class || is_nearly nearly base.class)

light_by_test : (h : Classes) (nearly : List Bool) (base : Base ClassId) → is_light h nearly base ≡ true → IsLight h nearly base
light_by_test h nearly base e = split base.is_virtual (λ b. base.is_virtual ≡ b → (b || (is_empty h base.class || is_nearly nearly base.class)) ≡ true → IsLight h nearly base)
    (λ _ way _. by_way way)
    (λ _ _ t. split (is_empty h base.class) (λ b. is_empty h base.class ≡ b → (b || is_nearly nearly base.class) ≡ true → IsLight h nearly base)
    (λ _ kind _. by_kind kind)
    (λ _ _ listed. by_list listed) refl t) refl e

light_test : (h : Classes) (nearly : List Bool) (base : Base ClassId) → IsHierarchy h → IsLight h nearly base → is_light h nearly base ≡ true
light_test h nearly base keeps (by_way e) = or_left base.is_virtual (is_empty h base.class || is_nearly nearly base.class) e
light_test h nearly base keeps (by_kind e) = or_right base.is_virtual (is_empty h base.class || is_nearly nearly base.class) (or_left (is_empty h base.class) (is_nearly nearly base.class) e)
light_test h nearly base keeps (by_list e) = or_right base.is_virtual (is_empty h base.class || is_nearly nearly base.class) (or_right (is_empty h base.class) (is_nearly nearly base.class) e)

-- whether a class is nearly empty is told by a test
pub nearly_told : (h : Classes) (nearly : List Bool) (shifted : Bool) (c : ClassId) → IsHierarchy h → IsTold (IsNearlyEmpty h nearly shifted c)
nearly_told h nearly shifted c keeps = split (is_kind dynamic_kind h c) (λ b. IsTold (IsNearlyEmpty h nearly shifted c))
    (λ t. by_members (members_of h c) refl (dynamic_by_test h c t))
    (λ f. it_fails (λ x. opposed (dynamic_test h c keeps x.dynamic) f))
  where
    by_shift : IsDynamic h c → members_of h c ≡ [] → ((base : Base ClassId) → Contains (bases_of h c) base → IsLight h nearly base) → count_by (is_pointer_base nearly) (bases_of h c) ≤ 1 → IsTold (IsNearlyEmpty h nearly shifted c)
    by_shift dynamic empty light few = split shifted (λ b. IsTold (IsNearlyEmpty h nearly shifted c))
        (λ t. it_fails (λ x. opposed t x.unshifted))
        (λ f. it_holds (record { dynamic = dynamic; no_member = empty; light = light; one = few; unshifted = f }))

    too_many : 1 < count_by (is_pointer_base nearly) (bases_of h c) → IsNearlyEmpty h nearly shifted c → ⊥
    too_many gt x = let le = x.one in omega arith

    by_count : IsDynamic h c → members_of h c ≡ [] → ((base : Base ClassId) → Contains (bases_of h c) base → IsLight h nearly base) → IsTold (IsNearlyEmpty h nearly shifted c)
    by_count dynamic empty light = ⊎_elim
        (λ same. by_shift dynamic empty light (omega arith))
        (λ o. ⊎_elim (λ lt. by_shift dynamic empty light (omega arith)) (λ gt. it_fails (too_many gt)) o)
        (cases_order (count_by (is_pointer_base nearly) (bases_of h c)) 1)

    by_bases : IsDynamic h c → members_of h c ≡ [] → IsTold (IsNearlyEmpty h nearly shifted c)
    by_bases dynamic empty = split (list_all (is_light h nearly) (bases_of h c)) (λ b. IsTold (IsNearlyEmpty h nearly shifted c))
        (λ t. by_count dynamic empty (λ base has. light_by_test h nearly base (all_each (is_light h nearly) (bases_of h c) t base (has_of (bases_of h c) base has))))
        (λ f. let r = one_fails (is_light h nearly) (bases_of h c) f in it_fails (λ x. opposed (light_test h nearly r.0 keeps (x.light r.0 (contains_of (bases_of h c) r.0 r.1))) r.2))

    by_members : (xs : List (Member ClassId)) → members_of h c ≡ xs → IsDynamic h c → IsTold (IsNearlyEmpty h nearly shifted c)
    by_members [] e dynamic = by_bases dynamic e
    by_members (m ∷ ms) e dynamic = it_fails (λ x. let f : (m ∷ ms) ≡ [] = sym e ∙ x.no_member in cc)
