-- The tests of dynamic and of empty classes say what the definitions say, in every hierarchy.
use Rattle.std.proofs.Common.{◌≡◌, ℕ, zero, suc, ◌+◌, ◌<◌, inl, Bool, true, false, Option, Some, None, List, [], ◌∷◌, length, refl, ap, subst, sym, ◌∙◌, arith}
use Rattle.std.specs.Prelude.{not, ◌&&◌, ◌||◌, ◌==◌}
use Rattle.std.specs.List.{Contains, list_all, list_any}
use Rattle.std.proofs.lemmas.Bool.{or_left, or_right}
use Rattle.cxx_hierarchy.specs.declared.records.ClassId.{ClassId}
use Rattle.cxx_hierarchy.specs.declared.records.Base.{Base}
use Rattle.cxx_hierarchy.specs.declared.records.Member.{Member}
use Rattle.cxx_hierarchy.specs.Classes.{Class, Classes, class_at, bases_of, bases_in}
use Rattle.cxx_hierarchy.specs.Hierarchies.{IsHierarchy}
use Rattle.cxx_hierarchy.specs.VirtualBases.{IsDirectBase}
use Rattle.abi_primary.specs.Kinds.{IsDynamic, declares, shares, inherits}
use Rattle.abi_primary.proofs.KindLemmas.{empty_here, dynamic_not_empty}
use Rattle.foundation.proofs.Chosen.{any_has, has_any}
use Rattle.abi_layout.specs.Kinds.{in_class, is_kind_in, is_kind, empty_kind, has_virtual_function, is_empty}
use Rattle.abi_layout.proofs.rules.Stages.{Has, split}
use Rattle.abi_layout.proofs.rules.KindLemmas.{contains_of, has_of, one_fails}
use Rattle.abi_layout.proofs.sound.ObjectTree.{dynamic_kind}

edge : (h : Classes) (c : ClassId) (class : Class) (base : Base ClassId) → class_at h c ≡ Some class → Has class.bases base → IsDirectBase h c base.is_virtual base.class
edge h c class base e has = record { base = base; listed = subst (λ (o : Option Class). Contains (bases_in o) base) (sym e) (contains_of class.bases base has); class = refl; way = refl }

listed_has : (h : Classes) (c : ClassId) (class : Class) (base : Base ClassId) → class_at h c ≡ Some class → Contains (bases_of h c) base → Has class.bases base
listed_has h c class base e has = has_of class.bases base (subst (λ (o : Option Class). Contains (bases_in o) base) e has)

abbrev lends : (ClassId → Bool) → Base ClassId → Bool
lends test base = base.is_virtual || test base.class

-- a class that passes the test is dynamic
pub dynamic_by_steps : (h : Classes) (n : ℕ) (c : ClassId) → is_kind_in dynamic_kind h n c ≡ true → IsDynamic h c
dynamic_by_steps h zero c e = let f : false ≡ true = e in cc
dynamic_by_steps h (suc n) c e = by_class (class_at h c) refl (λ b t. dynamic_by_steps h n b t) e
  where
    by_class : (o : Option Class) → class_at h c ≡ o → ((b : ClassId) → is_kind_in dynamic_kind h n b ≡ true → IsDynamic h b) → in_class (dynamic_kind (is_kind_in dynamic_kind h n)) o ≡ true → IsDynamic h c
    by_class None at below t = let f : false ≡ true = t in cc
    by_class (Some class) at below t = split (has_virtual_function class) (λ b. has_virtual_function class ≡ b → (b || list_any (lends (is_kind_in dynamic_kind h n)) class.bases) ≡ true → IsDynamic h c)
        (λ _ is _. declares c class at is)
        (λ _ is k. let r = any_has (lends (is_kind_in dynamic_kind h n)) class.bases k in
        let d = edge h c class r.item at r.has in
        split r.item.is_virtual (λ b. r.item.is_virtual ≡ b → (b || is_kind_in dynamic_kind h n r.item.class) ≡ true → IsDynamic h c)
        (λ _ way _. shares c r.item.class (subst (λ w. IsDirectBase h c w r.item.class) way d))
        (λ _ way x. inherits c r.item.class r.item.is_virtual d (below r.item.class x)) refl r.passes)
        refl t

-- a dynamic class passes the test
pub dynamic_steps : (h : Classes) → IsHierarchy h → (n : ℕ) (c : ClassId) → c.0 < n → IsDynamic h c → is_kind_in dynamic_kind h n c ≡ true
dynamic_steps h keeps zero c lt is = absurd (omega arith)
dynamic_steps h keeps (suc n) c lt is = by_class (class_at h c) refl is (λ b less x. dynamic_steps h keeps n b (omega arith) x)
  where
    by_bases : (d : ClassId) (class : Class) (base : Base ClassId) → class_at h d ≡ Some class → Contains (bases_of h d) base → lends (is_kind_in dynamic_kind h n) base ≡ true → (has_virtual_function class || list_any (lends (is_kind_in dynamic_kind h n)) class.bases) ≡ true
    by_bases d class base at has t = or_right (has_virtual_function class) (list_any (lends (is_kind_in dynamic_kind h n)) class.bases) (has_any (lends (is_kind_in dynamic_kind h n)) class.bases base (listed_has h d class base at has) t)

    in_none : (d : ClassId) → class_at h d ≡ None → IsDynamic h d → false ≡ true
    in_none _ at (declares d other f t) = let x : None ≡ Some other = sym at ∙ f in cc
    in_none _ at (shares d b way) = absurd (has_of [] way.base (subst (λ (o : Option Class). Contains (bases_in o) way.base) at way.listed))
    in_none _ at (inherits d b w way x) = absurd (has_of [] way.base (subst (λ (o : Option Class). Contains (bases_in o) way.base) at way.listed))

    in_some : (d : ClassId) (class : Class) → class_at h d ≡ Some class → IsDynamic h d → ((b : ClassId) → b.0 < d.0 → IsDynamic h b → is_kind_in dynamic_kind h n b ≡ true) → (has_virtual_function class || list_any (lends (is_kind_in dynamic_kind h n)) class.bases) ≡ true
    in_some _ class at (declares d other f t) below = let same : other ≡ class = cc in or_left (has_virtual_function class) (list_any (lends (is_kind_in dynamic_kind h n)) class.bases) (ap has_virtual_function (sym same) ∙ t)
    in_some _ class at (shares d b way) below = by_bases d class way.base at way.listed (or_left way.base.is_virtual (is_kind_in dynamic_kind h n way.base.class) way.way)
    in_some _ class at (inherits d b w way x) below =
        let less = keeps.bases d way.base way.listed in
        by_bases d class way.base at way.listed (or_right way.base.is_virtual (is_kind_in dynamic_kind h n way.base.class) (below way.base.class less (subst (IsDynamic h) (sym way.class) x)))

    by_class : (o : Option Class) → class_at h c ≡ o → IsDynamic h c → ((b : ClassId) → b.0 < c.0 → IsDynamic h b → is_kind_in dynamic_kind h n b ≡ true) → in_class (dynamic_kind (is_kind_in dynamic_kind h n)) o ≡ true
    by_class None at d below = in_none c at d
    by_class (Some class) at d below = in_some c class at d below

-- the test of dynamic classes is exact
pub dynamic_test : (h : Classes) (c : ClassId) → IsHierarchy h → IsDynamic h c → is_kind dynamic_kind h c ≡ true
dynamic_test h c keeps is = dynamic_steps h keeps (c.0 + 1) c (omega arith) is

pub dynamic_by_test : (h : Classes) (c : ClassId) → is_kind dynamic_kind h c ≡ true → IsDynamic h c
dynamic_by_test h c e = dynamic_by_steps h (c.0 + 1) c e

-- a dynamic class does not pass the test of empty classes
pub dynamic_has_data : (h : Classes) → IsHierarchy h → (c : ClassId) → IsDynamic h c → is_empty h c ≡ false
dynamic_has_data h keeps c is = split (is_empty h c) (λ b. is_empty h c ≡ b → b ≡ false) (λ _ t. absurd (dynamic_not_empty h keeps c is t)) (λ _ f. refl) refl

-- why a class is not empty
pub data HasData (h : Classes) (c : ClassId) (class : Class) : Type 0 where
  by_member : (member : Member ClassId) → Has class.members member → HasData h c class
  by_kind : IsDynamic h c → HasData h c class
  by_base : (base : Base ClassId) → Has class.bases base → base.is_virtual ≡ false → is_empty h base.class ≡ false → HasData h c class

pub has_data : (h : Classes) → IsHierarchy h → (c : ClassId) (class : Class) → class_at h c ≡ Some class → is_empty h c ≡ false → HasData h c class
has_data h keeps c class at some = by_members class.members refl
  where
    by_members : (xs : List (Member ClassId)) → class.members ≡ xs → HasData h c class
    by_members (m ∷ ms) is = by_member m (subst (λ (xs : List (Member ClassId)). Has xs m) (sym is) (inl refl))
    by_members [] is = split (has_virtual_function class) (λ b. has_virtual_function class ≡ b → HasData h c class)
        (λ _ t. by_kind (declares c class at t))
        (λ _ f.
        let members : (length class.members == 0) ≡ true = ap (λ (xs : List (Member ClassId)). length xs == 0) is in
        let still : not (has_virtual_function class) ≡ true = ap not f in
        let here : empty_kind (is_empty h) class ≡ false = sym (empty_here h c class keeps at) ∙ some in
        let same : empty_kind (is_empty h) class ≡ list_all (λ (base : Base ClassId). not base.is_virtual && is_empty h base.class) class.bases =
        ap (λ b. b && (not (has_virtual_function class) && list_all (λ (base : Base ClassId). not base.is_virtual && is_empty h base.class) class.bases)) members
        ∙ ap (λ b. b && list_all (λ (base : Base ClassId). not base.is_virtual && is_empty h base.class) class.bases) still in
        let r = one_fails (λ (base : Base ClassId). not base.is_virtual && is_empty h base.class) class.bases (sym same ∙ here) in
        split r.0.is_virtual (λ b. r.0.is_virtual ≡ b → (not b && is_empty h r.0.class) ≡ false → HasData h c class)
        (λ _ way _. by_kind (shares c r.0.class (subst (λ w. IsDirectBase h c w r.0.class) way (edge h c class r.0 at r.1))))
        (λ _ way k. by_base r.0 r.1 way k) refl r.2)
        refl
