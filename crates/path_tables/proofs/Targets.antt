-- The one target of a cast, from two searches, and what follows for the cast.
use Rattle.std.proofs.Common.{◌≡◌, ℕ, ◌+◌, ◌<◌, ◌≤◌, ⊎_elim, Bool, true, false, List, length, get_or, refl, ap, subst, sym, ◌∙◌, arith}
use Rattle.std.specs.Prelude.{Option, Some, None, nat_eq, IsTrue, ◌↔◌, slice_get}
use Rattle.std.proofs.lemmas.Bool.{cases_lt, eqb-true, eq-eqb}
use Rattle.std.proofs.lemmas.Option.{slice_get-get_or, slice_get_within}
use Rattle.cxx_hierarchy.specs.declared.records.ClassId.{ClassId}
use Rattle.cxx_hierarchy.specs.Classes.{Classes}
use Rattle.cxx_hierarchy.specs.Hierarchies.{IsHierarchy}
use Rattle.cxx_subobject.specs.declared.Subobject.{Subobject}
use Rattle.cxx_subobject.specs.Subobjects.{IsSubobject}
use Rattle.cxx_subobject.specs.Preorder.{preorder}
use Rattle.cxx_subobject.specs.Inside.{IsInside, IsPublicWalk}
use Rattle.cxx_subobject.proofs.TreeLemmas.{preorder_has, has_preorder, preorder_once}
use Rattle.foundation.proofs.Members.{Has, has_at, index_of, once_by_place}
use Rattle.foundation.proofs.Truth.{split, not_both}
use Rattle.cxx_subobject.proofs.InsideLemmas.{inside_valid}
use Rattle.foundation.specs.Only.{IsOnly}
use Rattle.cxx_search.specs.Casts.{IsTarget, IsTargetOver, CastsDown, CastsAcross, leads_down, leads_across, leads_nowhere}
use Rattle.path_tables.specs.invariants.Targets.{IsWanted, IsOtherAt, IsPlaceOf, IsCastTo}

-- what a test tells
pub told_true : {P : Type 0} (b : Bool) → (IsTrue b ↔ P) → b ≡ true → P
told_true b k e = k.0 e

pub told_false : {P : Type 0} (b : Bool) → (IsTrue b ↔ P) → b ≡ false → P → ⊥
told_false b k e p = not_both (k.1 p) e

pub part_valid : (h : Classes) (c : ClassId) (parts : List Subobject) (i : ℕ) (t : Subobject) → parts ≡ preorder h c → slice_get parts i ≡ Some t → IsSubobject h c t
part_valid h c parts i t e at = has_preorder h c t (subst (λ (l : List Subobject). Has l t) e (has_at parts i t at))

pub wanted_inside : (h : Classes) (target : ClassId) (x y t : Subobject) (over : Bool) → IsWanted h target x y over t → IsInside h x t
wanted_inside h target x y t true k = k.is_target.inside
wanted_inside h target x y t false k = k.inside

-- none before, and not here
pub none_more : (Q : ℕ → Subobject → Type 0) (parts : List Subobject) (i : ℕ) (x : Subobject) → i < length parts → x ≡ get_or parts i x → (Q i x → ⊥)
    → ((j : ℕ) (t : Subobject) → j < i → slice_get parts j ≡ Some t → Q j t → ⊥) → (j : ℕ) (t : Subobject) → j < i + 1 → slice_get parts j ≡ Some t → Q j t → ⊥
none_more Q parts i x lt is none before j t less at k = ⊎_elim
    (λ a. before j t a at k)
    (λ a.
    let s : j ≡ i = omega arith in
    let here : Some x ≡ Some t = ap Some is ∙ (sym (slice_get-get_or parts i x lt) ∙ (ap (slice_get parts) (sym s) ∙ at)) in
    let same : x ≡ t = cc in
    none (subst (Q i) (sym same) (subst (λ n. Q n t) s k)))
    (cases_lt j i)

pub none_at_all : (Q : ℕ → Subobject → Type 0) (parts : List Subobject) (i : ℕ) → length parts ≤ i → ((j : ℕ) (t : Subobject) → j < i → slice_get parts j ≡ Some t → Q j t → ⊥) → (j : ℕ) (t : Subobject) → slice_get parts j ≡ Some t → Q j t → ⊥
none_at_all Q parts i le before j t at k = before j t (let lt = slice_get_within parts j t at in omega arith) at k

pub here_at : (parts : List Subobject) (i : ℕ) (x : Subobject) → i < length parts → x ≡ get_or parts i x → slice_get parts i ≡ Some x
here_at parts i x lt is = slice_get-get_or parts i x lt ∙ ap Some (sym is)

module _ (h : Classes) (keeps : IsHierarchy h) (c : ClassId) (target : ClassId) (x y : Subobject) (there : IsSubobject h c x) (parts : List Subobject) (all : parts ≡ preorder h c) where
  placed : (over : Bool) (t : Subobject) → IsWanted h target x y over t → (j : ℕ) × (slice_get parts j ≡ Some t)
  placed over t k = index_of parts t (subst (λ (l : List Subobject). Has l t) (sym all) (preorder_has h c keeps t (inside_valid h c x t there (wanted_inside h target x y t over k))))

  one_place : (i j : ℕ) (t : Subobject) → slice_get parts i ≡ Some t → slice_get parts j ≡ Some t → i ≡ j
  one_place i j t a b = once_by_place (preorder h c) (preorder_once h c) i j t (ap (λ (l : List Subobject). slice_get l i) (sym all) ∙ a) (ap (λ (l : List Subobject). slice_get l j) (sym all) ∙ b)

  -- the first is the only one where there is no other
  pub only_first : (over : Bool) (i : ℕ) → IsOtherAt (IsWanted h target x y over) parts None (Some i) → IsOtherAt (IsWanted h target x y over) parts (Some i) None → IsPlaceOf (IsOnly (IsWanted h target x y over)) parts (Some i)
  only_first over i (s, at, other_) none = (
    s,
    at,
    record {
      is = other_.1;
      only = λ other k.
          let p = placed over other k in
          split (nat_eq i p.0) (λ b. nat_eq i p.0 ≡ b → other ≡ s)
          (λ _ e. let n : i ≡ p.0 = eqb-true i p.0 e in let f : Some s ≡ Some other = sym at ∙ (ap (slice_get parts) n ∙ p.1) in cc)
          (λ _ e. absurd (none p.0 other p.1 (e, k))) refl;
    },
  )

  pub only_second : (over : Bool) (i j : ℕ) → IsOtherAt (IsWanted h target x y over) parts None (Some i) → IsOtherAt (IsWanted h target x y over) parts (Some i) (Some j) → IsPlaceOf (IsOnly (IsWanted h target x y over)) parts None
  only_second over i j (s, at, one_) (t, there_at, two_) = λ o only.
      let same : s ≡ t = only.only s one_.1 ∙ sym (only.only t two_.1) in
      let places : i ≡ j = one_place i j t (at ∙ ap (λ (z : Subobject). Some z) same) there_at in
      not_both (eq-eqb i j places) two_.0

  pub only_none : (over : Bool) → IsOtherAt (IsWanted h target x y over) parts None None → IsPlaceOf (IsOnly (IsWanted h target x y over)) parts None
  only_none over none = λ t only. let p = placed over t only.is in none p.0 t p.1 (refl, only.is)

-- the one that stands there is the one
pub at_one : (P : Subobject → Type 0) (parts : List Subobject) (i : ℕ) (t : Subobject) → t ≡ get_or parts i t → (s : Subobject) × (slice_get parts i ≡ Some s) × IsOnly P s → (slice_get parts i ≡ Some t) × IsOnly P t
at_one P parts i t is (s, at, only) =
    let here : slice_get parts i ≡ Some t = here_at parts i t (slice_get_within parts i s at) is in
    let e : Some s ≡ Some t = sym at ∙ here in
    let same : s ≡ t = cc in (here, subst (IsOnly P) same only)

pub down_not : (h : Classes) (target : ClassId) (x y t : Subobject) → IsOnly (IsTargetOver h target x y) t → (IsPublicWalk h t y → ⊥) → (s : Subobject) → CastsDown h target x y s → ⊥
down_not h target x y t only none s k = none (subst (λ (z : Subobject). IsPublicWalk h z y) (only.only s k.over.is) k.source)

pub across_not : (h : Classes) (target : ClassId) (x y t : Subobject) → IsOnly (IsTarget h target x) t → (IsPublicWalk h x t → ⊥) → (s : Subobject) → CastsAcross h target x y s → ⊥
across_not h target x y t only none s k = none (subst (λ (z : Subobject). IsPublicWalk h x z) (only.only s k.target_is.is) k.reached)

pub cast_down_to : (h : Classes) (target : ClassId) (x y : Subobject) (parts : List Subobject) (i : ℕ) → IsPlaceOf (CastsDown h target x y) parts (Some i) → IsCastTo h target x y parts (Some i)
cast_down_to h target x y parts i (t, at, k) = (t, at, leads_down t k)

pub cast_across_to : (h : Classes) (target : ClassId) (x y : Subobject) (parts : List Subobject) (place : Option ℕ) → IsPlaceOf (CastsDown h target x y) parts None → IsPlaceOf (CastsAcross h target x y) parts place → IsCastTo h target x y parts place
cast_across_to h target x y parts None none k = leads_nowhere none k
cast_across_to h target x y parts (Some i) none (t, at, k) = (t, at, leads_across t none k)
