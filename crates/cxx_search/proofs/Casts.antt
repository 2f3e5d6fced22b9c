-- The answer of a cast is found by two searches.
use Rattle.std.proofs.Common.{◌≡◌, inl, inr, ⊎_elim, Bool, true, Option, Some, None, List, [], ◌∷◌, refl, ap, subst, sym, ◌∙◌}
use Rattle.std.specs.Prelude.{if◌then◌else◌}
use Rattle.std.specs.List.{filter}
use Rattle.std.proofs.lemmas.Bool.{eqb-true, eq-eqb}
use Rattle.cxx_hierarchy.specs.declared.records.ClassId.{ClassId}
use Rattle.cxx_hierarchy.specs.Classes.{Classes}
use Rattle.cxx_hierarchy.specs.Hierarchies.{IsHierarchy}
use Rattle.cxx_subobject.specs.declared.Subobject.{Subobject}
use Rattle.cxx_subobject.specs.Subobjects.{IsSubobject, class_of, is_class, is_of_class}
use Rattle.cxx_subobject.proofs.PathLemmas.{same_id, class_there}
use Rattle.foundation.proofs.Truth.{split}
use Rattle.foundation.proofs.Members.{Has, EachOnce}
use Rattle.foundation.proofs.Chosen.{has_filter, filter_has, once_filter}
use Rattle.cxx_search.specs.Searches.{subobjects_under, is_within, is_public_in, the_only, where_it, targets, cast_down, cast_across, or_else, cast_in}
use Rattle.foundation.specs.Only.{IsOnly}
use Rattle.cxx_search.specs.Casts.{IsTarget, IsTargetOver, CastsDown, CastsAcross, IsCast, leads_down, leads_across, leads_nowhere}
use Rattle.cxx_search.proofs.Within.{parts_inside, inside_parts, parts_once, within_inside, inside_within}
use Rattle.cxx_search.proofs.Walks.{public_walk, walk_public}

-- at most one answer
pub one_answer : (h : Classes) (target : ClassId) (x y : Subobject) (a b : Option Subobject) → IsCast h target x y a → IsCast h target x y b → a ≡ b
one_answer h target x y _ _ (leads_down t k) (leads_down u m) = ap (λ z. Some z) (m.over.only t k.over.is)
one_answer h target x y _ _ (leads_down t k) (leads_across u none m) = absurd (none t k)
one_answer h target x y _ _ (leads_down t k) (leads_nowhere none more) = absurd (none t k)
one_answer h target x y _ _ (leads_across t none k) (leads_down u m) = absurd (none u m)
one_answer h target x y _ _ (leads_across t none k) (leads_across u never m) = ap (λ z. Some z) (m.target_is.only t k.target_is.is)
one_answer h target x y _ _ (leads_across t none k) (leads_nowhere never more) = absurd (more t k)
one_answer h target x y _ _ (leads_nowhere none more) (leads_down u m) = absurd (none u m)
one_answer h target x y _ _ (leads_nowhere none more) (leads_across u never m) = absurd (more u m)
one_answer h target x y _ _ (leads_nowhere none more) (leads_nowhere never less) = refl

-- a list that has exactly those of which P holds, each once
record Collects {X : Type 0} (P : X → Type 0) (xs : List X) : Type 0 where
  has : (x : X) → P x → Has xs x
  is : (x : X) → Has xs x → P x
  once : EachOnce xs

only_found : (P : Subobject → Type 0) (xs : List Subobject) (t : Subobject) → Collects P xs → the_only xs ≡ Some t → IsOnly P t
only_found P [] t all e = cc
only_found P (s ∷ []) t all e =
    let same : s ≡ t = cc in
    record { is = subst P same (all.is s (inl refl)); only = λ other k. ⊎_elim (λ f. sym f ∙ same) (λ none. absurd none) (all.has other k) }
only_found P (s ∷ u ∷ rest) t all e = cc

found_only : (P : Subobject → Type 0) (xs : List Subobject) (t : Subobject) → Collects P xs → IsOnly P t → the_only xs ≡ Some t
found_only P [] t all k = absurd (all.has t k.is)
found_only P (s ∷ []) t all k = ap (λ z. Some z) (k.only s (all.is s (inl refl)))
found_only P (s ∷ u ∷ rest) t all k = absurd (all.once.0 (inl (k.only u (all.is u (inr (inl refl))) ∙ sym (k.only s (all.is s (inl refl))))))

where_found : (f : Subobject → Bool) (o : Option Subobject) (t : Subobject) → where_it f o ≡ Some t → (o ≡ Some t) × (f t ≡ true)
where_found f None t e = cc
where_found f (Some s) t e = split (f s) (λ b. f s ≡ b → (if b then Some s else None) ≡ Some t → (Some s ≡ Some t) × (f t ≡ true))
    (λ yes_ is k. (k, let same : s ≡ t = cc in ap f (sym same) ∙ is))
    (λ no_ is k. cc) refl e

found_where : (f : Subobject → Bool) (o : Option Subobject) (t : Subobject) → o ≡ Some t → f t ≡ true → where_it f o ≡ Some t
found_where f o t e is = ap (where_it f) e ∙ (rw is refl)

pub of_class : (target : ClassId) (o : Option ClassId) → is_class target o ≡ true → o ≡ Some target
of_class target None e = cc
of_class target (Some d) e = ap (λ z. Some z) (sym (same_id target d (eqb-true target.0 d.0 e)))

pub is_the_class : (target : ClassId) (o : Option ClassId) → o ≡ Some target → is_class target o ≡ true
is_the_class target o e = subst (λ z. is_class target z ≡ true) (sym e) (eq-eqb target.0 target.0 refl)

module _ (h : Classes) (keeps : IsHierarchy h) (c : ClassId) (x : Subobject) (there : IsSubobject h c x) (target : ClassId) where
  target_has : (t : Subobject) → IsTarget h target x t → Has (targets h target x) t
  target_has t k = filter_has (is_of_class target) (subobjects_under h x) t (inside_parts h keeps x t k.inside) (is_the_class target (class_of t) k.class)

  has_target : (t : Subobject) → Has (targets h target x) t → IsTarget h target x t
  has_target t has = let r = has_filter (is_of_class target) (subobjects_under h x) t has in record { inside = parts_inside h x t r.0; class = of_class target (class_of t) r.1 }

  all_targets : Collects (IsTarget h target x) (targets h target x)
  all_targets = record { has = target_has; is = has_target; once = once_filter (is_of_class target) (subobjects_under h x) (parts_once h keeps c x there) }

  module _ (y : Subobject) where
    targets_over : Collects (IsTargetOver h target x y) (filter (λ t. is_within h t y) (targets h target x))
    targets_over = record {
      has = λ t k. filter_has (λ z. is_within h z y) (targets h target x) t (target_has t k.is_target) (inside_within h keeps t y k.contains);
      is = λ t has. let r = has_filter (λ z. is_within h z y) (targets h target x) t has in record { is_target = has_target t r.0; contains = within_inside h t y r.1 };
      once = once_filter (λ t. is_within h t y) (targets h target x) all_targets.once;
    }

    down_found : (t : Subobject) → cast_down h target x y ≡ Some t → CastsDown h target x y t
    down_found t e =
        let r = where_found (λ z. is_public_in h z y) (the_only (filter (λ z. is_within h z y) (targets h target x))) t e in
        record { over = only_found (IsTargetOver h target x y) (filter (λ z. is_within h z y) (targets h target x)) t targets_over r.0; source = public_walk h t y r.1 }

    found_down : (t : Subobject) → CastsDown h target x y t → cast_down h target x y ≡ Some t
    found_down t k =
        let one = found_only (IsTargetOver h target x y) (filter (λ z. is_within h z y) (targets h target x)) t targets_over k.over in
        found_where (λ z. is_public_in h z y) (the_only (filter (λ z. is_within h z y) (targets h target x))) t one (walk_public h keeps target t y k.over.is.is_target.class k.source)

    across_found : (t : Subobject) → cast_across h target x y ≡ Some t → CastsAcross h target x y t
    across_found t e = split (is_public_in h x y) (λ b. is_public_in h x y ≡ b → (if b then where_it (is_public_in h x) (the_only (targets h target x)) else None) ≡ Some t → CastsAcross h target x y t)
        (λ on is k.
        let r = where_found (is_public_in h x) (the_only (targets h target x)) t k in
        record { source = public_walk h x y is; target_is = only_found (IsTarget h target x) (targets h target x) t all_targets r.0; reached = public_walk h x t r.1 })
        (λ off is k. cc) refl e

    found_across : (t : Subobject) → CastsAcross h target x y t → cast_across h target x y ≡ Some t
    found_across t k =
        let class = class_there h c x there in
        let source = walk_public h keeps class.0 x y class.1 k.source in
        let one = found_only (IsTarget h target x) (targets h target x) t all_targets k.target_is in
        let found = found_where (is_public_in h x) (the_only (targets h target x)) t one (walk_public h keeps class.0 x t class.1 k.reached) in
        ap (λ (b : Bool). if b then where_it (is_public_in h x) (the_only (targets h target x)) else None) source ∙ found

    pub cast_found : IsCast h target x y (cast_in h target x y)
    cast_found = by_searches (cast_down h target x y) (cast_across h target x y) refl refl
      where
        never_down : cast_down h target x y ≡ None → (t : Subobject) → CastsDown h target x y t → ⊥
        never_down e t k = let f = found_down t k in cc

        never_across : cast_across h target x y ≡ None → (t : Subobject) → CastsAcross h target x y t → ⊥
        never_across e t k = let f = found_across t k in cc

        by_searches : (down across : Option Subobject) → cast_down h target x y ≡ down → cast_across h target x y ≡ across → IsCast h target x y (or_else down across)
        by_searches (Some t) across d a = leads_down t (down_found t d)
        by_searches None (Some t) d a = leads_across t (never_down d) (across_found t a)
        by_searches None None d a = leads_nowhere (never_down d) (never_across a)

    pub cast_is : (answer : Option Subobject) → cast_in h target x y ≡ answer → IsCast h target x y answer
    cast_is answer e = subst (λ o. IsCast h target x y o) e cast_found

    pub is_cast : (answer : Option Subobject) → IsCast h target x y answer → cast_in h target x y ≡ answer
    is_cast answer k = one_answer h target x y (cast_in h target x y) answer cast_found k
