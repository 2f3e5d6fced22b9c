-- The adjustment of a result, by the path to the class of the function that was found.
use Rattle.std.proofs.Common.{◌≡◌, ℕ, ◌<◌, ⊎_elim, Bool, true, false, Option, Some, None, List, refl, ap, subst, sym, ◌∙◌, arith, pos, ℤ}
use Rattle.std.specs.Prelude.{◌-ℤ◌, nat_eq, if◌then◌else◌, not, ◌||◌}
use Rattle.std.proofs.lemmas.Bool.{eqb-true, eq-eqb}
use Rattle.cxx_hierarchy.specs.declared.records.ClassId.{ClassId}
use Rattle.cxx_hierarchy.specs.Classes.{Classes}
use Rattle.cxx_hierarchy.specs.Hierarchies.{IsHierarchy}
use Rattle.cxx_subobject.specs.declared.Root.{Root}
use Rattle.cxx_subobject.specs.declared.Root.TheVariants.{Whole, Shared}
use Rattle.cxx_subobject.specs.declared.Subobject.{Subobject}
use Rattle.cxx_subobject.specs.Subobjects.{IsSubobject, whole, shared, class_of, join, shared_base, whole_of, is_shared_root}
use Rattle.cxx_subobject.proofs.PathLemmas.{smaller, same_id}
use Rattle.cxx_subobject.proofs.InsideLemmas.{join_class, join_valid}
use Rattle.cxx_overrider.specs.Covariance.{IsOnlyBase}
use Rattle.abi_sound.specs.declared.class_layout.ClassLayout.{ClassLayout}
use Rattle.abi_sound.specs.Places.{Places, places_of}
use Rattle.abi_sound.proofs.PlaceLemmas.{joined}
use Rattle.abi_slots.specs.declared.words.ReturnAdjust.{ReturnAdjust}
use Rattle.abi_slots.specs.Groups.{offset_bytes, root_base, return_constant, return_adjust, vbase_bytes, adjust_to, adjust_by}
use Rattle.abi_slots.specs.Listing.{between_classes, is_away, needs_in, vbase_number}
use Rattle.agree_dispatch.proofs.ResultClasses.{PointeesFit, no_class, same, derived, base_is_only}

pub between_same : (x : ClassId) → between_classes (Some x) (Some x) ≡ None
between_same x = ap (λ b. if b then None else Some (record { from = x; to = x })) (eq-eqb x.0 x.0 refl)

pub between_other : (x y : ClassId) → (x ≡ y → ⊥) → between_classes (Some x) (Some y) ≡ Some (record { from = x; to = y })
between_other x y differ = ap (λ b. if b then None else Some (record { from = x; to = y })) (test (nat_eq x.0 y.0) refl)
  where
    test : (b : Bool) → nat_eq x.0 y.0 ≡ b → b ≡ false
    test true e = absurd (differ (same_id x y (eqb-true x.0 y.0 e)))
    test false e = refl

-- the adjustment to a base with this root, at this place in a class
abbrev pub adjust_at : Classes → Places → ClassId → Root → ℕ → Option ReturnAdjust
adjust_at h l e Whole place = return_constant place
adjust_at h l e (Shared v) place = Some (record { vbase = Some (offset_bytes (vbase_number h l e v)); constant = pos place -ℤ pos (l.place e (shared_base v)) })

pub adjust_is : (h : Classes) (l : Places) (e : ClassId) (i : Subobject) (root : Root) → i.root ≡ root → return_adjust l e i (vbase_bytes h l e i.root) ≡ adjust_at h l e root (l.place e i)
adjust_is h l e i Whole is = ap (λ r. return_adjust l e i (vbase_bytes h l e r)) is
adjust_is h l e i (Shared v) is =
    let make : ℤ → Option ReturnAdjust = λ n. Some (record { vbase = Some (offset_bytes (vbase_number h l e v)); constant = n }) in
    ap (λ r. return_adjust l e i (vbase_bytes h l e r)) is ∙ ap (λ r. make (pos (l.place e i) -ℤ pos (l.place e (root_base r i)))) is

-- what is not away is at the place of its class
near : (root : Root) (place : ℕ) → (is_shared_root root || not (nat_eq place 0)) ≡ false → (root ≡ Whole) × (place ≡ 0)
near Whole place e = (refl, by_test (nat_eq place 0) refl e)
  where
    by_test : (b : Bool) → nat_eq place 0 ≡ b → not b ≡ false → place ≡ 0
    by_test true t f = eqb-true place 0 t
    by_test false t f = absurd (cc)
near (Shared v) place e = absurd (cc)

module _ (h : Classes) (rows : List ClassLayout) (keeps : IsHierarchy h) where
  abbrev l : Places
  l = places_of h rows

  -- the adjustment to the one base of a class
  pub adjust_only : (e b : ClassId) (i : Subobject) → (e ≡ b → ⊥) → IsOnlyBase h e b i → adjust_by h (places_of h rows) (between_classes (Some e) (Some b)) ≡ adjust_at h (places_of h rows) e i.root ((places_of h rows).place e i)
  adjust_only e b i differ only = ap (adjust_by h l) (between_other e b differ) ∙ (ap (adjust_to h l e) (base_is_only h keeps e b i only) ∙ adjust_is h l e i i.root refl)

  pub adjust_none : (e : ClassId) → adjust_by h (places_of h rows) (between_classes (Some e) (Some e)) ≡ None
  adjust_none e = ap (adjust_by h l) (between_same e)

  -- a proper base has a smaller number
  before : (e b : ClassId) (i : Subobject) → (e ≡ b → ⊥) → IsOnlyBase h e b i → b.0 < e.0
  before e b i differ only = ⊎_elim
      (λ (w : i ≡ whole_of e). let whole_class : Some e ≡ Some b = sym (ap class_of w) ∙ only.class in absurd (differ (cc)))
      (λ lt. lt)
      (smaller h keeps e b i only.valid only.class)

  -- a base to which no result has to be moved
  is_near : (b c : ClassId) (p : Subobject) → (b ≡ c → ⊥) → IsOnlyBase h b c p → needs_in h (places_of h rows) (between_classes (Some b) (Some c)) ≡ false → (p.root ≡ Whole) × ((places_of h rows).place b p ≡ 0)
  is_near b c p differ only needs =
      let away : is_away l b (Some p) ≡ false = sym (ap (is_away l b) (base_is_only h keeps b c p only)) ∙ (sym (ap (needs_in h l) (between_other b c differ)) ∙ needs) in
      near p.root (l.place b p) away

  joined_root : (c : ClassId) (q p : Subobject) → IsSubobject h c p → p.root ≡ Whole → (join q p).root ≡ q.root
  joined_root c q _ (whole path leads) e = refl
  joined_root c q _ (shared v path has leads) e = cc

  -- results are moved alike to a class, and to a base of it to which no result has to be moved
  pub same_adjust : (o b c : Option ClassId) → PointeesFit h o b → PointeesFit h b c → PointeesFit h o c → needs_in h (places_of h rows) (between_classes b c) ≡ false → adjust_by h (places_of h rows) (between_classes o c) ≡ adjust_by h (places_of h rows) (between_classes o b)
  same_adjust o _ _ first no_class third needs = refl
  same_adjust o _ _ first (same c) third needs = refl
  same_adjust _ _ _ (same b) (derived _ c p differ only) third needs =
      let n = is_near b c p differ only needs in
      adjust_only b c p differ only ∙ (ap (λ r. adjust_at h l b r (l.place b p)) n.0 ∙ (ap return_constant n.1 ∙ sym (adjust_none b)))
  same_adjust _ _ _ (derived e b q apart first) (derived _ c p differ only) third needs =
      let n = is_near b c p differ only needs in
      let far : e ≡ c → ⊥ = λ same_one. let x = before e b q apart first in let y = before b c p differ only in let z = ap (λ (a : ClassId). a.0) same_one in absurd (omega arith) in
      let there = join_valid h e b q p first.valid first.class only.valid in
      let class = join_class h b q p first.class only.valid ∙ only.class in
      let is_only : IsOnlyBase h e c (join q p) = one_base e c (join q p) far there class third in
      let place : l.place e (join q p) ≡ l.place e q = joined h rows e b q p first.valid first.class only.valid n.0 ∙ (let z = n.1 in omega (arith, z)) in
      adjust_only e c (join q p) far is_only
      ∙ (ap (λ r. adjust_at h l e r (l.place e (join q p))) (joined_root b q p only.valid n.0) ∙ (ap (adjust_at h l e q.root) place ∙ sym (adjust_only e b q apart first)))
    where
      -- the base of a class that fits is the one
      one_base : (e c : ClassId) (t : Subobject) → (e ≡ c → ⊥) → IsSubobject h e t → class_of t ≡ Some c → PointeesFit h (Some e) (Some c) → IsOnlyBase h e c t
      one_base e _ t far there class (same _) = absurd (far refl)
      one_base e c t far there class (derived _ _ r differ only) = subst (λ a. IsOnlyBase h e c a) (sym (only.only t there class)) only
