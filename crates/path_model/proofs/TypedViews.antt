-- The view of a part that was made is a subobject of its complete object, and so is what a cast leads to.
use Rattle.std.proofs.Common.{◌≡◌, ℕ, Bool, true, false, Option, Some, None, List, [], ◌∷◌, inl, refl, ap, subst, sym, ◌∙◌}
use Rattle.std.specs.Prelude.{slice_get, find, ◌&&◌, if◌then◌else◌, option_and_then}
use Rattle.foundation.proofs.Truth.{split}
use Rattle.foundation.proofs.Members.{Has}
use Rattle.foundation.proofs.Chosen.{find_passes}
use Rattle.cxx_hierarchy.specs.declared.records.Member.{Member}
use Rattle.cxx_hierarchy.specs.declared.records.ClassId.{ClassId}
use Rattle.cxx_hierarchy.specs.Classes.{Classes}
use Rattle.cxx_hierarchy.specs.Hierarchies.{IsHierarchy}
use Rattle.cxx_subobject.specs.declared.Subobject.{Subobject}
use Rattle.cxx_subobject.specs.Subobjects.{IsSubobject, whole, class_of, whole_of, join, same_subobject, is_of_class}
use Rattle.cxx_subobject.specs.Preorder.{preorder}
use Rattle.cxx_subobject.specs.Locations.{Step, ObjectPart, IsOwner, IsPartOf}
use Rattle.cxx_subobject.proofs.TreeLemmas.{has_preorder}
use Rattle.cxx_subobject.proofs.InsideLemmas.{inside_valid}
use Rattle.cxx_search.specs.Searches.{cast_in, preorder_of}
use Rattle.cxx_search.specs.Casts.{IsCast, leads_down, leads_across, leads_nowhere, IsTarget}
use Rattle.cxx_search.proofs.Casts.{cast_is, of_class}
use Rattle.path_plan.specs.Places.{part}
use Rattle.path_plan.specs.Phases.{top_subobject, is_complete}
use Rattle.path_model.specs.Values.{Objects}
use Rattle.path_model.specs.Places.{owner_class, class_within, object_in}
use Rattle.path_model.specs.Uses.{class_of_owner, view_of, view_in, derived_of}
use Rattle.path_model.specs.TypedStates.{IsPartMade}

-- what runs in an object that was made is a part of it
abbrev pub AreRunningParts : Classes → Objects → Type 0
AreRunningParts h s = (k : ℕ) (c : ClassId) (o : List Step) (x : Subobject) → slice_get s.classes k ≡ Some c → Has (s.phases.running k o) x → IsPartOf h c (part k o x)

pub owner_is : (h : Classes) (classes : List ClassId) (k : ℕ) (c d : ClassId) (o : List Step) → slice_get classes k ≡ Some c → IsOwner h c o d → owner_class h classes k o ≡ Some d
owner_is h classes k c d [] made a = made ∙ ap (λ (x : ClassId). Some x) (sym a)
owner_is h classes k c d (step ∷ rest) made (e, b, up, valid, class, el) =
    ap (λ o. class_within h o step.member) class ∙ (ap (option_and_then (λ (member : Member ClassId). object_in member.ty)) el.there ∙ ap object_in el.type_is)

-- the class of the complete object that a part belongs to
pub owner_made : (h : Classes) (s : Objects) (p : ObjectPart) (c : ClassId) → (a : IsPartMade h s.classes p c) → class_of_owner h s p ≡ Some a.inside.0
owner_made h s p c a = owner_is h s.classes p.object a.class a.inside.0 p.owner a.made a.inside.1

first_has : (xs : List Subobject) (x : Subobject) → top_subobject xs ≡ Some x → Has xs x
first_has [] x e = absurd (let f : None ≡ Some x = e in cc)
first_has (y ∷ xs) x e = inl (let f : Some y ≡ Some x = e in cc)

running_valid : (h : Classes) (s : Objects) → AreRunningParts h s → (p : ObjectPart) (c : ClassId) → (a : IsPartMade h s.classes p c) → (x : Subobject) → top_subobject (s.phases.running p.object p.owner) ≡ Some x → IsSubobject h a.inside.0 x
running_valid h s runs p c a x e =
    let r = runs p.object a.class p.owner x a.made (first_has (s.phases.running p.object p.owner) x e) in
    let same : r.0 ≡ a.inside.0 = let f : Some r.0 ≡ Some a.inside.0 = sym (owner_is h s.classes p.object a.class r.0 p.owner a.made r.1) ∙ owner_made h s p c a in cc in
    subst (λ (d : ClassId). IsSubobject h d x) same r.2

pub view_valid : (h : Classes) (s : Objects) → AreRunningParts h s → (p : ObjectPart) (c : ClassId) → (a : IsPartMade h s.classes p c) → (x : Subobject) → view_of h s p ≡ Some x → IsSubobject h a.inside.0 x
view_valid h s runs p c a x e =
    let d = a.inside.0 in
    let seen : view_in s.phases p.object p.owner (Some d) ≡ Some x = ap (view_in s.phases p.object p.owner) (sym (owner_made h s p c a)) ∙ e in
    split (is_complete (s.phases.phase (part p.object p.owner (whole_of d)))) (λ b. (if b then Some (whole_of d) else top_subobject (s.phases.running p.object p.owner)) ≡ Some x → IsSubobject h d x)
    (λ _ f. let same : whole_of d ≡ x = cc in subst (λ (y : Subobject). IsSubobject h d y) same (whole [] tt))
    (λ _ f. running_valid h s runs p c a x f) seen

-- both tests hold
pub both_left : (a b : Bool) → (a && b) ≡ true → a ≡ true
both_left true b e = refl
both_left false b e = e

pub both_right : (a b : Bool) → (a && b) ≡ true → b ≡ true
both_right true b e = e
both_right false b e = absurd (let f : false ≡ true = e in cc)

-- where a cast down leads
pub derived_made : (h : Classes) (s : Objects) (p : ObjectPart) (c target : ClassId) (i t : Subobject) → IsPartMade h s.classes p c → derived_of h s target i p ≡ Some t → IsPartMade h s.classes (part p.object p.owner t) target
derived_made h s p c target i t a e =
    let test = λ (x : Subobject). is_of_class target x && same_subobject (join x i) p.at in
    let found : find test (preorder h a.inside.0) ≡ Some t = ap (λ o. find test (preorder_of h o)) (sym (owner_made h s p c a)) ∙ e in
    let passed = find_passes test (preorder h a.inside.0) t found in
    record {
      class = a.class;
      made = a.made;
      inside = (a.inside.0, a.inside.1, has_preorder h a.inside.0 t passed.0);
      of_class = of_class target (class_of t) (both_left (is_of_class target t) (same_subobject (join t i) p.at) passed.1);
    }

answer_target : (h : Classes) (target : ClassId) (x y t : Subobject) (o : Option Subobject) → o ≡ Some t → IsCast h target x y o → IsTarget h target x t
answer_target h target x y t _ e (leads_down u d) = let same : u ≡ t = cc in subst (λ (z : Subobject). IsTarget h target x z) same d.over.is.is_target
answer_target h target x y t _ e (leads_across u none a) = let same : u ≡ t = cc in subst (λ (z : Subobject). IsTarget h target x z) same a.target_is.is
answer_target h target x y t _ e (leads_nowhere down across) = absurd (let f : None ≡ Some t = e in cc)

-- where a cast by the view leads
pub cast_made : (h : Classes) → IsHierarchy h → (s : Objects) → AreRunningParts h s → (p : ObjectPart) (c target : ClassId) (x t : Subobject) → IsPartMade h s.classes p c → view_of h s p ≡ Some x → cast_in h target x p.at ≡ Some t → IsPartMade h s.classes (part p.object p.owner t) target
cast_made h keeps s runs p c target x t a seen e =
    let there = view_valid h s runs p c a x seen in
    let is = answer_target h target x p.at t (Some t) refl (cast_is h keeps a.inside.0 x there target p.at (Some t) e) in
    record { class = a.class; made = a.made; inside = (a.inside.0, a.inside.1, inside_valid h a.inside.0 x t there is.inside); of_class = is.class }
