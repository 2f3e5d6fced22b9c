-- What settled objects give: a member that is ready is its own view, and proper bases of what is ready are complete.
use Rattle.std.proofs.Common.{◌≡◌, true, false, not, Some, [], ◌∷◌, refl, ap, subst, sym, ◌∙◌, Option, None}
use Rattle.cxx_hierarchy.specs.declared.records.Member.{Member}
use Rattle.cxx_hierarchy.specs.declared.records.ClassId.{ClassId}
use Rattle.cxx_hierarchy.specs.Classes.{Classes}
use Rattle.cxx_hierarchy.specs.Hierarchies.{IsHierarchy}
use Rattle.cxx_subobject.specs.declared.Root.TheVariants.{Shared}
use Rattle.cxx_subobject.specs.declared.Subobject.{Subobject}
use Rattle.cxx_subobject.specs.Subobjects.{IsSubobject, whole, shared, subobject, shared_base, class_of, join, whole_of}
use Rattle.foundation.proofs.Truth.{split}
use Rattle.cxx_search.specs.Searches.{is_within}
use Rattle.cxx_search.proofs.Within.{within_inside, inside_within}
use Rattle.cxx_subobject.proofs.InsideLemmas.{join_class, inside_through}
use Rattle.path_plan.specs.Places.{ObjectPart, part, member_kid, IsPartWithin, here, deeper}
use Rattle.path_plan.specs.Phases.{is_complete, is_ready}
use Rattle.path_plan.specs.Views.{view, Settled}
use Rattle.path_plan.proofs.Uses.{whole_view, complete_ready}
use Rattle.path_plan.proofs.Resting.{in_through}
use Rattle.path_plan.proofs.Bases.{shared_in}
use Rattle.path_plan.proofs.Valid.{path_in}
use Rattle.path_plan.proofs.Proper.{proper_below, below_complete}
use Rattle.std.specs.Prelude.{not, option_and_then}
use Rattle.cxx_program.specs.declared.statement.PassedMember.{PassedMember}
use Rattle.path_model.specs.Values.{Objects, inner_part}
use Rattle.path_model.specs.Places.{passed_part, object_in, class_within}
use Rattle.path_model.specs.Uses.{is_shared, view_in, view_of, class_of_owner}
use Rattle.path_model.specs.Rules.{is_unready, is_outside, is_outside_of}
use Rattle.path_model.specs.Typed.{IsPassed}

-- e is the whole of a complete object of class d, of a heap object that is settled
pub record IsWhole (h : Classes) (s : Objects) (e : ObjectPart) (d : ClassId) : Type 0 where
  pub at : e.at ≡ whole_of d
  pub owner : class_of_owner h s e ≡ Some d
  pub settled : Settled h e.object s.phases

pub whole_class : (h : Classes) (s : Objects) (e : ObjectPart) (d : ClassId) → IsWhole h s e d → class_of e.at ≡ Some d
whole_class h s e d a = ap class_of a.at

within_itself : (h : Classes) → IsHierarchy h → (d : ClassId) → is_within h (whole_of d) (whole_of d) ≡ true
within_itself h keeps d = inside_within h keeps (whole_of d) (whole_of d) (record { class = d; of_class = refl; part = whole_of d; valid = whole [] tt; joined = refl })

-- a whole that is ready is its own view
pub whole_seen : (h : Classes) → IsHierarchy h → (s : Objects) (e : ObjectPart) (d : ClassId) → IsWhole h s e d → is_ready (s.phases.phase e) ≡ true → is_outside h s e ≡ false
whole_seen h keeps s e d a ready =
    let is : e ≡ part e.object e.owner (whole_of d) = ap (λ (x : Subobject). part e.object e.owner x) a.at in
    let seen : view s.phases e.object e.owner d ≡ Some (whole_of d) = whole_view h e.object s.phases a.settled e.owner d (subst (λ (x : ObjectPart). is_ready (s.phases.phase x) ≡ true) is ready) in
    let v : view_of h s e ≡ Some (whole_of d) = ap (λ c. view_in s.phases e.object e.owner c) a.owner ∙ seen in
    ap (λ x. is_outside_of h x e.at) v ∙ (ap (λ (x : Subobject). not (is_within h (whole_of d) x)) a.at ∙ ap not (within_itself h keeps d))

pub passed_whole : (h : Classes) (s : Objects) (p : ObjectPart) (c : ClassId) (x : PassedMember) → class_of p.at ≡ Some c → Settled h p.object s.phases → IsPassed h c x → IsWhole h s (passed_part p x) x.class
passed_whole h s p c x class settled a = record {
  at = refl;
  owner = ap (λ b. class_within h b x.member) (join_class h c p.at x.base class a.valid ∙ a.of_class) ∙ (ap (option_and_then (λ (member : Member ClassId). object_in member.ty)) a.element.there ∙ ap object_in a.element.type_is);
  settled = settled;
}

-- a proper base of a part that is ready is complete
pub base_done : (h : Classes) (s : Objects) (p : ObjectPart) (c : ClassId) (i : Subobject) → class_of p.at ≡ Some c → Settled h p.object s.phases → IsSubobject h c i → (i ≡ whole_of c → ⊥) → is_ready (s.phases.phase p) ≡ true
    → is_complete (s.phases.phase (inner_part p i)) ≡ true
base_done h s p c i class settled valid proper ready = below_complete h p.object s.phases settled p (inner_part p i) refl (proper_below h c p i class valid proper) ready

-- so is a class member in it
pub passed_in : (h : Classes) (p : ObjectPart) (c : ClassId) (x : PassedMember) → class_of p.at ≡ Some c → IsPassed h c x → IsPartWithin h (passed_part p x) (inner_part p x.base)
passed_in h p c x class a = deeper (inner_part p x.base) (passed_part p x) (member_kid a.class x.class x.member x.index a.element.member (join_class h c p.at x.base class a.valid ∙ a.of_class) a.element.there a.element.type_is a.element.within refl) (here (passed_part p x) refl)

pub shared_proper : (c : ClassId) (i : Subobject) → is_shared i ≡ true → i ≡ whole_of c → ⊥
shared_proper c i e same = let f : true ≡ false = sym e ∙ ap is_shared same in absurd (cc)

pub passed_done : (h : Classes) (s : Objects) (p : ObjectPart) (c : ClassId) (x : PassedMember) → class_of p.at ≡ Some c → Settled h p.object s.phases → IsPassed h c x → is_complete (s.phases.phase (inner_part p x.base)) ≡ true → is_complete (s.phases.phase (passed_part p x)) ≡ true
passed_done h s p c x class settled a full = settled.complete_in (inner_part p x.base) (passed_part p x) refl (passed_in h p c x class a) full

-- a subobject of the part's class lies in the part
pub inner_in : (h : Classes) (c : ClassId) (p : ObjectPart) (i : Subobject) → class_of p.at ≡ Some c → IsSubobject h c i → IsPartWithin h (inner_part p i) p
inner_in h c p _ class (whole path l) = path_in h p.object p.owner c p.at path class l
inner_in h c p _ class (shared v path has l) = shared_in h c v (part p.object p.owner (subobject (Shared v) (v ∷ path))) has p class (path_in h p.object p.owner v (shared_base v) path refl l)

pub member_done : (h : Classes) (s : Objects) (p : ObjectPart) (c : ClassId) (x : PassedMember) → class_of p.at ≡ Some c → Settled h p.object s.phases → IsPassed h c x → is_complete (s.phases.phase p) ≡ true → is_complete (s.phases.phase (passed_part p x)) ≡ true
member_done h s p c x class settled a full = settled.complete_in p (passed_part p x) refl (in_through h (passed_part p x) (inner_part p x.base) p (passed_in h p c x class a) (inner_in h c p x.base class a.valid)) full

pub not_unready : (s : Objects) (p : ObjectPart) → is_complete (s.phases.phase p) ≡ true → is_unready s p ≡ false
not_unready s p full = ap not (complete_ready (s.phases.phase p) full)

pub ready_of : (s : Objects) (p : ObjectPart) → is_unready s p ≡ false → is_ready (s.phases.phase p) ≡ true
ready_of s p e = split (is_ready (s.phases.phase p)) (λ b. not b ≡ false → b ≡ true) (λ _ _. refl) (λ _ f. absurd (cc)) e

-- what lies in a subobject within the view is within it
pub inner_seen : (h : Classes) → IsHierarchy h → (s : Objects) (p : ObjectPart) (c : ClassId) (i : Subobject) → class_of p.at ≡ Some c → IsSubobject h c i → is_outside h s p ≡ false → is_outside h s (inner_part p i) ≡ false
inner_seen h keeps s p c i class valid e = by_view (view_of h s p) e
  where
    by_view : (view : Option Subobject) → is_outside_of h view p.at ≡ false → is_outside_of h view (join p.at i) ≡ false
    by_view None e = e
    by_view (Some x) e = split (is_within h x p.at) (λ b. is_within h x p.at ≡ b → not b ≡ false → not (is_within h x (join p.at i)) ≡ false)
        (λ f _ _. ap not (inside_within h keeps x (join p.at i) (inside_through h x p.at (join p.at i) (within_inside h x p.at f) (record { class = c; of_class = class; part = i; valid = valid; joined = refl }))))
        (λ f _ g. absurd (cc)) refl e
