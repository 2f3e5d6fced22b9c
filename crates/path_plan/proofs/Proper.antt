-- A proper base subobject of a part lies in one of its direct bases, and so it is complete where the part is ready.
use Rattle.std.proofs.Common.{◌≡◌, ℕ, true, ◌||◌, Some, List, [], ◌∷◌, ◌++◌, refl, ap, subst, sym, ◌∙◌, append_assoc}
use Rattle.cxx_hierarchy.specs.declared.records.ClassId.{ClassId}
use Rattle.cxx_hierarchy.specs.Classes.{Classes}
use Rattle.cxx_hierarchy.specs.VirtualBases.{HasVirtualBase, direct, further}
use Rattle.cxx_subobject.specs.declared.Subobject.{Subobject}
use Rattle.cxx_subobject.specs.Subobjects.{IsSubobject, whole, shared, subobject, shared_base, whole_of, base_subobject, class_of, join}
use Rattle.foundation.proofs.Truth.{split}
use Rattle.cxx_subobject.proofs.TreeLemmas.{base_down}
use Rattle.cxx_subobject.proofs.PathLemmas.{class_of_longer}
use Rattle.path_plan.specs.Places.{ObjectPart, part, base_part, shared_part, base_kid, IsBaseKid, IsPartWithin, deeper}
use Rattle.path_plan.specs.Phases.{is_half, is_complete, is_ready, Phases}
use Rattle.path_plan.specs.Views.{Settled}
use Rattle.path_plan.proofs.Bases.{shared_in, class_base, shared_of_base}
use Rattle.path_plan.proofs.Valid.{path_in}

-- q lies in a direct base of p
pub record IsBelow (h : Classes) (p q : ObjectPart) : Type 0 where
  pub base : ObjectPart
  pub kid : IsBaseKid h p base
  pub inside : IsPartWithin h q base

shared_below : (h : Classes) (c v : ClassId) (q : ObjectPart) → HasVirtualBase h c v → (p : ObjectPart) → class_of p.at ≡ Some c → IsPartWithin h q (shared_part p v) → IsBelow h p q
shared_below h _ _ q (direct c v d) p class inside = record {
  base = base_part p d.base;
  kid = record { class = c; base = d.base; of_class = class; listed = d.listed; is = refl };
  inside = subst (λ (x : ObjectPart). IsPartWithin h q x) (shared_of_base p d.base d.way) (subst (λ (x : ClassId). IsPartWithin h q (shared_part p x)) (sym d.class) inside);
}
shared_below h _ _ q (further c b v way d rest) p class inside = record {
  base = base_part p d.base;
  kid = record { class = c; base = d.base; of_class = class; listed = d.listed; is = refl };
  inside = shared_in h b v q rest (base_part p d.base) (class_base p c d.base class ∙ ap (λ x. Some x) d.class) inside;
}

pub proper_below : (h : Classes) (c : ClassId) (p : ObjectPart) (i : Subobject) → class_of p.at ≡ Some c → IsSubobject h c i → (i ≡ whole_of c → ⊥) → IsBelow h p (part p.object p.owner (join p.at i))
proper_below h c p _ class (whole [] l) proper = absurd (proper refl)
proper_below h c p _ class (whole (b ∷ path) l) proper =
    let k = p.object in let o = p.owner in let s = p.at in let d = l.0 in
    let next = subobject s.root (s.path ++ b ∷ []) in
    let is : base_subobject s d.base ≡ next = base_down s d.base d.way ∙ ap (λ (x : ClassId). subobject s.root (s.path ++ x ∷ [])) d.class in
    let rest = path_in h k o b next path (class_of_longer s.path (b ∷ []) c class) l.1 in
    let there : IsPartWithin h (part k o (subobject s.root (s.path ++ b ∷ path))) (part k o next) = subst (λ (x : List ClassId). IsPartWithin h (part k o (subobject s.root x)) (part k o next)) (append_assoc s.path (b ∷ []) path) rest in
    record {
      base = base_part p d.base;
      kid = record { class = c; base = d.base; of_class = class; listed = d.listed; is = refl };
      inside = subst (λ (x : Subobject). IsPartWithin h (part k o (subobject s.root (s.path ++ b ∷ path))) (part k o x)) (sym is) there;
    }
proper_below h c p _ class (shared v path has l) proper = shared_below h c v _ has p class (path_in h p.object p.owner v (shared_base v) path refl l)

-- what lies in a direct base of a ready part is complete
pub below_complete : (h : Classes) (k : ℕ) (s : Phases) → Settled h k s → (p q : ObjectPart) → p.object ≡ k → IsBelow h p q → is_ready (s.phase p) ≡ true → is_complete (s.phase q) ≡ true
below_complete h k s a p q ob below ready = split (is_half (s.phase p)) (λ b. is_half (s.phase p) ≡ b → (b || is_complete (s.phase p)) ≡ true → is_complete (s.phase q) ≡ true)
    (λ e _ _. a.complete_in below.base q (ap (λ (x : ObjectPart). x.object) below.kid.is ∙ ob) below.inside (a.bases_done p below.base ob below.kid e))
    (λ e _ full. a.complete_in p q ob (deeper p below.base (base_kid below.kid.class below.kid.base below.kid.of_class below.kid.listed below.kid.is) below.inside) full) refl ready
