-- What a run gives of the parts of its objects: a ready part's complete object has a view, and a part that begins does so within what has begun.
use Rattle.std.proofs.Common.{◌≡◌, ℕ, append-nil, ⊎_elim, true, Option, Some, None, List, [], ◌∷◌, ◌++◌, append_assoc, refl, ap, sym, subst, ◌∙◌}
use Rattle.std.specs.Prelude.{slice_get, option_and_then}
use Rattle.cxx_hierarchy.specs.declared.records.Member.{Member}
use Rattle.cxx_hierarchy.specs.declared.records.ClassId.{ClassId}
use Rattle.cxx_hierarchy.specs.Classes.{Classes}
use Rattle.cxx_hierarchy.specs.Hierarchies.{IsHierarchy}
use Rattle.cxx_subobject.specs.declared.Root.TheVariants.{Whole, Shared}
use Rattle.cxx_subobject.specs.declared.Subobject.{Subobject}
use Rattle.cxx_subobject.specs.Subobjects.{IsSubobject, Leads, whole, shared, subobject, class_of, class_of_path, whole_of}
use Rattle.cxx_subobject.specs.Locations.{Step, ObjectPart}
use Rattle.cxx_subobject.proofs.TestLemmas.{class_below}
use Rattle.path_plan.specs.Places.{part, IsPartWithin}
use Rattle.path_plan.specs.Phases.{Raw, is_ready}
use Rattle.path_plan.specs.Plans.{Bodies}
use Rattle.path_plan.specs.Views.{view, Settled}
use Rattle.path_plan.specs.Whole.{whole_part}
use Rattle.path_plan.specs.Runs.{Run, Reached}
use Rattle.path_plan.proofs.Valid.{whole_has_part, path_in}
use Rattle.path_plan.proofs.Resting.{in_through}
use Rattle.path_plan.proofs.Uses.{ready_cases}
use Rattle.path_model.specs.Values.{inner_part}
use Rattle.path_model.specs.Places.{class_within, owner_class, object_in}
use Rattle.path_model.specs.TypedStates.{IsPartMade}
use Rattle.agree_relation.proofs.PlanOrder.{IsMemberClass}
use Rattle.agree_relation.proofs.RunsPlayed.{complete_seen, around_begun}

-- the class of a complete object, by the last step to it
member_class_is : (h : Classes) (classes : List ClassId) (k : ℕ) (o : List Step) (d : ClassId) → owner_class h classes k o ≡ Some d → IsMemberClass h o d
member_class_is h classes k [] d owner = tt
member_class_is h classes k (step ∷ rest) d owner = λ c e member class there is.
    let f : Some e ≡ Some d = sym (ap (λ (x : Option ClassId). class_within h x step.member) class ∙ (ap (option_and_then (λ (member : Member ClassId). object_in member.ty)) there ∙ ap object_in is)) ∙ owner in
    let one : e ≡ d = cc in
    one

never_empty : (xs : List ClassId) (b : ClassId) → xs ++ b ∷ [] ≡ [] → ⊥
never_empty [] b e = cc
never_empty (x ∷ xs) b e = cc

module _ (h : Classes) (keeps : IsHierarchy h) (bodies : Bodies) (r : Run) (reached : Reached h bodies r) where
  inside : (p : ObjectPart) (c : ClassId) → (m : IsPartMade h r.classes p c) → IsPartWithin h p (whole_part p.object m.class)
  inside p c m = whole_has_part h p.object m.class p refl m.inside

  -- the complete object of a part that is ready has a view
  pub ready_seen : (p : ObjectPart) (c d : ClassId) → IsPartMade h r.classes p c → owner_class h r.classes p.object p.owner ≡ Some d → IsPartMade h r.classes (part p.object p.owner (whole_of d)) d → IsSubobject h d p.at → Settled h p.object r.phases → is_ready (r.phases.phase p) ≡ true →
      (y : Subobject) × (view r.phases p.object p.owner d ≡ Some y)
  ready_seen p c d made owner complete valid settled ready = ⊎_elim
      (λ seen. (p.at, seen))
      (λ full. complete_seen h keeps bodies r reached p.object made.class made.made p.owner d p.at (member_class_is h r.classes p.object p.owner d owner) (root p.owner owner) (inside p c made)
      (subst (λ (x : ClassId). IsPartWithin h (part p.object p.owner (whole_of d)) (whole_part p.object x)) (same complete.made) (inside (part p.object p.owner (whole_of d)) d complete)) full)
      (ready_cases h p.object r.phases settled p.owner d p.at valid ready)
    where
      root : (o : List Step) → owner_class h r.classes p.object o ≡ Some d → o ≡ [] → d ≡ made.class
      root o there empty =
          let f : Some d ≡ Some made.class = sym (subst (λ (os : List Step). owner_class h r.classes p.object os ≡ Some d) empty there) ∙ made.made in
          let one : d ≡ made.class = cc in
          one

      same : slice_get r.classes p.object ≡ Some complete.class → complete.class ≡ made.class
      same there = let f : Some complete.class ≡ Some made.class = sym there ∙ made.made in let one : complete.class ≡ made.class = cc in one

  -- along a path of bases that are not virtual
  along : (k : ℕ) (o : List Step) (c0 c : ClassId) (x : Subobject) (path : List ClassId) → slice_get r.classes k ≡ Some c0 → IsPartWithin h (part k o x) (whole_part k c0) → (x.path ≡ [] → ⊥) → class_of x ≡ Some c → Leads h c path →
      (r.phases.phase (part k o (subobject x.root (x.path ++ path))) ≡ Raw → ⊥) → r.phases.phase (part k o x) ≡ Raw → ⊥
  along k o c0 c x [] made in_whole some class leads begun raw = begun (ap (λ (xs : List ClassId). r.phases.phase (part k o (subobject x.root xs))) (append-nil x.path) ∙ raw)
  along k o c0 c x (b ∷ path) made in_whole some class leads begun raw =
      let edge = leads.0 in
      let next = subobject x.root (x.path ++ b ∷ []) in
      let in_next = in_through h (part k o next) (part k o x) (whole_part k c0) (path_in h k o c x (b ∷ []) class (leads.0, tt)) in_whole in
      let begun_far : r.phases.phase (part k o (subobject next.root (next.path ++ path))) ≡ Raw → ⊥ = λ e. begun (ap (λ (xs : List ClassId). r.phases.phase (part k o (subobject x.root xs))) (sym (append_assoc x.path (b ∷ []) path)) ∙ e) in
      let begun_next = along k o c0 b next path made in_next (never_empty x.path b) (class_below x.path c b class) leads.1 begun_far in
      around_begun h keeps bodies r reached k c0 made o x edge.base some in_whole (λ e. begun_next (ap (λ (z : ClassId). r.phases.phase (part k o (subobject x.root (x.path ++ z ∷ [])))) (sym edge.class) ∙ e)) raw

  -- a part has begun where a base of it has that is in no virtual base
  pub inner_begun : (t : ObjectPart) (target : ClassId) (i : Subobject) → IsPartMade h r.classes t target → IsSubobject h target i → i.root ≡ Whole → (r.phases.phase (inner_part t i) ≡ Raw → ⊥) → r.phases.phase t ≡ Raw → ⊥
  inner_begun t target _ made (whole path leads) root begun raw =
      along t.object t.owner made.class target t.at path made.made (inside t target made) (λ e. let f : None ≡ Some target = sym (ap class_of_path e) ∙ made.of_class in cc) made.of_class leads begun raw
  inner_begun t target _ made (shared v path has leads) root begun raw = let f : Shared v ≡ Whole = root in cc
