-- Where a body is on top, each ready part's complete object has a view, and what the part is a base of has begun.
use Rattle.std.proofs.Common.{◌≡◌, ℕ, false, Some, List, [], ◌∷◌, ap, sym, ◌∙◌}
use Rattle.std.specs.Prelude.{◌&&◌}
use Rattle.foundation.proofs.Chosen.{find_passes}
use Rattle.cxx_hierarchy.specs.declared.records.ClassId.{ClassId}
use Rattle.cxx_hierarchy.specs.Classes.{Classes}
use Rattle.cxx_hierarchy.specs.Hierarchies.{IsHierarchy}
use Rattle.cxx_subobject.specs.declared.Root.TheVariants.{Whole}
use Rattle.cxx_subobject.specs.declared.Subobject.{Subobject}
use Rattle.cxx_subobject.specs.Subobjects.{IsSubobject, join, same_subobject, is_of_class}
use Rattle.cxx_subobject.specs.Locations.{ObjectPart}
use Rattle.cxx_subobject.proofs.TreeLemmas.{subobject_same}
use Rattle.cxx_search.specs.Searches.{preorder_of}
use Rattle.cxx_program.specs.declared.program.TypedProgram.{TypedProgram}
use Rattle.path_plan.specs.Places.{part}
use Rattle.path_plan.specs.Phases.{Raw}
use Rattle.path_plan.specs.Runs.{Reached}
use Rattle.path_model.specs.Values.{Objects, inner_part}
use Rattle.path_model.specs.States.{RunningBody, Frame, InBody, plan_bodies}
use Rattle.path_model.specs.Uses.{class_of_owner, view_in, view_of, derived_of}
use Rattle.path_model.specs.Rules.{is_unready}
use Rattle.path_model.specs.Typed.{AllSettled}
use Rattle.path_model.specs.TypedStates.{IsPartMade}
use Rattle.path_model.specs.Runs.{state_at}
use Rattle.path_model.proofs.Facts.{ready_of}
use Rattle.path_model.proofs.KeptFrames.{run_at}
use Rattle.path_model.proofs.KeptLaws.{statement_settled}
use Rattle.path_model.proofs.KeptSteps.{state_kept}
use Rattle.path_model.proofs.TypedViews.{both_right, derived_made}
use Rattle.agree_parts.specs.Heaps.{Heap}
use Rattle.agree_parts.proofs.Made.{owner_there, complete_made}
use Rattle.agree_relation.specs.Words.{heap_of}
use Rattle.agree_relation.proofs.Begun.{ready_seen, inner_begun}
use Rattle.agree_relation.proofs.Phases.{ready_begun}
use Rattle.agree_statements.specs.Statements.{AreSeen}

module _ (h : Classes) (keeps : IsHierarchy h) (program : TypedProgram) (x : Objects) (frames : List Frame) (reached : Reached h (plan_bodies program) (run_at x frames)) (settled : AllSettled h x) where
  -- where the objects lie is of no account
  abbrev somewhere : Heap
  somewhere = heap_of x.classes []

  view_there : (p : ObjectPart) (c : ClassId) → IsPartMade h x.classes p c → is_unready x p ≡ false → (y : Subobject) × (view_of h x p ≡ Some y)
  view_there p c made fine =
      let owner = owner_there h somewhere p c made in
      let seen = ready_seen h keeps (plan_bodies program) (run_at x frames) reached p c owner.0 made owner.1 (complete_made h somewhere p c owner.0 made owner.1) owner.2 (settled p.object made.class made.made) (ready_of x p fine) in
      (seen.0, ap (view_in x.phases p.object p.owner) owner.1 ∙ seen.1)

  joined : (p : ObjectPart) (target : ClassId) (i t : Subobject) → derived_of h x target i p ≡ Some t → join t i ≡ p.at
  joined p target i t found =
      let passed = find_passes (λ y. is_of_class target y && same_subobject (join y i) p.at) (preorder_of h (class_of_owner h x p)) t found in
      subobject_same (join t i) p.at (both_right (is_of_class target t) (same_subobject (join t i) p.at) passed.1)

  around_there : (p : ObjectPart) (c target : ClassId) (i t : Subobject) → IsPartMade h x.classes p c → is_unready x p ≡ false → IsSubobject h target i → i.root ≡ Whole → derived_of h x target i p ≡ Some t → x.phases.phase (part p.object p.owner t) ≡ Raw → ⊥
  around_there p c target i t made fine valid root found raw =
      let same : inner_part (part p.object p.owner t) i ≡ p = ap (λ (y : Subobject). part p.object p.owner y) (joined p target i t found) in
      inner_begun h keeps (plan_bodies program) (run_at x frames) reached (part p.object p.owner t) target i (derived_made h x p c target i t made found) valid root
      (λ e. ready_begun (x.phases.phase p) (ready_of x p fine) (ap x.phases.phase (sym same) ∙ e)) raw

  pub parts_seen : AreSeen h x
  parts_seen = record { view = view_there; around = around_there }

-- what is ready in a state with a body on top is seen
pub are_seen : (h : Classes) → IsHierarchy h → (sizes : ClassId → ℕ) (program : TypedProgram) (n : ℕ) (f : RunningBody) (below : List Frame) → (state_at h sizes program n).frames ≡ InBody f ∷ below → AreSeen h (state_at h sizes program n).objects
are_seen h keeps sizes program n f below top =
    let s = state_at h sizes program n in
    let kept = state_kept h sizes program n in
    parts_seen h keeps program s.objects s.frames kept.reached (λ k c got. statement_settled h keeps program s.objects s.frames kept f below k c top got)
