-- What the tests of a statement want of a settled object.
use Rattle.std.proofs.Common.{◌≡◌, ℕ, ◌⊎◌, inl, inr, ⊎_elim, true, false, ◌||◌, Some, List, refl, sym, ◌∙◌}
use Rattle.cxx_hierarchy.specs.declared.records.ClassId.{ClassId}
use Rattle.cxx_hierarchy.specs.Classes.{Classes}
use Rattle.cxx_subobject.specs.declared.Subobject.{Subobject}
use Rattle.cxx_subobject.specs.Subobjects.{IsSubobject, whole_of}
use Rattle.foundation.proofs.Truth.{split}
use Rattle.foundation.proofs.Truth.{or_right}
use Rattle.path_plan.specs.Places.{Step, ObjectPart, part, IsPartWithin, here}
use Rattle.path_plan.specs.Phases.{Phase, is_half, is_complete, is_ready, Phases}
use Rattle.path_plan.specs.Views.{view, Settled}
use Rattle.path_plan.proofs.Valid.{subobject_in}

-- a ready subobject is the view, or it is complete with everything in it
pub ready_cases : (h : Classes) (k : ℕ) (s : Phases) → Settled h k s → (o : List Step) (d : ClassId) (x : Subobject) → IsSubobject h d x → is_ready (s.phase (part k o x)) ≡ true
    → (view s k o d ≡ Some x) ⊎ (is_complete (s.phase (part k o x)) ≡ true)
ready_cases h k s a o d x valid ready = split (is_half (s.phase (part k o x))) (λ b. is_half (s.phase (part k o x)) ≡ b → (b || is_complete (s.phase (part k o x))) ≡ true → (view s k o d ≡ Some x) ⊎ (is_complete (s.phase (part k o x)) ≡ true))
    (λ e _ _. inl (a.half_view o d x (subobject_in h k o d x valid) e))
    (λ e _ f. inr f) refl ready

-- what is complete is ready
pub complete_ready : (x : Phase) → is_complete x ≡ true → is_ready x ≡ true
complete_ready x e = or_right (is_half x) (is_complete x) e

-- where a ready pointer is not the view, whatever lies in it is ready
pub inner_ready : (h : Classes) (k : ℕ) (s : Phases) → Settled h k s → (o : List Step) (d : ClassId) (x : Subobject) → IsSubobject h d x → is_ready (s.phase (part k o x)) ≡ true
    → (view s k o d ≡ Some x → ⊥) → (q : ObjectPart) → IsPartWithin h q (part k o x) → is_ready (s.phase q) ≡ true
inner_ready h k s a o d x valid ready off q inside = ⊎_elim (λ e. absurd (off e))
    (λ e. complete_ready (s.phase q) (a.complete_in (part k o x) q refl inside e))
    (ready_cases h k s a o d x valid ready)

-- the whole of a complete object is its view while it is ready
pub whole_view : (h : Classes) (k : ℕ) (s : Phases) → Settled h k s → (o : List Step) (d : ClassId) → is_ready (s.phase (part k o (whole_of d))) ≡ true → view s k o d ≡ Some (whole_of d)
whole_view h k s a o d ready = split (is_complete (s.phase (part k o (whole_of d)))) (λ b. is_complete (s.phase (part k o (whole_of d))) ≡ b → view s k o d ≡ Some (whole_of d))
    (λ e _. by_complete e)
    (λ e _. a.half_view o d (whole_of d) (here (part k o (whole_of d)) refl) (by_half e)) refl
  where
    by_complete : is_complete (s.phase (part k o (whole_of d))) ≡ true → view s k o d ≡ Some (whole_of d)
    by_complete e = rw e refl

    by_half : is_complete (s.phase (part k o (whole_of d))) ≡ false → is_half (s.phase (part k o (whole_of d))) ≡ true
    by_half e = split (is_half (s.phase (part k o (whole_of d)))) (λ b. (b || is_complete (s.phase (part k o (whole_of d)))) ≡ true → b ≡ true) (λ f g. refl) (λ f g. absurd (let j : false ≡ true = sym e ∙ g in cc)) ready
