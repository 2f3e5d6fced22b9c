-- The view of a complete object, as which it acts in virtual calls and casts (ISO C++03 12.7 p3), what is settled, and when events fit.
use Rattle.std.specs.Prelude.{◌≡◌, ℕ, Bool, true, ◌||◌, if◌then◌else◌, Option, Some, List, [], ◌∷◌}
use Rattle.cxx_hierarchy.specs.declared.records.ClassId.{ClassId}
use Rattle.cxx_hierarchy.specs.Classes.{Classes}
use Rattle.cxx_subobject.specs.declared.Subobject.{Subobject}
use Rattle.cxx_subobject.specs.Subobjects.{whole_of}
use Rattle.path_plan.specs.Places.{Step, ObjectPart, part, IsBaseKid, IsPartWithin}
use Rattle.path_plan.specs.Phases.{Raw, InBases, ReadyBuilding, Complete, ReadyEnding, EndingBases, is_half, is_complete, Phases, PartEvent, Begin, Ready, Init, Body, Done, Ending, Bases, End, top_subobject, phases_after}

-- the view by what is complete and what runs: the whole while it is complete, else the innermost one that runs
abbrev pub view_by : (ObjectPart → Bool) → (ℕ → List Step → List Subobject) → ℕ → List Step → ClassId → Option Subobject
view_by complete running k o d = if complete (part k o (whole_of d)) then Some (whole_of d) else top_subobject (running k o)

-- the view of the complete object of class d to which the steps lead in the heap object k, if it has one
abbrev pub view : Phases → ℕ → List Step → ClassId → Option Subobject
view s k o d = view_by (λ p. is_complete (s.phase p)) s.running k o d

-- what holds of the object k wherever a body runs, by which parts are half ready and which are complete
pub record IsObjectSettled (h : Classes) (k : ℕ) (half complete : ObjectPart → Bool) (running : ℕ → List Step → List Subobject) : Type 0 where
  -- each complete object that has a view has a ready one
  pub ready_view : (o : List Step) (d : ClassId) (x : Subobject) → view_by complete running k o d ≡ Some x → (half (part k o x) || complete (part k o x)) ≡ true
  -- a subobject that is ready and not complete is the view
  pub half_view : (o : List Step) (d : ClassId) (x : Subobject) → IsPartWithin h (part k o x) (part k o (whole_of d)) → half (part k o x) ≡ true → view_by complete running k o d ≡ Some x
  -- in a complete subobject everything is complete, members and shared bases too
  pub complete_in : (p q : ObjectPart) → p.object ≡ k → IsPartWithin h q p → complete p ≡ true → complete q ≡ true
  -- the direct bases of a subobject that is ready are complete
  pub bases_done : (p q : ObjectPart) → p.object ≡ k → IsBaseKid h p q → half p ≡ true → complete q ≡ true

-- the object k is settled
abbrev pub Settled : Classes → ℕ → Phases → Type 0
Settled h k s = IsObjectSettled h k (λ p. is_half (s.phase p)) (λ p. is_complete (s.phase p)) s.running

-- p is the innermost one that runs in its complete object
abbrev pub IsOnTop : Phases → ObjectPart → Type 0
IsOnTop s p = top_subobject (s.running p.object p.owner) ≡ Some p.at

-- the event finds its part in the phase that it needs, and at a body the object is settled
abbrev pub Fits : Classes → Phases → PartEvent → Type 0
Fits h s (Begin p) = s.phase p ≡ Raw
Fits h s (Ready p) = (s.phase p ≡ InBases) × IsOnTop s p
Fits h s (Init p m) = (is_half (s.phase p) ≡ true) × IsOnTop s p
Fits h s (Body p) = (is_half (s.phase p) ≡ true) × IsOnTop s p × Settled h p.object s
Fits h s (Done p) = (s.phase p ≡ ReadyBuilding) × IsOnTop s p
Fits h s (Ending p) = s.phase p ≡ Complete
Fits h s (Bases p) = (s.phase p ≡ ReadyEnding) × IsOnTop s p
Fits h s (End p) = (s.phase p ≡ EndingBases) × IsOnTop s p

-- each event fits in the state that those before it lead to
abbrev pub Coherent : Classes → Phases → List PartEvent → Type 0
Coherent h s [] = Unit {0}
Coherent h s (e ∷ es) = Fits h s e × Coherent h (phases_after s e) es
