-- A heap object before its construction, between construction and destruction, and after.
use Rattle.std.specs.Prelude.{◌≡◌, ℕ, false, List, []}
use Rattle.cxx_hierarchy.specs.declared.records.ClassId.{ClassId}
use Rattle.cxx_hierarchy.specs.Classes.{Classes}
use Rattle.cxx_subobject.specs.Subobjects.{whole_of}
use Rattle.path_plan.specs.Places.{Step, ObjectPart, part, IsPartWithin}
use Rattle.path_plan.specs.Phases.{Raw, Complete, Ended, is_ready, Phases, PartEvent, phases_after_all}
use Rattle.path_plan.specs.Views.{Coherent}
use Rattle.path_plan.specs.declared.form.Form.TheVariants.{InFull}
use Rattle.path_plan.specs.Plans.{Bodies, plan, unplan}

-- the heap object k of class c itself
abbrev pub whole_part : ℕ → ClassId → ObjectPart
whole_part k c = part k [] (whole_of c)

-- the construction of the heap object k of class c
abbrev pub construction : Classes → Bodies → ℕ → ClassId → List PartEvent
construction h bodies k c = plan h bodies InFull c (whole_part k c)

-- its destruction
abbrev pub destruction : Classes → Bodies → ℕ → ClassId → List PartEvent
destruction h bodies k c = unplan h bodies InFull c (whole_part k c)

-- nothing of the object was begun
pub record IsNew (k : ℕ) (s : Phases) : Type 0 where
  pub raw : (q : ObjectPart) → q.object ≡ k → s.phase q ≡ Raw
  pub idle : (o : List Step) → s.running k o ≡ []

-- all its parts are complete, and nothing else of its number is ready
pub record StandsWhole (h : Classes) (k : ℕ) (c : ClassId) (s : Phases) : Type 0 where
  pub complete : (q : ObjectPart) → IsPartWithin h q (whole_part k c) → s.phase q ≡ Complete
  pub none : (q : ObjectPart) → q.object ≡ k → (IsPartWithin h q (whole_part k c) → ⊥) → is_ready (s.phase q) ≡ false
  pub idle : (o : List Step) → s.running k o ≡ []

-- all its parts have ended, and nothing of its number is ready
pub record IsGone (h : Classes) (k : ℕ) (c : ClassId) (s : Phases) : Type 0 where
  pub ended : (q : ObjectPart) → IsPartWithin h q (whole_part k c) → s.phase q ≡ Ended
  pub none : (q : ObjectPart) → q.object ≡ k → is_ready (s.phase q) ≡ false
  pub idle : (o : List Step) → s.running k o ≡ []

-- no part of another object has changed
pub record IsSameBut (k : ℕ) (s s' : Phases) : Type 0 where
  pub phase : (q : ObjectPart) → (q.object ≡ k → ⊥) → s'.phase q ≡ s.phase q
  pub running : (j : ℕ) (o : List Step) → (j ≡ k → ⊥) → s'.running j o ≡ s.running j o

-- the construction is coherent and settled, completes the object, and changes no other
pub record IsBuilt (h : Classes) (bodies : Bodies) (k : ℕ) (c : ClassId) (s : Phases) : Type 0 where
  pub coherent : Coherent h s (construction h bodies k c)
  pub standing : StandsWhole h k c (phases_after_all s (construction h bodies k c))
  pub others : IsSameBut k s (phases_after_all s (construction h bodies k c))

-- the destruction is coherent and settled, ends the object, and changes no other
pub record IsUnbuilt (h : Classes) (bodies : Bodies) (k : ℕ) (c : ClassId) (s : Phases) : Type 0 where
  pub coherent : Coherent h s (destruction h bodies k c)
  pub gone : IsGone h k c (phases_after_all s (destruction h bodies k c))
  pub others : IsSameBut k s (phases_after_all s (destruction h bodies k c))
