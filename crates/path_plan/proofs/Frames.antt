-- The stack of frames, and the objects of its plans.
use Rattle.std.proofs.Common.{◌≡◌, ℕ, ◌⊎◌, inl, inr, ⊎_elim, Option, Some, List, [], ◌∷◌, refl, ap, sym, ◌∙◌}
use Rattle.cxx_hierarchy.specs.declared.records.ClassId.{ClassId}
use Rattle.foundation.proofs.Members.{Has}
use Rattle.foundation.proofs.Deciding.{decide_number}
use Rattle.path_plan.specs.Phases.{PartEvent, Begin, Ready, Init, Body, Done, Ending, Bases, End}
use Rattle.path_plan.specs.Runs.{EventFrame, InBody, InPlan, entered}

abbrev pub objects : List EventFrame → List ℕ
objects [] = []
objects (InBody ∷ frames) = objects frames
objects (InPlan k es ∷ frames) = k ∷ objects frames

abbrev pub covered : List EventFrame → List EventFrame
covered [] = []
covered (f ∷ frames) = frames

pub has_object : (frames : List EventFrame) (k : ℕ) (es : List PartEvent) → Has frames (InPlan k es) → Has (objects frames) k
has_object [] k es h = absurd h
has_object (InBody ∷ frames) k es h = ⊎_elim (λ e. absurd (cc)) (λ more. has_object frames k es more) h
has_object (InPlan j fs ∷ frames) k es h = ⊎_elim (λ e. inl (let f : j ≡ k = cc in f)) (λ more. inr (has_object frames k es more)) h

pub object_has : (frames : List EventFrame) (k : ℕ) → Has (objects frames) k → (es : List PartEvent) × Has frames (InPlan k es)
object_has [] k h = absurd h
object_has (InBody ∷ frames) k h = let r = object_has frames k h in (r.0, inr r.1)
object_has (InPlan j fs ∷ frames) k h = ⊎_elim (λ e. (fs, inl (ap (λ i. InPlan i fs) e))) (λ more. let r = object_has frames k more in (r.0, inr r.1)) h

pub has_or_not : (xs : List ℕ) (k : ℕ) → Has xs k ⊎ (Has xs k → ⊥)
has_or_not [] k = inr (λ h. h)
has_or_not (x ∷ xs) k = ⊎_elim (λ e. inl (inl e)) (λ off. ⊎_elim (λ h. inl (inr h)) (λ no_more. inr (λ h. ⊎_elim (λ e. off e) (λ m. no_more m) h)) (has_or_not xs k)) (decide_number x k)

pub under : (frames : List EventFrame) (f : EventFrame) → Has (covered frames) f → Has frames f
under [] f h = absurd h
under (x ∷ frames) f h = inr h

pub not_body : (frames : List EventFrame) (k : ℕ) (es : List PartEvent) → Has (InBody ∷ frames) (InPlan k es) → Has frames (InPlan k es)
not_body frames k es h = ⊎_elim (λ e. absurd (cc)) (λ more. more) h

-- an event that begins a body
abbrev pub IsBody : PartEvent → Type 0
IsBody (Begin p) = ⊥
IsBody (Ready p) = ⊥
IsBody (Init p m) = ⊥
IsBody (Body p) = Unit {0}
IsBody (Done p) = ⊥
IsBody (Ending p) = ⊥
IsBody (Bases p) = ⊥
IsBody (End p) = ⊥

pub entered_has : (e : PartEvent) (frames : List EventFrame) (k : ℕ) (es : List PartEvent) → Has (entered e frames) (InPlan k es) → Has frames (InPlan k es)
entered_has (Begin p) frames k es h = h
entered_has (Ready p) frames k es h = h
entered_has (Init p m) frames k es h = h
entered_has (Body p) frames k es h = not_body frames k es h
entered_has (Done p) frames k es h = h
entered_has (Ending p) frames k es h = h
entered_has (Bases p) frames k es h = h
entered_has (End p) frames k es h = h

pub entered_objects : (e : PartEvent) (frames : List EventFrame) → objects frames ≡ objects (entered e frames)
entered_objects (Begin p) frames = refl
entered_objects (Ready p) frames = refl
entered_objects (Init p m) frames = refl
entered_objects (Body p) frames = refl
entered_objects (Done p) frames = refl
entered_objects (Ending p) frames = refl
entered_objects (Bases p) frames = refl
entered_objects (End p) frames = refl

pub entered_covered : (e : PartEvent) (top f : EventFrame) (below : List EventFrame) → Has (covered (entered e (top ∷ below))) f → Has below f ⊎ (IsBody e × (top ≡ f))
entered_covered (Begin p) top f below h = inl h
entered_covered (Ready p) top f below h = inl h
entered_covered (Init p m) top f below h = inl h
entered_covered (Body p) top f below h = ⊎_elim (λ e. inr (tt, e)) (λ more. inl more) h
entered_covered (Done p) top f below h = inl h
entered_covered (Ending p) top f below h = inl h
entered_covered (Bases p) top f below h = inl h
entered_covered (End p) top f below h = inl h

pub same_class : (o : Option ClassId) (c d : ClassId) → o ≡ Some c → o ≡ Some d → c ≡ d
same_class o c d e f = let g : Some c ≡ Some d = sym e ∙ f in let r : c ≡ d = cc in r
