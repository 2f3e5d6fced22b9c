-- What stands on a stack runs, and stands there once: each event that fits keeps it.
use Rattle.std.proofs.Common.{◌≡◌, ℕ, zero, suc, ◌⊎◌, inl, inr, ⊎_elim, true, false, Some, List, [], ◌∷◌, refl, ap, subst, sym, ◌∙◌, arith}
use Rattle.std.specs.List.{Contains, slice_get}
use Rattle.cxx_hierarchy.specs.Classes.{Classes}
use Rattle.cxx_subobject.specs.declared.Subobject.{Subobject}
use Rattle.foundation.proofs.Members.{has_from_contains, contains_from_has, index_of}
use Rattle.foundation.proofs.Places.{contains_at, contains_later}
use Rattle.cxx_subobject.specs.Locations.{ObjectPart}
use Rattle.path_plan.specs.Places.{part}
use Rattle.path_plan.specs.Phases.{Phase, InBases, ReadyBuilding, Complete, ReadyEnding, EndingBases, Ended, Phases, PartEvent, Begin, Ready, Init, Body, Done, Ending, Bases, End, put, with_pushed_part, popped, rest_of, top_subobject, phases_after, is_running}
use Rattle.path_plan.specs.Views.{Fits, IsOnTop}
use Rattle.path_plan.proofs.Same.{put_same, pushed_other, popped_other, owner_cases, part_owns}
use Rattle.agree_relation.specs.Goings.{IsInStep}
use Rattle.agree_events.proofs.Parts.{pushed_own, popped_own, part_is, part_at, put_test, put_test_other}

abbrev pub phased : Phases → ObjectPart → Phase → Phases
phased s p v = record { phase = put s.phase p v; running = s.running }

abbrev pub entered : Phases → ObjectPart → Phase → Phases
entered s p v = record { phase = put s.phase p v; running = with_pushed_part s.running p }

abbrev pub left_at : Phases → ObjectPart → Phase → Phases
left_at s p v = record { phase = put s.phase p v; running = popped s.running p }

-- a list with a first element
pub first_is : (xs : List Subobject) (y : Subobject) → top_subobject xs ≡ Some y → xs ≡ y ∷ rest_of xs
first_is [] y e = absurd (cc)
first_is (x ∷ xs) y e = let f : x ≡ y = cc in ap (λ z. z ∷ xs) f

pub not_running : (s : Phases) (p : ObjectPart) → IsInStep s → is_running (s.phase p) ≡ false → Contains (s.running p.object p.owner) p.at → ⊥
not_running s p keeps off has = let e = keeps.runs p.object p.owner p.at has in cc

-- each stands once
abbrev pub Once : List Subobject → Type 0
Once xs = (i j : ℕ) (y : Subobject) → slice_get xs i ≡ Some y → slice_get xs j ≡ Some y → i ≡ j

once_more : (x : Subobject) (xs : List Subobject) → (Contains xs x → ⊥) → Once xs → Once (x ∷ xs)
once_more x xs off once zero zero y a b = refl
once_more x xs off once zero (suc j) y a b = absurd (off (contains_at xs j x (b ∙ sym a)))
once_more x xs off once (suc i) zero y a b = absurd (off (contains_at xs i x (a ∙ sym b)))
once_more x xs off once (suc i) (suc j) y a b = ap (λ n. suc n) (once i j y a b)

rest_once : (xs : List Subobject) → Once xs → Once (rest_of xs)
rest_once [] once = once
rest_once (x ∷ xs) once = λ i j y a b. let e = once (suc i) (suc j) y a b in omega arith

rest_has : (xs : List Subobject) (y : Subobject) → Contains (rest_of xs) y → Contains xs y
rest_has [] y has = has
rest_has (x ∷ xs) y has = contains_later x xs y has

-- the first and one behind it are two
pub not_both : (x : Subobject) (xs : List Subobject) → Once (x ∷ xs) → Contains xs x → ⊥
not_both x xs once has = let at = index_of xs x (has_from_contains xs x has) in let e : zero ≡ suc at.0 = once zero (suc at.0) x refl at.1 in omega arith

-- what is below the top is not the top
pub below_top : (xs : List Subobject) (t y : Subobject) → top_subobject xs ≡ Some t → Once xs → Contains (rest_of xs) y → t ≡ y → ⊥
below_top [] t y e once has same = absurd (has_from_contains [] y has)
below_top (x ∷ xs) t y e once has same = not_both x xs once (subst (λ (z : Subobject). Contains xs z) (let f : y ≡ x = cc in f) has)

pub phased_in_step : (s : Phases) (p : ObjectPart) (v : Phase) → IsInStep s → is_running v ≡ true → IsInStep (phased s p v)
phased_in_step s p v keeps on = record {
  runs = λ k o y has. put_test is_running true s.phase p v (part k o y) on (keeps.runs k o y has);
  once = keeps.once;
}

top_cases : (x : Subobject) (xs : List Subobject) (y : Subobject) → Contains (x ∷ xs) y → (x ≡ y) ⊎ Contains xs y
top_cases x xs y has = ⊎_elim (λ e. inl e) (λ more. inr (contains_from_has xs y more)) (has_from_contains (x ∷ xs) y has)

pub entered_in_step : (s : Phases) (p : ObjectPart) (v : Phase) → IsInStep s → is_running (s.phase p) ≡ false → is_running v ≡ true → IsInStep (entered s p v)
entered_in_step s p v keeps off on = record {
  runs = λ k o y has. ⊎_elim
      (λ owns. ⊎_elim
      (λ e. ap is_running (ap (put s.phase p v) (sym (part_is p k o y owns e)) ∙ put_same s.phase p v) ∙ on)
      (λ more. put_test is_running true s.phase p v (part k o y) on (keeps.runs k o y more))
      (top_cases p.at (s.running k o) y (subst (λ (xs : List Subobject). Contains xs y) (pushed_own s.running p k o owns) has)))
      (λ other. put_test is_running true s.phase p v (part k o y) on (keeps.runs k o y (subst (λ (xs : List Subobject). Contains xs y) (pushed_other s.running p k o other) has)))
      (owner_cases p k o);
  once = λ k o. ⊎_elim
      (λ owns. subst (λ (xs : List Subobject). Once xs) (sym (pushed_own s.running p k o owns))
      (once_more p.at (s.running k o) (λ has. not_running s p keeps off (subst (λ (q : ObjectPart). Contains (s.running q.object q.owner) p.at) (sym (part_is p k o p.at owns refl)) has)) (keeps.once k o)))
      (λ other. subst (λ (xs : List Subobject). Once xs) (sym (pushed_other s.running p k o other)) (keeps.once k o))
      (owner_cases p k o);
}

pub left_in_step : (s : Phases) (p : ObjectPart) (v : Phase) → IsInStep s → IsOnTop s p → IsInStep (left_at s p v)
left_in_step s p v keeps top = record {
  runs = λ k o y has. ⊎_elim
      (λ owns. let more = subst (λ (xs : List Subobject). Contains xs y) (popped_own s.running p k o owns) has in
      put_test_other is_running true s.phase p v (part k o y)
      (λ same. below_top (s.running k o) p.at y (subst (λ (q : ObjectPart). top_subobject (s.running q.object q.owner) ≡ Some p.at) (part_is p k o p.at owns refl) top) (keeps.once k o) more (part_at p k o y same))
      (keeps.runs k o y (rest_has (s.running k o) y more)))
      (λ other. let more = subst (λ (xs : List Subobject). Contains xs y) (popped_other s.running p k o other) has in
      put_test_other is_running true s.phase p v (part k o y) (λ same. other (part_owns p k o y same)) (keeps.runs k o y more))
      (owner_cases p k o);
  once = λ k o. ⊎_elim
      (λ owns. subst (λ (xs : List Subobject). Once xs) (sym (popped_own s.running p k o owns)) (rest_once (s.running k o) (keeps.once k o)))
      (λ other. subst (λ (xs : List Subobject). Once xs) (sym (popped_other s.running p k o other)) (keeps.once k o))
      (owner_cases p k o);
}

-- each event that fits keeps it
pub event_in_step : (h : Classes) (s : Phases) (e : PartEvent) → IsInStep s → Fits h s e → IsInStep (phases_after s e)
event_in_step h s (Begin p) keeps fits = entered_in_step s p InBases keeps (ap is_running fits) refl
event_in_step h s (Ready p) keeps fits = phased_in_step s p ReadyBuilding keeps refl
event_in_step h s (Init p m) keeps fits = keeps
event_in_step h s (Body p) keeps fits = keeps
event_in_step h s (Done p) keeps fits = left_in_step s p Complete keeps fits.1
event_in_step h s (Ending p) keeps fits = entered_in_step s p ReadyEnding keeps (ap is_running fits) refl
event_in_step h s (Bases p) keeps fits = phased_in_step s p EndingBases keeps refl
event_in_step h s (End p) keeps fits = left_in_step s p Ended keeps fits.1
