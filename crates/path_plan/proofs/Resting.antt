-- An object that no plan is at work on is settled.
use Rattle.std.proofs.Common.{◌≡◌, ℕ, true, false, Some, None, List, [], refl, ap, subst, sym, ◌∙◌}
use Rattle.std.specs.Prelude.{if◌then◌else◌}
use Rattle.cxx_hierarchy.specs.declared.records.ClassId.{ClassId}
use Rattle.cxx_hierarchy.specs.Classes.{Classes}
use Rattle.cxx_subobject.specs.declared.Subobject.{Subobject}
use Rattle.cxx_subobject.specs.Subobjects.{whole_of}
use Rattle.foundation.proofs.Truth.{split}
use Rattle.foundation.proofs.Truth.{or_parts}
use Rattle.path_plan.specs.Places.{Step, ObjectPart, part, IsPartWithin, here, deeper}
use Rattle.path_plan.specs.Phases.{Ended, is_half, is_complete, is_ready, Phases, top_subobject}
use Rattle.path_plan.specs.Views.{Settled}
use Rattle.path_plan.specs.Whole.{whole_part, StandsWhole}
use Rattle.path_plan.proofs.Around.{is_completed}
use Rattle.path_plan.proofs.Other.{IsAtRest, stands, is_gone}

pub in_through : (h : Classes) (q r p : ObjectPart) → IsPartWithin h q r → IsPartWithin h r p → IsPartWithin h q p
in_through h q r _ a (here p e) = subst (λ (x : ObjectPart). IsPartWithin h q x) (sym e) a
in_through h q r _ a (deeper p t kid more) = deeper p t kid (in_through h q r t a more)

-- an idle object whose half-ready parts are none
idle_settled : (h : Classes) (k : ℕ) (s : Phases) → ((o : List Step) → s.running k o ≡ []) → ((q : ObjectPart) → q.object ≡ k → is_half (s.phase q) ≡ true → ⊥)
    → ((p q : ObjectPart) → p.object ≡ k → IsPartWithin h q p → is_complete (s.phase p) ≡ true → is_complete (s.phase q) ≡ true) → Settled h k s
idle_settled h k s idle no_half complete = record {
  ready_view = λ o d x. split (is_complete (s.phase (part k o (whole_of d))))
      (λ b. (if b then Some (whole_of d) else top_subobject (s.running k o)) ≡ Some x → is_ready (s.phase (part k o x)) ≡ true)
      (λ full e. let same : whole_of d ≡ x = cc in subst (λ (y : Subobject). is_ready (s.phase (part k o y)) ≡ true) same (ap is_ready (is_completed (s.phase (part k o (whole_of d))) full)))
      (λ no_full e. absurd (let f : None ≡ Some x = sym (ap top_subobject (idle o)) ∙ e in cc));
  half_view = λ o d x inside half. absurd (no_half (part k o x) refl half);
  complete_in = complete;
  bases_done = λ p q ob kid half. absurd (no_half p ob half);
}

pub rest_settled : (h : Classes) (k : ℕ) (c : ClassId) (s : Phases) → IsAtRest h k c s → Settled h k s
rest_settled h k c s (stands a) = idle_settled h k s a.idle
    (λ q ob half.
    let out : IsPartWithin h q (whole_part k c) → ⊥ = λ inside. let f : false ≡ true = sym (ap is_half (a.complete q inside)) ∙ half in cc in
    let f : false ≡ true = sym (or_parts (is_half (s.phase q)) (is_complete (s.phase q)) (a.none q ob out)).0 ∙ half in cc)
    (λ p q ob inside full. split (is_complete (s.phase q)) (λ b. is_complete (s.phase q) ≡ b → b ≡ true) (λ e _. refl)
    (λ e _. absurd (
    let out : IsPartWithin h p (whole_part k c) → ⊥ = λ in_whole. let f : true ≡ false = sym (ap is_complete (a.complete q (in_through h q p (whole_part k c) inside in_whole))) ∙ e in cc in
    let f : false ≡ true = sym (or_parts (is_half (s.phase p)) (is_complete (s.phase p)) (a.none p ob out)).1 ∙ full in cc)) refl)
rest_settled h k c s (is_gone a) = idle_settled h k s a.idle
    (λ q ob half. let f : false ≡ true = sym (or_parts (is_half (s.phase q)) (is_complete (s.phase q)) (a.none q ob)).0 ∙ half in cc)
    (λ p q ob inside full. absurd (let f : false ≡ true = sym (or_parts (is_half (s.phase p)) (is_complete (s.phase p)) (a.none p ob)).1 ∙ full in cc))

-- one whose whole has not ended is complete in all its parts
pub open_stands : (h : Classes) (k : ℕ) (c : ClassId) (s : Phases) → IsAtRest h k c s → (s.phase (whole_part k c) ≡ Ended → ⊥) → StandsWhole h k c s
open_stands h k c s (stands a) unended = a
open_stands h k c s (is_gone a) unended = absurd (unended (a.ended (whole_part k c) (here (whole_part k c) refl)))
