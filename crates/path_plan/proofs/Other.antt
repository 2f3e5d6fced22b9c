-- What holds of one object does not depend on the others.
use Rattle.std.proofs.Common.{◌≡◌, ℕ, ⊎_elim, false, Some, List, [], ◌∷◌, refl, ap, subst, sym, ◌∙◌}
use Rattle.std.specs.Prelude.{nat_eq, if◌then◌else◌}
use Rattle.std.proofs.lemmas.Bool.{eqb-true, eq-eqb}
use Rattle.cxx_hierarchy.specs.declared.records.ClassId.{ClassId}
use Rattle.cxx_hierarchy.specs.Classes.{Classes}
use Rattle.cxx_subobject.specs.Subobjects.{whole_of}
use Rattle.foundation.proofs.Truth.{split}
use Rattle.path_plan.specs.Places.{Step, ObjectPart, part, same_complete_object}
use Rattle.path_plan.specs.Phases.{Phase, Raw, InBases, ReadyBuilding, Complete, ReadyEnding, EndingBases, Ended, is_half, is_complete, is_ready, Phases, PartEvent, Begin, Ready, Init, Body, Done, Ending, Bases, End, part_of, put, with_pushed_part, popped, rest_of, top_subobject, phases_after, phases_after_all}
use Rattle.path_plan.specs.Views.{view, IsOnTop, Settled, Fits, Coherent}
use Rattle.path_plan.specs.Whole.{whole_part, IsNew, StandsWhole, IsGone}
use Rattle.path_plan.specs.Runs.{renewed}
use Rattle.path_plan.proofs.Same.{put_same, put_other, part_cases, Owns, pushed_other, popped_other}
use Rattle.path_plan.proofs.Growth.{EventsIn}
use Rattle.path_plan.proofs.Construction.{in_object}
use Rattle.path_plan.proofs.Last.{EndsLast}

-- the object k is alike in both
pub record IsSameAt (k : ℕ) (s s' : Phases) : Type 0 where
  pub phase : (q : ObjectPart) → q.object ≡ k → s.phase q ≡ s'.phase q
  pub running : (o : List Step) → s.running k o ≡ s'.running k o

view_same : (k : ℕ) (s s' : Phases) → IsSameAt k s s' → (o : List Step) (d : ClassId) → view s k o d ≡ view s' k o d
view_same k s s' a o d = λ i. if is_complete (a.phase (part k o (whole_of d)) refl i) then Some (whole_of d) else top_subobject (a.running o i)

pub same_settled : (h : Classes) (k : ℕ) (s s' : Phases) → IsSameAt k s s' → Settled h k s → Settled h k s'
same_settled h k s s' a b = record {
  ready_view = λ o d x e. ap is_ready (sym (a.phase (part k o x) refl)) ∙ b.ready_view o d x (view_same k s s' a o d ∙ e);
  half_view = λ o d x inside half. sym (view_same k s s' a o d) ∙ b.half_view o d x inside (ap is_half (a.phase (part k o x) refl) ∙ half);
  complete_in = λ p q ob inside e. ap is_complete (sym (a.phase q (in_object h q p inside ∙ ob))) ∙ b.complete_in p q ob inside (ap is_complete (a.phase p ob) ∙ e);
  bases_done = λ p q ob kid half. ap is_complete (sym (a.phase q (ap (λ (x : ObjectPart). x.object) kid.is ∙ ob))) ∙ b.bases_done p q ob kid (ap is_half (a.phase p ob) ∙ half);
}

same_top : (s s' : Phases) (p : ObjectPart) → IsSameAt p.object s s' → IsOnTop s p → IsOnTop s' p
same_top s s' p a e = ap top_subobject (sym (a.running p.owner)) ∙ e

same_fits : (h : Classes) (s s' : Phases) (e : PartEvent) → IsSameAt (part_of e).object s s' → Fits h s e → Fits h s' e
same_fits h s s' (Begin p) a f = sym (a.phase p refl) ∙ f
same_fits h s s' (Ready p) a f = (sym (a.phase p refl) ∙ f.0, same_top s s' p a f.1)
same_fits h s s' (Init p m) a f = (ap is_half (sym (a.phase p refl)) ∙ f.0, same_top s s' p a f.1)
same_fits h s s' (Body p) a f = (ap is_half (sym (a.phase p refl)) ∙ f.0, same_top s s' p a f.1, same_settled h p.object s s' a f.2)
same_fits h s s' (Done p) a f = (sym (a.phase p refl) ∙ f.0, same_top s s' p a f.1)
same_fits h s s' (Ending p) a f = sym (a.phase p refl) ∙ f
same_fits h s s' (Bases p) a f = (sym (a.phase p refl) ∙ f.0, same_top s s' p a f.1)
same_fits h s s' (End p) a f = (sym (a.phase p refl) ∙ f.0, same_top s s' p a f.1)

same_put : (k : ℕ) (s s' : Phases) (p : ObjectPart) (x : Phase) (q : ObjectPart) → IsSameAt k s s' → q.object ≡ k → put s.phase p x q ≡ put s'.phase p x q
same_put k s s' p x q a ob = ⊎_elim
    (λ e. subst (λ (y : ObjectPart). put s.phase p x y ≡ put s'.phase p x y) e (put_same s.phase p x ∙ sym (put_same s'.phase p x)))
    (λ differ. put_other s.phase p x q differ ∙ (a.phase q ob ∙ sym (put_other s'.phase p x q differ)))
    (part_cases p q)

same_pushed : (k : ℕ) (s s' : Phases) (p : ObjectPart) (o : List Step) → IsSameAt k s s' → with_pushed_part s.running p k o ≡ with_pushed_part s'.running p k o
same_pushed k s s' p o a = λ i. if same_complete_object p.object p.owner k o then p.at ∷ a.running o i else a.running o i

same_popped : (k : ℕ) (s s' : Phases) (p : ObjectPart) (o : List Step) → IsSameAt k s s' → popped s.running p k o ≡ popped s'.running p k o
same_popped k s s' p o a = λ i. if same_complete_object p.object p.owner k o then rest_of (a.running o i) else a.running o i

pub same_after : (k : ℕ) (s s' : Phases) → IsSameAt k s s' → (e : PartEvent) → IsSameAt k (phases_after s e) (phases_after s' e)
same_after k s s' a (Begin p) = record { phase = λ q ob. same_put k s s' p InBases q a ob; running = λ o. same_pushed k s s' p o a }
same_after k s s' a (Ready p) = record { phase = λ q ob. same_put k s s' p ReadyBuilding q a ob; running = a.running }
same_after k s s' a (Init p m) = a
same_after k s s' a (Body p) = a
same_after k s s' a (Done p) = record { phase = λ q ob. same_put k s s' p Complete q a ob; running = λ o. same_popped k s s' p o a }
same_after k s s' a (Ending p) = record { phase = λ q ob. same_put k s s' p ReadyEnding q a ob; running = λ o. same_pushed k s s' p o a }
same_after k s s' a (Bases p) = record { phase = λ q ob. same_put k s s' p EndingBases q a ob; running = a.running }
same_after k s s' a (End p) = record { phase = λ q ob. same_put k s s' p Ended q a ob; running = λ o. same_popped k s s' p o a }

same_after_all : (k : ℕ) (es : List PartEvent) (s s' : Phases) → IsSameAt k s s' → IsSameAt k (phases_after_all s es) (phases_after_all s' es)
same_after_all k [] s s' a = a
same_after_all k (e ∷ es) s s' a = same_after_all k es (phases_after s e) (phases_after s' e) (same_after k s s' a e)

same_coherent : (h : Classes) (w : ObjectPart) (es : List PartEvent) (s s' : Phases) → EventsIn h w es → IsSameAt w.object s s' → Coherent h s es → Coherent h s' es
same_coherent h w [] s s' own a c = tt
same_coherent h w (e ∷ es) s s' own a c = (
  same_fits h s s' e (subst (λ k. IsSameAt k s s') (sym (in_object h (part_of e) w own.0)) a) c.0,
  same_coherent h w es (phases_after s e) (phases_after s' e) own.1 (same_after w.object s s' a e) c.1,
)

-- an event of another object
pub other_after : (k : ℕ) (s : Phases) (e : PartEvent) → ((part_of e).object ≡ k → ⊥) → IsSameAt k s (phases_after s e)
other_after k s (Begin p) off = record { phase = λ q ob. sym (put_other s.phase p InBases q (λ e. off (ap (λ (x : ObjectPart). x.object) e ∙ ob))); running = λ o. sym (pushed_other s.running p k o (λ (w : Owns p k o). off w.object)) }
other_after k s (Ready p) off = record { phase = λ q ob. sym (put_other s.phase p ReadyBuilding q (λ e. off (ap (λ (x : ObjectPart). x.object) e ∙ ob))); running = λ o. refl }
other_after k s (Init p m) off = record { phase = λ q ob. refl; running = λ o. refl }
other_after k s (Body p) off = record { phase = λ q ob. refl; running = λ o. refl }
other_after k s (Done p) off = record { phase = λ q ob. sym (put_other s.phase p Complete q (λ e. off (ap (λ (x : ObjectPart). x.object) e ∙ ob))); running = λ o. sym (popped_other s.running p k o (λ (w : Owns p k o). off w.object)) }
other_after k s (Ending p) off = record { phase = λ q ob. sym (put_other s.phase p ReadyEnding q (λ e. off (ap (λ (x : ObjectPart). x.object) e ∙ ob))); running = λ o. sym (pushed_other s.running p k o (λ (w : Owns p k o). off w.object)) }
other_after k s (Bases p) off = record { phase = λ q ob. sym (put_other s.phase p EndingBases q (λ e. off (ap (λ (x : ObjectPart). x.object) e ∙ ob))); running = λ o. refl }
other_after k s (End p) off = record { phase = λ q ob. sym (put_other s.phase p Ended q (λ e. off (ap (λ (x : ObjectPart). x.object) e ∙ ob))); running = λ o. sym (popped_other s.running p k o (λ (w : Owns p k o). off w.object)) }

pub other_renewed : (k j : ℕ) (s : Phases) → (k ≡ j → ⊥) → IsSameAt k s (renewed j s)
other_renewed k j s off = record {
  phase = λ q ob. split (nat_eq q.object j) (λ t. s.phase q ≡ (if t then Raw else s.phase q)) (λ e. absurd (off (sym ob ∙ eqb-true q.object j e))) (λ e. refl);
  running = λ o. split (nat_eq k j) (λ t. s.running k o ≡ (if t then [] else s.running k o)) (λ e. absurd (off (eqb-true k j e))) (λ e. refl);
}

pub renewed_new : (k : ℕ) (s : Phases) → IsNew k (renewed k s)
renewed_new k s = record { raw = λ q ob. rw (eq-eqb q.object k ob) refl; idle = λ o. rw (eq-eqb k k refl) refl }

-- an object that no plan is at work on
pub data IsAtRest (h : Classes) (k : ℕ) (c : ClassId) (s : Phases) : Type 0 where
  stands : StandsWhole h k c s → IsAtRest h k c s
  is_gone : IsGone h k c s → IsAtRest h k c s

pub same_rest : (h : Classes) (k : ℕ) (c : ClassId) (s s' : Phases) → IsSameAt k s s' → IsAtRest h k c s → IsAtRest h k c s'
same_rest h k c s s' a (stands b) = stands (record {
  complete = λ q inside. sym (a.phase q (in_object h q (whole_part k c) inside)) ∙ b.complete q inside;
  none = λ q ob out. ap is_ready (sym (a.phase q ob)) ∙ b.none q ob out;
  idle = λ o. sym (a.running o) ∙ b.idle o;
})
same_rest h k c s s' a (is_gone b) = is_gone (record {
  ended = λ q inside. sym (a.phase q (in_object h q (whole_part k c) inside)) ∙ b.ended q inside;
  none = λ q ob. ap is_ready (sym (a.phase q ob)) ∙ b.none q ob;
  idle = λ o. sym (a.running o) ∙ b.idle o;
})

-- what a plan of the object k has before it
pub record Carries (h : Classes) (k : ℕ) (c : ClassId) (s : Phases) (es : List PartEvent) : Type 0 where
  pub coherent : Coherent h s es
  pub inside : EventsIn h (whole_part k c) es
  pub rests : IsAtRest h k c (phases_after_all s es)
  pub last : EndsLast (whole_part k c) es

pub same_carries : (h : Classes) (k : ℕ) (c : ClassId) (s s' : Phases) (es : List PartEvent) → IsSameAt k s s' → Carries h k c s es → Carries h k c s' es
same_carries h k c s s' es a b = record {
  coherent = same_coherent h (whole_part k c) es s s' b.inside a b.coherent;
  inside = b.inside;
  rests = same_rest h k c (phases_after_all s es) (phases_after_all s' es) (same_after_all k es s s' a) b.rests;
  last = b.last;
}

-- what holds of it while a body of it runs
pub record Waits (h : Classes) (k : ℕ) (c : ClassId) (s : Phases) : Type 0 where
  pub settled : Settled h k s
  pub unfinished : is_complete (s.phase (whole_part k c)) ≡ false

pub same_waits : (h : Classes) (k : ℕ) (c : ClassId) (s s' : Phases) → IsSameAt k s s' → Waits h k c s → Waits h k c s'
same_waits h k c s s' a b = record { settled = same_settled h k s s' a b.settled; unfinished = ap is_complete (sym (a.phase (whole_part k c) refl)) ∙ b.unfinished }
