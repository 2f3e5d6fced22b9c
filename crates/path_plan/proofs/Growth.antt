-- What a part of a plan of construction changes: some raw parts become complete, and all else stays.
use Rattle.std.proofs.Common.{◌≡◌, ℕ, ◌⊎◌, inl, inr, ⊎_elim, true, false, List, [], ◌∷◌, ◌++◌, refl, ap, subst, sym, ◌∙◌}
use Rattle.cxx_hierarchy.specs.Classes.{Classes}
use Rattle.path_plan.specs.Places.{Step, ObjectPart, IsKid, IsBaseKid, IsPartWithin}
use Rattle.path_plan.specs.Phases.{Complete, is_half, is_ready, Phases, PartEvent, part_of, phases_after, phases_after_all}
use Rattle.path_plan.specs.Views.{IsOnTop, Fits, Coherent}
use Rattle.path_plan.proofs.Names.{Token, name, Begins, IsRaw}

-- what holds of an object at each moment
pub record Inv (h : Classes) (k : ℕ) (s : Phases) : Type 0 where
  -- a part that is ready and not complete is the innermost one that runs
  pub half_top : (q : ObjectPart) → q.object ≡ k → is_half (s.phase q) ≡ true → IsOnTop s q
  -- the bases, members and elements of a complete part are complete
  pub kids : (p q : ObjectPart) → p.object ≡ k → s.phase p ≡ Complete → IsKid h p q → s.phase q ≡ Complete
  -- the bases of a part that is ready and not complete are complete
  pub bases : (p q : ObjectPart) → p.object ≡ k → is_half (s.phase p) ≡ true → IsBaseKid h p q → s.phase q ≡ Complete

pub record Made (h : Classes) (t : List Token) (p : ObjectPart) (s : Phases) (q : ObjectPart) : Type 0 where
  pub complete : s.phase q ≡ Complete
  pub within : Begins t (name q)
  pub inside : IsPartWithin h q p

-- what becomes of a part q: nothing, or it is made
abbrev pub Change : Classes → List Token → ObjectPart → Phases → Phases → ObjectPart → Type 0
Change h t p s s' q = (s'.phase q ≡ s.phase q) ⊎ Made h t p s' q

pub change_then : (h : Classes) (t : List Token) (p : ObjectPart) (s s' s'' : Phases) (q : ObjectPart) → Change h t p s s' q → Change h t p s' s'' q → Change h t p s s'' q
change_then h t p s s' s'' q a b = ⊎_elim
    (λ e. ⊎_elim (λ f. inl (e ∙ f)) (λ (m : Made h t p s' q). inr (record { complete = e ∙ m.complete; within = m.within; inside = m.inside })) a)
    (λ m. inr m) b

pub change_wider : (h : Classes) (t u : List Token) (r p : ObjectPart) (s s' : Phases) (q : ObjectPart) → ((n : List Token) → Begins t n → Begins u n) → ((x : ObjectPart) → IsPartWithin h x r → IsPartWithin h x p) → Change h t r s s' q → Change h u p s s' q
change_wider h t u r p s s' q wider inside a = ⊎_elim (λ e. inl e) (λ (m : Made h t r s' q). inr (record { complete = m.complete; within = wider (name q) m.within; inside = inside q m.inside })) a

pub record Went (h : Classes) (t : List Token) (p : ObjectPart) (s s' : Phases) : Type 0 where
  pub running : (k : ℕ) (o : List Step) → s'.running k o ≡ s.running k o
  pub changed : (q : ObjectPart) → Change h t p s s' q
  pub inv : Inv h p.object s'

pub went_none : (h : Classes) (t : List Token) (p : ObjectPart) (s : Phases) → Inv h p.object s → Went h t p s s
went_none h t p s inv = record { running = λ k o. refl; changed = λ q. inl refl; inv = inv }

pub went_then : (h : Classes) (t : List Token) (p : ObjectPart) (s s' s'' : Phases) → Went h t p s s' → Went h t p s' s'' → Went h t p s s''
went_then h t p s s' s'' a b = record { running = λ k o. b.running k o ∙ a.running k o; changed = λ q. change_then h t p s s' s'' q (a.changed q) (b.changed q); inv = b.inv }

pub went_wider : (h : Classes) (t u : List Token) (r p : ObjectPart) (s s' : Phases) → ((n : List Token) → Begins t n → Begins u n) → ((q : ObjectPart) → IsPartWithin h q r → IsPartWithin h q p) → r.object ≡ p.object → Went h t r s s' → Went h u p s s'
went_wider h t u r p s s' wider inside same a = record { running = a.running; changed = λ q. change_wider h t u r p s s' q wider inside (a.changed q); inv = subst (λ k. Inv h k s') same a.inv }

pub stays : (h : Classes) (t : List Token) (p : ObjectPart) (s s' : Phases) (q : ObjectPart) → Went h t p s s' → s.phase q ≡ Complete → s'.phase q ≡ Complete
stays h t p s s' q a e = ⊎_elim (λ f. f ∙ e) (λ (m : Made h t p s' q). m.complete) (a.changed q)

pub ready_stays : (h : Classes) (t : List Token) (p : ObjectPart) (s s' : Phases) (q : ObjectPart) → Went h t p s s' → is_ready (s.phase q) ≡ true → is_ready (s'.phase q) ≡ true
ready_stays h t p s s' q a e = ⊎_elim (λ f. ap is_ready f ∙ e) (λ (m : Made h t p s' q). ap is_ready m.complete) (a.changed q)

pub not_half : (h : Classes) (t : List Token) (p : ObjectPart) (s s' : Phases) (q : ObjectPart) → Went h t p s s' → is_half (s.phase q) ≡ false → is_half (s'.phase q) ≡ false
not_half h t p s s' q a e = ⊎_elim (λ f. ap is_half f ∙ e) (λ (m : Made h t p s' q). ap is_half m.complete) (a.changed q)

pub outside : (h : Classes) (t : List Token) (p : ObjectPart) (s s' : Phases) (q : ObjectPart) → Went h t p s s' → (Begins t (name q) → ⊥) → s'.phase q ≡ s.phase q
outside h t p s s' q a off = ⊎_elim (λ f. f) (λ (m : Made h t p s' q). absurd (off m.within)) (a.changed q)

pub raw_stays : (h : Classes) (t u : List Token) (p : ObjectPart) (s s' : Phases) → Went h t p s s' → ((n : List Token) → Begins t n → Begins u n → ⊥) → IsRaw u s → IsRaw u s'
raw_stays h t u p s s' a off raw q b = outside h t p s s' q a (λ c. off (name q) c b) ∙ raw q b

-- the events, one after another, each fitting, lead from one state to the other
abbrev pub Plays : Classes → Phases → List PartEvent → Phases → Type 0
Plays h s [] s' = s ≡ s'
Plays h s (e ∷ es) s' = Fits h s e × Plays h (phases_after s e) es s'

pub plays_append : (h : Classes) (s s' s'' : Phases) (xs ys : List PartEvent) → Plays h s xs s' → Plays h s' ys s'' → Plays h s (xs ++ ys) s''
plays_append h s s' s'' [] ys a b = subst (λ (x : Phases). Plays h x ys s'') (sym a) b
plays_append h s s' s'' (x ∷ xs) ys a b = (a.0, plays_append h (phases_after s x) s' s'' xs ys a.1 b)

pub plays_coherent : (h : Classes) (s s' : Phases) (es : List PartEvent) → Plays h s es s' → Coherent h s es
plays_coherent h s s' [] a = tt
plays_coherent h s s' (e ∷ es) a = (a.0, plays_coherent h (phases_after s e) s' es a.1)

pub plays_after : (h : Classes) (s s' : Phases) (es : List PartEvent) → Plays h s es s' → phases_after_all s es ≡ s'
plays_after h s s' [] a = a
plays_after h s s' (e ∷ es) a = plays_after h (phases_after s e) s' es a.1

-- the events are of parts that lie in p
abbrev pub EventsIn : Classes → ObjectPart → List PartEvent → Type 0
EventsIn h p [] = Unit {0}
EventsIn h p (e ∷ es) = IsPartWithin h (part_of e) p × EventsIn h p es

pub events_append : (h : Classes) (p : ObjectPart) (xs ys : List PartEvent) → EventsIn h p xs → EventsIn h p ys → EventsIn h p (xs ++ ys)
events_append h p [] ys a b = b
events_append h p (x ∷ xs) ys a b = (a.0, events_append h p xs ys a.1 b)

pub events_wider : (h : Classes) (r p : ObjectPart) (es : List PartEvent) → ((q : ObjectPart) → IsPartWithin h q r → IsPartWithin h q p) → EventsIn h r es → EventsIn h p es
events_wider h r p [] wider a = tt
events_wider h r p (e ∷ es) wider a = (wider (part_of e) a.0, events_wider h r p es wider a.1)

-- the events play from s, and what they did then holds
pub record Ran (h : Classes) (t : List Token) (p : ObjectPart) (s : Phases) (es : List PartEvent) (Did : Phases → Type 0) : Type 0 where
  pub end : Phases
  pub plays : Plays h s es end
  pub inside : EventsIn h p es
  pub went : Went h t p s end
  pub did : Did end
