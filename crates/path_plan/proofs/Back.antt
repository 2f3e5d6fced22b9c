-- Time turned round: a coherent plan, backwards, is coherent from where it ended.
use Rattle.std.proofs.Common.{◌≡◌, ℕ, ◌⊎◌, inl, inr, ⊎_elim, Bool, true, false, Some, List, [], ◌∷◌, refl, ap, subst, sym, ◌∙◌}
use Rattle.cxx_hierarchy.specs.Classes.{Classes}
use Rattle.cxx_subobject.specs.declared.Subobject.{Subobject}
use Rattle.foundation.proofs.Truth.{or_parts}
use Rattle.path_plan.specs.Places.{Step, ObjectPart}
use Rattle.path_plan.specs.Phases.{Phase, Raw, InBases, ReadyBuilding, Complete, ReadyEnding, EndingBases, Ended, is_half, is_complete, is_ready, Phases, PartEvent, Begin, Ready, Init, Body, Done, Ending, Bases, End, put, with_pushed_part, popped, rest_of, top_subobject, phases_after, phases_after_all}
use Rattle.path_plan.specs.Views.{IsOnTop, IsObjectSettled, Settled, Fits, Coherent}
use Rattle.path_plan.proofs.Same.{put_same, put_other, part_cases, Owns, owner_cases, pushed_same, pushed_other, popped_same, popped_other}
use Rattle.path_plan.proofs.Growth.{Plays, plays_append}
use Rattle.path_plan.specs.Mirrors.{mirrored_event, mirrored}

abbrev pub mirror : Phase → Phase
mirror Raw = Ended
mirror InBases = EndingBases
mirror ReadyBuilding = ReadyEnding
mirror Complete = Complete
mirror ReadyEnding = ReadyBuilding
mirror EndingBases = InBases
mirror Ended = Raw

abbrev pub mirror_all : Phases → Phases
mirror_all s = record { phase = λ q. mirror (s.phase q); running = s.running }

half_mirror : (x : Phase) → is_half (mirror x) ≡ is_half x
half_mirror Raw = refl
half_mirror InBases = refl
half_mirror ReadyBuilding = refl
half_mirror Complete = refl
half_mirror ReadyEnding = refl
half_mirror EndingBases = refl
half_mirror Ended = refl

complete_mirror : (x : Phase) → is_complete (mirror x) ≡ is_complete x
complete_mirror Raw = refl
complete_mirror InBases = refl
complete_mirror ReadyBuilding = refl
complete_mirror Complete = refl
complete_mirror ReadyEnding = refl
complete_mirror EndingBases = refl
complete_mirror Ended = refl

pub mirror_mirror : (x : Phase) → mirror (mirror x) ≡ x
mirror_mirror Raw = refl
mirror_mirror InBases = refl
mirror_mirror ReadyBuilding = refl
mirror_mirror Complete = refl
mirror_mirror ReadyEnding = refl
mirror_mirror EndingBases = refl
mirror_mirror Ended = refl

-- what is settled goes by the two tests alone
pub settled_by : (h : Classes) (k : ℕ) (s s' : Phases) → ((q : ObjectPart) → is_half (s.phase q) ≡ is_half (s'.phase q)) → ((q : ObjectPart) → is_complete (s.phase q) ≡ is_complete (s'.phase q)) → ((j : ℕ) (o : List Step) → s.running j o ≡ s'.running j o) → Settled h k s → Settled h k s'
settled_by h k s s' half complete running a =
    subst (λ (r : ℕ → List Step → List Subobject). IsObjectSettled h k (λ p. is_half (s'.phase p)) (λ p. is_complete (s'.phase p)) r) (λ i j o. running j o i)
    (subst (λ (t : ObjectPart → Bool). IsObjectSettled h k (λ p. is_half (s'.phase p)) t s.running) (λ i q. complete q i)
    (subst (λ (t : ObjectPart → Bool). IsObjectSettled h k t (λ p. is_complete (s.phase p)) s.running) (λ i q. half q i) a))

pub same_phases : (s s' : Phases) → ((q : ObjectPart) → s.phase q ≡ s'.phase q) → ((k : ℕ) (o : List Step) → s.running k o ≡ s'.running k o) → s ≡ s'
same_phases s s' phase running = λ i. record { phase = λ q. phase q i; running = λ k o. running k o i }

put_back : (phase : ObjectPart → Phase) (p : ObjectPart) (x y : Phase) → phase p ≡ y → (q : ObjectPart) → put (λ r. mirror (put phase p x r)) p (mirror y) q ≡ mirror (phase q)
put_back phase p x y e q = ⊎_elim
    (λ same. subst (λ (r : ObjectPart). put (λ r. mirror (put phase p x r)) p (mirror y) r ≡ mirror (phase r)) same (put_same (λ r. mirror (put phase p x r)) p (mirror y) ∙ ap mirror (sym e)))
    (λ differ. put_other (λ r. mirror (put phase p x r)) p (mirror y) q differ ∙ ap mirror (put_other phase p x q differ))
    (part_cases p q)

at_owner : (p : ObjectPart) (k : ℕ) (o : List Step) (r r' : ℕ → List Step → List Subobject) → Owns p k o → r p.object p.owner ≡ r' p.object p.owner → r k o ≡ r' k o
at_owner p k o r r' owned e = subst (λ x. r x o ≡ r' x o) owned.object (subst (λ (x : List Step). r p.object x ≡ r' p.object x) owned.owner e)

pop_push : (r : ℕ → List Step → List Subobject) (p : ObjectPart) (k : ℕ) (o : List Step) → popped (with_pushed_part r p) p k o ≡ r k o
pop_push r p k o = ⊎_elim
    (λ (owned : Owns p k o). at_owner p k o (popped (with_pushed_part r p) p) r owned (popped_same (with_pushed_part r p) p ∙ ap rest_of (pushed_same r p)))
    (λ apart. popped_other (with_pushed_part r p) p k o apart ∙ pushed_other r p k o apart)
    (owner_cases p k o)

first_rest : (xs : List Subobject) (x : Subobject) → top_subobject xs ≡ Some x → x ∷ rest_of xs ≡ xs
first_rest [] x e = absurd (cc)
first_rest (y ∷ xs) x e = let f : y ≡ x = cc in ap (λ (z : Subobject). z ∷ xs) (sym f)

push_pop : (r : ℕ → List Step → List Subobject) (p : ObjectPart) → top_subobject (r p.object p.owner) ≡ Some p.at → (k : ℕ) (o : List Step) → with_pushed_part (popped r p) p k o ≡ r k o
push_pop r p top k o = ⊎_elim
    (λ (owned : Owns p k o). at_owner p k o (with_pushed_part (popped r p) p) r owned (pushed_same (popped r p) p ∙ (ap (λ x. p.at ∷ x) (popped_same r p) ∙ first_rest (r p.object p.owner) p.at top)))
    (λ apart. pushed_other (popped r p) p k o apart ∙ popped_other r p k o apart)
    (owner_cases p k o)

one_back : (h : Classes) (s : Phases) (e : PartEvent) → Fits h s e → Plays h (mirror_all (phases_after s e)) (mirrored_event e ∷ []) (mirror_all s)
one_back h s (Begin p) f = (
  (ap mirror (put_same s.phase p InBases), ap top_subobject (pushed_same s.running p)),
  same_phases (phases_after (mirror_all (phases_after s (Begin p))) (End p)) (mirror_all s) (put_back s.phase p InBases Raw f) (pop_push s.running p),
)
one_back h s (Ready p) f = (
  (ap mirror (put_same s.phase p ReadyBuilding), f.1),
  same_phases (phases_after (mirror_all (phases_after s (Ready p))) (Bases p)) (mirror_all s) (put_back s.phase p ReadyBuilding InBases f.0) (λ k o. refl),
)
one_back h s (Init p m) f = ((half_mirror (s.phase p) ∙ f.0, f.1), refl)
one_back h s (Body p) f = (
  (half_mirror (s.phase p) ∙ f.0, f.1, settled_by h p.object s (mirror_all s) (λ q. sym (half_mirror (s.phase q))) (λ q. sym (complete_mirror (s.phase q))) (λ j o. refl) f.2),
  refl,
)
one_back h s (Done p) f = (
  ap mirror (put_same s.phase p Complete),
  same_phases (phases_after (mirror_all (phases_after s (Done p))) (Ending p)) (mirror_all s) (put_back s.phase p Complete ReadyBuilding f.0) (push_pop s.running p f.1),
)
one_back h s (Ending p) f = (
  (ap mirror (put_same s.phase p ReadyEnding), ap top_subobject (pushed_same s.running p)),
  same_phases (phases_after (mirror_all (phases_after s (Ending p))) (Done p)) (mirror_all s) (put_back s.phase p ReadyEnding Complete f) (pop_push s.running p),
)
one_back h s (Bases p) f = (
  (ap mirror (put_same s.phase p EndingBases), f.1),
  same_phases (phases_after (mirror_all (phases_after s (Bases p))) (Ready p)) (mirror_all s) (put_back s.phase p EndingBases ReadyEnding f.0) (λ k o. refl),
)
one_back h s (End p) f = (
  ap mirror (put_same s.phase p Ended),
  same_phases (phases_after (mirror_all (phases_after s (End p))) (Begin p)) (mirror_all s) (put_back s.phase p Ended EndingBases f.0) (push_pop s.running p f.1),
)

pub all_back : (h : Classes) (s : Phases) (es : List PartEvent) → Coherent h s es → Plays h (mirror_all (phases_after_all s es)) (mirrored es) (mirror_all s)
all_back h s [] a = refl
all_back h s (e ∷ es) a = plays_append h (mirror_all (phases_after_all (phases_after s e) es)) (mirror_all (phases_after s e)) (mirror_all s) (mirrored es) (mirrored_event e ∷ []) (all_back h (phases_after s e) es a.1) (one_back h s e a.0)

-- states that differ only in parts that are not ready, and have ended in the first
pub record Alike (V : ObjectPart → Type 0) (s s' : Phases) : Type 0 where
  pub same : (q : ObjectPart) → V q → s.phase q ≡ s'.phase q
  pub all : (q : ObjectPart) → (s.phase q ≡ s'.phase q) ⊎ ((s.phase q ≡ Ended) × (is_ready (s'.phase q) ≡ false))
  pub running : (k : ℕ) (o : List Step) → s.running k o ≡ s'.running k o

alike_settled : (h : Classes) (k : ℕ) (V : ObjectPart → Type 0) (s s' : Phases) → Alike V s s' → Settled h k s → Settled h k s'
alike_settled h k V s s' a = settled_by h k s s'
    (λ q. ⊎_elim (λ e. ap is_half e) (λ d. ap is_half d.0 ∙ sym (or_parts (is_half (s'.phase q)) (is_complete (s'.phase q)) d.1).0) (a.all q))
    (λ q. ⊎_elim (λ e. ap is_complete e) (λ d. ap is_complete d.0 ∙ sym (or_parts (is_half (s'.phase q)) (is_complete (s'.phase q)) d.1).1) (a.all q))
    a.running

-- an event that fits finds its part in a phase that is not the last one
live : (V : ObjectPart → Type 0) (s s' : Phases) → Alike V s s' → (p : ObjectPart) (x : Phase) → s.phase p ≡ x → (x ≡ Ended → ⊥) → s'.phase p ≡ x
live V s s' a p x e alive = ⊎_elim (λ f. sym f ∙ e) (λ d. absurd (alive (sym e ∙ d.0))) (a.all p)

live_half : (V : ObjectPart → Type 0) (s s' : Phases) → Alike V s s' → (p : ObjectPart) → is_half (s.phase p) ≡ true → is_half (s'.phase p) ≡ true
live_half V s s' a p e = ⊎_elim (λ f. ap is_half (sym f) ∙ e) (λ d. absurd (let f : false ≡ true = sym (ap is_half d.0) ∙ e in cc)) (a.all p)

live_top : (V : ObjectPart → Type 0) (s s' : Phases) → Alike V s s' → (p : ObjectPart) → IsOnTop s p → IsOnTop s' p
live_top V s s' a p e = ap top_subobject (sym (a.running p.object p.owner)) ∙ e

alike_fits : (h : Classes) (V : ObjectPart → Type 0) (s s' : Phases) → Alike V s s' → (e : PartEvent) → Fits h s e → Fits h s' e
alike_fits h V s s' a (Begin p) f = live V s s' a p Raw f (λ e. cc)
alike_fits h V s s' a (Ready p) f = (live V s s' a p InBases f.0 (λ e. cc), live_top V s s' a p f.1)
alike_fits h V s s' a (Init p m) f = (live_half V s s' a p f.0, live_top V s s' a p f.1)
alike_fits h V s s' a (Body p) f = (live_half V s s' a p f.0, live_top V s s' a p f.1, alike_settled h p.object V s s' a f.2)
alike_fits h V s s' a (Done p) f = (live V s s' a p ReadyBuilding f.0 (λ e. cc), live_top V s s' a p f.1)
alike_fits h V s s' a (Ending p) f = live V s s' a p Complete f (λ e. cc)
alike_fits h V s s' a (Bases p) f = (live V s s' a p ReadyEnding f.0 (λ e. cc), live_top V s s' a p f.1)
alike_fits h V s s' a (End p) f = (live V s s' a p EndingBases f.0 (λ e. cc), live_top V s s' a p f.1)

alike_put : (V : ObjectPart → Type 0) (s s' : Phases) (p : ObjectPart) (x : Phase) (r r' : ℕ → List Step → List Subobject) → Alike V s s' → ((k : ℕ) (o : List Step) → r k o ≡ r' k o)
    → Alike V (record { phase = put s.phase p x; running = r }) (record { phase = put s'.phase p x; running = r' })
alike_put V s s' p x r r' a running = record {
  same = λ q v. ⊎_elim (λ e. at q e) (λ differ. put_other s.phase p x q differ ∙ (a.same q v ∙ sym (put_other s'.phase p x q differ))) (part_cases p q);
  all = λ q. ⊎_elim (λ e. inl (at q e))
      (λ differ. ⊎_elim (λ e. inl (put_other s.phase p x q differ ∙ (e ∙ sym (put_other s'.phase p x q differ))))
      (λ d. inr (put_other s.phase p x q differ ∙ d.0, ap is_ready (put_other s'.phase p x q differ) ∙ d.1)) (a.all q)) (part_cases p q);
  running = running;
}
  where
    at : (q : ObjectPart) → p ≡ q → put s.phase p x q ≡ put s'.phase p x q
    at q e = subst (λ (y : ObjectPart). put s.phase p x y ≡ put s'.phase p x y) e (put_same s.phase p x ∙ sym (put_same s'.phase p x))

pushed_alike : (r r' : ℕ → List Step → List Subobject) (p : ObjectPart) → ((k : ℕ) (o : List Step) → r k o ≡ r' k o) → (k : ℕ) (o : List Step) → with_pushed_part r p k o ≡ with_pushed_part r' p k o
pushed_alike r r' p e k o = λ i. with_pushed_part (λ j x. e j x i) p k o

popped_alike : (r r' : ℕ → List Step → List Subobject) (p : ObjectPart) → ((k : ℕ) (o : List Step) → r k o ≡ r' k o) → (k : ℕ) (o : List Step) → popped r p k o ≡ popped r' p k o
popped_alike r r' p e k o = λ i. popped (λ j x. e j x i) p k o

alike_after : (V : ObjectPart → Type 0) (s s' : Phases) → Alike V s s' → (e : PartEvent) → Alike V (phases_after s e) (phases_after s' e)
alike_after V s s' a (Begin p) = alike_put V s s' p InBases (with_pushed_part s.running p) (with_pushed_part s'.running p) a (pushed_alike s.running s'.running p a.running)
alike_after V s s' a (Ready p) = alike_put V s s' p ReadyBuilding s.running s'.running a a.running
alike_after V s s' a (Init p m) = a
alike_after V s s' a (Body p) = a
alike_after V s s' a (Done p) = alike_put V s s' p Complete (popped s.running p) (popped s'.running p) a (popped_alike s.running s'.running p a.running)
alike_after V s s' a (Ending p) = alike_put V s s' p ReadyEnding (with_pushed_part s.running p) (with_pushed_part s'.running p) a (pushed_alike s.running s'.running p a.running)
alike_after V s s' a (Bases p) = alike_put V s s' p EndingBases s.running s'.running a a.running
alike_after V s s' a (End p) = alike_put V s s' p Ended (popped s.running p) (popped s'.running p) a (popped_alike s.running s'.running p a.running)

pub record IsAlikePlay (h : Classes) (V : ObjectPart → Type 0) (t s' : Phases) (es : List PartEvent) : Type 0 where
  pub coherent : Coherent h s' es
  pub alike : Alike V t (phases_after_all s' es)

pub alike_plays : (h : Classes) (V : ObjectPart → Type 0) (es : List PartEvent) (s s' t : Phases) → Alike V s s' → Plays h s es t → IsAlikePlay h V t s' es
alike_plays h V [] s s' t a b = record { coherent = tt; alike = subst (λ (x : Phases). Alike V x s') b a }
alike_plays h V (e ∷ es) s s' t a b =
    let r = alike_plays h V es (phases_after s e) (phases_after s' e) t (alike_after V s s' a e) b.1 in
    record { coherent = (alike_fits h V s s' a e b.0, r.coherent); alike = r.alike }
