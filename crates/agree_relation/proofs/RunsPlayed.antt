-- In every run the plan of an object has played its first events, and at each statement what is ready has a view, and lies in what has begun.
use Rattle.std.proofs.Common.{◌≡◌, ℕ, ⊎_elim, inl, inr, true, false, Some, None, List, [], ◌∷◌, ◌++◌, length, refl, ap, sym, subst, ◌∙◌, append_assoc, arith}
use Rattle.std.specs.Prelude.{slice_get}
use Rattle.std.proofs.lemmas.Option.{slice_get_within}
use Rattle.foundation.proofs.Members.{Has}
use Rattle.foundation.proofs.Places.{get_last, get_pushed}
use Rattle.cxx_hierarchy.specs.declared.records.Base.{Base}
use Rattle.cxx_hierarchy.specs.declared.records.ClassId.{ClassId}
use Rattle.cxx_hierarchy.specs.Classes.{Classes}
use Rattle.cxx_hierarchy.specs.Hierarchies.{IsHierarchy}
use Rattle.cxx_subobject.specs.declared.Subobject.{Subobject}
use Rattle.cxx_subobject.specs.Subobjects.{subobject, whole_of}
use Rattle.cxx_subobject.specs.Locations.{Step}
use Rattle.path_plan.specs.Places.{part, IsPartWithin, here}
use Rattle.path_plan.specs.Phases.{Raw, Complete, Ended, is_complete, Phases, PartEvent, part_of, phases_after, phases_after_all}
use Rattle.path_plan.specs.Plans.{Bodies}
use Rattle.path_plan.specs.Views.{view}
use Rattle.path_plan.specs.Whole.{StandsWhole, construction, destruction, whole_part}
use Rattle.path_plan.specs.Runs.{EventFrame, InBody, InPlan, Run, renewed, entered, in_plan, in_body, Moves, event, finish, call, leave, make, delete, Reached, starts, moves}
use Rattle.path_plan.proofs.Around.{is_completed}
use Rattle.path_plan.proofs.Construction.{in_object}
use Rattle.path_plan.proofs.Other.{IsSameAt, other_after, other_renewed, renewed_new, IsAtRest, stands, is_gone, same_after}
use Rattle.path_plan.proofs.Frames.{objects, has_object, object_has, has_or_not, not_body, entered_has, same_class}
use Rattle.path_plan.proofs.Kept.{IsKept, reached_kept}
use Rattle.agree_relation.proofs.PlanOrder.{IsMemberClass}
use Rattle.agree_relation.proofs.Played.{IsPlayed, builds, ends, played_view, played_around}

alike : (k : ℕ) (s t u : Phases) → IsSameAt k s t → IsSameAt k s u → IsSameAt k t u
alike k s t u a b = record { phase = λ q ob. sym (a.phase q ob) ∙ b.phase q ob; running = λ o. sym (a.running o) ∙ b.running o }

after_last : (s : Phases) (xs : List PartEvent) (e : PartEvent) → phases_after_all s (xs ++ e ∷ []) ≡ phases_after (phases_after_all s xs) e
after_last s [] e = refl
after_last s (x ∷ xs) e = after_last (phases_after s x) xs e

-- a plan that takes its next event
played_next : (h : Classes) (bodies : Bodies) (k : ℕ) (c : ClassId) (s : Phases) (e : PartEvent) (es : List PartEvent) → IsPlayed h bodies k c s (e ∷ es) → IsPlayed h bodies k c (phases_after s e) es
played_next h bodies k c s e es (builds first xs new list same) = builds first (xs ++ e ∷ []) new (append_assoc xs (e ∷ []) es ∙ list) (subst (λ (z : Phases). IsSameAt k (phases_after s e) z) (sym (after_last first xs e)) (same_after k s (phases_after_all first xs) same e))
played_next h bodies k c s e es (ends first xs standing list same) = ends first (xs ++ e ∷ []) standing (append_assoc xs (e ∷ []) es ∙ list) (subst (λ (z : Phases). IsSameAt k (phases_after s e) z) (sym (after_last first xs e)) (same_after k s (phases_after_all first xs) same e))

-- another object changes
played_still : (h : Classes) (bodies : Bodies) (k : ℕ) (c : ClassId) (s t : Phases) (es : List PartEvent) → IsSameAt k s t → IsPlayed h bodies k c s es → IsPlayed h bodies k c t es
played_still h bodies k c s t es a (builds first xs new list same) = builds first xs new list (alike k s t (phases_after_all first xs) a same)
played_still h bodies k c s t es a (ends first xs standing list same) = ends first xs standing list (alike k s t (phases_after_all first xs) a same)

-- each plan of a run has played
abbrev pub ArePlayed : Classes → Bodies → Run → Type 0
ArePlayed h bodies r = (k : ℕ) (c : ClassId) (es : List PartEvent) → Has r.frames (InPlan k es) → slice_get r.classes k ≡ Some c → IsPlayed h bodies k c r.phases es

played_event : (h : Classes) (bodies : Bodies) (cs : List ClassId) (s : Phases) (k : ℕ) (e : PartEvent) (es : List PartEvent) (below : List EventFrame) → IsKept h (in_plan cs s k (e ∷ es) below) → ArePlayed h bodies (in_plan cs s k (e ∷ es) below) →
    ArePlayed h bodies (record { classes = cs; phases = phases_after s e; frames = entered e (InPlan k es ∷ below) })
played_event h bodies cs s k e es below kept played j d fs has got = ⊎_elim
    (λ top.
    let ids : k ≡ j = cc in
    let plans : es ≡ fs = cc in
    subst (λ (xs : List PartEvent). IsPlayed h bodies j d (phases_after s e) xs) plans (subst (λ i. IsPlayed h bodies i d (phases_after s e) es) ids (played_next h bodies k d s e es (played k d (e ∷ es) (inl refl) (subst (λ i. slice_get cs i ≡ Some d) (sym ids) got)))))
    (λ more.
    let made = kept.made k (inl refl) in
    let own : (part_of e).object ≡ k = in_object h (part_of e) (whole_part k made.0) (kept.carries k made.0 (e ∷ es) (inl refl) made.1).inside.0 in
    let off : j ≡ k → ⊥ = λ same. kept.once.0 (subst (λ i. Has (objects below) i) same (has_object below j fs more)) in
    played_still h bodies j d s (phases_after s e) fs (other_after j s e (λ same. off (sym same ∙ own))) (played j d fs (inr more) got))
    (entered_has e (InPlan k es ∷ below) j fs has)

played_make : (h : Classes) (bodies : Bodies) (cs : List ClassId) (s : Phases) (below : List EventFrame) (c : ClassId) → IsKept h (in_body cs s below) → ArePlayed h bodies (in_body cs s below) →
    ArePlayed h bodies (in_plan (cs ++ c ∷ []) (renewed (length cs) s) (length cs) (construction h bodies (length cs) c) (InBody ∷ below))
played_make h bodies cs s below c kept played j d fs has got = ⊎_elim
    (λ top.
    let ids : length cs ≡ j = cc in
    let plans : construction h bodies (length cs) c ≡ fs = cc in
    let class : c ≡ d = same_class (slice_get (cs ++ c ∷ []) j) c d (subst (λ i. slice_get (cs ++ c ∷ []) i ≡ Some c) ids (get_last cs c)) got in
    let first : IsPlayed h bodies (length cs) c (renewed (length cs) s) (construction h bodies (length cs) c) = builds (renewed (length cs) s) [] (renewed_new (length cs) s) refl (record { phase = λ q ob. refl; running = λ o. refl }) in
    subst (λ (xs : List PartEvent). IsPlayed h bodies j d (renewed (length cs) s) xs) plans (subst (λ i. IsPlayed h bodies i d (renewed (length cs) s) (construction h bodies (length cs) c)) ids (subst (λ (z : ClassId). IsPlayed h bodies (length cs) z (renewed (length cs) s) (construction h bodies (length cs) c)) class first)))
    (λ more.
    let has_below = not_body below j fs more in
    let made = kept.made j (has_object below j fs has_below) in
    let within = slice_get_within cs j made.0 made.1 in
    let off : j ≡ length cs → ⊥ = λ same. omega arith in
    let before : slice_get cs j ≡ Some d = ⊎_elim (λ old. old) (λ new. absurd (off new.0)) (get_pushed cs c j d got) in
    played_still h bodies j d s (renewed (length cs) s) fs (other_renewed j (length cs) s off) (played j d fs (inr has_below) before))
    has

played_delete : (h : Classes) (bodies : Bodies) (cs : List ClassId) (s : Phases) (below : List EventFrame) (k : ℕ) (c : ClassId) → slice_get cs k ≡ Some c → s.phase (whole_part k c) ≡ Complete → IsKept h (in_body cs s below) → ArePlayed h bodies (in_body cs s below) →
    ArePlayed h bodies (in_plan cs s k (destruction h bodies k c) (InBody ∷ below))
played_delete h bodies cs s below k c there full kept played j d fs has got = ⊎_elim
    (λ top.
    let ids : k ≡ j = cc in
    let plans : destruction h bodies k c ≡ fs = cc in
    let class : c ≡ d = same_class (slice_get cs j) c d (subst (λ i. slice_get cs i ≡ Some c) ids there) got in
    let free : Has (objects below) k → ⊥ = λ at_work. let r = object_has below k at_work in let f : true ≡ false = sym (ap is_complete full) ∙ (kept.waits k c r.0 r.1 there).unfinished in cc in
    let first : IsPlayed h bodies k c s (destruction h bodies k c) = ends s [] (standing (kept.at_rest k c there free)) refl (record { phase = λ q ob. refl; running = λ o. refl }) in
    subst (λ (xs : List PartEvent). IsPlayed h bodies j d s xs) plans (subst (λ i. IsPlayed h bodies i d s (destruction h bodies k c)) ids (subst (λ (z : ClassId). IsPlayed h bodies k z s (destruction h bodies k c)) class first)))
    (λ more. played j d fs more got)
    has
  where
    standing : IsAtRest h k c s → StandsWhole h k c s
    standing (stands b) = b
    standing (is_gone b) = absurd (let f : Complete ≡ Ended = sym full ∙ b.ended (whole_part k c) (here (whole_part k c) refl) in cc)

played_step : (h : Classes) (bodies : Bodies) (r r' : Run) → Moves h bodies r r' → IsKept h r → ArePlayed h bodies r → ArePlayed h bodies r'
played_step h bodies _ _ (event cs s k e es below) kept played = played_event h bodies cs s k e es below kept played
played_step h bodies _ _ (finish cs s k below) kept played = λ j d fs has got. played j d fs (inr has) got
played_step h bodies _ _ (call cs s below) kept played = λ j d fs has got. played j d fs (not_body (InBody ∷ below) j fs has) got
played_step h bodies _ _ (leave cs s below) kept played = λ j d fs has got. played j d fs (inr has) got
played_step h bodies _ _ (make cs s below c) kept played = played_make h bodies cs s below c kept played
played_step h bodies _ _ (delete cs s below k c there full) kept played = played_delete h bodies cs s below k c there full kept played

pub reached_played : (h : Classes) → IsHierarchy h → (bodies : Bodies) (r : Run) → Reached h bodies r → ArePlayed h bodies r
reached_played h keeps bodies _ (starts s) = λ k c es has got. absurd (let f : None ≡ Some c = got in cc)
reached_played h keeps bodies _ (moves r r' before m) = played_step h bodies r r' m (reached_kept h keeps bodies r before) (reached_played h keeps bodies r before)

-- what follows of each object that was made

module _ (h : Classes) (keeps : IsHierarchy h) (bodies : Bodies) (r : Run) (reached : Reached h bodies r) (k : ℕ) (c : ClassId) (made : slice_get r.classes k ≡ Some c) where
  at_rest_or_played : (Q : Type 0) → (IsAtRest h k c r.phases → Q) → ((es : List PartEvent) → IsPlayed h bodies k c r.phases es → Q) → Q
  at_rest_or_played Q rests plays = ⊎_elim
      (λ has. let f = object_has r.frames k has in plays f.0 (reached_played h keeps bodies r reached k c f.0 f.1 made))
      (λ out. rests ((reached_kept h keeps bodies r reached).at_rest k c made out))
      (has_or_not (objects r.frames) k)

  -- where a part is complete its complete object has a view
  pub complete_seen : (o : List Step) (d : ClassId) (x : Subobject) → IsMemberClass h o d → (o ≡ [] → d ≡ c) → IsPartWithin h (part k o x) (whole_part k c) → IsPartWithin h (part k o (whole_of d)) (whole_part k c) → is_complete (r.phases.phase (part k o x)) ≡ true → (y : Subobject) × (view r.phases k o d ≡ Some y)
  complete_seen o d x of root inside whole_inside full = at_rest_or_played ((y : Subobject) × (view r.phases k o d ≡ Some y)) by_rest (λ es played. played_view h keeps bodies k c r.phases es o d x of root inside whole_inside played full)
    where
      by_rest : IsAtRest h k c r.phases → (y : Subobject) × (view r.phases k o d ≡ Some y)
      by_rest (stands b) = (whole_of d, rw (b.complete (part k o (whole_of d)) whole_inside) refl)
      by_rest (is_gone b) = absurd (let f : Ended ≡ Complete = sym (b.ended (part k o x) inside) ∙ is_completed (r.phases.phase (part k o x)) full in cc)

  -- a part around a base that is not virtual has begun where the base has
  pub around_begun : (o : List Step) (x : Subobject) (b : Base ClassId) → (x.path ≡ [] → ⊥) → IsPartWithin h (part k o x) (whole_part k c) → (r.phases.phase (part k o (subobject x.root (x.path ++ b.class ∷ []))) ≡ Raw → ⊥) → r.phases.phase (part k o x) ≡ Raw → ⊥
  around_begun o x b some inside begun raw = at_rest_or_played ⊥ by_rest (λ es played. played_around h keeps bodies k c r.phases es o x b some inside played begun raw)
    where
      by_rest : IsAtRest h k c r.phases → ⊥
      by_rest (stands s) = let f : Complete ≡ Raw = sym (s.complete (part k o x) inside) ∙ raw in cc
      by_rest (is_gone s) = let f : Ended ≡ Raw = sym (s.ended (part k o x) inside) ∙ raw in cc
