-- What every run keeps: each plan's rest is coherent, and at a statement every object is settled.
use Rattle.std.proofs.Common.{◌≡◌, ℕ, inl, inr, ⊎_elim, true, false, Some, None, List, [], ◌∷◌, ◌++◌, length, refl, ap, subst, sym, ◌∙◌, arith}
use Rattle.std.specs.Prelude.{slice_get}
use Rattle.cxx_hierarchy.specs.declared.records.ClassId.{ClassId}
use Rattle.cxx_hierarchy.specs.Classes.{Classes}
use Rattle.cxx_hierarchy.specs.Hierarchies.{IsHierarchy}
use Rattle.foundation.proofs.Members.{Has, EachOnce}
use Rattle.foundation.proofs.Truth.{split}
use Rattle.foundation.proofs.Places.{get_front, get_last, get_pushed}
use Rattle.foundation.proofs.Deciding.{decide_number}
use Rattle.std.proofs.lemmas.Option.{slice_get_within}
use Rattle.path_plan.specs.Places.{IsPartWithin, here}
use Rattle.path_plan.specs.Phases.{Phase, Complete, Ended, is_half, is_complete, Phases, PartEvent, Begin, Ready, Init, Body, Done, Ending, Bases, End, part_of, phases_after}
use Rattle.path_plan.specs.Plans.{Bodies}
use Rattle.path_plan.specs.Views.{Settled, Fits}
use Rattle.path_plan.specs.Whole.{whole_part, construction, destruction, StandsWhole}
use Rattle.path_plan.specs.Runs.{EventFrame, InBody, InPlan, Run, renewed, entered, in_plan, in_body, Moves, event, finish, call, leave, make, delete, SettledAt, FitsAt, Reached, starts, moves}
use Rattle.path_plan.proofs.Around.{is_completed}
use Rattle.path_plan.proofs.Construction.{in_object, construction_builds, construction_inside}
use Rattle.path_plan.proofs.Destruction.{destruction_unbuilds, destruction_inside}
use Rattle.path_plan.proofs.Other.{IsSameAt, other_after, other_renewed, renewed_new, IsAtRest, stands, is_gone, same_rest, Carries, same_carries, Waits, same_waits}
use Rattle.path_plan.proofs.Resting.{rest_settled}
use Rattle.path_plan.proofs.Last.{last_rest, construction_ends, destruction_ends, not_ended}
use Rattle.path_plan.proofs.Frames.{objects, covered, has_object, object_has, has_or_not, under, not_body, IsBody, entered_has, entered_objects, entered_covered, same_class}

pub record IsKept (h : Classes) (r : Run) : Type 0 where
  -- the plans
  pub carries : (k : ℕ) (c : ClassId) (es : List PartEvent) → Has r.frames (InPlan k es) → slice_get r.classes k ≡ Some c → Carries h k c r.phases es
  -- those below the top frame, in a body of which a run is
  pub waits : (k : ℕ) (c : ClassId) (es : List PartEvent) → Has (covered r.frames) (InPlan k es) → slice_get r.classes k ≡ Some c → Waits h k c r.phases
  -- the other objects
  pub at_rest : (k : ℕ) (c : ClassId) → slice_get r.classes k ≡ Some c → (Has (objects r.frames) k → ⊥) → IsAtRest h k c r.phases
  -- an object has one plan at most, and was made
  pub once : EachOnce (objects r.frames)
  pub made : (k : ℕ) → Has (objects r.frames) k → (c : ClassId) × (slice_get r.classes k ≡ Some c)

half_complete : (x : Phase) → is_half x ≡ true → is_complete x ≡ true → ⊥
half_complete x half full = let f : false ≡ true = sym (ap is_half (is_completed x full)) ∙ half in cc

body_waits : (h : Classes) (k : ℕ) (c : ClassId) (s : Phases) (e : PartEvent) → IsBody e → IsPartWithin h (part_of e) (whole_part k c) → Fits h s e → Waits h k c (phases_after s e)
body_waits h k c s (Begin p) is inside f = absurd is
body_waits h k c s (Ready p) is inside f = absurd is
body_waits h k c s (Init p m) is inside f = absurd is
body_waits h k c s (Body p) is inside f =
    let settled : Settled h k s = subst (λ j. Settled h j s) (in_object h p (whole_part k c) inside) f.2 in
    record {
      settled = settled;
      unfinished = split (is_complete (s.phase (whole_part k c))) (λ b. is_complete (s.phase (whole_part k c)) ≡ b → b ≡ false)
          (λ full _. absurd (half_complete (s.phase p) f.0 (settled.complete_in (whole_part k c) p refl inside full))) (λ e _. refl) refl;
    }
body_waits h k c s (Done p) is inside f = absurd is
body_waits h k c s (Ending p) is inside f = absurd is
body_waits h k c s (Bases p) is inside f = absurd is
body_waits h k c s (End p) is inside f = absurd is

same_carries_top : (h : Classes) (k j : ℕ) (c d : ClassId) (s : Phases) (es fs : List PartEvent) → k ≡ j → c ≡ d → es ≡ fs → Carries h k c s es → Carries h j d s fs
same_carries_top h k j c d s es fs ids classes plans a = subst (λ (xs : List PartEvent). Carries h j d s xs) plans (subst (λ i. Carries h i d s es) ids (subst (λ (x : ClassId). Carries h k x s es) classes a))

-- the top plan takes an event
kept_event : (h : Classes) (cs : List ClassId) (s : Phases) (k : ℕ) (e : PartEvent) (es : List PartEvent) (below : List EventFrame) → IsKept h (in_plan cs s k (e ∷ es) below) → IsKept h (record { classes = cs; phases = phases_after s e; frames = entered e (InPlan k es ∷ below) })
kept_event h cs s k e es below a =
    let made = a.made k (inl refl) in
    let c = made.0 in
    let now = a.carries k c (e ∷ es) (inl refl) made.1 in
    let own : (part_of e).object ≡ k = in_object h (part_of e) (whole_part k c) now.inside.0 in
    let next : Carries h k c (phases_after s e) es = record { coherent = now.coherent.1; inside = now.inside.1; rests = now.rests; last = last_rest (whole_part k c) e es now.last } in
    let apart : (j : ℕ) → (j ≡ k → ⊥) → IsSameAt j s (phases_after s e) = λ j off. other_after j s e (λ f. off (sym f ∙ own)) in
    let not_top : (j : ℕ) (fs : List PartEvent) → Has below (InPlan j fs) → j ≡ k → ⊥ = λ j fs has f. a.once.0 (subst (λ i. Has (objects below) i) f (has_object below j fs has)) in
    record {
      carries = λ j d fs has got. ⊎_elim
          (λ top.
          let ids : k ≡ j = cc in
          let plans : es ≡ fs = cc in
          let classes : c ≡ d = same_class (slice_get cs j) c d (subst (λ i. slice_get cs i ≡ Some c) ids made.1) got in
          same_carries_top h k j c d (phases_after s e) es fs ids classes plans next)
          (λ more. same_carries h j d s (phases_after s e) fs (apart j (not_top j fs more)) (a.carries j d fs (inr more) got))
          (entered_has e (InPlan k es ∷ below) j fs has);
      waits = λ j d fs has got. ⊎_elim
          (λ more. same_waits h j d s (phases_after s e) (apart j (not_top j fs more)) (a.waits j d fs more got))
          (λ top.
          let f = top.1 in
          let ids : k ≡ j = cc in
          let classes : c ≡ d = same_class (slice_get cs j) c d (subst (λ i. slice_get cs i ≡ Some c) ids made.1) got in
          let w : Waits h k c (phases_after s e) = body_waits h k c s e top.0 now.inside.0 now.coherent.0 in
          subst (λ i. Waits h i d (phases_after s e)) ids (subst (λ (x : ClassId). Waits h k x (phases_after s e)) classes w))
          (entered_covered e (InPlan k es) (InPlan j fs) below has);
      at_rest = λ j d got out.
          let off : Has (k ∷ objects below) j → ⊥ = λ has. out (subst (λ (xs : List ℕ). Has xs j) (entered_objects e (InPlan k es ∷ below)) has) in
          same_rest h j d s (phases_after s e) (apart j (λ f. off (inl (sym f)))) (a.at_rest j d got off);
      once = subst (λ (xs : List ℕ). EachOnce xs) (entered_objects e (InPlan k es ∷ below)) a.once;
      made = λ j has. a.made j (subst (λ (xs : List ℕ). Has xs j) (sym (entered_objects e (InPlan k es ∷ below))) has);
    }

kept_finish : (h : Classes) (cs : List ClassId) (s : Phases) (k : ℕ) (below : List EventFrame) → IsKept h (in_plan cs s k [] below) → IsKept h (record { classes = cs; phases = s; frames = below })
kept_finish h cs s k below a = record {
  carries = λ j d fs has got. a.carries j d fs (inr has) got;
  waits = λ j d fs has got. a.waits j d fs (under below (InPlan j fs) has) got;
  at_rest = λ j d got out. ⊎_elim
      (λ (e : k ≡ j). subst (λ i. IsAtRest h i d s) e (a.carries k d [] (inl refl) (subst (λ i. slice_get cs i ≡ Some d) (sym e) got)).rests)
      (λ off. a.at_rest j d got (λ has. ⊎_elim (λ e. off e) (λ more. out more) has))
      (decide_number k j);
  once = a.once.1;
  made = λ j has. a.made j (inr has);
}

kept_call : (h : Classes) (cs : List ClassId) (s : Phases) (below : List EventFrame) → IsKept h (in_body cs s below) → IsKept h (in_body cs s (InBody ∷ below))
kept_call h cs s below a = record {
  carries = λ j d fs has got. a.carries j d fs (not_body (InBody ∷ below) j fs has) got;
  waits = λ j d fs has got. a.waits j d fs (not_body below j fs has) got;
  at_rest = a.at_rest;
  once = a.once;
  made = a.made;
}

kept_leave : (h : Classes) (cs : List ClassId) (s : Phases) (below : List EventFrame) → IsKept h (in_body cs s below) → IsKept h (record { classes = cs; phases = s; frames = below })
kept_leave h cs s below a = record {
  carries = λ j d fs has got. a.carries j d fs (inr has) got;
  waits = λ j d fs has got. a.waits j d fs (under below (InPlan j fs) has) got;
  at_rest = a.at_rest;
  once = a.once;
  made = a.made;
}

kept_make : (h : Classes) → IsHierarchy h → (bodies : Bodies) (cs : List ClassId) (s : Phases) (below : List EventFrame) (c : ClassId) → IsKept h (in_body cs s below)
    → IsKept h (in_plan (cs ++ c ∷ []) (renewed (length cs) s) (length cs) (construction h bodies (length cs) c) (InBody ∷ below))
kept_make h keeps bodies cs s below c a =
    let k = length cs in
    let new = renewed_new k s in
    let built = construction_builds h keeps bodies k c (renewed k s) new in
    let next : Carries h k c (renewed k s) (construction h bodies k c) = record { coherent = built.coherent; inside = construction_inside h keeps bodies k c (renewed k s) new; rests = stands built.standing; last = construction_ends h bodies k c } in
    let older : (j : ℕ) (d : ClassId) → slice_get cs j ≡ Some d → j ≡ k → ⊥ = λ j d got e. let lt = slice_get_within cs j d got in omega arith in
    let old : (j : ℕ) → Has (objects below) j → j ≡ k → ⊥ = λ j has e. let m = a.made j has in older j m.0 m.1 e in
    let got_below : (j : ℕ) (d : ClassId) → slice_get (cs ++ c ∷ []) j ≡ Some d → (j ≡ k → ⊥) → slice_get cs j ≡ Some d = λ j d got off. ⊎_elim (λ f. f) (λ f. absurd (off f.0)) (get_pushed cs c j d got) in
    record {
      carries = λ j d fs has got. ⊎_elim
          (λ top.
          let ids : k ≡ j = cc in
          let plans : construction h bodies k c ≡ fs = cc in
          let classes : c ≡ d = same_class (slice_get (cs ++ c ∷ []) j) c d (subst (λ i. slice_get (cs ++ c ∷ []) i ≡ Some c) ids (get_last cs c)) got in
          same_carries_top h k j c d (renewed k s) (construction h bodies k c) fs ids classes plans next)
          (λ more.
          let has_below = not_body below j fs more in
          let off = old j (has_object below j fs has_below) in
          same_carries h j d s (renewed k s) fs (other_renewed j k s off) (a.carries j d fs (inr has_below) (got_below j d got off)))
          has;
      waits = λ j d fs has got.
          let has_below = not_body below j fs has in
          let off = old j (has_object below j fs has_below) in
          same_waits h j d s (renewed k s) (other_renewed j k s off) (a.waits j d fs has_below (got_below j d got off));
      at_rest = λ j d got out.
          let off : j ≡ k → ⊥ = λ e. out (inl (sym e)) in
          same_rest h j d s (renewed k s) (other_renewed j k s off) (a.at_rest j d (got_below j d got off) (λ has. out (inr has)));
      once = (λ has. old k has refl, a.once);
      made = λ j has. ⊎_elim (λ (e : k ≡ j). (c, subst (λ i. slice_get (cs ++ c ∷ []) i ≡ Some c) e (get_last cs c))) (λ more. let m = a.made j more in (m.0, get_front cs (c ∷ []) j m.0 m.1)) has;
    }

kept_delete : (h : Classes) → IsHierarchy h → (bodies : Bodies) (cs : List ClassId) (s : Phases) (below : List EventFrame) (k : ℕ) (c : ClassId) → slice_get cs k ≡ Some c → s.phase (whole_part k c) ≡ Complete
    → IsKept h (in_body cs s below) → IsKept h (in_plan cs s k (destruction h bodies k c) (InBody ∷ below))
kept_delete h keeps bodies cs s below k c got full a =
    let free : Has (objects below) k → ⊥ = λ has. let r = object_has below k has in let f : true ≡ false = sym (ap is_complete full) ∙ (a.waits k c r.0 r.1 got).unfinished in cc in
    let standing = is_standing (a.at_rest k c got free) in
    let unbuilt = destruction_unbuilds h keeps bodies k c s standing in
    let next : Carries h k c s (destruction h bodies k c) = record { coherent = unbuilt.coherent; inside = destruction_inside h keeps bodies k c s standing; rests = is_gone unbuilt.gone; last = destruction_ends h bodies k c } in
    record {
      carries = λ j d fs has got_j. ⊎_elim
          (λ top.
          let ids : k ≡ j = cc in
          let plans : destruction h bodies k c ≡ fs = cc in
          let classes : c ≡ d = same_class (slice_get cs j) c d (subst (λ i. slice_get cs i ≡ Some c) ids got) got_j in
          same_carries_top h k j c d s (destruction h bodies k c) fs ids classes plans next)
          (λ more. a.carries j d fs more got_j)
          has;
      waits = λ j d fs has got_j. a.waits j d fs (not_body below j fs has) got_j;
      at_rest = λ j d got_j out. a.at_rest j d got_j (λ has. out (inr has));
      once = (free, a.once);
      made = λ j has. ⊎_elim (λ (e : k ≡ j). (c, subst (λ i. slice_get cs i ≡ Some c) e got)) (λ more. a.made j more) has;
    }
  where
    is_standing : IsAtRest h k c s → StandsWhole h k c s
    is_standing (stands b) = b
    is_standing (is_gone b) = absurd (let f : Complete ≡ Ended = sym full ∙ b.ended (whole_part k c) (here (whole_part k c) refl) in cc)

pub kept_step : (h : Classes) → IsHierarchy h → (bodies : Bodies) (r r' : Run) → Moves h bodies r r' → IsKept h r → IsKept h r'
kept_step h keeps bodies _ _ (event cs s k e es below) a = kept_event h cs s k e es below a
kept_step h keeps bodies _ _ (finish cs s k below) a = kept_finish h cs s k below a
kept_step h keeps bodies _ _ (call cs s below) a = kept_call h cs s below a
kept_step h keeps bodies _ _ (leave cs s below) a = kept_leave h cs s below a
kept_step h keeps bodies _ _ (make cs s below c) a = kept_make h keeps bodies cs s below c a
kept_step h keeps bodies _ _ (delete cs s below k c got full) a = kept_delete h keeps bodies cs s below k c got full a

pub reached_kept : (h : Classes) → IsHierarchy h → (bodies : Bodies) (r : Run) → Reached h bodies r → IsKept h r
reached_kept h keeps bodies _ (starts s) = record {
  carries = λ k c es has got. absurd (let f : None ≡ Some c = got in cc);
  waits = λ k c es has got. absurd has;
  at_rest = λ k c got out. absurd (let f : None ≡ Some c = got in cc);
  once = tt;
  made = λ k has. absurd has;
}
reached_kept h keeps bodies _ (moves r r' before m) = kept_step h keeps bodies r r' m (reached_kept h keeps bodies r before)

settled_at : (h : Classes) (r : Run) → IsKept h r → (frames : List EventFrame) → r.frames ≡ frames → SettledAt h r frames
settled_at h r a [] e = tt
settled_at h r a (InBody ∷ below) e = λ k c got. ⊎_elim
    (λ has. let f = object_has below k has in (a.waits k c f.0 (subst (λ (fs : List EventFrame). Has (covered fs) (InPlan k f.0)) (sym e) f.1) got).settled)
    (λ out. rest_settled h k c r.phases (a.at_rest k c got (λ has. out (subst (λ (fs : List EventFrame). Has (objects fs) k) e has))))
    (has_or_not (objects below) k)
settled_at h r a (InPlan k es ∷ below) e = tt

fits_at : (h : Classes) (r : Run) → IsKept h r → (frames : List EventFrame) → r.frames ≡ frames → FitsAt h r frames
fits_at h r a [] e = tt
fits_at h r a (InBody ∷ below) e = tt
fits_at h r a (InPlan k [] ∷ below) e = tt
fits_at h r a (InPlan k (f ∷ es) ∷ below) e =
    let m = a.made k (subst (λ (fs : List EventFrame). Has (objects fs) k) (sym e) (inl refl)) in
    (a.carries k m.0 (f ∷ es) (subst (λ (fs : List EventFrame). Has fs (InPlan k (f ∷ es))) (sym e) (inl refl)) m.1).coherent.0

pub reached_settled : (h : Classes) → IsHierarchy h → (bodies : Bodies) (r : Run) → Reached h bodies r → SettledAt h r r.frames
reached_settled h keeps bodies r reached = settled_at h r (reached_kept h keeps bodies r reached) r.frames refl

pub reached_fits : (h : Classes) → IsHierarchy h → (bodies : Bodies) (r : Run) → Reached h bodies r → FitsAt h r r.frames
reached_fits h keeps bodies r reached = fits_at h r (reached_kept h keeps bodies r reached) r.frames refl

-- an object that a plan is at work on has not ended
pub plan_unended : (h : Classes) (r : Run) → IsKept h r → (k : ℕ) (c : ClassId) (e : PartEvent) (es : List PartEvent) → Has r.frames (InPlan k (e ∷ es)) → slice_get r.classes k ≡ Some c → r.phases.phase (whole_part k c) ≡ Ended → ⊥
plan_unended h r a k c e es has got ended = let now = a.carries k c (e ∷ es) has got in not_ended h (whole_part k c) (e ∷ es) r.phases now.coherent now.last ended
