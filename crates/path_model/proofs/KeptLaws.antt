-- What is kept, as facts of the states of a run.
use Rattle.std.proofs.Common.{◌≡◌, ℕ, zero, suc, ◌⊎◌, inl, inr, ⊎_elim, Bool, true, false, Some, None, List, [], ◌∷◌, refl, ap, subst, sym, ◌∙◌}
use Rattle.std.specs.Prelude.{slice_get}
use Rattle.cxx_hierarchy.specs.declared.records.ClassId.{ClassId}
use Rattle.cxx_hierarchy.specs.Classes.{Classes}
use Rattle.cxx_hierarchy.specs.Hierarchies.{IsHierarchy}
use Rattle.cxx_program.specs.declared.program.Owner.{Owner}
use Rattle.cxx_program.specs.declared.program.Owner.TheVariants.{Constructor, Destructor}
use Rattle.cxx_program.specs.declared.program.TypedProgram.{TypedProgram}
use Rattle.foundation.proofs.Truth.{is_false}
use Rattle.foundation.proofs.Members.{Has, EachOnce, has_at}
use Rattle.path_plan.specs.Places.{ObjectPart, IsPartWithin, here}
use Rattle.path_plan.specs.Phases.{Phase, Raw, InBases, ReadyBuilding, Complete, ReadyEnding, EndingBases, Ended, Phases, PartEvent, Body, Done, part_of}
use Rattle.path_plan.specs.Views.{Settled, Fits}
use Rattle.path_plan.specs.Whole.{whole_part, StandsWhole, IsGone}
use Rattle.path_plan.specs.Runs.{InPlan as PlanFrame, Reached, FitsAt}
use Rattle.path_plan.proofs.Growth.{EventsIn}
use Rattle.path_plan.proofs.Other.{IsAtRest, stands, is_gone}
use Rattle.path_plan.proofs.Frames.{IsBody, objects}
use Rattle.path_plan.proofs.Kept.{plan_unended, reached_kept, reached_fits, reached_settled}
use Rattle.path_model.specs.Values.{Objects}
use Rattle.path_model.specs.States.{RunningBody, Planned, Frame, InBody, InPlan, owned_body, plan_bodies, is_body}
use Rattle.path_model.specs.Steps.{body_owner, class_of_part}
use Rattle.path_model.proofs.KeptClosed.{is_ended}
use Rattle.path_model.proofs.KeptPaces.{StartsPlain, Paced}
use Rattle.path_model.proofs.KeptFrames.{shapes, run_at, StartsDone, Behind, IsGoing, OwnsMain, Serves, StandsOnPlan, StandsOn, AreGoing, IsKeptAt, kept_left}

-- frames and their shapes

shape_has : (frames : List Frame) (f : Planned) → Has frames (InPlan f) → Has (shapes frames) (PlanFrame f.object f.events)
shape_has [] f has = absurd has
shape_has (InBody g ∷ frames) f has = ⊎_elim (λ e. absurd (cc)) (λ more. inr (shape_has frames f more)) has
shape_has (InPlan g ∷ frames) f has = ⊎_elim (λ e. inl (let same : g ≡ f = cc in ap (λ (x : Planned). PlanFrame x.object x.events) same)) (λ more. inr (shape_has frames f more)) has

object_has : (frames : List Frame) (f : Planned) → Has frames (InPlan f) → Has (objects (shapes frames)) f.object
object_has [] f has = absurd has
object_has (InBody g ∷ frames) f has = ⊎_elim (λ e. absurd (cc)) (λ more. object_has frames f more) has
object_has (InPlan g ∷ frames) f has = ⊎_elim (λ e. inl (let same : g ≡ f = cc in ap (λ (x : Planned). x.object) same)) (λ more. inr (object_has frames f more)) has

going_has : (program : TypedProgram) (frames : List Frame) (f : Planned) → AreGoing program frames → Has frames (InPlan f) → IsGoing program f
going_has program [] f a has = absurd has
going_has program (InBody g ∷ frames) f a has = ⊎_elim (λ e. absurd (cc)) (λ more. going_has program frames f a.1 more) has
going_has program (InPlan g ∷ frames) f a has = ⊎_elim (λ e. let same : g ≡ f = cc in subst (λ (x : Planned). IsGoing program x) same a.0) (λ more. going_has program frames f a.1 more) has

-- an object with a shape of a plan has a plan
shape_from : (frames : List Frame) (k : ℕ) → Has (objects (shapes frames)) k → (f : Planned) × Has frames (InPlan f) × (f.object ≡ k)
shape_from [] k has = absurd has
shape_from (InBody g ∷ frames) k has = let r = shape_from frames k has in (r.0, inr r.1, r.2)
shape_from (InPlan g ∷ frames) k has = ⊎_elim (λ e. (g, inl refl, e)) (λ more. let r = shape_from frames k more in (r.0, inr r.1, r.2)) has

-- the plan on top

fits_on_top : (h : Classes) (keeps : IsHierarchy h) (program : TypedProgram) (x : Objects) (f : Planned) (below : List Frame) (e : PartEvent) (es : List PartEvent) → Reached h (plan_bodies program) (run_at x (InPlan f ∷ below)) → f.events ≡ e ∷ es → Fits h x.phases e
fits_on_top h keeps program x f below e es reached is = at f.events is (reached_fits h keeps (plan_bodies program) (run_at x (InPlan f ∷ below)) reached)
  where
    at : (events : List PartEvent) → events ≡ e ∷ es → FitsAt h (run_at x (InPlan f ∷ below)) (PlanFrame f.object events ∷ shapes below) → Fits h x.phases e
    at events same fits = subst (λ (ys : List PartEvent). FitsAt h (run_at x (InPlan f ∷ below)) (PlanFrame f.object ys ∷ shapes below)) same fits

pub next_fits : (h : Classes) → IsHierarchy h → (program : TypedProgram) (x : Objects) (frames : List Frame) → IsKeptAt h program x frames → (f : Planned) (e : PartEvent) (es : List PartEvent) (below : List Frame) → frames ≡ InPlan f ∷ below → f.events ≡ e ∷ es → Fits h x.phases e
next_fits h keeps program x frames a f e es below top is = fits_on_top h keeps program x f below e es (subst (λ (fs : List Frame). Reached h (plan_bodies program) (run_at x fs)) top a.reached) is

pub behind_body_fits : (h : Classes) → IsHierarchy h → (program : TypedProgram) (x : Objects) (frames : List Frame) → IsKeptAt h program x frames → (g : RunningBody) (f : Planned) (e : PartEvent) (es : List PartEvent) (below : List Frame) → frames ≡ InBody g ∷ (InPlan f ∷ below) → f.events ≡ e ∷ es → Fits h x.phases e
behind_body_fits h keeps program x frames a g f e es below top is =
    fits_on_top h keeps program x f below e es (kept_left h program x g (InPlan f ∷ below) (subst (λ (fs : List Frame). IsKeptAt h program x fs) top a)).reached is

-- each plan

event_in : (h : Classes) (w : ObjectPart) (es : List PartEvent) (e : PartEvent) → EventsIn h w es → Has es e → IsPartWithin h (part_of e) w
event_in h w [] e a has = absurd has
event_in h w (y ∷ es) e a has = ⊎_elim (λ same. subst (λ (z : PartEvent). IsPartWithin h (part_of z) w) same a.0) (λ more. event_in h w es e a.1 more) has

pub plan_inside : (h : Classes) → IsHierarchy h → (program : TypedProgram) (x : Objects) (frames : List Frame) → IsKeptAt h program x frames → (f : Planned) (e : PartEvent) → Has frames (InPlan f) → Has f.events e → (c : ClassId) × (slice_get x.classes f.object ≡ Some c) × IsPartWithin h (part_of e) (whole_part f.object c)
plan_inside h keeps program x frames a f e has event =
    let run = reached_kept h keeps (plan_bodies program) (run_at x frames) a.reached in
    let made = run.made f.object (object_has frames f has) in
    (made.0, made.1, event_in h (whole_part f.object made.0) f.events e (run.carries f.object made.0 f.events (shape_has frames f has) made.1).inside event)

pub plan_made : (h : Classes) → IsHierarchy h → (program : TypedProgram) (x : Objects) (frames : List Frame) → IsKeptAt h program x frames → (f : Planned) → Has frames (InPlan f) → (c : ClassId) × (slice_get x.classes f.object ≡ Some c)
plan_made h keeps program x frames a f has = (reached_kept h keeps (plan_bodies program) (run_at x frames) a.reached).made f.object (object_has frames f has)

pub some_event : (h : Classes) (program : TypedProgram) (x : Objects) (frames : List Frame) → IsKeptAt h program x frames → (f : Planned) → Has frames (InPlan f) → f.events ≡ [] → ⊥
some_event h program x frames a f has is = subst (λ (es : List PartEvent). StartsPlain es) is (going_has program frames f a.going has).starts

pub no_body_first : (h : Classes) (program : TypedProgram) (x : Objects) (frames : List Frame) → IsKeptAt h program x frames → (f : Planned) (p : ObjectPart) (es : List PartEvent) → Has frames (InPlan f) → f.events ≡ Body p ∷ es → ⊥
no_body_first h program x frames a f p es has is = subst (λ (ys : List PartEvent). StartsPlain ys) is (going_has program frames f a.going has).starts tt

behind_in : (B : ObjectPart → List PartEvent → Type 0) (es : List PartEvent) (p : ObjectPart) → Paced B es → Has es (Body p) → (fs : List PartEvent) × B p fs
behind_in B [] p a has = absurd has
behind_in B (e ∷ es) p a has = ⊎_elim (λ same. (es, subst (λ (y : PartEvent). (IsBody y → B (part_of y) es) → B p es) (sym same) (λ behind. behind tt) a.0)) (λ more. behind_in B es p a.1 more) has

behind_declared : (program : TypedProgram) (building : Bool) (p : ObjectPart) (es : List PartEvent) → Behind program building p es → is_body (owned_body program (body_owner building (class_of_part p))) ≡ true
behind_declared program true p es a = a.0
behind_declared program false p es a = a.0

pub body_there : (h : Classes) (program : TypedProgram) (x : Objects) (frames : List Frame) → IsKeptAt h program x frames → (f : Planned) (p : ObjectPart) → Has frames (InPlan f) → Has f.events (Body p)
    → is_body (owned_body program (body_owner f.is_building (class_of_part p))) ≡ true
body_there h program x frames a f p has event = let b = behind_in (Behind program f.is_building) f.events p (going_has program frames f a.going has).paced event in
    behind_declared program f.is_building p b.0 b.1

-- one plan of an object

place_once : (frames : List Frame) → EachOnce (objects (shapes frames)) → (i j : ℕ) (f g : Planned) → slice_get frames i ≡ Some (InPlan f) → slice_get frames j ≡ Some (InPlan g) → f.object ≡ g.object → i ≡ j
place_once [] once i j f g at_f at_g same = absurd (let e : None ≡ Some (InPlan f) = at_f in cc)
place_once (x ∷ frames) once zero zero f g at_f at_g same = refl
place_once (InBody y ∷ frames) once zero (suc j) f g at_f at_g same = absurd (cc)
place_once (InPlan y ∷ frames) once zero (suc j) f g at_f at_g same = absurd (once.0 (subst (λ k. Has (objects (shapes frames)) k) (let e : y ≡ f = cc in sym (ap (λ (x : Planned). x.object) e ∙ same)) (object_has frames g (has_at frames j (InPlan g) at_g))))
place_once (InBody y ∷ frames) once (suc i) zero f g at_f at_g same = absurd (cc)
place_once (InPlan y ∷ frames) once (suc i) zero f g at_f at_g same = absurd (once.0 (subst (λ k. Has (objects (shapes frames)) k) (let e : y ≡ g = cc in same ∙ sym (ap (λ (x : Planned). x.object) e)) (object_has frames f (has_at frames i (InPlan f) at_f))))
place_once (InBody y ∷ frames) once (suc i) (suc j) f g at_f at_g same = ap suc (place_once frames once i j f g at_f at_g same)
place_once (InPlan y ∷ frames) once (suc i) (suc j) f g at_f at_g same = ap suc (place_once frames once.1 i j f g at_f at_g same)

pub plan_once : (h : Classes) → IsHierarchy h → (program : TypedProgram) (x : Objects) (frames : List Frame) → IsKeptAt h program x frames → (i j : ℕ) (f g : Planned) → slice_get frames i ≡ Some (InPlan f) → slice_get frames j ≡ Some (InPlan g) → f.object ≡ g.object → i ≡ j
plan_once h keeps program x frames a i j f g at_f at_g same = place_once frames (reached_kept h keeps (plan_bodies program) (run_at x frames) a.reached).once i j f g at_f at_g same

-- a body of a constructor or destructor

plan_below : (program : TypedProgram) (building : Bool) (c : ClassId) (below : List Frame) → OwnsMain program → StandsOnPlan program building c below → (f : Planned) × (rest : List Frame) × (below ≡ InPlan f ∷ rest) × Serves building c f
plan_below program building c [] owns a = absurd (a owns)
plan_below program building c (InBody g ∷ below) owns a = absurd a
plan_below program building c (InPlan f ∷ below) owns a = (f, below, refl, a)

starts_done : (p : ObjectPart) (es : List PartEvent) → StartsDone p es → (fs : List PartEvent) × (es ≡ Done p ∷ fs)
starts_done p [] a = absurd a
starts_done p (e ∷ es) a = (es, ap (λ y. y ∷ es) a)

pub constructor_on_plan : (h : Classes) (program : TypedProgram) (x : Objects) (frames : List Frame) → IsKeptAt h program x frames → OwnsMain program → (g : RunningBody) (c : ClassId) (below : List Frame) → frames ≡ InBody g ∷ below → g.owner ≡ Constructor c
    → (f : Planned) × (rest : List Frame) × (p : ObjectPart) × (es : List PartEvent) × (below ≡ InPlan f ∷ rest) × (f.is_building ≡ true) × (f.events ≡ Done p ∷ es) × (class_of_part p ≡ c)
constructor_on_plan h program x frames a owns g c below top owner =
    let going = subst (λ (fs : List Frame). AreGoing program fs) top a.going in
    let on = plan_below program true c below owns (subst (λ (o : Owner). StandsOn program o below) owner going.0) in
    let next = starts_done on.3.1.0 on.0.events on.3.1.2 in
    (on.0, on.1, on.3.1.0, next.0, on.2, on.3.0, next.1, on.3.1.1)

pub destructor_on_plan : (h : Classes) (program : TypedProgram) (x : Objects) (frames : List Frame) → IsKeptAt h program x frames → OwnsMain program → (g : RunningBody) (c : ClassId) (below : List Frame) → frames ≡ InBody g ∷ below → g.owner ≡ Destructor c
    → (f : Planned) × (rest : List Frame) × (below ≡ InPlan f ∷ rest) × (f.is_building ≡ false)
destructor_on_plan h program x frames a owns g c below top owner =
    let going = subst (λ (fs : List Frame). AreGoing program fs) top a.going in
    plan_below program false c below owns (subst (λ (o : Owner). StandsOn program o below) owner going.0)

-- objects at statements

pub statement_settled : (h : Classes) → IsHierarchy h → (program : TypedProgram) (x : Objects) (frames : List Frame) → IsKeptAt h program x frames → (f : RunningBody) (below : List Frame) (k : ℕ) (c : ClassId) → frames ≡ InBody f ∷ below → slice_get x.classes k ≡ Some c → Settled h k x.phases
statement_settled h keeps program x frames a f below k c top got = let reached = subst (λ (fs : List Frame). Reached h (plan_bodies program) (run_at x fs)) top a.reached in
    reached_settled h keeps (plan_bodies program) (run_at x (InBody f ∷ below)) reached k c got

rest_cases : (h : Classes) (k : ℕ) (c : ClassId) (s : Phases) → IsAtRest h k c s → StandsWhole h k c s ⊎ IsGone h k c s
rest_cases h k c s (stands a) = inl a
rest_cases h k c s (is_gone a) = inr a

pub object_at_rest : (h : Classes) → IsHierarchy h → (program : TypedProgram) (x : Objects) (frames : List Frame) → IsKeptAt h program x frames → (k : ℕ) (c : ClassId) → slice_get x.classes k ≡ Some c → ((f : Planned) → Has frames (InPlan f) → f.object ≡ k → ⊥)
    → StandsWhole h k c x.phases ⊎ IsGone h k c x.phases
object_at_rest h keeps program x frames a k c got free = rest_cases h k c x.phases ((reached_kept h keeps (plan_bodies program) (run_at x frames) a.reached).at_rest k c got (λ has. let r = shape_from frames k has in free r.0 r.1 r.2))

-- open and closed objects

ended_is : (x : Phase) → is_ended x ≡ true → x ≡ Ended
ended_is Raw e = absurd (cc)
ended_is InBases e = absurd (cc)
ended_is ReadyBuilding e = absurd (cc)
ended_is Complete e = absurd (cc)
ended_is ReadyEnding e = absurd (cc)
ended_is EndingBases e = absurd (cc)
ended_is Ended e = refl

closed_ended : (h : Classes) → IsHierarchy h → (program : TypedProgram) (x : Objects) (frames : List Frame) → IsKeptAt h program x frames → (k : ℕ) (c : ClassId) → slice_get x.classes k ≡ Some c → x.is_closed k ≡ true → x.phases.phase (whole_part k c) ≡ Ended
closed_ended h keeps program x frames a k c got closed = ended_is (x.phases.phase (whole_part k c)) (sym (a.closed keeps k c got) ∙ closed)

pub ended_closed : (h : Classes) → IsHierarchy h → (program : TypedProgram) (x : Objects) (frames : List Frame) → IsKeptAt h program x frames → (k : ℕ) (c : ClassId) → slice_get x.classes k ≡ Some c → x.phases.phase (whole_part k c) ≡ Ended → x.is_closed k ≡ true
ended_closed h keeps program x frames a k c got ended = a.closed keeps k c got ∙ ap is_ended ended

some_first : (es : List PartEvent) → StartsPlain es → (e : PartEvent) × (fs : List PartEvent) × (es ≡ e ∷ fs)
some_first [] starts = absurd starts
some_first (e ∷ es) starts = (e, es, refl)

plan_not_ended : (h : Classes) → IsHierarchy h → (program : TypedProgram) (x : Objects) (frames : List Frame) → IsKeptAt h program x frames → (f : Planned) (c : ClassId) → Has frames (InPlan f) → slice_get x.classes f.object ≡ Some c → x.phases.phase (whole_part f.object c) ≡ Ended → ⊥
plan_not_ended h keeps program x frames a f c has got ended =
    let first = some_first f.events (going_has program frames f a.going has).starts in
    plan_unended h (run_at x frames) (reached_kept h keeps (plan_bodies program) (run_at x frames) a.reached) f.object c first.0 first.1
    (subst (λ (es : List PartEvent). Has (shapes frames) (PlanFrame f.object es)) first.2 (shape_has frames f has)) got ended

-- an object that a plan is at work on is open
pub plan_open : (h : Classes) → IsHierarchy h → (program : TypedProgram) (x : Objects) (frames : List Frame) → IsKeptAt h program x frames → (f : Planned) → Has frames (InPlan f) → x.is_closed f.object ≡ false
plan_open h keeps program x frames a f has = let made = plan_made h keeps program x frames a f has in
    is_false (x.is_closed f.object) (λ closed. plan_not_ended h keeps program x frames a f made.0 has made.1 (closed_ended h keeps program x frames a f.object made.0 made.1 closed))

gone_from : (h : Classes) (k : ℕ) (c : ClassId) (s : Phases) → s.phase (whole_part k c) ≡ Ended → StandsWhole h k c s ⊎ IsGone h k c s → IsGone h k c s
gone_from h k c s ended (inl a) = absurd (let e : Complete ≡ Ended = sym (a.complete (whole_part k c) (here (whole_part k c) refl)) ∙ ended in cc)
gone_from h k c s ended (inr a) = a

-- a closed object is gone
pub closed_gone : (h : Classes) → IsHierarchy h → (program : TypedProgram) (x : Objects) (frames : List Frame) → IsKeptAt h program x frames → (k : ℕ) (c : ClassId) → slice_get x.classes k ≡ Some c → x.is_closed k ≡ true → IsGone h k c x.phases
closed_gone h keeps program x frames a k c got closed = let ended = closed_ended h keeps program x frames a k c got closed in
    gone_from h k c x.phases ended (object_at_rest h keeps program x frames a k c got (λ f has same. plan_not_ended h keeps program x frames a f c has (subst (λ j. slice_get x.classes j ≡ Some c) (sym same) got) (subst (λ j. x.phases.phase (whole_part j c) ≡ Ended) (sym same) ended)))

stands_from : (h : Classes) (k : ℕ) (c : ClassId) (s : Phases) → (s.phase (whole_part k c) ≡ Ended → ⊥) → StandsWhole h k c s ⊎ IsGone h k c s → StandsWhole h k c s
stands_from h k c s live (inl a) = a
stands_from h k c s live (inr a) = absurd (live (a.ended (whole_part k c) (here (whole_part k c) refl)))

-- an open object without a plan stands
pub open_stands : (h : Classes) → IsHierarchy h → (program : TypedProgram) (x : Objects) (frames : List Frame) → IsKeptAt h program x frames → (k : ℕ) (c : ClassId) → slice_get x.classes k ≡ Some c → x.is_closed k ≡ false
    → ((f : Planned) → Has frames (InPlan f) → f.object ≡ k → ⊥) → StandsWhole h k c x.phases
open_stands h keeps program x frames a k c got opened free = stands_from h k c x.phases (λ ended. let e : true ≡ false = sym (ended_closed h keeps program x frames a k c got ended) ∙ opened in cc) (object_at_rest h keeps program x frames a k c got free)
