-- An event of a plan keeps what is kept: it is an event of the run of plans, with the entry into a body or the end of the plan.
use Rattle.std.proofs.Common.{◌≡◌, ℕ, Bool, true, false, Option, Some, None, List, [], ◌∷◌, refl, subst, sym}
use Rattle.cxx_hierarchy.specs.Classes.{Classes}
use Rattle.cxx_hierarchy.specs.Hierarchies.{IsHierarchy}
use Rattle.cxx_program.specs.declared.program.TypedBody.{TypedBody}
use Rattle.cxx_program.specs.declared.program.TypedProgram.{TypedProgram}
use Rattle.path_plan.specs.Places.{ObjectPart}
use Rattle.path_plan.specs.Phases.{PartEvent, Begin, Ready, Init, Body, Done, Ending, Bases, End}
use Rattle.path_plan.specs.Whole.{whole_part}
use Rattle.path_plan.specs.Runs.{Run, event, finish, Reached, moves, in_plan}
use Rattle.path_plan.specs.Views.{Fits}
use Rattle.path_plan.proofs.Frames.{IsBody}
use Rattle.path_plan.proofs.Kept.{reached_fits}
use Rattle.path_model.specs.declared.outs.Out.{Out}
use Rattle.path_model.specs.Values.{Pointer, Objects}
use Rattle.path_model.specs.States.{Planned, Frame, InBody, InPlan, ProgramState, owned_body, plan_bodies, with_frames, with_objects}
use Rattle.path_model.specs.Outs.{object_class}
use Rattle.path_model.specs.Steps.{body_owner, body_opened, class_of_part, objects_after, event_outs, plan_left, resumed, event_step, constructor_closed}
use Rattle.path_model.proofs.KeptClosed.{AreClosed, event_closed}
use Rattle.path_model.proofs.KeptPaces.{StartsPlain, Paced}
use Rattle.path_model.proofs.KeptFrames.{shapes, Behind, AreGoing, IsKeptAt, IsKept, IfGoes, kept_given, found_body}

-- where the run of plans stands with these events left
abbrev left_at : Objects → ℕ → List PartEvent → List Frame → Run
left_at x k es below = in_plan x.classes x.phases k es (shapes below)

-- the next event of the plan on top fits
next_event : (h : Classes) → IsHierarchy h → (program : TypedProgram) (x : Objects) (k : ℕ) (e : PartEvent) (es : List PartEvent) (below : List Frame) → Reached h (plan_bodies program) (left_at x k (e ∷ es) below) → Fits h x.phases e
next_event h keeps program x k e es below reached = reached_fits h keeps (plan_bodies program) (left_at x k (e ∷ es) below) reached

behind_plain : (program : TypedProgram) (building : Bool) (p : ObjectPart) (es : List PartEvent) → Behind program building p es → StartsPlain es
behind_plain program true p [] a = absurd a.1
behind_plain program true p (e ∷ es) a = λ body. subst (λ (x : PartEvent). IsBody x → ⊥) (sym a.1) (λ b. absurd b) body
behind_plain program false p [] a = absurd a.1
behind_plain program false p (e ∷ es) a = a.1

opened_kept : (h : Classes) (program : TypedProgram) (s : ProgramState) (f : Planned) (below : List Frame) (outs : List Out) (p : ObjectPart) (es : List PartEvent) → Reached h (plan_bodies program) (left_at s.objects f.object (Body p ∷ es) below)
    → Paced (Behind program f.is_building) (Body p ∷ es) → AreGoing program below → (IsHierarchy h → AreClosed s.objects) → (o : Option TypedBody) → owned_body program (body_owner f.is_building (class_of_part p)) ≡ o → IfGoes (IsKept h program) (body_opened s p outs (plan_left f es ∷ below) o)
opened_kept h program s f below outs p es reached paced going closed None is = tt
opened_kept h program s f below outs p es reached paced going closed (Some body) is = record {
  reached = moves _ _ reached (event s.objects.classes s.objects.phases f.object (Body p) es (shapes below));
  going = (
    found_body program (record { object = f.object; is_building = f.is_building; events = es; target = f.target }) below p f.is_building refl (paced.0 tt) body is,
    (record { starts = behind_plain program f.is_building p es (paced.0 tt); paced = paced.1 }, going),
  );
  closed = closed;
}

-- the plan goes on with these events
resumed_kept : (h : Classes) (program : TypedProgram) (s : ProgramState) (f : Planned) (below : List Frame) (outs : List Out) (es : List PartEvent) → Reached h (plan_bodies program) (left_at s.objects f.object es below)
    → Paced (Behind program f.is_building) es → AreGoing program below → (IsHierarchy h → AreClosed s.objects) → IfGoes (IsKept h program) (resumed program s f below outs es)
resumed_kept h program s f below outs [] reached paced going closed = kept_given h program (with_frames s below) (Pointer (whole_part f.object (object_class s.objects f.object))) f.target
    (record { reached = moves _ _ reached (finish s.objects.classes s.objects.phases f.object (shapes below)); going = going; closed = closed })
resumed_kept h program s f below outs (Begin p ∷ es) reached paced going closed = record { reached = reached; going = (record { starts = λ b. b; paced = paced }, going); closed = closed }
resumed_kept h program s f below outs (Ready p ∷ es) reached paced going closed = record { reached = reached; going = (record { starts = λ b. b; paced = paced }, going); closed = closed }
resumed_kept h program s f below outs (Init p m ∷ es) reached paced going closed = record { reached = reached; going = (record { starts = λ b. b; paced = paced }, going); closed = closed }
resumed_kept h program s f below outs (Body p ∷ es) reached paced going closed = opened_kept h program s f below outs p es reached paced going closed (owned_body program (body_owner f.is_building (class_of_part p))) refl
resumed_kept h program s f below outs (Done p ∷ es) reached paced going closed = record { reached = reached; going = (record { starts = λ b. b; paced = paced }, going); closed = closed }
resumed_kept h program s f below outs (Ending p ∷ es) reached paced going closed = record { reached = reached; going = (record { starts = λ b. b; paced = paced }, going); closed = closed }
resumed_kept h program s f below outs (Bases p ∷ es) reached paced going closed = record { reached = reached; going = (record { starts = λ b. b; paced = paced }, going); closed = closed }
resumed_kept h program s f below outs (End p ∷ es) reached paced going closed = record { reached = reached; going = (record { starts = λ b. b; paced = paced }, going); closed = closed }

-- the next event of a plan
events_kept : (h : Classes) (program : TypedProgram) (s : ProgramState) (f : Planned) (below : List Frame) (es : List PartEvent) → Reached h (plan_bodies program) (left_at s.objects f.object es below)
    → Paced (Behind program f.is_building) es → AreGoing program below → (IsHierarchy h → AreClosed s.objects) → IfGoes (IsKept h program) (event_step program s f below es)
events_kept h program s f below [] reached paced going closed = tt
events_kept h program s f below (Begin p ∷ es) reached paced going closed = resumed_kept h program (with_objects s (objects_after program s.objects (Begin p))) f below (event_outs s.objects (Begin p)) es (moves _ _ reached (event s.objects.classes s.objects.phases f.object (Begin p) es (shapes below))) paced.1 going (λ keeps. event_closed h program s.objects (Begin p) (next_event h keeps program s.objects f.object (Begin p) es below reached) (closed keeps))
events_kept h program s f below (Ready p ∷ es) reached paced going closed = resumed_kept h program (with_objects s (objects_after program s.objects (Ready p))) f below (event_outs s.objects (Ready p)) es (moves _ _ reached (event s.objects.classes s.objects.phases f.object (Ready p) es (shapes below))) paced.1 going (λ keeps. event_closed h program s.objects (Ready p) (next_event h keeps program s.objects f.object (Ready p) es below reached) (closed keeps))
events_kept h program s f below (Init p m ∷ es) reached paced going closed = resumed_kept h program (with_objects s (objects_after program s.objects (Init p m))) f below (event_outs s.objects (Init p m)) es (moves _ _ reached (event s.objects.classes s.objects.phases f.object (Init p m) es (shapes below))) paced.1 going (λ keeps. event_closed h program s.objects (Init p m) (next_event h keeps program s.objects f.object (Init p m) es below reached) (closed keeps))
events_kept h program s f below (Body p ∷ es) reached paced going closed = tt
events_kept h program s f below (Done p ∷ es) reached paced going closed = resumed_kept h program (with_objects s (objects_after program s.objects (Done p))) f below (event_outs s.objects (Done p)) es (moves _ _ reached (event s.objects.classes s.objects.phases f.object (Done p) es (shapes below))) paced.1 going (λ keeps. event_closed h program s.objects (Done p) (next_event h keeps program s.objects f.object (Done p) es below reached) (closed keeps))
events_kept h program s f below (Ending p ∷ es) reached paced going closed = resumed_kept h program (with_objects s (objects_after program s.objects (Ending p))) f below (event_outs s.objects (Ending p)) es (moves _ _ reached (event s.objects.classes s.objects.phases f.object (Ending p) es (shapes below))) paced.1 going (λ keeps. event_closed h program s.objects (Ending p) (next_event h keeps program s.objects f.object (Ending p) es below reached) (closed keeps))
events_kept h program s f below (Bases p ∷ es) reached paced going closed = resumed_kept h program (with_objects s (objects_after program s.objects (Bases p))) f below (event_outs s.objects (Bases p)) es (moves _ _ reached (event s.objects.classes s.objects.phases f.object (Bases p) es (shapes below))) paced.1 going (λ keeps. event_closed h program s.objects (Bases p) (next_event h keeps program s.objects f.object (Bases p) es below reached) (closed keeps))
events_kept h program s f below (End p ∷ es) reached paced going closed = resumed_kept h program (with_objects s (objects_after program s.objects (End p))) f below (event_outs s.objects (End p)) es (moves _ _ reached (event s.objects.classes s.objects.phases f.object (End p) es (shapes below))) paced.1 going (λ keeps. event_closed h program s.objects (End p) (next_event h keeps program s.objects f.object (End p) es below reached) (closed keeps))

pub plan_kept : (h : Classes) (program : TypedProgram) (s : ProgramState) (f : Planned) (below : List Frame) → IsKeptAt h program s.objects (InPlan f ∷ below) → IfGoes (IsKept h program) (event_step program s f below f.events)
plan_kept h program s f below a = events_kept h program s f below f.events a.reached a.going.0.paced a.going.1 a.closed

-- the closing step of a constructor's body is the event behind it
pub constructor_kept : (h : Classes) (program : TypedProgram) (s : ProgramState) (below : List Frame) → IsKeptAt h program s.objects below → IfGoes (IsKept h program) (constructor_closed program s below)
constructor_kept h program s [] a = tt
constructor_kept h program s (InBody f ∷ below) a = tt
constructor_kept h program s (InPlan f ∷ below) a = plan_kept h program s f below a
