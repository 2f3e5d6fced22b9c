-- The next event of a plan fits its part in an open object, and is a step of the run.
use Rattle.std.proofs.Common.{◌≡◌, ℕ, Option, Some, None, List, [], ◌∷◌, inl, refl, ap, subst, sym, ◌∙◌}
use Rattle.cxx_hierarchy.specs.declared.records.ClassId.{ClassId}
use Rattle.cxx_hierarchy.specs.declared.stop.LimitNo.{LimitNo}
use Rattle.cxx_hierarchy.specs.Classes.{Classes}
use Rattle.cxx_program.specs.declared.program.TypedBody.{TypedBody}
use Rattle.cxx_program.specs.declared.program.TypedProgram.{TypedProgram}
use Rattle.foundation.proofs.Members.{Has}
use Rattle.path_plan.specs.Places.{ObjectPart}
use Rattle.path_plan.specs.Phases.{PartEvent, Begin, Ready, Init, Body, Done, Ending, Bases, End, part_of}
use Rattle.path_plan.specs.Views.{Fits}
use Rattle.path_plan.specs.Whole.{whole_part}
use Rattle.path_plan.proofs.Construction.{in_object}
use Rattle.path_model.specs.declared.outs.Out.{Out}
use Rattle.path_model.specs.Effects.{Next, Goes, Refuses, Ends, Wrong}
use Rattle.path_model.specs.Runs.{IsWrong, frame_limit, limit_at, move_by, move, state_at}
use Rattle.path_model.specs.States.{ProgramState, Planned, Frame, InPlan, owned_body, with_objects}
use Rattle.path_model.specs.Steps.{body_owner, class_of_part, body_opened, plan_left, resumed, objects_after, event_outs, event_step, frame_step, step}
use Rattle.path_model.proofs.KeptLaws.{next_fits, plan_inside, plan_open, some_event}
use Rattle.path_model.proofs.KeptSteps.{state_kept}
use Rattle.agree_runs.specs.Accepted.{IsAccepted}
use Rattle.agree_runs.specs.NextSteps.{HappensNext}
use Rattle.agree_runs.proofs.Tops.{never_wrong}

-- an event is never refused, and ends no run

abbrev GoesOrIsWrong : Next → Type 0
GoesOrIsWrong (Goes s outs) = Unit {0}
GoesOrIsWrong (Refuses rule line) = ⊥
GoesOrIsWrong Ends = ⊥
GoesOrIsWrong Wrong = Unit {0}

opened_goes : (s : ProgramState) (p : ObjectPart) (outs : List Out) (frames : List Frame) (o : Option TypedBody) → GoesOrIsWrong (body_opened s p outs frames o)
opened_goes s p outs frames None = tt
opened_goes s p outs frames (Some body) = tt

resumed_goes : (program : TypedProgram) (s : ProgramState) (f : Planned) (below : List Frame) (outs : List Out) (es : List PartEvent) → GoesOrIsWrong (resumed program s f below outs es)
resumed_goes program s f below outs [] = tt
resumed_goes program s f below outs (Begin p ∷ es) = tt
resumed_goes program s f below outs (Ready p ∷ es) = tt
resumed_goes program s f below outs (Init p m ∷ es) = tt
resumed_goes program s f below outs (Body p ∷ es) = opened_goes s p outs (plan_left f es ∷ below) (owned_body program (body_owner f.is_building (class_of_part p)))
resumed_goes program s f below outs (Done p ∷ es) = tt
resumed_goes program s f below outs (Ending p ∷ es) = tt
resumed_goes program s f below outs (Bases p ∷ es) = tt
resumed_goes program s f below outs (End p ∷ es) = tt

event_goes : (program : TypedProgram) (s : ProgramState) (f : Planned) (below : List Frame) (es : List PartEvent) → GoesOrIsWrong (event_step program s f below es)
event_goes program s f below [] = tt
event_goes program s f below (Begin p ∷ es) = resumed_goes program (with_objects s (objects_after program s.objects (Begin p))) f below (event_outs s.objects (Begin p)) es
event_goes program s f below (Ready p ∷ es) = resumed_goes program (with_objects s (objects_after program s.objects (Ready p))) f below (event_outs s.objects (Ready p)) es
event_goes program s f below (Init p m ∷ es) = resumed_goes program (with_objects s (objects_after program s.objects (Init p m))) f below (event_outs s.objects (Init p m)) es
event_goes program s f below (Body p ∷ es) = tt
event_goes program s f below (Done p ∷ es) = resumed_goes program (with_objects s (objects_after program s.objects (Done p))) f below (event_outs s.objects (Done p)) es
event_goes program s f below (Ending p ∷ es) = resumed_goes program (with_objects s (objects_after program s.objects (Ending p))) f below (event_outs s.objects (Ending p)) es
event_goes program s f below (Bases p ∷ es) = resumed_goes program (with_objects s (objects_after program s.objects (Bases p))) f below (event_outs s.objects (Bases p)) es
event_goes program s f below (End p ∷ es) = resumed_goes program (with_objects s (objects_after program s.objects (End p))) f below (event_outs s.objects (End p)) es

-- so that it goes on where it is not wrong
record GoesOn (next : Next) : Type 0 where
  new : ProgramState
  told : List Out
  is : next ≡ Goes new told

goes_on : (next : Next) → GoesOrIsWrong next → (move_by next None ≡ IsWrong → ⊥) → GoesOn next
goes_on (Goes s outs) goes right = record { new = s; told = outs; is = refl }
goes_on (Refuses rule line) goes right = absurd goes
goes_on Ends goes right = absurd goes
goes_on Wrong goes right = absurd (right refl)

some_first : (es : List PartEvent) → (es ≡ [] → ⊥) → (e : PartEvent) × (rest : List PartEvent) × (es ≡ e ∷ rest)
some_first [] some = absurd (some refl)
some_first (e ∷ es) some = (e, es, refl)

module _ (h : Classes) (sizes : ClassId → ℕ) (program : TypedProgram) (n : ℕ) (accepted : IsAccepted h program) where
  abbrev s : ProgramState
  s = state_at h sizes program n

  -- a move by its step, where no limit is asked for
  pub moves_by : (next : Next) → step h program s ≡ next → limit_at sizes program s ≡ None → move h sizes program s ≡ move_by next None
  moves_by next is free = ap (λ (x : Next). move_by x (limit_at sizes program s)) is ∙ ap (λ (o : Option LimitNo). move_by next o) free

  -- an event that is the step of the run
  pub happens : (p : Planned) (path : List Frame) (e : PartEvent) (es : List PartEvent) → Has s.frames (InPlan p) → p.events ≡ e ∷ es → Fits h s.objects.phases e → step h program s ≡ event_step program s p path p.events → limit_at sizes program s ≡ None → HappensNext h sizes program s p path
  happens p path e es has is fits by free =
      let kept = state_kept h sizes program n in
      let inside = plan_inside h accepted.hierarchy program s.objects s.frames kept p e has (subst (λ (xs : List PartEvent). Has xs e) (sym is) (inl refl)) in
      let here : move h sizes program s ≡ move_by (event_step program s p path p.events) None = moves_by (event_step program s p path p.events) by free in
      let goes = goes_on (event_step program s p path p.events) (event_goes program s p path p.events) (λ wrong. never_wrong h sizes program n accepted (here ∙ wrong)) in
      record {
        event = e;
        rest = es;
        is = is;
        fits = fits;
        class = inside.0;
        made = inside.1;
        inside = inside.2;
        open_there = ap s.objects.is_closed (in_object h (part_of e) (whole_part p.object inside.0) inside.2) ∙ plan_open h accepted.hierarchy program s.objects s.frames kept p has;
        new = goes.new;
        told = goes.told;
        steps = goes.is;
        moves = here ∙ ap (λ (x : Next). move_by x None) goes.is;
      }

  -- the next event of a plan on top
  pub next_event : (p : Planned) (path : List Frame) → s.frames ≡ InPlan p ∷ path → HappensNext h sizes program s p path
  next_event p path top =
      let kept = state_kept h sizes program n in
      let has : Has s.frames (InPlan p) = subst (λ (fs : List Frame). Has fs (InPlan p)) (sym top) (inl refl) in
      let first = some_first p.events (some_event h program s.objects s.frames kept p has) in
      happens p path first.0 first.1 has first.2 (next_fits h accepted.hierarchy program s.objects s.frames kept p first.0 first.1 path top first.2) (ap (frame_step h program s) top) (ap (frame_limit sizes program s) top)
