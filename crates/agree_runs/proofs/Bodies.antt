-- Where a body is at its end: the step there, and the plan on which the body of a constructor or destructor stands.
use Rattle.std.proofs.Common.{◌≡◌, ℕ, ◌≤◌, arith, length, true, Some, None, List, [], ◌∷◌, inl, inr, refl, ap, subst, sym, ◌∙◌}
use Rattle.std.specs.Prelude.{slice_get}
use Rattle.cxx_hierarchy.specs.declared.records.ClassId.{ClassId}
use Rattle.cxx_hierarchy.specs.Classes.{Classes}
use Rattle.cxx_program.specs.declared.program.Owner.{Owner}
use Rattle.cxx_program.specs.declared.program.Owner.TheVariants.{Constructor, Destructor}
use Rattle.cxx_program.specs.declared.program.TypedBody.{TypedBody}
use Rattle.cxx_program.specs.declared.program.TypedProgram.{TypedProgram}
use Rattle.foundation.proofs.Members.{Has}
use Rattle.path_plan.specs.Places.{ObjectPart}
use Rattle.path_plan.specs.Phases.{PartEvent, Done}
use Rattle.path_model.specs.Effects.{Next}
use Rattle.path_model.specs.Runs.{Moves, statement_limit, body_limit, frame_limit, limit_at, move_by, move, state_at}
use Rattle.path_model.specs.States.{ProgramState, RunningBody, Planned, Frame, InBody, InPlan, owned_body, with_frames}
use Rattle.path_model.specs.Steps.{class_of_part, event_step, body_closed, constructor_closed, next_in_body, body_step, frame_step, step}
use Rattle.foundation.proofs.Places.{get_none}
use Rattle.path_model.specs.TypedStates.{IsTypedState, AreTypedFrames}
use Rattle.path_model.proofs.KeptLaws.{behind_body_fits, constructor_on_plan, destructor_on_plan}
use Rattle.path_model.proofs.KeptSteps.{state_kept}
use Rattle.agree_runs.specs.Accepted.{IsAccepted}
use Rattle.agree_runs.specs.NextSteps.{EndsConstructor, EndsDestructor}
use Rattle.agree_runs.proofs.Accepted.{main_owned}
use Rattle.agree_runs.proofs.Events.{happens}

-- a body that is at its end is behind its last statement
pub behind_last : (h : Classes) (program : TypedProgram) (s : ProgramState) (f : RunningBody) (below : List Frame) (body : TypedBody) → s.frames ≡ InBody f ∷ below → owned_body program f.owner ≡ Some body → slice_get body.statements f.next ≡ None → IsTypedState h program s → f.next ≡ length body.statements
behind_last h program s f below body top there over typed =
    let frames : AreTypedFrames h program s.objects.classes (InBody f ∷ below) = subst (λ (fs : List Frame). AreTypedFrames h program s.objects.classes fs) top typed.frames in
    let running = frames.0.1 in
    let both : Some frames.0.0 ≡ Some body = sym running.there ∙ there in
    let same : frames.0.0 ≡ body = cc (both) in
    let within : f.next ≤ length body.statements = subst (λ (x : TypedBody). f.next ≤ length x.statements) same running.next in
    let past = get_none body.statements f.next over in
    omega (arith, within, past)

-- the end of a body

module _ (h : Classes) (sizes : ClassId → ℕ) (program : TypedProgram) (s : ProgramState) (f : RunningBody) (below : List Frame) (body : TypedBody) (top : s.frames ≡ InBody f ∷ below) (there : owned_body program f.owner ≡ Some body) (over : slice_get body.statements f.next ≡ None) where
  end_step : step h program s ≡ body_closed h program s f.owner body.close_line below
  end_step = ap (frame_step h program s) top ∙ ap (body_step h program s f below) there ∙ ap (next_in_body h program s f below body) over

  end_free : limit_at sizes program s ≡ None
  end_free = ap (frame_limit sizes program s) top ∙ ap (body_limit sizes s f) there ∙ ap (statement_limit sizes s f) over

  -- the move there
  pub end_moves : move h sizes program s ≡ move_by (body_closed h program s f.owner body.close_line below) None
  end_moves = ap (λ (x : Next). move_by x (limit_at sizes program s)) end_step ∙ ap (move_by (body_closed h program s f.owner body.close_line below)) end_free

has_below : (frames : List Frame) (f : RunningBody) (p : Planned) (path : List Frame) → frames ≡ InBody f ∷ (InPlan p ∷ path) → Has frames (InPlan p)
has_below frames f p path is = subst (λ (fs : List Frame). Has fs (InPlan p)) (sym is) (inr (inl refl))

one_first : (list : List PartEvent) (a b : PartEvent) (as_ bs : List PartEvent) → list ≡ a ∷ as_ → list ≡ b ∷ bs → a ≡ b
one_first list a b as_ bs e f = cc

module _ (h : Classes) (sizes : ClassId → ℕ) (program : TypedProgram) (n : ℕ) (accepted : IsAccepted h program) (f : RunningBody) (below : List Frame) (body : TypedBody) (top : (state_at h sizes program n).frames ≡ InBody f ∷ below) (there : owned_body program f.owner ≡ Some body) (over : slice_get body.statements f.next ≡ None) (c : ClassId) where
  abbrev s : ProgramState
  s = state_at h sizes program n

  -- by the plan below, whose next event is the last one of the part
  from_plan : f.owner ≡ Constructor c → (plan : Planned) (path : List Frame) (part : ObjectPart) (es : List PartEvent) → below ≡ InPlan plan ∷ path → plan.is_building ≡ true → plan.events ≡ Done part ∷ es → class_of_part part ≡ c → EndsConstructor h sizes program s c below
  from_plan owner plan path part es is building events of_class =
      let on_top : s.frames ≡ InBody f ∷ (InPlan plan ∷ path) = top ∙ ap (λ (fs : List Frame). InBody f ∷ fs) is in
      let fits = behind_body_fits h accepted.hierarchy program s.objects s.frames (state_kept h sizes program n) f plan (Done part) es path on_top events in
      let by : step h program s ≡ event_step program s plan path plan.events = end_step h sizes program s f below body top there over ∙ ap (λ (o : Owner). body_closed h program s o body.close_line below) owner ∙ ap (constructor_closed program s) is in
      let next = happens h sizes program n accepted plan path (Done part) es (has_below s.frames f plan path on_top) events fits by (end_free h sizes program s f below body top there over) in
      record { plan = plan; path = path; is = is; building = building; part = part; of_class = of_class; next = next; done = one_first plan.events next.event (Done part) next.rest es next.is events }

  pub constructor_ends : f.owner ≡ Constructor c → EndsConstructor h sizes program s c below
  constructor_ends owner =
      let on = constructor_on_plan h program s.objects s.frames (state_kept h sizes program n) (main_owned h program accepted) f c below top owner in
      from_plan owner on.0 on.1 on.2 on.3 on.4 on.5 on.6 on.7

  pub destructor_ends : f.owner ≡ Destructor c → EndsDestructor h sizes program s below
  destructor_ends owner =
      let on = destructor_on_plan h program s.objects s.frames (state_kept h sizes program n) (main_owned h program accepted) f c below top owner in
      record {
        plan = on.0;
        path = on.1;
        is = on.2;
        ending = on.3;
        moves = end_moves h sizes program s f below body top there over ∙ ap (λ (o : Owner). move_by (body_closed h program s o body.close_line below) None) owner ∙ ap (λ (fs : List Frame). Moves (with_frames s fs) []) on.2;
      }
