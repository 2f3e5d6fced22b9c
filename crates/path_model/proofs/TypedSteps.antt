-- Each step leads from a typed state to a typed one, and is not wrong; so each state of a run is typed, and no run goes wrong.
use Rattle.std.proofs.Common.{◌≡◌, ℕ, zero, suc, true, Option, Some, None, List, [], ◌∷◌, refl, ap, subst, sym, ◌∙◌}
use Rattle.std.specs.Prelude.{slice_get}
use Rattle.cxx_hierarchy.specs.declared.records.ClassId.{ClassId}
use Rattle.cxx_hierarchy.specs.declared.stop.LimitNo.{LimitNo}
use Rattle.cxx_hierarchy.specs.Classes.{Classes}
use Rattle.cxx_hierarchy.specs.Hierarchies.{IsHierarchy}
use Rattle.cxx_overrider.specs.Faults.{HasNoFault}
use Rattle.cxx_program.specs.declared.operand.Variable.TheVariants.{Local}
use Rattle.cxx_program.specs.declared.statement.TypedKind.{TypedKind}
use Rattle.cxx_program.specs.declared.statement.TypedStatement.{TypedStatement}
use Rattle.cxx_program.specs.declared.program.Owner.{Owner}
use Rattle.cxx_program.specs.declared.program.Owner.TheVariants.{Main, Function, Constructor, Destructor}
use Rattle.cxx_program.specs.declared.program.TypedBody.{TypedBody}
use Rattle.cxx_program.specs.declared.program.TypedProgram.{TypedProgram}
use Rattle.cxx_program.specs.Typed.{scope_of, IsTyped, declares, begins, assigns, writes, copies, calls, deletes, branches, repeats, returns_nothing, returns_value, prints, prints_type, prints_view, dumps, IsTypedProgram}
use Rattle.path_rules.specs.declared.Undefined.{Undefined}
use Rattle.path_model.specs.declared.outs.Out.{Out}
use Rattle.path_model.specs.Values.{Unset}
use Rattle.path_model.specs.Rules.{statement_refusal, closing_refusal}
use Rattle.path_model.specs.States.{RunningBody, Frame, InBody, InPlan, ProgramState, owned_body, is_body, with_frames, sight, wanted_result}
use Rattle.path_model.specs.Effects.{Next, Goes, Refuses, Ends, Wrong, effect}
use Rattle.path_model.specs.Steps.{unless, body_closed, constructor_closed, before_kind, step_of_statement, next_in_body, body_step, frame_step, step}
use Rattle.path_model.specs.Runs.{IsWrong, within, move_by, move, limit_at, Done, UndefinedAt, OutOfSteps, LimitMet, WentWrong, Ran, ran_by, run_from, run_of, state_at, start}
use Rattle.path_model.specs.TypedStates.{FitsResult, IsOverPlan, IsOpened}
use Rattle.path_model.proofs.KeptFrames.{IsKeptAt, IsKept, IfGoes, kept_left}
use Rattle.path_model.proofs.KeptSteps.{before_rest, step_kept, behind_move, state_kept}
use Rattle.path_model.proofs.TypedFrames.{IsSound, IsSoundNext, assigned_sound, called_some}
use Rattle.path_model.proofs.TypedBodies.{body_typed, start_sound}
use Rattle.path_model.proofs.TypedPlans.{plan_sound}
use Rattle.path_model.proofs.TypedStatements.{kind_sound}

unless_sound : (h : Classes) (program : TypedProgram) (o : Option Undefined) (line : ℕ) (next : Next) → (o ≡ None → IsSoundNext h program next) → IsSoundNext h program (unless o line next)
unless_sound h program None line next goes = goes refl
unless_sound h program (Some rule) line next goes = tt

-- a body is left, and what is below goes on
left_sound : (h : Classes) (program : TypedProgram) (s : ProgramState) (f : RunningBody) (below : List Frame) → (below ≡ [] → ⊥) → IsSound h program (with_frames s (InBody f ∷ below)) → IsSound h program (with_frames s below)
left_sound h program s f below some b = record { typed = record { globals = b.typed.globals; leaves = b.typed.leaves; held = b.typed.held; frames = b.typed.frames.2; running = some }; runs = b.runs }

over_some : (below : List Frame) → IsOverPlan below → below ≡ [] → ⊥
over_some [] a e = a
over_some (InBody f ∷ below) a e = a
over_some (InPlan f ∷ below) a e = let g : InPlan f ∷ below ≡ [] = e in cc

module _ (h : Classes) (keeps : IsHierarchy h) (fine : HasNoFault h) (program : TypedProgram) (a : IsTypedProgram h program) where
  -- the end of a constructor's body is an event of the plan below
  constructor_sound : (s : ProgramState) (below : List Frame) → IsKeptAt h program s.objects below → IsOverPlan below → IsSound h program (with_frames s below) → IsSoundNext h program (constructor_closed program s below)
  constructor_sound s [] kept over b = over
  constructor_sound s (InBody f ∷ below) kept over b = over
  constructor_sound s (InPlan f ∷ below) kept over b = plan_sound h keeps program a s f below kept b

  closed_sound : (s : ProgramState) (f : RunningBody) (below : List Frame) (line : ℕ) → IsKeptAt h program s.objects (InBody f ∷ below) → IsSound h program (with_frames s (InBody f ∷ below)) → IsSoundNext h program (body_closed h program s f.owner line below)
  closed_sound s f below line kept b = by_owner f.owner refl
    where
      opened : (o : Owner) → f.owner ≡ o → IsOpened h program o f.found f.target below
      opened o e = subst (λ (x : Owner). IsOpened h program x f.found f.target below) e b.typed.frames.1

      by_owner : (o : Owner) → f.owner ≡ o → IsSoundNext h program (body_closed h program s o line below)
      by_owner Main e = tt
      by_owner (Function g) e = unless_sound h program (closing_refusal h s.objects g) line (Goes (with_frames s below) [])
          (λ none. left_sound h program s f below (called_some program (FitsResult h program.globals (Function g) f.found f.target) below (opened (Function g) e)) b)
      by_owner (Constructor c) e = constructor_sound s below (kept_left h program s.objects f below kept) (opened (Constructor c) e) (left_sound h program s f below (over_some below (opened (Constructor c) e)) b)
      by_owner (Destructor c) e = left_sound h program s f below (over_some below (opened (Destructor c) e)) b

  -- a declaration makes its variable unset
  before_sound : (s : ProgramState) (f : RunningBody) (below : List Frame) (body : TypedBody) → owned_body program f.owner ≡ Some body → (kind : TypedKind) → IsTyped h (scope_of h program.globals body) kind
      → IsSound h program (with_frames s (InBody f ∷ below)) → IsSound h program (with_frames s (InBody (before_kind f kind) ∷ below))
  before_sound s f below body there _ (declares n t is) b = assigned_sound h program (with_frames s (InBody f ∷ below)) body there (Local n) t is Unset tt b
  before_sound s f below body there _ (begins n x t is fits) b = assigned_sound h program (with_frames s (InBody f ∷ below)) body there (Local n) t is Unset tt b
  before_sound s f below body there _ (assigns variable x t is fits) b = b
  before_sound s f below body there _ (writes place x t p fits) b = b
  before_sound s f below body there _ (copies to from c has_to has_from) b = b
  before_sound s f below body there _ (calls call d c) b = b
  before_sound s f below body there _ (deletes x c has) b = b
  before_sound s f below body there _ (branches x t other behind has) b = b
  before_sound s f below body there _ (repeats x t behind has) b = b
  before_sound s f below body there _ (returns_nothing is) b = b
  before_sound s f below body there _ (returns_value x t is fits) b = b
  before_sound s f below body there _ (prints x t has) b = b
  before_sound s f below body there _ (prints_type x c has poly) b = b
  before_sound s f below body there _ (prints_view x c has poly) b = b
  before_sound s f below body there _ (dumps x c has) b = b

  statement_sound : (s : ProgramState) (f : RunningBody) (below : List Frame) (body : TypedBody) (n : ℕ) → owned_body program f.owner ≡ Some body → (statement : TypedStatement) → slice_get body.statements n ≡ Some statement
      → IsSound h program (with_frames s (InBody f ∷ below)) → IsSoundNext h program (step_of_statement h program s (before_kind f statement.kind) below n statement)
  statement_sound s f below body n there statement at b =
      let g = before_kind f statement.kind in
      let typed = (body_typed h program a f.owner body there).1.statements n statement at in
      let found : owned_body program g.owner ≡ Some body = ap (owned_body program) (sym (before_rest f statement.kind).owner) ∙ there in
      unless_sound h program (statement_refusal h (sight s g) (wanted_result g) statement.kind) statement.line (effect h program (with_frames s (InBody g ∷ below)) g below n statement)
      (λ none. kind_sound h keeps fine program a s.objects s.globals g below body found (wanted_result g) n statement.next typed.next (before_sound s f below body there statement.kind typed.typed b) statement.kind typed.typed typed.within none)

  at_statement_sound : (s : ProgramState) (f : RunningBody) (below : List Frame) (body : TypedBody) → owned_body program f.owner ≡ Some body → IsKeptAt h program s.objects (InBody f ∷ below) → IsSound h program (with_frames s (InBody f ∷ below))
      → (o : Option TypedStatement) → slice_get body.statements f.next ≡ o → IsSoundNext h program (next_in_body h program s f below body o)
  at_statement_sound s f below body there kept b None at = closed_sound s f below body.close_line kept b
  at_statement_sound s f below body there kept b (Some statement) at = statement_sound s f below body f.next there statement at b

  body_sound : (s : ProgramState) (f : RunningBody) (below : List Frame) → IsKeptAt h program s.objects (InBody f ∷ below) → IsSound h program (with_frames s (InBody f ∷ below)) → (o : Option TypedBody) → owned_body program f.owner ≡ o → IsSoundNext h program (body_step h program s f below o)
  body_sound s f below kept b None is = let g : None ≡ Some b.typed.frames.0.0 = sym is ∙ b.typed.frames.0.1.there in absurd (cc)
  body_sound s f below kept b (Some body) is = at_statement_sound s f below body is kept b (slice_get body.statements f.next) refl

  frames_sound : (s : ProgramState) (frames : List Frame) → IsKeptAt h program s.objects frames → IsSound h program (with_frames s frames) → IsSoundNext h program (frame_step h program s frames)
  frames_sound s [] kept b = b.typed.running refl
  frames_sound s (InBody f ∷ below) kept b = body_sound s f below kept b (owned_body program f.owner) refl
  frames_sound s (InPlan f ∷ below) kept b = plan_sound h keeps program a s f below kept b

  step_sound : (s : ProgramState) → IsKept h program s → IsSound h program s → IsSoundNext h program (step h program s)
  step_sound s kept b = frames_sound s s.frames kept b

  -- runs

  sound_goes : (next : Next) → IsSoundNext h program next → IfGoes (IsSound h program) next
  sound_goes (Goes s outs) b = b
  sound_goes (Refuses rule line) b = tt
  sound_goes Ends b = tt
  sound_goes Wrong b = tt

  within_right : (o : Option LimitNo) (s : ProgramState) (outs : List Out) → within o s outs ≡ IsWrong → ⊥
  within_right None s outs e = cc
  within_right (Some limit) s outs e = cc

  next_right : (next : Next) (o : Option LimitNo) → IsSoundNext h program next → move_by next o ≡ IsWrong → ⊥
  next_right (Goes s outs) o b e = within_right o s outs e
  next_right (Refuses rule line) o b e = cc
  next_right Ends o b e = cc
  next_right Wrong o b e = b

  module _ (sizes : ClassId → ℕ) (main : is_body program.main ≡ true) where
    pub state_sound : (n : ℕ) → IsSound h program (state_at h sizes program n)
    state_sound zero = start_sound h program a main
    state_sound (suc n) = let s = state_at h sizes program n in
        behind_move (IsSound h program) (step h program s) (limit_at sizes program s) s (state_sound n) (sound_goes (step h program s) (step_sound s (state_kept h sizes program n) (state_sound n)))

    pub move_right : (n : ℕ) → move h sizes program (state_at h sizes program n) ≡ IsWrong → ⊥
    move_right n e = let s = state_at h sizes program n in next_right (step h program s) (limit_at sizes program s) (step_sound s (state_kept h sizes program n) (state_sound n)) e

    -- the end of a run from a state

    within_ends : (o : Option LimitNo) (new : ProgramState) (outs : List Out) (rest : ProgramState → Ran) → ((rest new).ending ≡ WentWrong → ⊥) → (ran_by (within o new outs) rest).ending ≡ WentWrong → ⊥
    within_ends None new outs rest right e = right e
    within_ends (Some limit) new outs rest right e = let g : LimitMet limit ≡ WentWrong = e in cc

    move_ends : (next : Next) (o : Option LimitNo) (rest : ProgramState → Ran) → IsSoundNext h program next → ((new : ProgramState) (outs : List Out) → next ≡ Goes new outs → (rest new).ending ≡ WentWrong → ⊥) → (ran_by (move_by next o) rest).ending ≡ WentWrong → ⊥
    move_ends (Goes new outs) o rest b right e = within_ends o new outs rest (right new outs refl) e
    move_ends (Refuses rule line) o rest b right e = let g : UndefinedAt rule line ≡ WentWrong = e in cc
    move_ends Ends o rest b right e = let g : Done ≡ WentWrong = e in cc
    move_ends Wrong o rest b right e = b

    from_right : (n : ℕ) (s : ProgramState) → IsKept h program s → IsSound h program s → (run_from h sizes program n s).ending ≡ WentWrong → ⊥
    from_right zero s kept b e = let g : OutOfSteps ≡ WentWrong = e in cc
    from_right (suc n) s kept b e =
        let sound = step_sound s kept b in
        move_ends (step h program s) (limit_at sizes program s) (run_from h sizes program n) sound
        (λ new outs is. from_right n new (subst (λ (next : Next). IfGoes (IsKept h program) next) is (step_kept h program s kept)) (subst (λ (next : Next). IsSoundNext h program next) is sound)) e

    pub run_right : (n : ℕ) → (run_of h sizes program n).ending ≡ WentWrong → ⊥
    run_right n e = from_right n (start program) (state_kept h sizes program 0) (start_sound h program a main) e
