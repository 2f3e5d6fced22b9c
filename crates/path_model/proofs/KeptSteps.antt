-- Each step, and so each state of a run, keeps what is kept.
use Rattle.std.proofs.Common.{◌≡◌, ℕ, zero, suc, Option, Some, None, List, [], ◌∷◌, refl, subst}
use Rattle.std.specs.Prelude.{slice_get}
use Rattle.cxx_hierarchy.specs.declared.records.ClassId.{ClassId}
use Rattle.cxx_hierarchy.specs.declared.stop.LimitNo.{LimitNo}
use Rattle.cxx_hierarchy.specs.Classes.{Classes}
use Rattle.cxx_program.specs.declared.statement.TypedKind.{TypedKind}
use Rattle.cxx_program.specs.declared.statement.TypedKind.TheVariants.{Declare, Assign, Write, Copy, Call, Delete, If, While, Return, Print, PrintType, PrintView, Dump}
use Rattle.cxx_program.specs.declared.statement.TypedStatement.{TypedStatement}
use Rattle.cxx_program.specs.declared.program.Owner.{Owner}
use Rattle.cxx_program.specs.declared.program.Owner.TheVariants.{Main, Function, Constructor, Destructor}
use Rattle.cxx_program.specs.declared.program.TypedBody.{TypedBody}
use Rattle.cxx_program.specs.declared.program.TypedProgram.{TypedProgram}
use Rattle.path_rules.specs.declared.Undefined.{Undefined}
use Rattle.path_plan.specs.Runs.{starts, moves, leave}
use Rattle.path_model.specs.declared.outs.Out.{Out}
use Rattle.path_model.specs.Values.{Objects}
use Rattle.path_model.specs.States.{RunningBody, Frame, InBody, InPlan, ProgramState, owned_body, with_frames, at_statement, sight, wanted_result}
use Rattle.path_model.specs.Rules.{statement_refusal, closing_refusal}
use Rattle.path_model.specs.Effects.{Next, Goes, Refuses, Ends, Wrong, effect}
use Rattle.path_model.specs.Steps.{unless, body_closed, before_kind, step_of_statement, next_in_body, body_step, frame_step, step}
use Rattle.path_model.specs.Runs.{no_objects, main_frames, limit_at, within, move_by, state_behind, state_at}
use Rattle.path_model.proofs.KeptClosed.{AreClosed}
use Rattle.path_model.proofs.KeptFrames.{IsKeptAt, IsKept, StandsOn, IfGoes, kept_left, main_body}
use Rattle.path_model.proofs.KeptEvents.{plan_kept, constructor_kept}
use Rattle.path_model.proofs.KeptStatements.{kind_kept}

unless_kept : (P : ProgramState → Type 0) (o : Option Undefined) (line : ℕ) (next : Next) → (o ≡ None → IfGoes P next) → IfGoes P (unless o line next)
unless_kept P None line next goes = goes refl
unless_kept P (Some rule) line next goes = tt

closed_kept : (h : Classes) (program : TypedProgram) (s : ProgramState) (owner : Owner) (line : ℕ) (below : List Frame) → IsKeptAt h program s.objects below → IfGoes (IsKept h program) (body_closed h program s owner line below)
closed_kept h program s Main line below a = tt
closed_kept h program s (Function g) line below a = unless_kept (IsKept h program) (closing_refusal h s.objects g) line (Goes (with_frames s below) []) (λ none. a)
closed_kept h program s (Constructor c) line below a = constructor_kept h program s below a
closed_kept h program s (Destructor c) line below a = a

-- what a declaration leaves as it is, before its right side is read
pub record IsSameRest (f g : RunningBody) : Type 0 where
  pub owner : f.owner ≡ g.owner
  pub next : g.next ≡ f.next
  pub wanted_is : wanted_result g ≡ wanted_result f

same_rest : (f : RunningBody) → IsSameRest f f
same_rest f = record { owner = refl; next = refl; wanted_is = refl }

pub before_rest : (f : RunningBody) (kind : TypedKind) → IsSameRest f (before_kind f kind)
before_rest f (Declare n x) = record { owner = refl; next = refl; wanted_is = refl }
before_rest f (Assign variable x) = same_rest f
before_rest f (Write place x) = same_rest f
before_rest f (Copy to from c) = same_rest f
before_rest f (Call call) = same_rest f
before_rest f (Delete x c) = same_rest f
before_rest f (If x other behind) = same_rest f
before_rest f (While x behind) = same_rest f
before_rest f (Return x) = same_rest f
before_rest f (Print x) = same_rest f
before_rest f (PrintType x c) = same_rest f
before_rest f (PrintView x c) = same_rest f
before_rest f (Dump x c) = same_rest f

before_kept : (h : Classes) (program : TypedProgram) (x : Objects) (f : RunningBody) (below : List Frame) (kind : TypedKind) → IsKeptAt h program x (InBody f ∷ below) → IsKeptAt h program x (InBody (before_kind f kind) ∷ below)
before_kept h program x f below kind a = record {
  reached = a.reached;
  going = (subst (λ (o : Owner). StandsOn program o below) (before_rest f kind).owner a.going.0, a.going.1);
  closed = a.closed;
}

statement_kept : (h : Classes) (program : TypedProgram) (s : ProgramState) (f : RunningBody) (below : List Frame) (n : ℕ) (statement : TypedStatement) → IsKeptAt h program s.objects (InBody f ∷ below) → IfGoes (IsKept h program) (step_of_statement h program s f below n statement)
statement_kept h program s f below n statement a = unless_kept (IsKept h program) (statement_refusal h (sight s f) (wanted_result f) statement.kind) statement.line (effect h program (with_frames s (InBody f ∷ below)) f below n statement)
    (λ none. kind_kept h program (sight s f) (wanted_result f) s.globals (at_statement f statement.next) f below n statement.next statement.kind (record { reached = a.reached; going = a.going; closed = a.closed }) none)

body_kept : (h : Classes) (program : TypedProgram) (s : ProgramState) (f : RunningBody) (below : List Frame) (body : TypedBody) (o : Option TypedStatement) → IsKeptAt h program s.objects (InBody f ∷ below) → IfGoes (IsKept h program) (next_in_body h program s f below body o)
body_kept h program s f below body None a = closed_kept h program s f.owner body.close_line below (kept_left h program s.objects f below a)
body_kept h program s f below body (Some statement) a = statement_kept h program s (before_kind f statement.kind) below f.next statement (before_kept h program s.objects f below statement.kind a)

owner_kept : (h : Classes) (program : TypedProgram) (s : ProgramState) (f : RunningBody) (below : List Frame) (o : Option TypedBody) → IsKeptAt h program s.objects (InBody f ∷ below) → IfGoes (IsKept h program) (body_step h program s f below o)
owner_kept h program s f below None a = tt
owner_kept h program s f below (Some body) a = body_kept h program s f below body (slice_get body.statements f.next) a

frames_kept : (h : Classes) (program : TypedProgram) (s : ProgramState) (frames : List Frame) → IsKeptAt h program s.objects frames → IfGoes (IsKept h program) (frame_step h program s frames)
frames_kept h program s [] a = tt
frames_kept h program s (InBody f ∷ below) a = owner_kept h program s f below (owned_body program f.owner) a
frames_kept h program s (InPlan f ∷ below) a = plan_kept h program s f below a

pub step_kept : (h : Classes) (program : TypedProgram) (s : ProgramState) → IsKept h program s → IfGoes (IsKept h program) (step h program s)
step_kept h program s a = frames_kept h program s s.frames a

-- the state behind a move

behind_within : (P : ProgramState → Type 0) (o : Option LimitNo) (s new : ProgramState) (outs : List Out) → P s → P new → P (state_behind (within o new outs) s)
behind_within P None s new outs a b = b
behind_within P (Some limit) s new outs a b = a

pub behind_move : (P : ProgramState → Type 0) (next : Next) (o : Option LimitNo) (s : ProgramState) → P s → IfGoes P next → P (state_behind (move_by next o) s)
behind_move P (Goes new outs) o s a b = behind_within P o s new outs a b
behind_move P (Refuses rule line) o s a b = a
behind_move P Ends o s a b = a
behind_move P Wrong o s a b = a

start_closed : AreClosed no_objects
start_closed k c got = absurd (let e : None ≡ Some c = got in cc)

start_kept : (h : Classes) (program : TypedProgram) (o : Option TypedBody) → program.main ≡ o → IsKeptAt h program no_objects (main_frames o)
start_kept h program None is = record { reached = moves _ _ (starts no_objects.phases) (leave [] no_objects.phases []); going = tt; closed = λ keeps. start_closed }
start_kept h program (Some body) is = record { reached = starts no_objects.phases; going = (main_body program body is, tt); closed = λ keeps. start_closed }

pub state_kept : (h : Classes) (sizes : ClassId → ℕ) (program : TypedProgram) (n : ℕ) → IsKept h program (state_at h sizes program n)
state_kept h sizes program zero = start_kept h program program.main refl
state_kept h sizes program (suc n) = let s = state_at h sizes program n in
    behind_move (IsKept h program) (step h program s) (limit_at sizes program s) s (state_kept h sizes program n) (step_kept h program s (state_kept h sizes program n))
