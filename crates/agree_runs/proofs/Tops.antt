-- A state of a run has a frame on top; a body there is one of the program, and its next statement is at hand.
use Rattle.std.proofs.Common.{◌≡◌, ℕ, Some, None, List, [], ◌∷◌, subst}
use Rattle.std.specs.Prelude.{slice_get}
use Rattle.cxx_hierarchy.specs.declared.records.ClassId.{ClassId}
use Rattle.cxx_hierarchy.specs.Classes.{Classes}
use Rattle.cxx_program.specs.declared.program.TypedBody.{TypedBody}
use Rattle.cxx_program.specs.declared.program.TypedProgram.{TypedProgram}
use Rattle.cxx_program.specs.declared.statement.TypedStatement.{TypedStatement}
use Rattle.path_model.specs.Runs.{IsWrong, move, state_at}
use Rattle.path_model.specs.States.{RunningBody, Frame, InBody, owned_body}
use Rattle.path_model.specs.Typed.{AllSettled}
use Rattle.path_model.specs.TypedStates.{AreTypedFrames, IsTypedState}
use Rattle.path_model.proofs.KeptLaws.{statement_settled}
use Rattle.path_model.proofs.KeptSteps.{state_kept}
use Rattle.path_model.proofs.TypedSteps.{state_sound, move_right}
use Rattle.agree_relation.specs.Worlds.{World, IsProgramWorld, world_classes}
use Rattle.agree_statements.specs.Statements.{IsNext}
use Rattle.agree_runs.specs.Accepted.{IsAccepted}
use Rattle.agree_runs.specs.NextSteps.{IsAtEnd}
use Rattle.agree_runs.proofs.Accepted.{world_accepted}
use Rattle.agree_runs.proofs.Seen.{are_seen}

pub state_typed : (h : Classes) (sizes : ClassId → ℕ) (program : TypedProgram) (n : ℕ) → IsAccepted h program → IsTypedState h program (state_at h sizes program n)
state_typed h sizes program n accepted = (state_sound h accepted.hierarchy accepted.faultless program accepted.typed sizes accepted.main n).typed

pub never_wrong : (h : Classes) (sizes : ClassId → ℕ) (program : TypedProgram) (n : ℕ) → IsAccepted h program → move h sizes program (state_at h sizes program n) ≡ IsWrong → ⊥
never_wrong h sizes program n accepted wrong = move_right h accepted.hierarchy accepted.faultless program accepted.typed sizes accepted.main n wrong

pub frames_there : (h : Classes) (sizes : ClassId → ℕ) (program : TypedProgram) (n : ℕ) → IsAccepted h program → (state_at h sizes program n).frames ≡ [] → ⊥
frames_there h sizes program n accepted none = (state_typed h sizes program n accepted).running none

pub all_settled : (h : Classes) (sizes : ClassId → ℕ) (program : TypedProgram) (n : ℕ) → IsAccepted h program → (f : RunningBody) (below : List Frame) → (state_at h sizes program n).frames ≡ InBody f ∷ below → AllSettled h (state_at h sizes program n).objects
all_settled h sizes program n accepted f below top k c made =
    let s = state_at h sizes program n in
    statement_settled h accepted.hierarchy program s.objects s.frames (state_kept h sizes program n) f below k c top made

-- a body on top is one of the program
pub body_on_top : (h : Classes) (sizes : ClassId → ℕ) (program : TypedProgram) (n : ℕ) → IsAccepted h program → (f : RunningBody) (below : List Frame) → (state_at h sizes program n).frames ≡ InBody f ∷ below → (body : TypedBody) × (owned_body program f.owner ≡ Some body)
body_on_top h sizes program n accepted f below top =
    let s = state_at h sizes program n in
    let typed : AreTypedFrames h program s.objects.classes (InBody f ∷ below) = subst (λ (fs : List Frame). AreTypedFrames h program s.objects.classes fs) top (state_typed h sizes program n accepted).frames in
    (typed.0.0, typed.0.1.there)

-- its next statement
pub next_statement : (w : World) → IsProgramWorld w → (sizes : ClassId → ℕ) (n : ℕ) (f : RunningBody) (below : List Frame) (body : TypedBody) (statement : TypedStatement) → (state_at (world_classes w) sizes w.setup.program n).frames ≡ InBody f ∷ below → owned_body w.setup.program f.owner ≡ Some body
    → slice_get body.statements f.next ≡ Some statement → IsNext w (state_at (world_classes w) sizes w.setup.program n) f below body statement
next_statement w world sizes n f below body statement top there here =
    let accepted = world_accepted w world in
    record {
      frames = top;
      there = there;
      here = here;
      typed = state_typed (world_classes w) sizes w.setup.program n accepted;
      settled = all_settled (world_classes w) sizes w.setup.program n accepted f below top;
      seen = are_seen (world_classes w) accepted.hierarchy sizes w.setup.program n f below top;
    }

-- or its end
pub next_end : (w : World) → IsProgramWorld w → (sizes : ClassId → ℕ) (n : ℕ) (f : RunningBody) (below : List Frame) (body : TypedBody) → (state_at (world_classes w) sizes w.setup.program n).frames ≡ InBody f ∷ below → owned_body w.setup.program f.owner ≡ Some body
    → slice_get body.statements f.next ≡ None → IsAtEnd w (state_at (world_classes w) sizes w.setup.program n) f below body
next_end w world sizes n f below body top there over =
    let accepted = world_accepted w world in
    record {
      frames = top;
      there = there;
      over = over;
      typed = state_typed (world_classes w) sizes w.setup.program n accepted;
      settled = all_settled (world_classes w) sizes w.setup.program n accepted f below top;
      seen = are_seen (world_classes w) accepted.hierarchy sizes w.setup.program n f below top;
    }
