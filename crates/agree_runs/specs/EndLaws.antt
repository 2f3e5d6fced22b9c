-- What a run does at the end of the body of a constructor or destructor.
use Rattle.std.specs.Prelude.{◌≡◌, ℕ, Some, None, List, ◌∷◌, slice_get}
use Rattle.cxx_hierarchy.specs.declared.records.ClassId.{ClassId}
use Rattle.cxx_hierarchy.specs.Classes.{Classes}
use Rattle.cxx_program.specs.declared.program.Owner.TheVariants.{Constructor, Destructor}
use Rattle.cxx_program.specs.declared.program.TypedBody.{TypedBody}
use Rattle.cxx_program.specs.declared.program.TypedProgram.{TypedProgram}
use Rattle.path_model.specs.Runs.{state_at}
use Rattle.path_model.specs.States.{RunningBody, Frame, InBody, owned_body}
use Rattle.agree_runs.specs.Accepted.{IsAccepted}
use Rattle.agree_runs.specs.NextSteps.{EndsConstructor, EndsDestructor}

-- at the end of a constructor's body, the next event of the plan below is the step of the run
abbrev pub ConstructorEndsHappen : Classes → (ClassId → ℕ) → TypedProgram → Type 0
ConstructorEndsHappen h sizes program = (n : ℕ) (f : RunningBody) (below : List Frame) (body : TypedBody) (c : ClassId) → IsAccepted h program →
    (state_at h sizes program n).frames ≡ InBody f ∷ below → owned_body program f.owner ≡ Some body → slice_get body.statements f.next ≡ None →
    f.owner ≡ Constructor c → EndsConstructor h sizes program (state_at h sizes program n) c below

-- at the end of a destructor's body, the plan below goes on
abbrev pub DestructorEndsHappen : Classes → (ClassId → ℕ) → TypedProgram → Type 0
DestructorEndsHappen h sizes program = (n : ℕ) (f : RunningBody) (below : List Frame) (body : TypedBody) (c : ClassId) → IsAccepted h program →
    (state_at h sizes program n).frames ≡ InBody f ∷ below → owned_body program f.owner ≡ Some body → slice_get body.statements f.next ≡ None →
    f.owner ≡ Destructor c → EndsDestructor h sizes program (state_at h sizes program n) below
