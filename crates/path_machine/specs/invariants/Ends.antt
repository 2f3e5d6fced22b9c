-- What a step of the machine leaves behind, and a machine whose run has ended.
use Rattle.std.specs.Prelude.{◌≡◌, ℕ, ◌+◌, Some}
use Rattle.cxx_hierarchy.specs.declared.records.ClassId.{ClassId}
use Rattle.cxx_hierarchy.specs.Classes.{Classes}
use Rattle.cxx_program.specs.declared.program.TypedProgram.{TypedProgram}
use Rattle.path_model.specs.declared.outs.Turn.{Turn}
use Rattle.path_model.specs.declared.outs.Turn.TheVariants.{Ended, Refused, Limit}
use Rattle.path_model.specs.Runs.{move, outs_at, outs_in, run_of, state_at}
use Rattle.path_machine.specs.declared.state.PathState.{PathState}
use Rattle.path_machine.specs.declared.next.Next.{Next as NextCode}
use Rattle.path_machine.specs.declared.next.Next.TheVariants.{Goes as GoesCode, Refuses as RefusesCode, Limited, Ends as EndsCode, Wrong as WrongCode}
use Rattle.path_machine.specs.declared.telling.Telling.{Telling}
use Rattle.path_machine.specs.Tellings.{TellsMore}
use Rattle.path_machine.specs.Turns.{IsAtStep, ending_of}

-- one step more is counted
abbrev pub step_counted : PathState → PathState
step_counted state = record { machine = state.machine; answers = state.answers; taken = state.taken + 1; budget = state.budget; end = state.end; failed = state.failed }

-- a step was taken: once it is counted the machine is at the next one, and what the step tells is told
pub record Steps (h : Classes) (sizes : ClassId → ℕ) (program : TypedProgram) (before after : PathState) (told telling : Telling) : Type 0 where
  pub at : IsAtStep h sizes program (step_counted after)
  pub tells : TellsMore told telling (outs_in (move h sizes program (state_at h sizes program before.taken)))

-- the run ends with this answer after so many steps more, and nothing more is told
pub record EndsRun (h : Classes) (sizes : ClassId → ℕ) (program : TypedProgram) (before : PathState) (turn : Turn) (more : ℕ) (told telling : Telling) : Type 0 where
  pub run : run_of h sizes program before.budget ≡ record { outs = outs_at h sizes program before.taken; ending = ending_of turn; steps = before.taken + more }
  pub same : telling ≡ told

-- what a step leaves behind, by what it came to; no step of a run goes wrong
abbrev pub Leaves : Classes → (ClassId → ℕ) → TypedProgram → (before after : PathState) → (told telling : Telling) → NextCode → Type 0
Leaves h sizes program before after told telling GoesCode = Steps h sizes program before after told telling
Leaves h sizes program before after told telling (RefusesCode rule line) = EndsRun h sizes program before (Refused rule line) 0 told telling
Leaves h sizes program before after told telling (Limited limit) = EndsRun h sizes program before (Limit limit) 0 told telling
Leaves h sizes program before after told telling EndsCode = EndsRun h sizes program before Ended 1 told telling
Leaves h sizes program before after told telling WrongCode = ⊥

-- a step that is not counted yet: the counts and the answer that ended the run are as before
pub record HasMoved (h : Classes) (sizes : ClassId → ℕ) (program : TypedProgram) (before after : PathState) (told telling : Telling) (next : NextCode) : Type 0 where
  pub taken : after.taken ≡ before.taken
  pub budget : after.budget ≡ before.budget
  pub end : after.end ≡ before.end
  pub failed : after.failed ≡ before.failed
  pub leaves : Leaves h sizes program before after told telling next

-- the answer is kept, and nothing else has changed
pub record IsFinished (before after : PathState) (turn result : Turn) : Type 0 where
  pub is : after ≡ record { machine = before.machine; answers = before.answers; taken = before.taken; budget = before.budget; end = Some turn; failed = before.failed }
  pub answer : result ≡ turn
