-- When the machine is at a step of a run, and what a turn has to be.
use Rattle.std.specs.Prelude.{◌≡◌, ◌≤◌, ℕ, ◌+◌, Bool, Option, Some, None}
use Rattle.foundation.specs.Limits.{most_steps}
use Rattle.cxx_hierarchy.specs.declared.records.ClassId.{ClassId}
use Rattle.cxx_hierarchy.specs.Classes.{Classes}
use Rattle.cxx_program.specs.declared.program.TypedProgram.{TypedProgram}
use Rattle.path_model.specs.declared.outs.Turn.{Turn}
use Rattle.path_model.specs.declared.outs.Turn.TheVariants.{Went, Ended, Refused, OutOfSteps as IsOutOfSteps, Limit}
use Rattle.path_model.specs.Runs.{Ending, Done, UndefinedAt, OutOfSteps, LimitMet, WentWrong, IsRunning, move, outs_in, outs_at, run_of, state_at}
use Rattle.path_tables.specs.Asked.{AreAnswers}
use Rattle.path_machine.specs.Machines.{MachineStands}
use Rattle.path_machine.specs.declared.state.PathState.{PathState}
use Rattle.path_machine.specs.declared.telling.Telling.{Telling}
use Rattle.path_machine.specs.Tellings.{TellsMore}

-- the steps that were taken, the budget, and the answer that ended the run
abbrev pub taken_by : PathState → ℕ
taken_by state = state.taken

abbrev pub budget_of : PathState → ℕ
budget_of state = state.budget

abbrev pub ended_with : PathState → Option Turn
ended_with state = state.end

-- an earlier step answered NoMemory
abbrev pub lacked_memory : PathState → Bool
lacked_memory state = state.failed

-- the ending that an answer says; a step that was taken ends nothing
abbrev pub ending_of : Turn → Ending
ending_of Went = WentWrong
ending_of Ended = Done
ending_of (Refused rule line) = UndefinedAt rule line
ending_of IsOutOfSteps = OutOfSteps
ending_of (Limit limit) = LimitMet limit

-- the run has taken the machine's steps, of which it may take no more than the limit on them, and has not ended, and the machine stands for the state behind them
pub record IsAtStep (h : Classes) (sizes : ClassId → ℕ) (program : TypedProgram) (state : PathState) : Type 0 where
  pub machine_stands : MachineStands h sizes program state.machine (state_at h sizes program state.taken)
  pub running : IsRunning h sizes program state.taken
  pub within : state.taken ≤ state.budget
  pub few : state.budget ≤ most_steps
  pub answers_right : AreAnswers h state.answers

-- the run has ended with this answer
pub record HasEnded (h : Classes) (sizes : ClassId → ℕ) (program : TypedProgram) (state : PathState) (turn : Turn) : Type 0 where
  pub ending : (run_of h sizes program state.budget).ending ≡ ending_of turn
  pub steps : (run_of h sizes program state.budget).steps ≡ state.taken

-- the machine is at a step, or the run has ended
abbrev pub IsInRun : Classes → (ClassId → ℕ) → TypedProgram → PathState → Option Turn → Type 0
IsInRun h sizes program state None = IsAtStep h sizes program state
IsInRun h sizes program state (Some turn) = HasEnded h sizes program state turn

-- one turn from before to after: a step that was taken tells what the run's step tells, as far as it is to be told; any other answer ends the run with all
-- that was told so far, and comes again
abbrev pub TurnAgrees : Classes → (ClassId → ℕ) → TypedProgram → (before after : PathState) → (told telling : Telling) → Option Turn → Turn → Type 0
TurnAgrees h sizes program before after told telling (Some end) turn = (turn ≡ end) × (after ≡ before) × (telling ≡ told)
TurnAgrees h sizes program before after told telling None Went = (after.taken ≡ before.taken + 1) × (after.budget ≡ before.budget) × (after.end ≡ None) × TellsMore told telling (outs_in (move h sizes program (state_at h sizes program before.taken)))
TurnAgrees h sizes program before after told telling None turn = ((run_of h sizes program before.budget).outs ≡ outs_at h sizes program before.taken) × (after.budget ≡ before.budget) × (after.end ≡ Some turn) × (telling ≡ told)
