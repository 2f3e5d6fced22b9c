-- A run that goes on with the text so far, and a run that has ended.
use Rattle.std.specs.Prelude.{◌≡◌, ◌≤◌, ◌<◌, ℕ, ◌+◌, Bool, false, Option, Some, None, List, length, filter}
use Rattle.cxx_hierarchy.specs.Classes.{Classes}
use Rattle.cxx_program.specs.declared.program.TypedProgram.{TypedProgram}
use Rattle.path_model.specs.declared.outs.Out.{Out}
use Rattle.path_model.specs.declared.outs.Turn.{Turn}
use Rattle.path_model.specs.declared.outs.Turn.TheVariants.{Went, Ended as EndedTurn, Refused, OutOfSteps as NoSteps, Limit as LimitTurn}
use Rattle.path_model.specs.Runs.{move, outs_at, outs_in, run_of, state_at}
use Rattle.path_machine.specs.declared.state.PathState.{PathState}
use Rattle.path_machine.specs.Tellings.{is_told}
use Rattle.path_machine.specs.Turns.{IsAtStep, taken_by, budget_of, ended_with}
use Rattle.abi_sound.specs.Places.{Places}
use Rattle.text_told.specs.declared.ending.End.{End}
use Rattle.text_told.specs.declared.ending.End.TheVariants.{Done, Undefined, OutOfSteps, Limit}
use Rattle.text_told.specs.Told.{IsRun, told_ending, passes_text_limit, text_at, text_limit}

-- the end that an answer is; none of a step that was taken
abbrev pub turn_end : Turn → Option End
turn_end Went = None
turn_end EndedTurn = Some Done
turn_end (Refused rule line) = Some (Undefined rule line)
turn_end NoSteps = Some OutOfSteps
turn_end (LimitTurn limit) = Some (Limit limit)

-- the machine is at a step, and the text is that of the steps before, none of which passed the limit
pub record RunGoesOn (h : Classes) (l : Places) (program : TypedProgram) (trace : Bool) (state : PathState) (text : List ℕ) : Type 0 where
  pub at_step : IsAtStep h l.size program state
  pub going : ended_with state ≡ None
  pub text_is : text ≡ text_at h l program trace (taken_by state)
  pub small : length text ≤ text_limit
  pub room : (k : ℕ) → k < taken_by state → passes_text_limit h l program trace k ≡ false

-- what the next step tells, with what a trace alone shows
abbrev pub all_told : Classes → Places → TypedProgram → PathState → List Out
all_told h l program before = outs_in (move h l.size program (state_at h l.size program (taken_by before)))

-- a step that was taken, and what it told
pub record HasGoneOn (h : Classes) (l : Places) (program : TypedProgram) (trace : Bool) (before after : PathState) (telling : List Out) : Type 0 where
  pub taken : taken_by after ≡ taken_by before + 1
  pub budget : budget_of after ≡ budget_of before
  pub going : ended_with after ≡ None
  pub at_step : IsAtStep h l.size program after
  pub tells : telling ≡ filter (is_told trace) (all_told h l program before)

-- the run has ended before this step
pub record HasEndedBefore (h : Classes) (l : Places) (program : TypedProgram) (before : PathState) (end_is : End) : Type 0 where
  pub outs : (run_of h l.size program (budget_of before)).outs ≡ outs_at h l.size program (taken_by before)
  pub ending : (run_of h l.size program (budget_of before)).ending ≡ told_ending end_is

-- what one step came to
abbrev pub Stepped : Classes → Places → TypedProgram → (trace : Bool) → (before after : PathState) → List Out → Option End → Type 0
Stepped h l program trace before after telling None = HasGoneOn h l program trace before after telling
Stepped h l program trace before after telling (Some end_is) = HasEndedBefore h l program before end_is

-- one step more, with its lines
pub record IsTurned (h : Classes) (l : Places) (program : TypedProgram) (trace : Bool) (before after : PathState) (text : List ℕ) : Type 0 where
  pub goes : RunGoesOn h l program trace after text
  pub taken : taken_by after ≡ taken_by before + 1
  pub budget : budget_of after ≡ budget_of before

-- what one turn came to
abbrev pub Turned : Classes → Places → TypedProgram → (trace : Bool) → (before after : PathState) → List ℕ → Option End → Type 0
Turned h l program trace before after text None = IsTurned h l program trace before after text
Turned h l program trace before after text (Some end_is) = IsRun h l program trace (budget_of before) text end_is
