-- The text and the end of a whole run, where its text has a limit.
use Rattle.std.specs.Prelude.{◌≡◌, ℕ, ◌+◌, Bool, nat_lt, Option, Some, None, List, find, length}
use Rattle.cxx_hierarchy.specs.declared.stop.LimitNo.TheVariants.{L9}
use Rattle.cxx_hierarchy.specs.Classes.{Classes}
use Rattle.cxx_program.specs.declared.program.TypedProgram.{TypedProgram}
use Rattle.path_plan.specs.Plans.{upto}
use Rattle.path_model.specs.Runs.{Ran, Ending, Done as IsDone, UndefinedAt, OutOfSteps as IsOutOfSteps, LimitMet, outs_at, run_of}
use Rattle.abi_sound.specs.Places.{Places}
use Rattle.text_told.specs.OutTexts.{outs_to_show, text_of}
use Rattle.text_told.specs.declared.ending.End.{End}
use Rattle.text_told.specs.declared.ending.End.TheVariants.{Done, Undefined, OutOfSteps, Limit}

-- the bytes that the text of a run may have
abbrev pub text_limit : ℕ
text_limit = 16777216

-- the text of what the first n steps show, with or without a trace
abbrev pub text_at : Classes → Places → TypedProgram → Bool → ℕ → List ℕ
text_at h l program trace n = text_of h l (outs_to_show trace (outs_at h l.size program n))

-- with step n the text passes its limit; the lines of a trace count
abbrev pub passes_text_limit : Classes → Places → TypedProgram → Bool → ℕ → Bool
passes_text_limit h l program trace n = nat_lt text_limit (length (text_at h l program trace (n + 1)))

pub record Told : Type 0 where
  pub text : List ℕ
  pub ending : Ending

-- all that the run shows, or what stands before the first step that passes the limit
abbrev pub told_by : Classes → Places → TypedProgram → Bool → Ran → Option ℕ → Told
told_by h l program trace ran None = record { text = text_of h l (outs_to_show trace ran.outs); ending = ran.ending }
told_by h l program trace ran (Some n) = record { text = text_at h l program trace n; ending = LimitMet L9 }

-- the run of a program with a budget of steps, with or without a trace
abbrev pub told : Classes → Places → TypedProgram → Bool → ℕ → Told
told h l program trace steps = told_by h l program trace (run_of h l.size program steps) (find (passes_text_limit h l program trace) (upto (run_of h l.size program steps).steps))

-- the ending that the code says
abbrev pub told_ending : End → Ending
told_ending Done = IsDone
told_ending (Undefined rule line) = UndefinedAt rule line
told_ending OutOfSteps = IsOutOfSteps
told_ending (Limit limit) = LimitMet limit

-- the run of so many steps has this text and this end
pub record IsRun (h : Classes) (l : Places) (program : TypedProgram) (trace : Bool) (steps : ℕ) (text : List ℕ) (end_is : End) : Type 0 where
  pub text_is : text ≡ (told h l program trace steps).text
  pub ending : told_ending end_is ≡ (told h l program trace steps).ending
