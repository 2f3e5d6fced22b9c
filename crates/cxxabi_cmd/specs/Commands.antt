-- Which input each command treats, the parts that it has, and which commands run `main`.
use Rattle.std.specs.Prelude.{◌≡◌, ℕ, Bool, false, Option, Some, List, []}
use Rattle.cxxabi_input.specs.Division.{division}
use Rattle.cxx_gen.specs.Generated.{generated}
use Rattle.cxxabi_words.specs.declared.command.Command.{Command}
use Rattle.cxxabi_words.specs.declared.command.Command.TheVariants.{Run, Paths, Gen, Inspect, Foreign}
use Rattle.cxxabi_words.specs.Commands.{Says}
use Rattle.text_told.specs.declared.ending.End.{End}
use Rattle.text_told.specs.declared.ending.End.TheVariants.{Done}
use Rattle.foundation.specs.Limits.{most_steps}

-- the input that a command treats: `gen` its own, and each other what it reads
abbrev pub input_of : Command → List ℕ → List ℕ
input_of (Gen n) bytes = generated n
input_of other bytes = bytes

-- what stands before the source in an input, and the source: a line divides the input of `inspect` and `foreign`, and that of each
-- other command is a source
abbrev pub divided_input : Command → List ℕ → Option (List ℕ × List ℕ)
divided_input Inspect input = division input
divided_input (Foreign steps) input = division input
divided_input other input = Some ([], input)

-- the command reads the source that it is given
abbrev pub ReadsSource : Command → Type 0
ReadsSource (Gen n) = ⊥
ReadsSource other = Unit {0}

-- the source tells these bytes, where the words are a command that reads it
abbrev pub TellsSource : List (List ℕ) → Option (List ℕ) → List ℕ → Type 0
TellsSource words remaining bytes = (command : Command) → Says words command → ReadsSource command → remaining ≡ Some bytes

-- the command runs `main`, with at most so many steps, and with a trace or without
pub data RunsMain : Command → ℕ → Bool → Type 0 where
  by_run : (steps : ℕ) (trace : Bool) → RunsMain (Run steps trace) steps trace
  by_paths : (steps : ℕ) → RunsMain (Paths steps) steps false
  by_gen : (n : ℕ) → RunsMain (Gen n) most_steps false
  by_foreign : (steps : ℕ) → RunsMain (Foreign steps) steps false

-- where the command runs a program, it does so on the byte machine
abbrev pub IsOnBytes : Command → Type 0
IsOnBytes (Paths steps) = ⊥
IsOnBytes other = Unit {0}

-- the command sums up a run with this end: `gen` one that came to the end of `main`
abbrev pub SumsUp : Command → End → Type 0
SumsUp (Gen n) Done = Unit {0}
SumsUp command end_is = ⊥
