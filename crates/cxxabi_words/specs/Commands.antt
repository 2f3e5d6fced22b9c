-- The commands, and the words that ask for them.
use Rattle.std.specs.Prelude.{◌≡◌, ◌≤◌, ◌++◌, ℕ, Bool, true, false, List, [], length, codes, Option, Some, None}
use Rattle.std.specs.Option.{option_map_or}
use Rattle.std.specs.Str.{bytes_eq}
use Rattle.std.specs.Str.Parse.{IsNumeral, digits_value}
use Rattle.foundation.specs.Limits.{most_steps}
use Rattle.cxx_hierarchy.specs.Limits.{most_elements}
use Rattle.clap.specs.Words.{App, Row, Rule, Text, fault_of, first_of, matches_of, new_app, new_rule, one_of, with_rule}
use Rattle.clap.specs.Simple.{on_top}
use Rattle.clap.specs.declared.builder.ArgAction.TheVariants.{SetTrue}
use Rattle.cxx_text.specs.declared.token.Kind.TheVariants.{Word}
use Rattle.cxx_text.specs.OneToken.{IsToken}
use Rattle.cxxabi_words.specs.declared.command.Command.{Command}
use Rattle.cxxabi_words.specs.declared.command.Command.TheVariants.{Check, Layout, LayoutOf, Tables, TablesOf, Run, Paths, Gen, Array, MemberPointer, Inspect, Foreign}

-- the steps that a run may take where the words say none
abbrev pub budget : ℕ
budget = 1000000

-- the most classes that the words may ask for
abbrev pub most_asked_classes : ℕ
most_asked_classes = 1000

-- ---- the simple command

abbrev pub command_rule : Rule
command_rule = record (new_rule (codes "command")) { required = true }

abbrev pub arg_rule : Rule
arg_rule = new_rule (codes "arg")

abbrev pub steps_rule : Rule
steps_rule = record (new_rule (codes "steps")) { long = Some (codes "steps") }

abbrev pub trace_rule : Rule
trace_rule = record (new_rule (codes "trace")) { long = Some (codes "trace"); action = Some SetTrue }

-- the words have no program's name
abbrev pub without_binary_name : App → App
without_binary_name = on_top (λ s. record s { no_binary_name = true })

-- COMMAND, ARG, `--steps` with one value, and `--trace`
unfoldable pub simple_command : App
simple_command =
    with_rule (with_rule (with_rule (with_rule (without_binary_name (new_app (codes "tagymelur"))) command_rule) arg_rule) steps_rule) trace_rule

-- ---- what the words give

-- COMMAND, ARG, the value of `--steps`, and whether `--trace` is there
pub record Given : Type 0 where
  pub command : Option Text
  pub arg : Option Text
  pub steps : Option Text
  pub trace : Bool

-- the value of a flag is `true` where it is there
abbrev pub is_true : Option Text → Bool
is_true value = option_map_or (λ text. bytes_eq text (codes "true")) value false

abbrev pub given_by : List Row → Given
given_by rows = record {
  command = first_of (codes "command") rows;
  arg = first_of (codes "arg") rows;
  steps = first_of (codes "steps") rows;
  trace = is_true (one_of (codes "trace") rows);
}

unfoldable pub given : List Text → Given
given words = given_by (matches_of simple_command words)

-- ---- the forms of commands

-- at most so many digits say a number, which is from one to the most; zeros may lead
pub record IsCount (places most : ℕ) (digits : Text) (n : ℕ) : Type 0 where
  pub numeral : IsNumeral 10 digits
  pub short : length digits ≤ places
  pub value : n ≡ digits_value 10 digits
  pub least : 1 ≤ n
  pub within : n ≤ most

-- the steps that a run may take
abbrev pub IsBudget : Option Text → ℕ → Type 0
IsBudget None n = n ≡ budget
IsBudget (Some digits) n = IsCount 7 most_steps digits n

-- a word of the source's grammar: a letter or `_`, and then letters, digits and `_`, 255 bytes at most
abbrev pub IsNameWord : Text → Type 0
IsNameWord text = IsToken text Word 0

-- a command's word alone
abbrev pub word_alone : Text → Given
word_alone word = record { command = Some word; arg = None; steps = None; trace = false }

-- a command's word with an argument
abbrev pub word_with : Text → Text → Given
word_with word arg = record { command = Some word; arg = Some arg; steps = None; trace = false }

-- what the words give has the form of the command
pub data IsForm : Given → Command → Type 0 where
  check : IsForm (word_alone (codes "check")) Check
  layout : IsForm (word_alone (codes "layout")) Layout
  layout_of : (class : Text) → IsForm (word_with (codes "layout") class) (LayoutOf class)
  tables : IsForm (word_alone (codes "tables")) Tables
  tables_of : (class : Text) → IsForm (word_with (codes "tables") class) (TablesOf class)
  run : (steps : Option Text) (n : ℕ) (trace : Bool) → IsBudget steps n →
      IsForm (record { command = Some (codes "run"); arg = None; steps = steps; trace = trace }) (Run n trace)
  paths : (steps : Option Text) (n : ℕ) → IsBudget steps n →
      IsForm (record { command = Some (codes "paths"); arg = None; steps = steps; trace = false }) (Paths n)
  gen : (digits : Text) (n : ℕ) → IsCount 4 most_asked_classes digits n → IsForm (word_with (codes "gen") digits) (Gen n)
  array : (class digits : Text) (n : ℕ) → IsNameWord class → IsCount 4 most_elements digits n → IsForm (word_with (codes "array") (class ++ (codes "@" ++ digits))) (Array class n)
  member : (class member : Text) → IsNameWord class → IsNameWord member →
      IsForm (word_with (codes "memptr") (class ++ (codes "::" ++ member))) (MemberPointer (record { class = class; member = member; whole = class }))
  member_for : (class member whole : Text) → IsNameWord class → IsNameWord member → IsNameWord whole →
      IsForm (word_with (codes "memptr") (class ++ (codes "::" ++ (member ++ (codes "@" ++ whole))))) (MemberPointer (record { class = class; member = member; whole = whole }))
  inspect : IsForm (word_alone (codes "inspect")) Inspect
  foreign : (steps : Option Text) (n : ℕ) → IsBudget steps n →
      IsForm (record { command = Some (codes "foreign"); arg = None; steps = steps; trace = false }) (Foreign n)

-- the words ask for the command: `clap` takes them, and gives its form
pub record Says (words : List Text) (command : Command) : Type 0 where
  pub taken : fault_of simple_command words ≡ []
  pub form : IsForm (given words) command

-- the words ask for some command
abbrev pub IsCommand : List Text → Type 0
IsCommand words = (command : Command) × Says words command
