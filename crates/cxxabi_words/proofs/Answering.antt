-- What is answered to words that `clap` takes.
use Rattle.std.proofs.Common.{◌≡◌, Bool, List, [], Option, Some, None, Result, Ok, Err, codes, refl, sym, ◌∙◌, ap}
use Rattle.std.specs.Prelude.{IfOk, MatchOption}
use Rattle.foundation.specs.declared.memory.NoMemory.{NoMemory}
use Rattle.clap.specs.Words.{Row, Text, fault_of, first_of, matches_of, one_of}
use Rattle.cxxabi_words.specs.declared.command.Command.{Command}
use Rattle.cxxabi_words.specs.Commands.{Says, IsCommand, given, given_by, is_true, simple_command}
use Rattle.cxxabi_words.specs.invariants.Asked.{asked, command_form}
use Rattle.cxxabi_words.proofs.CommandLaws.{no_form, by_form}

-- the rows of the matches say what the words give
pub given_is : (words : List Text) (rows : List Row) → rows ≡ matches_of simple_command words → given_by rows ≡ given words
unfolding given
given_is words rows same = ap given_by same

-- without COMMAND the words ask for no command
pub no_word : (words : List Text) (rows : List Row) → rows ≡ matches_of simple_command words → None ≡ first_of (codes "command") rows → IsCommand words → ⊥
no_word words rows same none = no_form words (ap asked (sym (given_is words rows same)) ∙ rw (← none) refl)

-- the getters say what the words give
module _ (words : List Text) (rows : List Row) (word : Text) (arg steps : Option Text) (trace : Bool) (read : rows ≡ matches_of simple_command words)
    (word_is : Some word ≡ first_of (codes "command") rows) (arg_is : arg ≡ first_of (codes "arg") rows) (steps_is : steps ≡ first_of (codes "steps") rows)
    (trace_is : trace ≡ is_true (one_of (codes "trace") rows)) where
  asked_is : command_form word arg steps trace ≡ asked (given words)
  asked_is =
      let read_so : record { command = Some word; arg = arg; steps = steps; trace = trace } ≡ given_by rows = rw (word_is, arg_is, steps_is, trace_is) refl in
      ap asked (read_so ∙ given_is words rows read)

  -- a form is the command that is asked for
  pub answered : (r : Result (Option Command) NoMemory) → fault_of simple_command words ≡ [] → IfOk r (λ found. found ≡ command_form word arg steps trace) →
      IfOk r (λ found. MatchOption found (IsCommand words → ⊥) (Says words))
  answered (Ok None) taken is = no_form words (sym (is ∙ asked_is))
  answered (Ok (Some c)) taken is = by_form words c taken (sym (is ∙ asked_is))
  answered (Err e) taken is = is
