-- What words ask for, step by step: the words, the length of the input, its parts, the verdict on the source, and the answer.
use Rattle.std.proofs.Common.{◌≡◌, ℕ, suc, ◌<◌, ◌≤◌, Option, Some, None, List, length, refl, sym, subst}
use Rattle.cxx_hierarchy.specs.declared.stop.Stop.{Stop}
use Rattle.cxx_hierarchy.specs.declared.stop.LimitNo.TheVariants.{L1}
use Rattle.cxx_hierarchy.specs.Classes.{Classes}
use Rattle.cxx_syntax.specs.declared.source_text.SourceText.{SourceText}
use Rattle.cxx_program.specs.declared.program.TypedProgram.{TypedProgram}
use Rattle.cxxabi_input.specs.Division.{line_count}
use Rattle.cxxabi_words.specs.declared.command.Command.{Command}
use Rattle.cxxabi_words.specs.Commands.{Says, IsCommand}
use Rattle.cxxabi_cmd.specs.declared.status.Status.TheVariants.{Usage, Limit, BadInput}
use Rattle.cxxabi_cmd.specs.Commands.{input_of, divided_input}
use Rattle.cxxabi_cmd.specs.Divided.{undivided_rule}
use Rattle.cxxabi_cmd.specs.Verdict.{Verdict, Stops, Accepts}
use Rattle.cxxabi_cmd.specs.Output.{Answer, Output, usage, too_long, undivided, stopped, yielded, Yields, line_alone, status_of_stop}
use Rattle.foundation.specs.Limits.{source_limit}

-- what a command answers to a source, behind a front
pub data Judged (c : Command) (front text : List ℕ) : Answer → Type 0 where
  is_stopped : (stop : Stop) → Verdict text (Stops stop) → Judged c front text (line_alone (status_of_stop stop))
  is_yielded : (source : SourceText) (h : Classes) (typed : TypedProgram) (answer : Answer) → Verdict text (Accepts source h typed) → Yields front (length text) source h typed c answer → Judged c front text answer

-- what it answers to an input, by its parts
abbrev pub Parted : Command → List ℕ → Option (List ℕ × List ℕ) → Answer → Type 0
Parted c input None a = line_alone (BadInput (undivided_rule c) (suc (line_count input))) ≡ a
Parted c input (Some parts) a = Judged c parts.0 parts.1 a

-- what it answers to an input
pub data Told (c : Command) (input : List ℕ) : Answer → Type 0 where
  is_long : source_limit < length input → Told c input (line_alone (Limit L1))
  is_short : (answer : Answer) → length input ≤ source_limit → Parted c input (divided_input c input) answer → Told c input answer

-- what is answered to words and bytes
pub data Asked (words : List (List ℕ)) (bytes : List ℕ) : Answer → Type 0 where
  is_usage : (IsCommand words → ⊥) → Asked words bytes (line_alone Usage)
  is_told : (c : Command) (answer : Answer) → Says words c → Told c (input_of c bytes) answer → Asked words bytes answer

-- it is the output
pub asked_by : (words : List (List ℕ)) (bytes : List ℕ) (a : Answer) → Output words bytes a → Asked words bytes a
asked_by words bytes _ (usage none) = is_usage none
asked_by words bytes _ (too_long c says long) = is_told c (line_alone (Limit L1)) says (is_long long)
asked_by words bytes _ (undivided c says short nowhere) =
    let answer = line_alone (BadInput (undivided_rule c) (suc (line_count (input_of c bytes)))) in
    is_told c answer says (is_short answer short (subst (λ o. Parted c (input_of c bytes) o answer) (sym nowhere) refl))
asked_by words bytes _ (stopped c front text stop says short parts verdict) =
    let answer = line_alone (status_of_stop stop) in
    is_told c answer says (is_short answer short (subst (λ o. Parted c (input_of c bytes) o answer) (sym parts) (is_stopped stop verdict)))
asked_by words bytes _ (yielded c front text source h typed answer says short parts verdict yields) =
    is_told c answer says (is_short answer short (subst (λ o. Parted c (input_of c bytes) o answer) (sym parts) (is_yielded source h typed answer verdict yields)))

-- and each such answer is one
judged_output : (words : List (List ℕ)) (bytes : List ℕ) (c : Command) (front text : List ℕ) (a : Answer) → Says words c → length (input_of c bytes) ≤ source_limit → divided_input c (input_of c bytes) ≡ Some (front, text) → Judged c front text a → Output words bytes a
judged_output words bytes c front text _ says short parts (is_stopped stop verdict) = stopped c front text stop says short parts verdict
judged_output words bytes c front text _ says short parts (is_yielded source h typed answer verdict yields) = yielded c front text source h typed answer says short parts verdict yields

pub parted_output : (words : List (List ℕ)) (bytes : List ℕ) (c : Command) (parts : Option (List ℕ × List ℕ)) (a : Answer) → Says words c → length (input_of c bytes) ≤ source_limit → divided_input c (input_of c bytes) ≡ parts → Parted c (input_of c bytes) parts a → Output words bytes a
parted_output words bytes c None a says short parts is = subst (λ b. Output words bytes b) is (undivided c says short parts)
parted_output words bytes c (Some p) a says short parts is = judged_output words bytes c p.0 p.1 a says short parts is
