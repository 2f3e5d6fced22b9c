-- How an output is put together.
use Rattle.std.proofs.Common.{◌≡◌, ℕ, zero, suc, ◌<◌, ◌≤◌, ◌⊎◌, ⊎_elim, Option, Some, None, Result, Ok, Err, List, [], ◌∷◌, ◌++◌, take, length, refl, sym, ap, subst, arith}
use Rattle.std.specs.Prelude.{IfSome, IfOk, MatchOption}
use Rattle.std.proofs.lemmas.List.{length-take}
use Rattle.foundation.specs.declared.memory.NoMemory.{NoMemory as Want}
use Rattle.foundation.specs.Limits.{source_limit}
use Rattle.cxx_hierarchy.specs.declared.stop.LimitNo.TheVariants.{L1}
use Rattle.cxxabi_cmd.specs.declared.reply.Reply.{Reply}
use Rattle.cxxabi_words.specs.declared.command.Command.{Command}
use Rattle.cxxabi_words.specs.Commands.{Says, IsCommand}
use Rattle.cxxabi_words.proofs.CommandLaws.{one_command}
use Rattle.cxxabi_cmd.specs.declared.status.Status.{Status}
use Rattle.cxxabi_cmd.specs.declared.status.Status.TheVariants.{Done, Refused, BadInput, Usage, Undefined, OutOfSteps, Limit, ReadFault, WriteFault, NoMemory}
use Rattle.cxxabi_streams.specs.Streams.{AddsFrontOf}
use Rattle.cxxabi_cmd.specs.Commands.{input_of}
use Rattle.cxxabi_cmd.specs.Output.{Output, usage, too_long, Answer, line_alone, WritesAnswer, BreaksOff, IsAnswerWritten, IsSilent}
use Rattle.cxxabi_cmd.specs.Handed.{SeenMachine, HandsOut}
use Rattle.cxxabi_cmd.specs.invariants.Replies.{as_answer, machine_of, IsReadToLimit}

-- more than the limit was read
pub limit_output : (r : Result Reply Want) (bytes : List ℕ) (command : Command) → IfOk r (λ reply. as_answer reply ≡ line_alone (Limit L1)) → source_limit < length bytes →
    IfOk r (λ reply. (words : List (List ℕ)) (given : List ℕ) → Says words command → IsReadToLimit bytes (input_of command given) → Output words given (as_answer reply))
limit_output (Ok reply) bytes command alone long = λ words given says read. subst (λ a. Output words given a) (sym alone) (too_long command says (read.more long))
limit_output (Err e) bytes command alone long = alone

-- all was read
pub read_output : (r : Result Reply Want) (bytes : List ℕ) (command : Command) → IfOk r (λ reply. (words : List (List ℕ)) (given : List ℕ) → Says words command → bytes ≡ input_of command given → Output words given (as_answer reply)) → length bytes ≤ source_limit →
    IfOk r (λ reply. (words : List (List ℕ)) (given : List ℕ) → Says words command → IsReadToLimit bytes (input_of command given) → Output words given (as_answer reply))
read_output (Ok reply) bytes command output short = λ words given says read. output words given says (read.whole short)
read_output (Err e) bytes command output short = output

-- the words are no command
pub usage_output : (words : List (List ℕ)) (bytes : List ℕ) (reply : Reply) → as_answer reply ≡ line_alone Usage → (IsCommand words → ⊥) → Output words bytes (as_answer reply)
usage_output words bytes reply alone none = subst (λ a. Output words bytes a) (sym alone) (usage none)

-- the answer was written
pub answers : (words : List (List ℕ)) (bytes : List ℕ) (before after : Option (List ℕ)) (status : Status) (answer : Answer) (written : List ℕ) → Output words bytes answer → written ≡ answer.text →
    (status ≡ answer.status) ⊎ (status ≡ WriteFault) → (status ≡ answer.status → IfSome before (λ taken. after ≡ Some (taken ++ written))) → IsAnswerWritten status → WritesAnswer words bytes before after status
answers words bytes before after status answer written output is either whole answered =
    ⊎_elim (λ same. record { answer = answer; output = output; same = same; text = subst (λ (t : List ℕ). IfSome before (λ taken. after ≡ Some (taken ++ t))) is (whole same) })
    (λ fault. absurd (subst IsAnswerWritten fault answered)) either

-- a front of the answer was written
pub broken_off : (words : List (List ℕ)) (bytes : List ℕ) (before after : Option (List ℕ)) (answer : Answer) (written : List ℕ) → Output words bytes answer → written ≡ answer.text →
    IfSome before (λ taken. AddsFrontOf taken written after) → BreaksOff words bytes before after
broken_off words bytes before after answer written output is part =
    record { answer = answer; output = output; part = subst (λ (t : List ℕ). IfSome before (λ taken. AddsFrontOf taken t after)) is part }

-- no machine for a text that is too long
pub limit_machine : (r : Result Reply Want) (bytes : List ℕ) (command : Command) → IfOk r (λ reply. machine_of reply ≡ None) → source_limit < length bytes →
    IfOk r (λ reply. (words : List (List ℕ)) (given : List ℕ) → Says words command → IsReadToLimit bytes (input_of command given) → HandsOut words given (machine_of reply))
limit_machine (Ok reply) bytes command none long =
    λ words given says read. subst (λ (m : Option SeenMachine). HandsOut words given m) (sym none)
    (λ h rows program trace steps has.
    let one : has.command ≡ command = one_command words has.command command has.asked says in
    let short : length (input_of command given) ≤ source_limit = subst (λ (c : Command). length (input_of c given) ≤ source_limit) one has.short in
    let more = read.more long in omega (arith, short, more))
limit_machine (Err e) bytes command none long = none

-- the machine for a text that was read whole
pub read_machine : (r : Result Reply Want) (bytes : List ℕ) (command : Command) → IfOk r (λ reply. (words : List (List ℕ)) (given : List ℕ) → Says words command → bytes ≡ input_of command given → HandsOut words given (machine_of reply)) → length bytes ≤ source_limit →
    IfOk r (λ reply. (words : List (List ℕ)) (given : List ℕ) → Says words command → IsReadToLimit bytes (input_of command given) → HandsOut words given (machine_of reply))
read_machine (Ok reply) bytes command hands short = λ words given says read. hands words given says (read.whole short)
read_machine (Err e) bytes command hands short = hands

-- no machine where the words are no command
pub usage_machine : (words : List (List ℕ)) (bytes : List ℕ) (reply : Reply) → machine_of reply ≡ None → (IsCommand words → ⊥) → HandsOut words bytes (machine_of reply)
usage_machine words bytes reply none no_command = subst (λ (m : Option SeenMachine). HandsOut words bytes m) (sym none) (λ h rows program trace steps has. no_command (has.command, has.asked))

-- the command that was found, and that none was
pub no_command : {X : Type 0} (found : Option X) (P : Type 0) (Q : X → Type 0) → MatchOption found P Q → found ≡ None → P
no_command found P Q is same = subst (λ o. MatchOption o P Q) same is

pub the_command : {X : Type 0} (found : Option X) (x : X) (P : Type 0) (Q : X → Type 0) → MatchOption found P Q → found ≡ Some x → Q x
the_command found x P Q is same = subst (λ o. MatchOption o P Q) same is

-- an answer that is written is not silent
written_is_told : (status : Status) → IsAnswerWritten status → IsSilent status → ⊥
written_is_told Done written silent = silent
written_is_told (Refused rule at) written silent = silent
written_is_told (BadInput rule line) written silent = silent
written_is_told Usage written silent = silent
written_is_told (Undefined number line) written silent = silent
written_is_told OutOfSteps written silent = silent
written_is_told (Limit limit) written silent = silent
written_is_told ReadFault written silent = written
written_is_told WriteFault written silent = written
written_is_told NoMemory written silent = written

-- and neither is a fault of the sink
pub written_or_broken_off : (result status : Status) → IsAnswerWritten status → (result ≡ status) ⊎ (result ≡ WriteFault) → IsSilent result → ⊥
written_or_broken_off result status written either silent = ⊎_elim (λ same. written_is_told status written (subst IsSilent same silent)) (λ fault. subst IsSilent fault silent) either
