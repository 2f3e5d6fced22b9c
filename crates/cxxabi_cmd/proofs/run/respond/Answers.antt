use Rattle.std.proofs.Common.{ℕ, List, string_bytes, map, subst, sym}
use Rattle.cxxabi_words.specs.declared.command.Command.{Command}
use Rattle.cxxabi_words.specs.Commands.{Says}
use Rattle.cxxabi_words.proofs.CommandLaws.{one_command}
use Rattle.cxxabi_cmd.specs.Commands.{ReadsSource, input_of}
use Rattle.cxxabi_cmd.specs.invariants.Replies.{IsReadToLimit}
use Rattle.cxxabi_words.proofs.CommandLaws.{few_said}
use Rattle.cxxabi_cmd.proofs.OutputLemmas.{usage_output, usage_machine, no_command, the_command}
use Rattle.cxxabi_cmd.proofs.run.respond.Goals as goal

pub returns-in_default-clause-output : goal.returns-in_default-clause-output
returns-in_default-clause-output g c =
    λ bytes told. usage_output (map string_bytes c.args.words.now) bytes c.in_ok-line_alone.field-0 c.in_ok-line_alone.ensures.answer (no_command c.in_ok-command.field-0 _ _ c.in_ok-command.ensures c.in_default.is)

pub returns-in_default-clause-machine : goal.returns-in_default-clause-machine
returns-in_default-clause-machine g c =
    λ bytes told. usage_machine (map string_bytes c.args.words.now) bytes c.in_ok-line_alone.field-0 c.in_ok-line_alone.ensures.machine (no_command c.in_ok-command.field-0 _ _ c.in_ok-command.ensures c.in_default.is)

pub returns-in_default-clause-read : goal.returns-in_default-clause-read
returns-in_default-clause-read g c = λ command says reads. absurd (no_command c.in_ok-command.field-0 _ _ c.in_ok-command.ensures c.in_default.is (command, says))

pub returns-clause-output : goal.returns-clause-output
returns-clause-output g c = λ bytes told.
    let says : Says (map string_bytes c.args.words.now) c.in-Some.command = the_command c.in_ok-command.field-0 c.in-Some.command _ _ c.in_ok-command.ensures c.in-Some.is in
    c.in_ok-reply_within.ensures.output (map string_bytes c.args.words.now) bytes says (subst (λ (b : List ℕ). IsReadToLimit b (input_of c.in-Some.command bytes)) (sym c.deref.ensures.value) (c.in_ok-bytes.ensures.read bytes (told c.in-Some.command says)))

pub returns-clause-machine : goal.returns-clause-machine
returns-clause-machine g c = λ bytes told.
    let says : Says (map string_bytes c.args.words.now) c.in-Some.command = the_command c.in_ok-command.field-0 c.in-Some.command _ _ c.in_ok-command.ensures c.in-Some.is in
    c.in_ok-reply_within.ensures.machine (map string_bytes c.args.words.now) bytes says (subst (λ (b : List ℕ). IsReadToLimit b (input_of c.in-Some.command bytes)) (sym c.deref.ensures.value) (c.in_ok-bytes.ensures.read bytes (told c.in-Some.command says)))

pub reply_within-requires : goal.reply_within-requires
reply_within-requires g c = record {
  few = few_said (map string_bytes c.args.words.now) c.in-Some.command (the_command c.in_ok-command.field-0 c.in-Some.command _ _ c.in_ok-command.ensures c.in-Some.is);
}

pub returns-clause-read : goal.returns-clause-read
returns-clause-read g c = λ command says reads.
    let here : Says (map string_bytes c.args.words.now) c.in-Some.command = the_command c.in_ok-command.field-0 c.in-Some.command _ _ c.in_ok-command.ensures c.in-Some.is in
    c.in_ok-bytes.ensures.left (subst ReadsSource (one_command (map string_bytes c.args.words.now) command c.in-Some.command says here) reads)

pub returns-clause-kept : goal.returns-clause-kept
returns-clause-kept g c = λ none.
    let here : Says (map string_bytes c.args.words.now) c.in-Some.command = the_command c.in_ok-command.field-0 c.in-Some.command _ _ c.in_ok-command.ensures c.in-Some.is in
    c.in_ok-bytes.ensures.kept (λ reads. none c.in-Some.command here reads)
