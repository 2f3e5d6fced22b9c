use Rattle.std.proofs.Common.{ℕ, List, ap, sym, subst, ◌∙◌}
use Rattle.std.specs.Prelude.{false}
use Rattle.cxxabi_words.specs.declared.command.Command.TheVariants.{Gen}
use Rattle.foundation.specs.Limits.{most_steps}
use Rattle.cxxabi_cmd.specs.Commands.{SumsUp}
use Rattle.cxxabi_cmd.specs.Handed.{seen_machine}
use Rattle.cxxabi_cmd.specs.Output.{summary_answer}
use Rattle.cxxabi_cmd.specs.invariants.Replies.{as_answer, machine_of}
use Rattle.cxxabi_cmd.proofs.RunAnswers.{gen_ends, run_answer_is, summary_is, machine_is}
use Rattle.cxxabi_cmd.proofs.run_answer.generated_by_bytes.Goals as goal

pub returns-in-Done-clause-answer : goal.returns-in-Done-clause-answer
returns-in-Done-clause-answer c = λ n.
    let run = c.in_ok-execution.execution in
    let is = c.in_ok-execution.ensures in
    summary_is (Gen n) c.args.accepted.now.hierarchy c.args.accepted.now.layout c.args.accepted.now.program false most_steps run.steps run.text run.end (as_answer c.in_ok-reply.reply)
    (subst (SumsUp (Gen n)) (sym c.in-Done.is) tt) (c.in_ok-reply.ensures.answer ∙ ap (λ (t : List ℕ). summary_answer c.args.accepted.now.hierarchy run.steps t) c.as_slice.ensures) is.text (is.steps (λ limit. let clash = sym c.in-Done.is ∙ limit in cc)) is.end

pub returns-in-Done-clause-machine : goal.returns-in-Done-clause-machine
returns-in-Done-clause-machine c =
    let run = c.in_ok-execution.execution in
    let is = c.in_ok-execution.ensures in
    machine_is c.args.accepted.now.hierarchy c.args.accepted.now.layout c.args.accepted.now.program false most_steps _ run.text run.end (seen_machine run.machine) (machine_of c.in_ok-reply.reply) c.in_ok-reply.ensures.machine is.text is.end is.machine

pub returns-clause-answer : goal.returns-clause-answer
returns-clause-answer c = λ n.
    let run = c.in_ok-execution.execution in
    let is = c.in_ok-execution.ensures in
    run_answer_is (Gen n) c.args.accepted.now.hierarchy c.args.accepted.now.layout c.args.accepted.now.program false most_steps run.text run.end (as_answer c.in_ok-reply-2.reply)
    (gen_ends n run.end c.in_default.not-Done) c.in_ok-reply-2.ensures.answer is.text is.end

pub returns-clause-machine : goal.returns-clause-machine
returns-clause-machine c =
    let run = c.in_ok-execution.execution in
    let is = c.in_ok-execution.ensures in
    machine_is c.args.accepted.now.hierarchy c.args.accepted.now.layout c.args.accepted.now.program false most_steps _ run.text run.end (seen_machine run.machine) (machine_of c.in_ok-reply-2.reply) c.in_ok-reply-2.ensures.machine is.text is.end is.machine
