use Rattle.std.specs.Prelude.{false}
use Rattle.cxxabi_words.specs.declared.command.Command.TheVariants.{Paths}
use Rattle.cxxabi_cmd.specs.invariants.Replies.{as_answer}
use Rattle.cxxabi_cmd.proofs.RunAnswers.{run_answer_is}
use Rattle.cxxabi_cmd.proofs.run_answer.run_by_paths.Goals as goal

pub returns-clause-answer : goal.returns-clause-answer
returns-clause-answer c =
    run_answer_is (Paths c.args.steps) c.args.accepted.now.hierarchy c.args.accepted.now.layout c.args.accepted.now.program false c.args.steps c.in_ok-text.field-0.text c.in_ok-text.field-0.end (as_answer c.in_ok-reply.reply) (λ sums. sums)
    c.in_ok-reply.ensures.answer c.in_ok-text.ensures.text c.in_ok-text.ensures.end
