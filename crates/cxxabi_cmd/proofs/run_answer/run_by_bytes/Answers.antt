use Rattle.cxxabi_cmd.specs.Handed.{seen_machine}
use Rattle.cxxabi_cmd.specs.invariants.Replies.{as_answer, machine_of}
use Rattle.cxxabi_cmd.proofs.RunAnswers.{run_answer_is, machine_is}
use Rattle.cxxabi_cmd.proofs.run_answer.run_by_bytes.Goals as goal

pub returns-clause-answer : goal.returns-clause-answer
returns-clause-answer g c = λ command plain.
    run_answer_is command c.args.accepted.now.hierarchy (g.L.SoundLayout.rows c.args.layout.now) c.args.accepted.now.program c.args.trace c.args.steps c.in_ok-execution.execution.text c.in_ok-execution.execution.end (as_answer c.in_ok-reply.reply) (plain c.in_ok-execution.execution.end)
    c.in_ok-reply.ensures.answer c.in_ok-execution.ensures.text c.in_ok-execution.ensures.end

pub returns-clause-machine : goal.returns-clause-machine
returns-clause-machine g c =
    machine_is c.args.accepted.now.hierarchy (g.L.SoundLayout.rows c.args.layout.now) c.args.accepted.now.program c.args.trace c.args.steps _ c.in_ok-execution.execution.text c.in_ok-execution.execution.end (seen_machine c.in_ok-execution.execution.machine)
    (machine_of c.in_ok-reply.reply) c.in_ok-reply.ensures.machine c.in_ok-execution.ensures.text c.in_ok-execution.ensures.end c.in_ok-execution.ensures.machine
