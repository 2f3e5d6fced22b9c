use Rattle.cxxabi_cmd.proofs.DividedAnswers.{foreign_ran, foreign_machine, foreign_many, foreign_none}
use Rattle.cxxabi_cmd.proofs.divided_answer.run_over.Goals as goal

pub returns-in-Ok-clause-yields : goal.returns-in-Ok-clause-yields
returns-in-Ok-clause-yields c =
    foreign_ran c.run_by_bytes.result c.args.accepted.now.source c.args.accepted.now.hierarchy c.args.layout.now c.args.accepted.now.program c.args.steps c.in-Ok.ensures.few c.run_by_bytes.ensures.answer

pub returns-in-Ok-clause-machine : goal.returns-in-Ok-clause-machine
returns-in-Ok-clause-machine c =
    foreign_machine c.run_by_bytes.result c.args.accepted.now.source c.args.accepted.now.hierarchy c.args.layout.now c.args.accepted.now.program c.args.steps c.in-Ok.ensures.few c.run_by_bytes.ensures.machine

pub returns-clause-yields : goal.returns-clause-yields
returns-clause-yields c =
    foreign_many c.stopped.result c.args.accepted.now.source c.args.accepted.now.hierarchy c.args.layout.now c.args.accepted.now.program c.args.steps c.in-Err.stop c.stopped.ensures.answer c.in-Err.ensures.many

pub returns-clause-machine : goal.returns-clause-machine
returns-clause-machine c =
    foreign_none c.stopped.result c.args.accepted.now.source c.args.accepted.now.hierarchy c.args.layout.now c.args.accepted.now.program c.args.steps c.in-Err.stop (record { layout = c.one_listing.ensures; apart = c.one_refusal.ensures.apart; stop = c.one_refusal.ensures.one }) c.keeps.ensures
    c.stopped.ensures.answer c.stopped.ensures.machine c.in-Err.ensures.many
