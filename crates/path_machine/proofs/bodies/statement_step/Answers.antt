use Rattle.path_machine.specs.invariants.Steps.{size_in}
use Rattle.path_machine.proofs.Numbered.{number_does}
use Rattle.path_machine.proofs.bodies.statement_step.Goals as goal

pub returns-in_ok-done-in-Some-clause-agrees : goal.returns-in_ok-done-in-Some-clause-agrees
returns-in_ok-done-in-Some-clause-agrees c = λ e s f below t given after.
    number_does c.args.run.now.world.h.now (size_in c.args.run.now.sizes.now) c.args.run.now.program.now c.args.machine.now c.put_value.new.machine c.args.frame s f below c.args.statement.now c.in-Some.taken.0 c.in-Some.taken.1 c.args.outs.now c.in_ok-done-in-Some.done t c.in-Some.ensures c.in_ok-done-in-Some.ensures
