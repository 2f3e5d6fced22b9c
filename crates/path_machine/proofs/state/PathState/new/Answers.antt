use Rattle.std.proofs.Common.{rules, arith}
use Rattle.path_machine.specs.invariants.Steps.{size_in}
use Rattle.path_machine.proofs.state.PathState.new.Goals as goal

pub returns-clause-start : goal.returns-clause-start
returns-clause-start c =
    let h = c.args.run.now.world.h.now in
    let sizes = size_in c.args.run.now.sizes.now in
    record { machine_stands = c.in_ok-machine-in-Some.ensures h sizes c.requires.setup.world.hierarchy c.requires.setup.typed (search rules); running = λ k lt. absurd (omega arith); within = omega arith; few = c.requires.budget; answers_right = c.new.ensures h }
