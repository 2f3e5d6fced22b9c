use Rattle.byte_machine.specs.MachineState.{machine_code, fixed_in, state_of}
use Rattle.code_ops.specs.Setups.{setup}
use Rattle.abi_refine.proofs.Turning.{has_turn_in, turn_agrees_in}
use Rattle.abi_refine.proofs.law.turn.Goals as goal

pub step-requires : goal.step-requires
step-requires g c =
    let x = setup c.args._h.now (g.L.SoundLayout.rows c.args._layout.now) c.args._program.now in
    λ _. rw c.requires.none (has_turn_in x (machine_code c.args.machine.now) c.args._numbers.now (fixed_in c.args.machine.now) (state_of c.args.machine.now) c.requires.stands)

pub returns-clause-agreed : goal.returns-clause-agreed
returns-clause-agreed g c =
    let x = setup c.args._h.now (g.L.SoundLayout.rows c.args._layout.now) c.args._program.now in
    let turns = rw c.requires.none at c.in_ok-turn.ensures.turn in
    turn_agrees_in x (machine_code c.args.machine.now) c.args._numbers.now (fixed_in c.args.machine.now) (state_of c.args.machine.now) c.requires.stands (state_of c.step.new.self) c.step.new.outs c.in_ok-turn.turn turns
