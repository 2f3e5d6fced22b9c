use Rattle.std.proofs.Common.{◌≡◌, false}
use Rattle.byte_machine.specs.MachineState.{machine_code, machine_image, cast_room, state_of, has_failed}
use Rattle.code_ops.specs.Setups.{setup}
use Rattle.abi_refine.proofs.Executing.{IsAtTurn}
use Rattle.abi_refine.proofs.run.run_machine.Given as goal

abbrev pub invariant-loop-outs : goal.invariant-loop-outs
invariant-loop-outs g l =
    record {
      at_turn : IsAtTurn (setup l.h (g.L.SoundLayout.rows l.layout) l.program) l.numbers l.trace (machine_image l.fn.machine) (machine_code l.fn.machine) (cast_room l.fn.machine) (state_of l.fn.machine)
          (machine_image l.machine) (machine_code l.machine) (cast_room l.machine) (state_of l.machine) l.text.items;
      ready : has_failed l.machine ≡ false;
      steps : l.steps ≡ (state_of l.machine).taken;
    }

abbrev pub decreases-loop-outs : goal.decreases-loop-outs
decreases-loop-outs g l = (state_of l.machine).left
