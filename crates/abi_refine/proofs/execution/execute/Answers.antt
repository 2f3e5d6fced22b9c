use Rattle.std.proofs.Common.{refl, subst, sym}
use Rattle.cxx_subobject.specs.Parts.{most_subobjects}
use Rattle.byte_code.specs.declared.code.Code.{Code}
use Rattle.byte_machine.specs.MachineState.{machine_code, fixed_in, machine_image, cast_room, state_of}
use Rattle.code_ops.specs.Setups.{setup}
use Rattle.abi_refine.specs.Standing.{StandsInSomeWorld, state_after}
use Rattle.abi_refine.proofs.Beginning.{is_begun, stands_in}
use Rattle.abi_refine.proofs.Executing.{fixed_same, is_execution}
use Rattle.abi_refine.proofs.execution.execute.Goals as goal

pub run_machine-requires-clause-stands : goal.run_machine-requires-clause-stands
run_machine-requires-clause-stands g c =
    let x = setup c.args.h.now (g.L.SoundLayout.rows c.args.layout.now) c.args.program.now in
    let m = c.in_ok-machine.machine in
    let built = c.in_ok-code.field-0 in
    subst (λ (k : Code). StandsInSomeWorld x k built.numbers (fixed_in m) (state_after x 0) (state_of m)) (sym c.in_ok-machine.ensures.code)
    (stands_in x built.code built.numbers built.image most_subobjects c.args.steps c.in_ok-code.ensures.world (fixed_in m) (state_of m)
    (fixed_same (machine_image m) built.image (machine_code m) built.code (cast_room m) most_subobjects c.in_ok-machine.ensures.image c.in_ok-machine.ensures.code c.in_ok-machine.ensures.parts)
    (is_begun (state_of m) _ built.code built.code c.args.steps c.in_ok-machine.ensures.state c.new-memory.ensures refl))

pub returns-clause-machine : goal.returns-clause-machine
returns-clause-machine g c =
    let x = setup c.args.h.now (g.L.SoundLayout.rows c.args.layout.now) c.args.program.now in
    let m = c.in_ok-machine.machine in
    let last = c.run_machine.new.machine in
    let built = c.in_ok-code.field-0 in
    is_execution x c.args.steps c.args.trace built.numbers built.code (machine_code m) (machine_code last) built.image (machine_image m) (machine_image last) (cast_room m) _ (state_of m) (state_of last) c.in_ok-text.field-0.text.items c.from_vec.result c.in_ok-text.field-0.end
    c.in_ok-code.ensures.lowered c.in_ok-code.ensures.image c.in_ok-machine.ensures.code c.run_machine.ensures.code c.in_ok-machine.ensures.image c.run_machine.ensures.image c.in_ok-machine.ensures.parts
    c.in_ok-machine.ensures.state c.new-memory.ensures c.from_vec.ensures c.in_ok-text.ensures.executes c.in_ok-text.ensures.ended
