use Rattle.std.proofs.Common.{subst, sym}
use Rattle.path_model.specs.Values.{converted_to}
use Rattle.path_model.specs.Effects.{given_to_target}
use Rattle.path_machine.specs.Frames.{target_of_code}
use Rattle.path_machine.specs.Machines.{MachineStands}
use Rattle.path_machine.specs.invariants.Steps.{CanGive}
use Rattle.path_machine.proofs.giving.give.Goals as goal

-- src/giving.rt:20:1
pub returns-in-Some : goal.returns-in-Some
returns-in-Some c = λ sizes program s v a m can.
    let h = c.args.world.now.h.now in
    subst (λ t. CanGive h s v (target_of_code t) → MachineStands h sizes program c.assign.new.self (given_to_target s v (target_of_code t))) (sym c.in-Some.is)
    (λ able. c.assign.ensures h sizes program s (converted_to v c.in-Some.target.conversion) a (c.convert-converted.ensures s.objects v a.heap_stands m able)) can
