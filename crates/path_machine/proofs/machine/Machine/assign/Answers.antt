use Rattle.std.proofs.Common.{refl, subst, sym}
use Rattle.path_model.specs.States.{assigned}
use Rattle.path_machine.specs.declared.machine.Machine.{Machine}
use Rattle.path_machine.specs.Machines.{MachineStands}
use Rattle.path_machine.proofs.Changing.{global_set}
use Rattle.path_machine.proofs.machine.Machine.assign.Goals as goal

-- src/machine.rt:78:5
pub returns-in-Global : goal.returns-in-Global
returns-in-Global c = λ h sizes program s v a m.
    let new : Machine = record { heap = c.args.self.now.heap; globals = c.set.new.list; top = c.args.self.now.top; below = c.args.self.now.below; bytes = c.args.self.now.bytes } in
    subst (λ x. MachineStands h sizes program new (assigned s x v)) (sym c.in-Global.is) (global_set h sizes program c.args.self.now new s c.in-Global.n c.args.value v a m refl c.set.ensures refl refl refl)

-- src/machine.rt:78:5
pub returns-in-Local : goal.returns-in-Local
returns-in-Local c = λ h sizes program s v a m. subst (λ x. MachineStands h sizes program c.set_local.new.self (assigned s x v)) (sym c.in-Local.is) (c.set_local.ensures h sizes program s v a m)
