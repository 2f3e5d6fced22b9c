use Rattle.std.proofs.Common.{rules, refl}
use Rattle.path_machine.proofs.Changing.{machine_local_set}
use Rattle.path_machine.proofs.machine.Machine.set_local.Goals as goal

-- src/machine.rt:69:5
pub returns-in-Some-Body : goal.returns-in-Some-Body
returns-in-Some-Body c = λ h sizes program s v a m. machine_local_set h sizes program c.args.self.now _ c.in-Some-Body.frame _ s c.args.n c.args.value v a m (search rules) refl c.put_local.ensures.same c.put_local.ensures.locals refl refl refl refl
