use Rattle.std.proofs.Common.{rules}
use Rattle.path_machine.proofs.Changing.{object_made}
use Rattle.path_machine.proofs.machine.Machine.make.Goals as goal

-- src/machine.rt:105:5
pub returns-clause-stands : goal.returns-clause-stands
returns-clause-stands c = λ h sizes program s numbers size a. object_made h sizes program c.args.self.now c.make.new.self s c.args.c c.args.size c.rounded.result size a (c.in_ok-n.ensures.stands h s.objects numbers a.heap_stands) c.rounded.ensures (search rules)
