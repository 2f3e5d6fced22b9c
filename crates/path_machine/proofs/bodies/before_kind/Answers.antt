use Rattle.std.proofs.Common.{refl}
use Rattle.path_machine.proofs.Beginning.{declared_taken}
use Rattle.path_machine.proofs.bodies.before_kind.Goals as goal

pub returns-in-Declare : goal.returns-in-Declare
returns-in-Declare c = λ h sizes program machine s f below t. declared_taken h sizes program machine c.args.frame _ s f below c.in-Declare.n c.args.kind.now c.in-Declare.field-1 c.in-Declare.is t c.put_local.ensures.same c.put_local.ensures.locals
