use Rattle.std.proofs.Common.{refl}
use Rattle.path_machine.proofs.sums.put_value.Goals as goal

pub returns : goal.returns
returns c = record {
  goes = refl;
  stands = λ h sizes program s f below v t means. c.assign.ensures h sizes program _ v (c.in_ok-go_on.ensures h sizes program s f below t) means;
}
