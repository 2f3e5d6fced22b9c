use Rattle.path_machine.specs.invariants.Steps.{gone_on}
use Rattle.path_machine.proofs.Effecting.{telling_agrees}
use Rattle.path_machine.proofs.effects.tell.Goals as goal

-- src/effects.rt:49:1
pub returns-in_ok-go_on-in-Some : goal.returns-in_ok-go_on-in-Some
returns-in_ok-go_on-in-Some c = λ h sizes program s f below t.
    telling_agrees h sizes program c.go_on.new.machine (gone_on s f c.args.next below) c.args.out c.in-Some.out c.args.outs.now c.tell.new.self c.in-Some.is (c.in_ok-go_on-in-Some.ensures h sizes program s f below t) c.in_ok-tell-in-Some.ensures
