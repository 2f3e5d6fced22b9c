use Rattle.path_machine.specs.invariants.NumberSteps.{IsResultFor, TakesResult}
use Rattle.path_machine.proofs.Numbered.{taken_by, some_more}
use Rattle.path_machine.proofs.sums.taken_number.Goals as goal

pub returns : goal.returns
returns c =
    let scene = c.scene_of-scene.result in
    let machine = c.args.machine.now in
    let frame = c.args.frame.now in
    let kind = c.args.kind.now in
    some_more (λ t. IsResultFor scene kind t.0 t.1) (λ t. TakesResult machine frame kind t.0 t.1) (λ t number. taken_by machine frame scene kind t.0 t.1 c.scene_of-scene.ensures number) c.assigned.result c.assigned.ensures
