use Rattle.std.proofs.Common.{map}
use Rattle.path_model.specs.Values.{argument_value}
use Rattle.path_machine.proofs.Opening.{arguments_mean, locals_mean}
use Rattle.path_machine.proofs.openings.called_locals.Goals as goal

-- src/openings.rt:48:1
pub returns : goal.returns
returns c = λ e s scene calling.
    let h = c.args.run.now.world.h.now in
    let sees = c.args.scene.now in
    let call = c.args.call.now in
    let values = c.in_ok-values.values.items in
    locals_mean h s.objects.classes c.args.count values c.in_ok-locals.locals.items (map (argument_value s) call.arguments) c.in_ok-locals.ensures
    (arguments_mean h c.args.heap.now sees call c.as_slice.result.now values c.as_slice.ensures c.in_ok-values.ensures e s scene calling)
