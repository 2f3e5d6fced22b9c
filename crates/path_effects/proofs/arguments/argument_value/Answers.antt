use Rattle.path_model.specs.Values.{value_of_operand}
use Rattle.path_effects.proofs.Conversions.{kept_converts}
use Rattle.path_effects.proofs.arguments.argument_value.Goals as goal

pub returns : goal.returns
returns c = λ e s width t scene seen is clear.
    let h = c.args.world.now.h.now in
    c.convert.ensures s.objects (value_of_operand s c.args.a.now.operand) scene.heap_stands (c.value.ensures h c.args.heap.now s scene) (kept_converts h e s seen c.args.a.now width t is clear)
