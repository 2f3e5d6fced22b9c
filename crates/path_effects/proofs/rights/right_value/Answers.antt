use Rattle.path_model.specs.Effects.{right_side_value}
use Rattle.path_model.proofs.TypedRights.{converted_type}
use Rattle.path_effects.proofs.Conversions.{right_converts}
use Rattle.path_effects.proofs.rights.right_value.Goals as goal

pub returns-clause-is : goal.returns-clause-is
returns-clause-is c = λ e s t scene seen is clear.
    let h = c.args.world.now.h.now in
    let x = c.args.x.now in
    let u = converted_type h e x t is in
    c.convert.ensures s.objects (right_side_value h s x.right) scene.heap_stands (c.in_ok-v.ensures.is e s u.0 x.conversion scene seen u.1 clear) (right_converts h e s seen x t is clear)
