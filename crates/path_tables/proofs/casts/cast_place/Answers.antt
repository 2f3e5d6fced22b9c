use Rattle.path_tables.proofs.Targets.{cast_down_to, cast_across_to}
use Rattle.path_tables.proofs.casts.cast_place.Goals as goal

pub returns-in-Some : goal.returns-in-Some
returns-in-Some c = cast_down_to c.args.cast.now.h.now c.args.cast.now.target c.args.cast.now.view.now c.args.cast.now.source.now c.args.cast.now.parts.now c.in-Some.i c.in-Some.ensures

pub returns-in-None : goal.returns-in-None
returns-in-None c = cast_across_to c.args.cast.now.h.now c.args.cast.now.target c.args.cast.now.view.now c.args.cast.now.source.now c.args.cast.now.parts.now c.across_place.result c.in-None.ensures c.across_place.ensures
