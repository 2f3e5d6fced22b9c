use Rattle.std.proofs.Common.{◌∙◌}
use Rattle.std.proofs.lemmas.Result.{IfOk-weaker}
use Rattle.path_model.specs.Uses.{arrow}
use Rattle.path_refusals.specs.invariants.Pieces.{OpenRefuses, TypedRefuses, way_uses, path_asked}
use Rattle.path_refusals.proofs.Refused.{stops, goes_on}
use Rattle.path_refusals.proofs.Reading.{arrow_clear}
use Rattle.path_refusals.proofs.Paths.{arrow_path, way_is}
use Rattle.path_refusals.proofs.places.place.Goals as goal

pub returns-in-Some-clause-is : goal.returns-in-Some-clause-is
returns-in-Some-clause-is c = λ path s x a.
    stops c.args.moment.now.world.h.now s (arrow x) (path_asked c.args.place.now x) c.in-Some.rule (arrow_path c.args.moment.now.world.h.now s x c.args.place.now) (c.in-Some.ensures c.args.moment.now.world.h.now s x a.heap_stands a.means)
    ∙ way_is c.args.moment.now.world.h.now c.requires.world.hierarchy c.args.moment.now.heap.now s c.args.v x c.args.place.now a path

pub returns-in-None-clause-is : goal.returns-in-None-clause-is
returns-in-None-clause-is c = λ path. IfOk-weaker c.path.result (OpenRefuses c.args.moment.now.world.h.now c.args.moment.now.heap.now c.args.v c.args.place.now.class (path_asked c.args.place.now)) (TypedRefuses c.args.moment.now.world.h.now c.args.moment.now.heap.now c.args.v c.args.place.now.class (way_uses c.args.place.now)) (λ rule told s x a. let e = c.in-None.ensures c.args.moment.now.world.h.now s x a.heap_stands a.means in
    goes_on c.args.moment.now.world.h.now s (arrow x) (path_asked c.args.place.now x) rule e (told s x a (arrow_clear c.args.moment.now.world.h.now s x e))
    ∙ way_is c.args.moment.now.world.h.now c.requires.world.hierarchy c.args.moment.now.heap.now s c.args.v x c.args.place.now a path) (c.path.ensures.is path)
