use Rattle.std.proofs.Common.{◌++◌}
use Rattle.std.proofs.lemmas.Result.{IfOk-weaker}
use Rattle.path_model.specs.Uses.{arrow, uses_of_view}
use Rattle.path_model.specs.Order.{asked_covered}
use Rattle.path_refusals.specs.invariants.Pieces.{OpenRefuses, TypedRefuses}
use Rattle.path_refusals.proofs.Refused.{stops, goes_on}
use Rattle.path_refusals.proofs.Reading.{arrow_clear}
use Rattle.path_refusals.proofs.Covering.{arrow_covered}
use Rattle.path_refusals.proofs.copies.side.Goals as goal

pub returns-in-Some-clause-is : goal.returns-in-Some-clause-is
returns-in-Some-clause-is c = λ s x a. stops c.args.moment.now.world.h.now s (arrow x) (uses_of_view c.args.needed x ++ asked_covered c.args.moment.now.world.h.now c.args.c x) c.in-Some.rule (arrow_covered c.args.moment.now.world.h.now s c.args.needed x c.args.c) (c.in-Some.ensures c.args.moment.now.world.h.now s x a.heap_stands a.means)

pub returns-in-None-clause-is : goal.returns-in-None-clause-is
returns-in-None-clause-is c = IfOk-weaker c.covered.result (OpenRefuses c.args.moment.now.world.h.now c.args.moment.now.heap.now c.args.v c.args.c (λ x. uses_of_view c.args.needed x ++ asked_covered c.args.moment.now.world.h.now c.args.c x)) (TypedRefuses c.args.moment.now.world.h.now c.args.moment.now.heap.now c.args.v c.args.c (λ x. arrow x ++ (uses_of_view c.args.needed x ++ asked_covered c.args.moment.now.world.h.now c.args.c x))) (λ rule told s x a. let e = c.in-None.ensures c.args.moment.now.world.h.now s x a.heap_stands a.means in goes_on c.args.moment.now.world.h.now s (arrow x) (uses_of_view c.args.needed x ++ asked_covered c.args.moment.now.world.h.now c.args.c x) rule e (told s x a (arrow_clear c.args.moment.now.world.h.now s x e))) c.covered.ensures.is
