use Rattle.std.proofs.Common.{◌++◌}
use Rattle.std.proofs.lemmas.Result.{IfOk-weaker}
use Rattle.path_model.specs.Uses.{arrow, uses_of_view}
use Rattle.path_refusals.specs.invariants.Pieces.{Refuses, SteadyRefuses}
use Rattle.path_refusals.proofs.Refused.{stops, goes_on}
use Rattle.path_refusals.proofs.Reading.{arrow_views, arrow_clear}
use Rattle.path_refusals.proofs.views.arrow_view.Goals as goal

pub returns-in-Some-clause-is : goal.returns-in-Some-clause-is
returns-in-Some-clause-is c = λ s x stands m. stops c.args.moment.now.world.h.now s (arrow x) (uses_of_view c.args.needed x) c.in-Some.rule (arrow_views c.args.moment.now.world.h.now s x c.args.needed) (c.in-Some.ensures c.args.moment.now.world.h.now s x stands m)

pub returns-in-None-clause-is : goal.returns-in-None-clause-is
returns-in-None-clause-is c = IfOk-weaker c.view_of.result (SteadyRefuses c.args.moment.now.world.h.now c.args.moment.now.heap.now c.args.v (λ x. uses_of_view c.args.needed x)) (Refuses c.args.moment.now.world.h.now c.args.moment.now.heap.now c.args.v (λ x. arrow x ++ uses_of_view c.args.needed x)) (λ rule told s x stands m. let e = c.in-None.ensures c.args.moment.now.world.h.now s x stands m in goes_on c.args.moment.now.world.h.now s (arrow x) (uses_of_view c.args.needed x) rule e (told s x stands m (arrow_clear c.args.moment.now.world.h.now s x e))) c.view_of.ensures.is
