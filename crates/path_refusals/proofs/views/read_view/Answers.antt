use Rattle.std.proofs.Common.{[], ◌∷◌}
use Rattle.std.proofs.lemmas.Result.{IfOk-weaker}
use Rattle.path_model.specs.Uses.{Reads, Guards, uses_of_view}
use Rattle.path_refusals.specs.invariants.Pieces.{Refuses}
use Rattle.path_refusals.proofs.Refused.{stops, goes_on}
use Rattle.path_refusals.proofs.Reading.{read_guard}
use Rattle.path_refusals.proofs.views.read_view.Goals as goal

pub returns-in-Some-clause-is : goal.returns-in-Some-clause-is
returns-in-Some-clause-is c = λ s x stands m. stops c.args.moment.now.world.h.now s (Reads x ∷ []) (Guards x ∷ uses_of_view c.args.needed x) c.in-Some.rule (read_guard c.args.moment.now.world.h.now s x c.args.needed) (c.in-Some.ensures c.args.moment.now.world.h.now s x stands m)

pub returns-in-None-clause-is : goal.returns-in-None-clause-is
returns-in-None-clause-is c = IfOk-weaker c.guard_view_of.result (Refuses c.args.moment.now.world.h.now c.args.moment.now.heap.now c.args.v (λ x. Guards x ∷ uses_of_view c.args.needed x)) (Refuses c.args.moment.now.world.h.now c.args.moment.now.heap.now c.args.v (λ x. Reads x ∷ (Guards x ∷ uses_of_view c.args.needed x))) (λ rule told s x stands m. goes_on c.args.moment.now.world.h.now s (Reads x ∷ []) (Guards x ∷ uses_of_view c.args.needed x) rule (c.in-None.ensures c.args.moment.now.world.h.now s x stands m) (told s x stands m)) c.guard_view_of.ensures.is
