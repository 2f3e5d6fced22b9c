use Rattle.std.proofs.Common.{[], ◌∷◌}
use Rattle.std.proofs.lemmas.Result.{IfOk-weaker}
use Rattle.path_model.specs.Uses.{Reads, Guards, Downs}
use Rattle.path_refusals.specs.invariants.Pieces.{Refuses, SteadyRefuses}
use Rattle.path_refusals.proofs.Refused.{stops, goes_on}
use Rattle.path_refusals.proofs.Owning.{guard_clear}
use Rattle.path_refusals.proofs.Casting.{down_then}
use Rattle.path_refusals.proofs.casts.down_cast.Goals as goal

pub returns-in-Some-clause-is : goal.returns-in-Some-clause-is
returns-in-Some-clause-is c = λ s x stands m. stops c.args.moment.now.world.h.now s (Reads x ∷ Guards x ∷ []) (Downs x c.args.target c.args.i.now ∷ []) c.in-Some.rule (down_then c.args.moment.now.world.h.now s x c.args.target c.args.i.now) (c.in-Some.ensures c.args.moment.now.world.h.now s x stands m)

pub returns-in-None-clause-is : goal.returns-in-None-clause-is
returns-in-None-clause-is c = IfOk-weaker c.down_of.result (SteadyRefuses c.args.moment.now.world.h.now c.args.moment.now.heap.now c.args.v (λ x. Downs x c.args.target c.args.i.now ∷ [])) (Refuses c.args.moment.now.world.h.now c.args.moment.now.heap.now c.args.v (λ x. Reads x ∷ (Guards x ∷ Downs x c.args.target c.args.i.now ∷ []))) (λ rule told s x stands m. let e = c.in-None.ensures c.args.moment.now.world.h.now s x stands m in goes_on c.args.moment.now.world.h.now s (Reads x ∷ Guards x ∷ []) (Downs x c.args.target c.args.i.now ∷ []) rule e (told s x stands m (guard_clear c.args.moment.now.world.h.now s x [] e))) c.down_of.ensures.is
