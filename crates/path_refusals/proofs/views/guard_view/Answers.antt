use Rattle.std.proofs.Common.{◌∙◌, ◌∷◌}
use Rattle.std.proofs.lemmas.Result.{IfOk-weaker}
use Rattle.path_model.specs.Values.{Pointer}
use Rattle.path_model.specs.Uses.{Guards, uses_of_view}
use Rattle.path_refusals.specs.invariants.Pieces.{PartRefuses, ReadyRefuses}
use Rattle.path_refusals.proofs.Reading.{unready_first, ready_then}
use Rattle.path_refusals.proofs.views.guard_view.Goals as goal

pub returns-then-is_unready-clause-is : goal.returns-then-is_unready-clause-is
returns-then-is_unready-clause-is c = λ s p stands q. unready_first c.args.moment.now.world.h.now s p c.args.needed (c.is_unready.ensures c.args.moment.now.world.h.now s p stands q ∙ c.if-is_unready.true)

pub returns-clause-is : goal.returns-clause-is
returns-clause-is c = IfOk-weaker c.view.result (ReadyRefuses c.args.moment.now.world.h.now c.args.moment.now.heap.now c.args.n (λ p. uses_of_view c.args.needed (Pointer p))) (PartRefuses c.args.moment.now.world.h.now c.args.moment.now.heap.now c.args.n (λ p. Guards (Pointer p) ∷ uses_of_view c.args.needed (Pointer p))) (λ rule told s p stands q. let e = c.is_unready.ensures c.args.moment.now.world.h.now s p stands q ∙ c.if-is_unready.false in ready_then c.args.moment.now.world.h.now s p (uses_of_view c.args.needed (Pointer p)) rule e (told s p stands q e)) c.view.ensures.is
