use Rattle.std.proofs.Common.{[], ◌∷◌}
use Rattle.std.proofs.lemmas.Result.{IfOk-weaker}
use Rattle.path_model.specs.Uses.{Reads, convert}
use Rattle.path_model.proofs.Conversions.{convert_off, convert_late}
use Rattle.path_refusals.specs.invariants.Pieces.{Refuses}
use Rattle.path_refusals.proofs.Refused.{stops, goes_on}
use Rattle.path_refusals.proofs.Reading.{read_first}
use Rattle.path_refusals.proofs.views.read_converted.Goals as goal

pub returns-in-Some-clause-is : goal.returns-in-Some-clause-is
returns-in-Some-clause-is c = λ s x stands m. stops c.args.moment.now.world.h.now s (Reads x ∷ []) (convert x c.args.c.now) c.in-Some.rule (read_first c.args.moment.now.world.h.now s x (convert x c.args.c.now) (convert_off c.args.moment.now.world.h.now s x c.args.c.now) (convert_late c.args.moment.now.world.h.now s x c.args.c.now)) (c.in-Some.ensures c.args.moment.now.world.h.now s x stands m)

pub returns-in-None-clause-is : goal.returns-in-None-clause-is
returns-in-None-clause-is c = IfOk-weaker c.convert.result (Refuses c.args.moment.now.world.h.now c.args.moment.now.heap.now c.args.v (λ x. convert x c.args.c.now)) (Refuses c.args.moment.now.world.h.now c.args.moment.now.heap.now c.args.v (λ x. Reads x ∷ convert x c.args.c.now)) (λ rule told s x stands m. goes_on c.args.moment.now.world.h.now s (Reads x ∷ []) (convert x c.args.c.now) rule (c.in-None.ensures c.args.moment.now.world.h.now s x stands m) (told s x stands m)) c.convert.ensures.is
