use Rattle.std.proofs.Common.{◌∷◌}
use Rattle.std.proofs.lemmas.Result.{IfOk-weaker}
use Rattle.path_model.specs.Values.{value_of_operand}
use Rattle.path_model.specs.Uses.{Reads, convert, argument_uses}
use Rattle.path_refusals.specs.invariants.Pieces.{Refuses, SightRefuses}
use Rattle.path_refusals.proofs.operands.argument.Goals as goal

pub returns-clause-is : goal.returns-clause-is
returns-clause-is c = IfOk-weaker c.read_converted.result (Refuses c.args.moment.now.world.h.now c.args.moment.now.heap.now c.value-v.result (λ x. Reads x ∷ convert x c.args.a.now.conversion)) (SightRefuses c.args.moment.now.world.h.now c.args.moment.now.heap.now c.args.scene.now (λ s. argument_uses s c.args.a.now)) (λ rule told s stands. told s.objects (value_of_operand s c.args.a.now.operand) stands.heap_stands (c.value-v.ensures c.args.moment.now.world.h.now c.args.moment.now.heap.now s stands)) c.read_converted.ensures.is
