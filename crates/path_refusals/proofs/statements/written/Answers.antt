use Rattle.path_model.specs.Values.{value_of_operand}
use Rattle.path_model.specs.Uses.{argument_uses}
use Rattle.path_refusals.specs.invariants.Pieces.{way_uses}
use Rattle.path_refusals.proofs.Refused.{joined}
use Rattle.path_refusals.proofs.Givens.{operand_value}
use Rattle.path_refusals.proofs.statements.written.Goals as goal

pub returns-clause-is : goal.returns-clause-is
returns-clause-is c = λ e s w t a of.
    let x = value_of_operand s c.args.to.now.pointer in
    let v = operand_value c.args.moment.now.world.h.now c.args.moment.now.heap.now c.args.scene.now e s a c.args.to.now.pointer c.args.to.now.class of.pointer c.value-v.result (c.value-v.ensures c.args.moment.now.world.h.now c.args.moment.now.heap.now s a.stands) in
    joined c.args.moment.now.world.h.now s.objects (way_uses c.args.to.now x) (argument_uses s c.args.x.now) c.in_ok-left.left c.in_ok-right.right c.least.result c.least.ensures (c.in_ok-left.ensures.is of.path s.objects x v) (c.in_ok-right.ensures.is s a.stands)
