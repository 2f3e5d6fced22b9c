use Rattle.std.proofs.Common.{◌+◌, ◌*◌, [], ◌∷◌, ◌++◌, ap, ◌∙◌}
use Rattle.byte_code.specs.declared.op.Op.{Op}
use Rattle.code_ops.specs.Leaves.{copy_op}
use Rattle.code_statements.proofs.Pushed.{numbers_map}
use Rattle.code_statements.proofs.copies.push_values.Goals as goal

pub loop-i-preserved : goal.loop-i-preserved
loop-i-preserved c =
    let give = copy_op c.args.leaf c.args.sides.to c.args.sides.from in
    numbers_map (λ i. give (c.args.elements.start + i * c.args.elements.stride)) c.loop-i.i c.args.ops.now c.loop-i.ops c.push.new.self c.loop-i.invariant
    (c.in_ok-push.ensures.ok ∙ ap (λ (o : Op). c.loop-i.ops ++ o ∷ []) (c.copy.ensures ∙ ap give c.place.ensures))
