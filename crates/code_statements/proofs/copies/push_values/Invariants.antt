use Rattle.std.proofs.Common.{◌≡◌, ◌+◌, ◌*◌, ◌++◌, map}
use Rattle.path_plan.specs.Plans.{upto}
use Rattle.code_ops.specs.Leaves.{copy_op}
use Rattle.code_statements.proofs.copies.push_values.Given as goal

abbrev pub invariant-loop-i : goal.invariant-loop-i
invariant-loop-i l = l.ops ≡ l.fn.ops ++ map (λ i. copy_op l.leaf l.sides.to l.sides.from (l.elements.start + i * l.elements.stride)) (upto l.i)
