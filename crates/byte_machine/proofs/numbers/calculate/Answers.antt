use Rattle.std.proofs.Common.{ap, ◌∙◌}
use Rattle.byte_code.specs.Numbers.{extended}
use Rattle.byte_machine.proofs.Arithmetic.{low_sum, low_difference, low_product}
use Rattle.byte_machine.proofs.numbers.calculate.Goals as goal

pub returns-in-Add : goal.returns-in-Add
returns-in-Add c = rw c.in-Add.is (c.extend.ensures ∙ ap (extended c.args.width) (c.low.ensures.value ∙ low_sum c.args.width c.args.left c.args.right c.requires))

pub returns-in-Subtract : goal.returns-in-Subtract
returns-in-Subtract c = rw c.in-Subtract.is (c.extend-in-Subtract.ensures ∙ ap (extended c.args.width) (c.low-in-Subtract.ensures.value ∙ low_difference c.args.width c.args.left c.args.right c.requires c.ranges.right.fits))

pub returns-in-Multiply : goal.returns-in-Multiply
returns-in-Multiply c = rw c.in-Multiply.is (c.extend-in-Multiply.ensures ∙ ap (extended c.args.width) (c.low-in-Multiply.ensures.value ∙ low_product c.args.width c.args.left c.args.right c.requires))
